-- Calls and returns of stacks over numbers.
use Rattle.std.proofs.Common.{◌≡◌, refl, ℕ, suc, [], ◌∷◌, ◌++◌, take, drop, reverse, sym, ap, ◌∙◌, ◌+◌, arith}
use Rattle.model.specs.State as model
use Rattle.model.specs.Frames.{locals_with}
use Rattle.thread_stacks.specs.Stacks.{Invocation, Initialisation, filled, frame_count}
use Rattle.machine_state.specs.shown_stacks.Shown.{AreCounted, IsBeginShown, IsCallShown, IsMoveShown, IsReturnShown, IsCatchShown, IsInitialisationShown, IsPhaseShown}

one_more : (n : ℕ) → 1 + n ≡ suc n
one_more n = omega arith

no_more : (n : ℕ) → 0 + n ≡ n
no_more n = omega arith

pub counted : AreCounted
counted files p [] [] s = refl
counted files p (Invocation f ∷ others) (model.Invocation g ∷ stack) s = one_more (frame_count others) ∙ ap suc (counted files p others stack s.1)
counted files p (Initialisation n a ∷ others) (model.Initialisation c q ∷ stack) s = no_more (frame_count others) ∙ counted files p others stack s.1
counted files p (Invocation f ∷ others) (model.Initialisation c q ∷ stack) s = absurd s.0
counted files p (Initialisation n a ∷ others) (model.Invocation g ∷ stack) s = absurd s.0
counted files p [] (entry ∷ stack) s = absurd s
counted files p (shown ∷ others) [] s = absurd s

pub begin : IsBeginShown
begin files p callee method body is arguments =
    record {
      method = is.numbered;
      offset = sym is.first;
      locals = ap (λ n. locals_with 0 n arguments) (sym is.max_locals);
      operands = refl;
      entered = refl;
    }

pub catch : IsCatchShown
catch files p f g s handler offset word is =
    record {
      method = s.method;
      offset = sym is;
      locals = s.locals;
      operands = refl;
      entered = s.entered;
    }

pub call : IsCallShown
call files p f others g stack s callee method body is count = (
  record {
    method = is.numbered;
    offset = sym is.first;
    locals = ap (λ n. locals_with 0 n (reverse (take count g.place.slots.stack))) (sym is.max_locals) ∙ ap (λ xs. filled (reverse (take count xs)) callee.max_locals) s.0.operands;
    operands = refl;
    entered = refl;
  },
  (
    record {
      method = s.0.method;
      offset = s.0.offset;
      locals = s.0.locals;
      operands = ap (drop count) s.0.operands;
      entered = s.0.entered;
    },
    s.1,
  ),
)

pub move_on : IsMoveShown
move_on files p f g s place offset is =
    record {
      method = s.method;
      offset = sym is;
      locals = s.locals;
      operands = s.operands;
      entered = s.entered;
    }

pub return : IsReturnShown
return files p [] [] s next results is = s
return files p (Invocation f ∷ others) (model.Invocation g ∷ stack) s next results is = (
  record {
    method = s.0.method;
    offset = sym is;
    locals = s.0.locals;
    operands = ap (λ xs. results ++ xs) s.0.operands;
    entered = s.0.entered;
  },
  s.1,
)
return files p (Initialisation n a ∷ others) (model.Initialisation c q ∷ stack) s next results is = s
return files p (Invocation f ∷ others) (model.Initialisation c q ∷ stack) s next results is = absurd s.0
return files p (Initialisation n a ∷ others) (model.Invocation g ∷ stack) s next results is = absurd s.0
return files p [] (entry ∷ stack) s next results is = absurd s
return files p (shown ∷ others) [] s next results is = absurd s

pub initialisation : IsInitialisationShown
initialisation files p others stack s number class is = ((is, refl), s)

pub in_another_phase : IsPhaseShown
in_another_phase files p number from to others class old stack s = ((s.0.0, refl), s.1)
