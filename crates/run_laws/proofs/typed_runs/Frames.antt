-- Frames that go on: at an offset that their typing reaches they are ready, and results bring those below to theirs.
use Rattle.std.proofs.Common.{◌≡◌, ℕ, List, [], ◌∷◌, ◌++◌, true, sym, subst}
use Rattle.std.proofs.lemmas.Bool.{and_parts}
use Rattle.model.specs.declared.value.Value.{Value}
use Rattle.model.specs.Classes.{Program}
use Rattle.model.specs.ReferenceTypes.{ReferenceType}
use Rattle.model.specs.Types.{VerificationType}
use Rattle.model.specs.Operands.{Slots}
use Rattle.model.specs.TypeOrder.{FrameType, pairwise, is_local_below, is_stack_below}
use Rattle.model.specs.State.{Frame, Invocation, Initialisation, StackOf}
use Rattle.model.specs.Frames.{at_offset}
use Rattle.model.specs.Step.{next_of, returned}
use Rattle.model.specs.Typing.{Reaches}
use Rattle.model.specs.WellTyped.{has_type, are_typed, Stands, Ready, Awaits, Results, Instruction, Beneath}
use Rattle.run_laws.specs.laws.Steps.{Rooted, AreTyped}
use Rattle.run_laws.proofs.laws.Lists.{pair_through, pairs_of, of_pairs, pair_append}
use Rattle.run_laws.proofs.laws.Order.{local_above, stack_above}

module _ (files : Program) (rooted : Rooted files) (os : List ReferenceType) where
  -- values of some types are of the types above them
  locals_above : (ss ts : List VerificationType) (vs : List Value) → pairwise (is_local_below files) ss ts ≡ true
      → are_typed files os ss vs ≡ true → are_typed files os ts vs ≡ true
  locals_above ss ts vs b h =
      of_pairs (has_type files os) ts vs
      (pair_through (is_local_below files) (has_type files os) (has_type files os) ss ts vs (λ s t v p q. local_above files rooted os s t v p q) (pairs_of _ ss ts b) (pairs_of _ ss vs h))

  stack_types_above : (ss ts : List VerificationType) (vs : List Value) → pairwise (is_stack_below files) ss ts ≡ true
      → are_typed files os ss vs ≡ true → are_typed files os ts vs ≡ true
  stack_types_above ss ts vs b h =
      of_pairs (has_type files os) ts vs
      (pair_through (is_stack_below files) (has_type files os) (has_type files os) ss ts vs (λ s t v p q. stack_above files rooted os s t v p q) (pairs_of _ ss ts b) (pairs_of _ ss vs h))

  -- a frame that goes on at an offset which its typing reaches
  pub arrive : (f : Frame) (stands : Stands files f) (to : ℕ) (t : FrameType) (vs : Slots Value) → Reaches files stands.typing to t
      → AreTyped files os t.slots vs → Ready files os (at_offset f to vs)
  arrive f stands to t vs r h =
      let above = and_parts _ _ r.above in
      let stack = and_parts _ _ above.1 in
      record {
        stopped = record {
          stands = record { body = stands.body; is_body = stands.is_body; typing = stands.typing; holds = stands.holds; type = r.there; typed = r.typed };
          locals = locals_above t.slots.locals r.there.slots.locals vs.locals above.0 h.locals;
        };
        stack = stack_types_above t.slots.stack r.there.slots.stack vs.stack stack.0 h.stack;
      }

  pub are_appended : (ss ts : List VerificationType) (us vs : List Value) → are_typed files os ss us ≡ true
      → are_typed files os ts vs ≡ true → are_typed files os (ss ++ ts) (us ++ vs) ≡ true
  are_appended ss ts us vs h g =
      of_pairs (has_type files os) (ss ++ ts) (us ++ vs) (pair_append (has_type files os) ss us ts vs (pairs_of _ ss us h) (pairs_of _ ts vs g))

  -- with its results a frame that waits at a call is ready
  pub resumed : (types : List VerificationType) (f : Frame) (vs : List Value) → Awaits files os types f
      → are_typed files os types vs ≡ true → Ready files
      os (at_offset f (next_of files f) (record { locals = f.place.slots.locals; stack = vs ++ f.place.slots.stack }))
  resumed types f vs h g =
      arrive f h.stopped.stands (next_of files f) h.after (record { locals = f.place.slots.locals; stack = vs ++ f.place.slots.stack }) h.goes_on
      (record {
        locals = h.locals;
        stack = subst (λ ts. are_typed files os ts (vs ++ f.place.slots.stack) ≡ true) (sym h.stack_is) (are_appended types h.rest vs f.place.slots.stack g h.stack);
      })

  -- results go to the frame on top
  pub returned_typed : (types : List VerificationType) (stack : StackOf Value) (vs : List Value) → Beneath files os (Results types) stack
      → are_typed files os types vs ≡ true → Beneath files os Instruction (returned files vs stack)
  returned_typed types [] vs h g = tt
  returned_typed types (Invocation f ∷ stack) vs h g = (resumed types f vs h.0 g, h.1)
  returned_typed types (Initialisation class phase ∷ stack) vs h g = h
