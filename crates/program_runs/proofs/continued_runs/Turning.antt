-- Threads go on in turn.
use Rattle.std.proofs.Common.{◌≡◌, ◌-◌, ℕ, List, [], ◌∷◌, ◌++◌, Option, Some, None, length, replicate, refl, sym, ap, subst, ◌∙◌, arith}
use Rattle.std.specs.Prelude.{Bool, true, false, is_some}
use Rattle.std.proofs.lemmas.List.{append-nil, append_assoc, length-append, length-replicate}
use Rattle.std.proofs.Math.Nat.{min-le_left}
use Rattle.model.specs.declared.end.End.{End}
use Rattle.model.specs.declared.event.Event.{Event}
use Rattle.model.specs.declared.limits.Limits.{Limits}
use Rattle.model.specs.Classes.{Program}
use Rattle.model.specs.Run.{run}
use Rattle.model.specs.State.{State}
use Rattle.machine.specs.Tops.{plain}
use Rattle.program_runs.specs.worlds.Turns.{IsNext}
use Rattle.program_runs.specs.worlds.Worlds.{WorldOf, Holds, IsOfSame, HasShared, TakesTurn}
use Rattle.program_runs.specs.continued_runs.Turns.{behind, AreInTurn, TakesTurns}
use Rattle.program_runs.proofs.continued_runs.Passing.{joined}

-- events in turn so far; whatever is in turn behind them is, too
pub record InTurn (first w : WorldOf) (from : ℕ) : Type 0 where
  pub same : IsOfSame first w
  pub more : List Event
  pub events : w.events ≡ first.events ++ more
  pub chain : (rest : List Event) → AreInTurn first.trees first.machine.limits.frames w.events from rest
      → AreInTurn first.trees first.machine.limits.frames first.events 0 (more ++ rest)

pub begins : (w : WorldOf) → InTurn w w 0
begins w = record { same = record { trees = refl; budget = refl; limits = refl }; more = []; events = sym (append-nil w.events); chain = λ rest are. are }

-- ---- a turn

abbrev Turn : (from : ℕ) → Option ℕ → (w new : WorldOf) → Type 0
Turn from r w new = TakesTurn from 1 None r w new

module _ (first w : WorldOf) (from : ℕ) (so_far : InTurn first w from) (holds : Holds w) (new : WorldOf) where
  module _ (t : ℕ) (turn : Turn from (Some t) w new) where
    shared : HasShared w new t 1
    shared = turn.1

    once : shared.count ≡ 1
    once =
        let r = shared.repeated in
        let all : r.asked ≡ length (r.gone.front ++ r.gone.left) = sym (length-replicate r.asked (plain t)) ∙ ap length r.gone.schedule_is in
        omega (arith, all, r.gone.count, length-append r.gone.front r.gone.left, r.asked_is, min-le_left 1 (w.budget - length w.events), shared.some)

    longer : new.events ≡ w.events ++ plain t ∷ []
    longer = shared.repeated.events ∙ ap (λ k. w.events ++ replicate k (plain t)) once

    abbrev Next : Program → (frames : ℕ) → Type 0
    Next trees frames = (state : State) → run trees frames w.events ≡ Some state → IsNext trees frames state from t

    next_here : Next w.trees w.machine.limits.frames
    next_here state reached =
        let some : Some holds.done.run.lead.state ≡ Some state = sym holds.done.run.lead.reached ∙ reached in
        let is : holds.done.run.lead.state ≡ state = cc in
        subst (λ s. IsNext w.trees w.machine.limits.frames s from t) is (turn.0 holds)

    next : Next first.trees first.machine.limits.frames
    next =
        let by_trees : Next first.trees w.machine.limits.frames = subst (λ (p : Program). Next p w.machine.limits.frames) so_far.same.trees next_here in
        subst (λ (l : Limits). Next first.trees l.frames) so_far.same.limits by_trees

    goes_on : InTurn first new (behind t)
    goes_on =
        record {
          same = joined first w new so_far.same shared.repeated.same;
          more = so_far.more ++ plain t ∷ [];
          events = longer ∙ ap (λ l. l ++ plain t ∷ []) so_far.events ∙ append_assoc first.events so_far.more (plain t ∷ []);
          chain = λ rest are.
              let here : AreInTurn first.trees first.machine.limits.frames (w.events ++ plain t ∷ []) (behind t) rest =
              subst (λ l. AreInTurn first.trees first.machine.limits.frames l (behind t) rest) longer are
              in
              subst (AreInTurn first.trees first.machine.limits.frames first.events 0) (sym (append_assoc so_far.more (plain t ∷ []) rest)) (so_far.chain (plain t ∷ rest) (refl, next, here));
        }

  ended : Turn from None w new → InTurn first new from
  ended turn =
      record {
        same = joined first w new so_far.same turn.same;
        more = so_far.more;
        events = turn.events ∙ so_far.events;
        chain = λ rest are. so_far.chain rest (subst (λ l. AreInTurn first.trees first.machine.limits.frames l from rest) turn.events are);
      }

  -- where the rotation goes on
  abbrev pub then : Option ℕ → ℕ
  then (Some t) = behind t
  then None = from

  by_result : (r : Option ℕ) → Turn from r w new → InTurn first new (then r)
  by_result (Some t) turn = goes_on t turn
  by_result None turn = ended turn

  pub turned : (r : Option ℕ) → w.end ≡ None → TakesTurn from 1 w.end r w new → InTurn first new (then r)
  turned r on turn = by_result r (subst (λ o. TakesTurn from 1 o r w new) on turn)

pub over : (first w : WorldOf) (from : ℕ) → InTurn first w from → (end : End) → w.end ≡ Some end → TakesTurns first w
over first w from so_far end is =
    record {
      same = so_far.same;
      more = so_far.more;
      events = so_far.events;
      in_turn = subst (AreInTurn first.trees first.machine.limits.frames first.events 0) (append-nil so_far.more) (so_far.chain [] tt);
      end = end;
      is = is;
    }

pub over_if : (first w : WorldOf) (from : ℕ) → InTurn first w from → (o : Option End) → o ≡ w.end → (r : Bool) → r ≡ is_some o → r ≡ true
    → TakesTurns first w
over_if first w from so_far None is r some is_so = let bad : false ≡ true = sym some ∙ is_so in absurd cc
over_if first w from so_far (Some end) is r some is_so = over first w from so_far end (sym is)

pub none_of : (w : WorldOf) (o : Option End) → o ≡ w.end → (r : Bool) → r ≡ is_some o → r ≡ false → w.end ≡ None
none_of w None is r some is_so = sym is
none_of w (Some end) is r some is_so = let bad : true ≡ false = sym some ∙ is_so in absurd cc

pub turned_some : (first w : WorldOf) (from : ℕ) → InTurn first w from → Holds w → (new : WorldOf) (r : Option ℕ) (t : ℕ) → r ≡ Some t
    → w.end ≡ None → TakesTurn from 1 w.end r w new → InTurn first new (behind t)
turned_some first w from so_far holds new r t is on turn =
    turned first w from so_far holds new (Some t) on (subst (λ x. TakesTurn from 1 w.end x w new) is turn)
