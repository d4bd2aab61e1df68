-- A call or a return that is seen is alone behind the run that was shown.
use Rattle.std.proofs.Common.{◌≡◌, inl, inr, ℕ, List, [], ◌∷◌, ◌++◌, Some, refl, sym, ◌∙◌, subst, arith}
use Rattle.std.proofs.lemmas.Option.{same_Some}
use Rattle.model.specs.declared.event.Event.{Event}
use Rattle.model.specs.Accepted.{IsAccepted}
use Rattle.model.specs.Classes.{Program}
use Rattle.model.specs.LimitStands.{Bounds}
use Rattle.model.specs.Opening.{opening}
use Rattle.model.specs.Operands.{values}
use Rattle.model.specs.State.{Invocation, State}
use Rattle.model.specs.Step.{step}
use Rattle.linked_code.specs.declared.program.LinkedProgram.{LinkedProgram}
use Rattle.machine_state.specs.declared.state.Shared.{Shared}
use Rattle.machine_state.specs.linked_frames.Frames.{event_of}
use Rattle.machine_state.specs.shown_runs.Runs.{HasRun}
use Rattle.machine_state.specs.state_events.Whole.{AreStacksLent}
use Rattle.search_laws.specs.Moves.{HasMoved, Called, Returned, IsMove, AreMovesAlone}
use Rattle.racing_threads.specs.Racing.{are_racing}
use Rattle.racing_threads.specs.free_events.Free.{AreMovesFree}
use Rattle.alone_events.specs.Alone.{LeadsPast, AreAloneAfter}
use Rattle.alone_events.specs.Ahead.{HasCalledOrReturned, AreMovesAloneSeen}
use Rattle.alone_events.specs.Seen.{HasMovedBy}
use Rattle.alone_events.proofs.Runs.{last_step}
use Rattle.alone_events.proofs.Standing.{StandsIn, stands_in}

module _ (lend : AreStacksLent) (alone : AreMovesAlone) (free : AreMovesFree) (files : List (List ℕ)) (trees : Program) (accepted : IsAccepted files trees) (p : LinkedProgram) (bounds : Bounds)
    (old new : Shared) (t : ℕ) (events : List Event) (has : HasRun trees p bounds old events) (then : HasRun trees p bounds new (events ++ event_of t ∷ []))
    (seen : HasCalledOrReturned t old new) where
  abbrev first : State
  first = has.lead.state

  abbrev next : State
  next = then.lead.state

  before : StandsIn trees p first t seen.before
  before = stands_in trees p bounds old events has lend t seen.before seen.was

  after : StandsIn trees p next t seen.after
  after = stands_in trees p bounds new (events ++ event_of t ∷ []) then lend t seen.after seen.is

  moved : HasMovedBy seen.before seen.after → HasMoved before.frame before.below (Invocation after.frame ∷ after.below)
  moved (inl m) =
      let one = before.entries in let two = after.entries in let deep = m.0 in
      Called after.frame after.below refl (sym after.entered ∙ m.1) (omega (arith, one, two, deep))
  moved (inr m) =
      let one = before.entries in let two = after.entries in let deep = m.0 in
      Returned (Invocation after.frame) after.below refl (sym before.entered ∙ m.1) (omega (arith, one, two, deep))

  is_move : IsMove first t next
  is_move =
      record {
        frame = before.frame;
        below = before.below;
        there = before.there;
        status = before.status;
        pending = before.pending;
        after = Invocation after.frame ∷ after.below;
        is_after = after.there;
        moved = moved seen.moved;
      }

  goes : step trees bounds.frames first (event_of t) ≡ Some next
  goes = last_step trees bounds.frames events (opening values trees) first next (event_of t) has.lead.reached then.lead.reached

  pub alone_after : AreAloneAfter trees bounds.frames events (event_of t ∷ [])
  alone_after state reached =
      let is_free = free files trees accepted bounds.frames first next (events, has.lead.reached) t is_move goes in
      let a = alone files trees accepted bounds.frames (are_racing trees bounds.frames) first next (events, has.lead.reached) t is_move is_free goes in
      let same : first ≡ state = same_Some first state (sym has.lead.reached ∙ reached) in
      subst (λ z. LeadsPast trees bounds.frames events (event_of t ∷ []) z) same
      (record { threads = t ∷ []; last = next; are_alone = (next, (a, refl)); reached = then.lead.reached })

pub moves_alone : AreStacksLent → AreMovesAlone → AreMovesFree → AreMovesAloneSeen
moves_alone lend alone free files trees accepted p bounds old new t events has then seen = alone_after lend alone free files trees accepted p bounds old new t events has then seen
