-- A monitor that is seen to be left is left by an event that is alone behind the run that was shown.
use Rattle.std.proofs.Common.{◌≡◌, ℕ, List, [], ◌∷◌, ◌++◌, Some, refl, sym, ap, ◌∙◌, subst, arith}
use Rattle.std.proofs.lemmas.Option.{same_Some}
use Rattle.model.specs.declared.event.Event.{Event}
use Rattle.model.specs.Accepted.{IsAccepted}
use Rattle.model.specs.Classes.{Program}
use Rattle.model.specs.LimitStands.{Bounds}
use Rattle.model.specs.Monitors.{owns, monitor_at}
use Rattle.model.specs.Opening.{opening}
use Rattle.model.specs.Operands.{values}
use Rattle.model.specs.State.{Monitor, Invocation, State, StateOf}
use Rattle.model.specs.Step.{step}
use Rattle.linked_code.specs.declared.program.LinkedProgram.{LinkedProgram}
use Rattle.machine_state.specs.declared.state.Shared.{Shared}
use Rattle.machine_state.specs.linked_frames.Frames.{event_of}
use Rattle.machine_state.specs.shown_runs.Runs.{HasRun}
use Rattle.machine_state.specs.state_events.Whole.{AreStacksLent}
use Rattle.search_laws.specs.Releases.{IsRelease, AreReleasesAlone}
use Rattle.racing_threads.specs.Racing.{are_racing}
use Rattle.racing_threads.specs.free_events.Free.{AreReleasesFree}
use Rattle.alone_events.specs.Alone.{LeadsPast, AreAloneAfter}
use Rattle.alone_events.specs.Ahead.{IsOwned, HasLeftMonitor, AreReleasesAloneSeen}
use Rattle.alone_events.proofs.Runs.{last_step}
use Rattle.alone_events.proofs.Standing.{StandsIn, stands_in}

-- monitors are those of the state to which the run led
monitors_are : (trees : Program) (p : LinkedProgram) (bounds : Bounds) (shared : Shared) (events : List Event) (has : HasRun trees p bounds shared events)
    → shared.heap.locks.monitors ≡ has.lead.state.world.monitors
monitors_are trees p bounds shared events has = has.shown.represents.world_is.monitors ∙ ap (λ (w : StateOf ℕ). w.world.monitors) has.lead.are.are

module _ (lend : AreStacksLent) (alone : AreReleasesAlone) (free : AreReleasesFree) (files : List (List ℕ)) (trees : Program) (accepted : IsAccepted files trees) (p : LinkedProgram) (bounds : Bounds)
    (old new : Shared) (t : ℕ) (events : List Event) (has : HasRun trees p bounds old events) (then : HasRun trees p bounds new (events ++ event_of t ∷ []))
    (seen : HasLeftMonitor t old new) where
  abbrev first : State
  first = has.lead.state

  abbrev next : State
  next = then.lead.state

  abbrev r : ℕ
  r = seen.leaves.object

  before : StandsIn trees p first t seen.before.frame
  before = stands_in trees p bounds old events has lend t seen.before.frame seen.was

  after : StandsIn trees p next t seen.leaves.after
  after = stands_in trees p bounds new (events ++ event_of t ∷ []) then lend t seen.leaves.after seen.leaves.is

  is_release : IsRelease first t r next
  is_release =
      let one = before.entries in let two = after.entries in let less = seen.leaves.no_deeper in
      record {
        frame = before.frame;
        below = before.below;
        there = before.there;
        status = before.status;
        pending = before.pending;
        owned = ap (λ (ms : List Monitor). owns t (monitor_at ms r).owner) (sym (monitors_are trees p bounds old events has)) ∙ subst (IsOwned old t) seen.leaves.is_left seen.owned;
        left = ap (λ (ms : List Monitor). owns t (monitor_at ms r).owner) (sym (monitors_are trees p bounds new (events ++ event_of t ∷ []) then)) ∙ seen.leaves.left;
        runs = after.status;
        calm = after.pending;
        entry = Invocation after.frame;
        rest = after.below;
        is_after = after.there;
        no_deeper = omega (arith, one, two, less);
      }

  goes : step trees bounds.frames first (event_of t) ≡ Some next
  goes = last_step trees bounds.frames events (opening values trees) first next (event_of t) has.lead.reached then.lead.reached

  pub alone_after : AreAloneAfter trees bounds.frames events (event_of t ∷ [])
  alone_after state reached =
      let is_free = free files trees accepted bounds.frames first next (events, has.lead.reached) t r is_release goes in
      let a = alone files trees accepted bounds.frames (are_racing trees bounds.frames) first next (events, has.lead.reached) t r is_release is_free goes in
      let same : first ≡ state = same_Some first state (sym has.lead.reached ∙ reached) in
      subst (λ z. LeadsPast trees bounds.frames events (event_of t ∷ []) z) same
      (record { threads = t ∷ []; last = next; are_alone = (next, (a, refl)); reached = then.lead.reached })

pub releases_alone : AreStacksLent → AreReleasesAlone → AreReleasesFree → AreReleasesAloneSeen
releases_alone lend alone free files trees accepted p bounds old new t events has then seen = alone_after lend alone free files trees accepted p bounds old new t events has then seen
