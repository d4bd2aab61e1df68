-- What the instructions on monitors mean (JVMS 6.5, JLS 17.1). Structured locking is not asked for (own).
use Rattle.std.specs.Prelude.{ℕ, List, [], ◌∷◌, Option, Some, None, Bool, true, false, ◌&&◌}
use Rattle.model.specs.Types.{AReference}
use Rattle.model.specs.Operands.{Slots, Carrier}
use Rattle.model.specs.State.{WorldOf}
use Rattle.model.specs.Outcomes.{OutcomeOf, Raises, IllegalMonitorState, not_null}
use Rattle.model.specs.Worlds.{is_owner, may_enter, with_entry, entry_cost, with_exit}
use Rattle.model.specs.Sites.{MeaningOf, Site, picks_none, wants_of, to_next, pushing, pushing_at, referent}
use Rattle.model.specs.Objects.{any_object}

-- ---- monitorenter: .., objectref -> ..

-- null does not wait: it throws
abbrev pub may_enter_object : {A : Type 0} → WorldOf A → ℕ → Option ℕ → Bool
may_enter_object world t None = true
may_enter_object world t (Some r) = may_enter world t r

-- The monitor has one entry more of the thread; while another thread owns it, the event is not enabled.
abbrev pub monitor_enter_meaning : {A : Type 0} → Carrier A → Site → MeaningOf A
monitor_enter_meaning C site =
    record {
      looks = None;
      wants = wants_of (AReference any_object ∷ []) 0;
      leads = to_next site.next [];
      may = λ event world ops. picks_none event world ops && may_enter_object world event.thread (referent C ops 0);
      does = λ event world slots ops rest.
          not_null (referent C ops 0) (λ r. pushing_at (entry_cost world r) site.next [] (with_entry world event.thread r) slots rest);
    }

-- ---- monitorexit: .., objectref -> ..

abbrev pub left : {A : Type 0} → Bool → ℕ → ℕ → ℕ → WorldOf A → Slots A → List A → OutcomeOf A
left true next t r world slots rest = pushing next [] (with_exit world t r) slots rest
left false next t r world slots rest = Raises IllegalMonitorState

-- The monitor has one entry less; a thread that does not own it gets an IllegalMonitorStateException.
abbrev pub monitor_exit_meaning : {A : Type 0} → Carrier A → Site → MeaningOf A
monitor_exit_meaning C site =
    record {
      looks = None;
      wants = wants_of (AReference any_object ∷ []) 0;
      leads = to_next site.next [];
      may = picks_none;
      does = λ event world slots ops rest.
          not_null (referent C ops 0) (λ r. left (is_owner world event.thread r) site.next event.thread r world slots rest);
    }
