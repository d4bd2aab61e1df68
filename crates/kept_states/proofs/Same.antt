-- Of two states of which all that is kept is the same, what the one shows the other shows.
use Rattle.std.proofs.Common.{◌≡◌, ℕ, List, Bool, length, sym, ◌∙◌, ap, subst}
use Rattle.model.specs.declared.event.Event.{Event}
use Rattle.model.specs.Classes.{Program}
use Rattle.model.specs.LimitStands.{Bounds, inflated}
use Rattle.model.specs.State.{StateOf}
use Rattle.heap.specs.Heap.{Heap}
use Rattle.heap.specs.java_threads.Table.{ThreadTable}
use Rattle.thread_stacks.specs.Stacks.{ShownEntry}
use Rattle.linked_code.specs.declared.program.LinkedProgram.{LinkedProgram}
use Rattle.machine_state.specs.limits_at_words.FatLocks.{AreFlags}
use Rattle.machine_state.specs.declared.state.ClassStatus.{ClassStatus}
use Rattle.machine_state.specs.declared.state.Shared.{Shared}
use Rattle.machine_state.specs.shown_objects.Shown.{ShowsObjects, ShowsStatics}
use Rattle.machine_state.specs.Shown.{ShowsStatuses, AreInitialised, ShowsWorld, HasBounds}
use Rattle.machine_state.specs.state_events.Whole.{ShowsStacks, IsShown}
use Rattle.machine_state.specs.shown_runs.Runs.{HasRun}
use Rattle.kept_states.specs.States.{AreTheSame}

world_same : (trees : Program) (p : LinkedProgram) (bounds : Bounds) (inflated : List ℕ) (one other : Shared) (state : StateOf ℕ)
    → AreTheSame one other → IsShown trees p bounds inflated one state → ShowsWorld trees p other state.world
world_same trees p bounds inflated one other state same s =
    let w : ShowsWorld trees p one state.world = s.represents.world_is in
    record {
      objects = subst (λ (h : Heap). ShowsObjects trees p.components.items h.objects state.world.heap) same.heap w.objects;
      counted = sym (ap (λ (h : Heap). h.counted) same.heap) ∙ w.counted;
      monitors = sym (ap (λ (h : Heap). h.locks.monitors) same.heap) ∙ w.monitors;
      statics = subst (λ (xs : List ℕ). ShowsStatics trees xs state.world.statics) same.statics w.statics;
      statuses = subst (λ (xs : List ClassStatus). ShowsStatuses trees xs state.world.classes) same.statuses w.statuses;
      ready = subst (λ (xs : List Bool). AreInitialised trees xs state.world) same.ready w.ready;
      threads = sym (ap (λ (t : ThreadTable). t.threads) same.threads) ∙ w.threads;
      printed = sym same.printed ∙ w.printed;
      interned = sym same.interned ∙ w.interned;
      unnamed = sym same.unnamed ∙ w.unnamed;
    }

bounds_same : (trees : Program) (bounds : Bounds) (one other : Shared) → AreTheSame one other → HasBounds trees bounds one → HasBounds trees bounds other
bounds_same trees bounds one other same b = record {
  opening = sym (ap (λ (h : Heap). h.opening) same.heap) ∙ b.opening;
  objects = sym (ap (λ (h : Heap). h.object_limit) same.heap) ∙ b.objects;
  cells = sym (ap (λ (h : Heap). h.cell_limit) same.heap) ∙ b.cells;
  monitors = sym (ap (λ (h : Heap). h.locks.limit) same.heap) ∙ b.monitors;
  threads = sym (ap (λ (t : ThreadTable). t.limit) same.threads) ∙ b.threads;
}

pub shown_same : (trees : Program) (p : LinkedProgram) (bounds : Bounds) (inflated : List ℕ) (one other : Shared) (state : StateOf ℕ)
    → AreTheSame one other → IsShown trees p bounds inflated one state → IsShown trees p bounds inflated other state
shown_same trees p bounds inflated one other state same s = record {
  represents = record {
    world_is = world_same trees p bounds inflated one other state same s;
    limits = bounds_same trees bounds one other same s.represents.limits;
  };
  flags = subst (λ (h : Heap). AreFlags h.locks.fat inflated) same.heap s.flags;
  flag_count = subst (λ (h : Heap). length h.locks.fat ≡ length h.locks.monitors) same.heap s.flag_count;
  counted = s.counted;
  stacks = subst (λ (xs : List (List ShownEntry)). ShowsStacks trees p xs state.stacks) same.stacks s.stacks;
  typed = s.typed;
  ends = s.ends;
}

pub run_same : (trees : Program) (p : LinkedProgram) (bounds : Bounds) (one other : Shared) (events : List Event)
    → AreTheSame one other → HasRun trees p bounds one events → HasRun trees p bounds other events
run_same trees p bounds one other events same has = record {
  at = has.at;
  lead = has.lead;
  shown = shown_same trees p bounds (inflated trees bounds.frames events) one other has.at same has.shown;
}
