-- What is shown where nothing has changed.
use Rattle.std.proofs.Common.{◌≡◌, ℕ, List, sym, subst}
use Rattle.model.specs.Classes.{Program}
use Rattle.model.specs.LimitStands.{Bounds}
use Rattle.model.specs.State.{StateOf}
use Rattle.linked_code.specs.declared.program.LinkedProgram.{LinkedProgram}
use Rattle.machine_state.specs.declared.state.Shared.{Shared}
use Rattle.machine_state.specs.Shown.{Represents}
use Rattle.machine_state.specs.state_events.Whole.{ShowsStacks, IsShown, IsSame}

same_stacks : (trees : Program) (p : LinkedProgram) (bounds : Bounds) (inflated : List ℕ) (old new : Shared) (state : StateOf ℕ)
    → IsShown trees p bounds inflated old state → new.stacks.items ≡ old.stacks.items
    → IsShown trees p bounds inflated (record old { stacks = new.stacks }) state
same_stacks trees p bounds inflated old new state h items =
    record {
      represents = record {
        world_is = record {
          objects = r.world_is.objects;
          counted = r.world_is.counted;
          monitors = r.world_is.monitors;
          statics = r.world_is.statics;
          statuses = r.world_is.statuses;
          ready = r.world_is.ready;
          threads = r.world_is.threads;
          printed = r.world_is.printed;
          interned = r.world_is.interned;
          unnamed = r.world_is.unnamed;
        };
        limits = record {
          opening = r.limits.opening;
          objects = r.limits.objects;
          cells = r.limits.cells;
          monitors = r.limits.monitors;
          threads = r.limits.threads;
        };
      };
      flags = h.flags;
      flag_count = h.flag_count;
      counted = h.counted;
      stacks = subst (λ l. ShowsStacks trees p l state.stacks) (sym items) h.stacks;
      typed = h.typed;
      ends = h.ends;
    }
  where
    r : Represents trees p bounds old state.world
    r = h.represents

pub shown_still : (trees : Program) (p : LinkedProgram) (bounds : Bounds) (inflated : List ℕ) (old new : Shared) (state : StateOf ℕ)
    → IsShown trees p bounds inflated old state → IsSame old new
    → IsShown trees p bounds inflated new state
shown_still trees p bounds inflated old new state h same =
    subst (λ s. IsShown trees p bounds inflated s state) (sym same.rest) (same_stacks trees p bounds inflated old new state h same.stacks)
