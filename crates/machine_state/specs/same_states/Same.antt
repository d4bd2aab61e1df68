-- When the same is kept of two states (JVMS 2.5; JLS 17).
use Rattle.std.specs.Prelude.{◌≡◌, ℕ, List}
use Rattle.model.specs.Classes.{Program}
use Rattle.model.specs.LimitStands.{Bounds}
use Rattle.model.specs.State.{StateOf}
use Rattle.linked_code.specs.declared.program.LinkedProgram.{LinkedProgram}
use Rattle.machine_state.specs.declared.state.Shared.{Shared}
use Rattle.machine_state.specs.state_events.Whole.{IsShown}

-- Objects with their monitors, static fields, classes, threads with their stacks, the text printed, the Strings interned and the
-- count of Threads without a name are the same.
pub record AreAlike (one other : Shared) : Type 0 where
  pub objects : one.heap.objects ≡ other.heap.objects
  pub monitors : one.heap.locks.monitors ≡ other.heap.locks.monitors
  pub statics : one.statics.items ≡ other.statics.items
  pub statuses : one.statuses.items ≡ other.statuses.items
  pub threads : one.threads.threads ≡ other.threads.threads
  pub printed : one.printed.items ≡ other.printed.items
  pub interned : one.interned.items ≡ other.interned.items
  pub unnamed : one.unnamed ≡ other.unnamed
  pub stacks : one.stacks.items ≡ other.stacks.items

-- two that are alike show the same words, whichever locks are inflated
abbrev pub AreWordsTold : Type 0
AreWordsTold =
    (trees : Program) (p : LinkedProgram) (bounds : Bounds) (inflated inflated_there : List ℕ) (one other : Shared) (state there : StateOf ℕ)
    → IsShown trees p bounds inflated one state → IsShown trees p bounds inflated_there other there → AreAlike one other → state ≡ there
