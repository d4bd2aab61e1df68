-- What the count of a monitor tells that an invocation entered (JVMS 2.11.10).
use Rattle.std.specs.Prelude.{◌≡◌, ℕ, nat_lt, Some, Bool, true, not, ◌&&◌, ◌==◌, length, slice_get}
use Rattle.model.specs.declared.event.Event.{Event}
use Rattle.model.specs.Classes.{Program}
use Rattle.model.specs.Operands.{Carrier, values, words}
use Rattle.model.specs.State.{StackOf, WorldOf, StateOf}
use Rattle.model.specs.Outcomes.{Cost}
use Rattle.model.specs.Monitors.{monitor_at, owns}
use Rattle.model.specs.Step.{Next, stepped}
use Rattle.run_laws.specs.monitor_counts.Counts.{AreMonitorsCounted}
use Rattle.monitor_laws.specs.owners.Owners.{entered_in}

-- where an invocation is new on top, and entered the monitor of an object that is there: whether the thread owned that before
abbrev pub TellsOwner : {A : Type 0} → ℕ → (own stack : StackOf A) → (old new : WorldOf A) → Type 0
TellsOwner t own stack old new =
    nat_lt (length own) (length stack) ≡ true → (object : ℕ) → entered_in stack ≡ Some object
    → owns t (monitor_at old.monitors object).owner ≡ (nat_lt object (length new.monitors) && not ((monitor_at new.monitors object).count == 1))

abbrev pub DoEntriesTellBy : {A : Type 0} → Carrier A → Type 0
DoEntriesTellBy {A} C =
    (files : Program) (frames : ℕ) (state : StateOf A) (event : Event) (cost : Cost) (next : StateOf A) (own stack : StackOf A)
    → stepped C files frames state event ≡ Next cost next → slice_get state.stacks event.thread ≡ Some own
    → slice_get next.stacks event.thread ≡ Some stack → (fat : ℕ → Bool) → AreMonitorsCounted fat state.world
    → TellsOwner event.thread own stack state.world next.world

-- over values and over words
pub record DoEntriesTell : Type 0 where
  pub of_values : DoEntriesTellBy values
  pub of_words : DoEntriesTellBy words
