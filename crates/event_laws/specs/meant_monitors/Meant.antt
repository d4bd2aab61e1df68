-- What an event means of monitors before it, where an invocation is new on top after it that entered one (JVMS 2.11.10).
use Rattle.std.specs.Prelude.{◌≡◌, ℕ, Some, None, slice_get}
use Rattle.model.specs.declared.event.Event.{Event}
use Rattle.model.specs.Classes.{Program}
use Rattle.model.specs.Operands.{Carrier, values, words}
use Rattle.model.specs.State.{StackOf, StateOf}
use Rattle.model.specs.Outcomes.{Cost}
use Rattle.model.specs.Worlds.{thread_at}
use Rattle.model.specs.Step.{Next, stepped}
use Rattle.monitor_laws.specs.owners.Owners.{meant, meant_before}

abbrev pub DoEntriesMeanNoneBy : {A : Type 0} → Carrier A → Type 0
DoEntriesMeanNoneBy {A} C =
    (files : Program) (frames : ℕ) (state : StateOf A) (event : Event) (cost : Cost) (next : StateOf A) (own stack : StackOf A)
    → stepped C files frames state event ≡ Next cost next → slice_get state.stacks event.thread ≡ Some own
    → slice_get next.stacks event.thread ≡ Some stack → (object : ℕ) → meant None own stack ≡ Some object
    → meant_before C files event state.world own (thread_at state.world event.thread).status ≡ None

-- over values and over words
pub record DoEntriesMeanNone : Type 0 where
  pub of_values : DoEntriesMeanNoneBy values
  pub of_words : DoEntriesMeanNoneBy words
