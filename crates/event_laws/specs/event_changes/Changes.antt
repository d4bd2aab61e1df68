-- What an event may change of classes and threads, whatever it does (JVMS 5.5; JLS 17).
use Rattle.std.specs.Prelude.{◌≡◌, ℕ, ◌≤◌, ◌+◌, List, [], ◌∷◌, Option, Some, None, Bool, true, false, not, ◌&&◌, ◌==◌, length, map, slice_get}
use Rattle.std.specs.List.{list_any}
use Rattle.model.specs.declared.event.Event.{Event}
use Rattle.model.specs.Names.{Name, name_eq}
use Rattle.model.specs.Classes.{Program}
use Rattle.model.specs.Operands.{Carrier, values, words}
use Rattle.model.specs.State.{ClassStatus, Waiter, Invocation, Initialisation, StackOf, WorldOf, StateOf}
use Rattle.model.specs.Outcomes.{Cost}
use Rattle.model.specs.Worlds.{thread_at, has_ended, waiters_of}
use Rattle.model.specs.ClassInitialisation.{status_of}
use Rattle.model.specs.Step.{Next, stepped}
use Rattle.data_races.specs.EventActions.{is_finished, is_waiting}

-- ---- classes

-- the class on top of a stack, which its thread initialises
abbrev pub class_on : {A : Type 0} → StackOf A → Option Name
class_on [] = None
class_on (Invocation frame ∷ stack) = None
class_on (Initialisation class phase ∷ stack) = Some class

abbrev pub is_class : Name → Option Name → Bool
is_class class None = false
is_class class (Some other) = name_eq class other

abbrev pub class_names : List (Name × ClassStatus) → List Name
class_names classes = map (λ (row : Name × ClassStatus). row.0) classes

-- there are the same classes, and those are done that were done before, but maybe one
pub record KeepsClasses {A : Type 0} (class : Option Name) (old new : WorldOf A) : Type 0 where
  pub names : class_names new.classes ≡ class_names old.classes
  pub others : (other : Name) → is_class other class ≡ false → is_finished (status_of new other) ≡ is_finished (status_of old other)

-- ---- threads

-- at most one was started
pub record AddsThread {A : Type 0} (old new : WorldOf A) : Type 0 where
  pub kept : length old.threads ≤ length new.threads
  pub one : length new.threads ≤ length old.threads + 1

abbrev pub is_in_set : ℕ → List Waiter → Bool
is_in_set t waiters = list_any (λ (waiter : Waiter). waiter.thread == t) waiters

-- where a thread has ended, those wait no more that were in the wait set of its Thread object, and all others wait as before
abbrev pub WakesWaiters : {A : Type 0} → ℕ → (old new : WorldOf A) → Type 0
WakesWaiters t old new =
    has_ended (thread_at new t).status ≡ true
    → (u : ℕ) → is_waiting (thread_at new u).status ≡ (is_waiting (thread_at old u).status && not (is_in_set u (waiters_of old (thread_at old t).object)))

-- ---- the statements

-- what is said of the stack of an event's thread before it, and of the worlds before and after it
abbrev pub OfEvents : {A : Type 0} → Carrier A → (Event → StackOf A → WorldOf A → WorldOf A → Type 0) → Type 0
OfEvents {A} C Holds =
    (files : Program) (frames : ℕ) (state : StateOf A) (event : Event) (cost : Cost) (next : StateOf A) (own : StackOf A)
    → stepped C files frames state event ≡ Next cost next → slice_get state.stacks event.thread ≡ Some own
    → Holds event own state.world next.world

-- over values and over words
pub record AreClassesKept : Type 0 where
  pub of_values : OfEvents values (λ event own old new. KeepsClasses (class_on own) old new)
  pub of_words : OfEvents words (λ event own old new. KeepsClasses (class_on own) old new)

pub record AreThreadsAdded : Type 0 where
  pub of_values : OfEvents values (λ event own old new. AddsThread old new)
  pub of_words : OfEvents words (λ event own old new. AddsThread old new)

pub record DoEndsWake : Type 0 where
  pub of_values : OfEvents values (λ event own old new. WakesWaiters event.thread old new)
  pub of_words : OfEvents words (λ event own old new. WakesWaiters event.thread old new)
