-- Codes in which an instruction throws an exception.
use Rattle.std.specs.Prelude.{◌≡◌, ℕ, List, [], Option, Some, None, codes, slice_get}
use Rattle.std.specs.Option.{option_and_then}
use Rattle.model.specs.Names.{Name}
use Rattle.model.specs.ReferenceTypes.{ReferenceType, ClassType}
use Rattle.model.specs.State.{State, types_of}
use Rattle.model.specs.Outcomes.{Makes}
use Rattle.model.specs.Step.{next_by, thread_at}
use Rattle.run_laws.specs.examples.Bytes.{hex}
use Rattle.run_laws.specs.examples.Runs.{event_of, after, then_stepped, printed_in, stacks_in, cost_of}
use Rattle.run_laws.specs.examples.PrintsSeven.{file_with}

-- the type of the exception that is pending in thread 0
abbrev pub pending_in : Option State → Option ReferenceType
pending_in state = option_and_then (λ (s : State). option_and_then (slice_get (types_of s.world.heap)) (thread_at s.world 0).pending) state

-- the state after so many events of a main with this code and one event more
abbrev pub after_next : List ℕ → ℕ → Option State
after_next code events = option_and_then next_by (then_stepped (file_with code) (after (file_with code) events) (event_of 0))

-- After so many events no exception is pending. By the next one of this class is, which is one object more; the frame stands as it
-- stood, and nothing is printed.
pub record Throws (code : List ℕ) (events : ℕ) (class : Name) : Type 0 where
  pub not_yet : pending_in (after (file_with code) events) ≡ None
  pub pending : pending_in (after_next code events) ≡ Some (ClassType class)
  pub stays : stacks_in (after_next code events) ≡ stacks_in (after (file_with code) events)
  pub costs : option_and_then cost_of (then_stepped (file_with code) (after (file_with code) events) (event_of 0)) ≡ Some (Makes 0)
  pub silent : printed_in (after_next code events) ≡ Some []

pub record Exceptions : Type 0 where
  -- iconst_1, iconst_0, idiv, pop, return
  pub idiv_by_zero : Throws (hex (codes "04 03 6c 57 b1")) 6 (codes "java/lang/ArithmeticException")
  -- iconst_1, iconst_0, irem, pop, return
  pub irem_by_zero : Throws (hex (codes "04 03 70 57 b1")) 6 (codes "java/lang/ArithmeticException")
  -- aconst_null, iconst_4, invokevirtual println, return
  pub println_at_null : Throws (hex (codes "01 07 b60013 b1")) 6 (codes "java/lang/NullPointerException")
