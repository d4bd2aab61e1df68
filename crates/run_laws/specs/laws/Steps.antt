-- What a typing says of a frame, for one instruction: what it finds, and what stands in the frame after it.
use Rattle.std.specs.Prelude.{◌≡◌, ℕ, zero, suc, List, Some, Bool, true, false, length, IsTrue, IsFalse}
use Rattle.std.specs.Option.{option_map_or}
use Rattle.model.specs.declared.event.Event.{Event}
use Rattle.model.specs.declared.value.Value.{Value}
use Rattle.model.specs.Names.{Name, main_of}
use Rattle.model.specs.Classes.{Program, Body, body_of, classes_of, superclass_of}
use Rattle.model.specs.ReferenceTypes.{ReferenceType, is_assignable}
use Rattle.model.specs.Types.{VerificationType, type_meets, value_meets}
use Rattle.model.specs.Operands.{Slots, values, over_types, over_values, Wants, is_ready}
use Rattle.model.specs.Rows.{Row, after_row}
use Rattle.model.specs.TypeOrder.{is_local_below}
use Rattle.model.specs.State.{State}
use Rattle.model.specs.Step.{SteppedOf, NotEnabled, WrongKind, Next, initial_class, stepped}
use Rattle.model.specs.WellTyped.{has_type, are_typed, IsWellTyped}
use Rattle.model.specs.WrongKind.{has_wrong_kind}

-- the superclasses of a class end, by so many steps at most
abbrev pub ends : Program → ℕ → Name → Bool
ends files zero c = false
ends files (suc n) c = option_map_or (λ s. ends files n s) (superclass_of files c) true

-- no class is above itself
abbrev pub Rooted : Program → Type 0
Rooted files = (c : Name) → IsTrue (ends files (suc (length (classes_of files))) c)

-- the local variables and the operand stack hold values of these types
pub record AreTyped (files : Program) (objects : List ReferenceType) (ts : Slots VerificationType) (vs : Slots Value) : Type 0 where
  pub locals : IsTrue (are_typed files objects ts.locals vs.locals)
  pub stack : IsTrue (are_typed files objects ts.stack vs.stack)

-- the order of reference types is one
pub record IsOrder (files : Program) : Type 0 where
  pub reflexive : (t : ReferenceType) → IsTrue (is_assignable files t t)
  pub transitive : (a b c : ReferenceType) → IsTrue (is_assignable files a b) → IsTrue (is_assignable files b c)
      → IsTrue (is_assignable files a c)

-- what is of a type is of each type above it
abbrev pub IsUpward : Program → Type 0
IsUpward files =
    (objects : List ReferenceType) (s t : VerificationType) (v : Value)
    → IsTrue (is_local_below files s t) → IsTrue (has_type files objects s v) → IsTrue (has_type files objects t v)

-- where an instruction finds its operands in the types, it finds them in the values
abbrev pub IsFound : Program → Type 0
IsFound files =
    (objects : List ReferenceType) (wants : Wants) (max_stack : ℕ) (ts : Slots VerificationType) (vs : Slots Value)
    → AreTyped files objects ts vs
    → IsTrue (is_ready (type_meets files) over_types wants max_stack ts)
    → IsTrue (is_ready (value_meets files objects) over_values wants max_stack vs)

-- a local instruction leaves values of the types that it leaves
abbrev pub IsKept : Program → Type 0
IsKept files =
    (objects : List ReferenceType) (row : Row) (ts : Slots VerificationType) (vs : Slots Value)
    → AreTyped files objects ts vs → AreTyped files objects (after_row over_types row ts) (after_row over_values row vs)

-- no thread of a well-typed state meets an operand of a wrong kind
abbrev pub IsRight : Program → Type 0
IsRight files = (state : State) → IsWellTyped files state → (t : ℕ) → IsFalse (has_wrong_kind files state t)

-- main of the initial class is there and has code
pub record HasMain (files : Program) : Type 0 where
  pub body : Body
  pub is_body : body_of files (main_of (initial_class files)) ≡ Some body

abbrev pub is_wrong : {S : Type 0} → SteppedOf S → Bool
is_wrong NotEnabled = false
is_wrong WrongKind = true
is_wrong (Next cost next) = false

-- no event at a well-typed state is answered by a wrong kind
abbrev pub IsNeverWrong : Program → Type 0
IsNeverWrong files =
    (frames : ℕ) (state : State) (event : Event) → IsWellTyped files state → IsFalse (is_wrong (stepped values files frames state event))
