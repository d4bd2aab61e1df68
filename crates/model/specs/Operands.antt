-- What an instruction finds, read in one way over values, over types and over words.
use Rattle.std.specs.Prelude.{ℕ, zero, suc, ◌+◌, List, [], ◌∷◌, ◌++◌, Option, Some, None, Bool, true, false, ◌&&◌, nat_le, slice_index_or, take, drop, length, map}
use Rattle.model.specs.Classes.{Program}
use Rattle.model.specs.ReferenceTypes.{ReferenceType}
use Rattle.model.specs.Types.{VerificationType, Unusable, IntType, NullType, Want, value_meets, is_value_of, is_object_of}
use Rattle.model.specs.declared.value.Value.{Value}
use Rattle.model.specs.declared.value.Value.TheVariants as value
use Rattle.std.specs.Prelude.{slice_get}

-- the local variables and the operand stack of a frame (JVMS 2.6.1, 2.6.2); the top of the stack comes first
pub record Slots (A : Type 0) : Type 0 where
  pub locals : List A
  pub stack : List A

-- how the rows of the local instructions are read
pub record Domain (A : Type 0) : Type 0 where
  pub unset : A
  pub null : A
  -- an int that is made from operands, by their words
  pub number : (List ℕ → ℕ) → List A → A

-- what an instruction wants: whether it may stand here at all, local variables by their number, operands from the
-- top of the stack, and how many words it leaves above what it pops
pub record Wants : Type 0 where
  pub allowed : Bool
  pub reads : List (ℕ × Want)
  pub pops : List Want
  pub grows : ℕ

abbrev pub reads_meet : {A : Type 0} → (Want → A → Bool) → Domain A → List (ℕ × Want) → List A → Bool
reads_meet accepts D [] locals = true
reads_meet accepts D (r ∷ rs) locals = accepts r.1 (slice_index_or locals r.0 D.unset) && reads_meet accepts D rs locals

abbrev pub pops_meet : {A : Type 0} → (Want → A → Bool) → List Want → List A → Bool
pops_meet accepts [] stack = true
pops_meet accepts (w ∷ ws) [] = false
pops_meet accepts (w ∷ ws) (x ∷ xs) = accepts w x && pops_meet accepts ws xs

-- the one test of operands: each is there and as wanted, and the stack does not pass max_stack (JVMS 4.7.3)
abbrev pub is_ready : {A : Type 0} → (Want → A → Bool) → Domain A → Wants → ℕ → Slots A → Bool
is_ready accepts D w max s =
    w.allowed && (reads_meet accepts D w.reads s.locals && (pops_meet accepts w.pops s.stack && nat_le (length (drop (length w.pops) s.stack) + w.grows) max))

-- the operands: the local variables that are read, then what is popped, the top first
abbrev pub operands : {A : Type 0} → Domain A → Wants → Slots A → List A
operands D w s = map (λ r. slice_index_or s.locals r.0 D.unset) w.reads ++ take (length w.pops) s.stack

-- what lies under them
abbrev pub under : {A : Type 0} → Wants → Slots A → List A
under w s = drop (length w.pops) s.stack

-- ---- words: an int by its bits, null and an unset variable 0, a reference r as r + 1 (own)

abbrev pub word_of : Value → ℕ
word_of value.Unset = 0
word_of (value.Int bits) = bits
word_of value.Null = 0
word_of (value.Reference r) = suc r

abbrev pub reference_of : Value → Option ℕ
reference_of value.Unset = None
reference_of (value.Int bits) = None
reference_of value.Null = None
reference_of (value.Reference r) = Some r

abbrev pub word_reference : ℕ → Option ℕ
word_reference zero = None
word_reference (suc r) = Some r

abbrev pub is_word_of : Program → List ReferenceType → ReferenceType → ℕ → Bool
is_word_of files objects want zero = true
is_word_of files objects want (suc r) = is_object_of files want (slice_get objects r)

-- ---- the three domains

abbrev pub over_types : Domain VerificationType
over_types = record { unset = Unusable; null = NullType; number = λ f ts. IntType }

abbrev pub over_values : Domain Value
over_values = record { unset = value.Unset; null = value.Null; number = λ f vs. value.Int (f (map word_of vs)) }

abbrev pub over_words : Domain ℕ
over_words = record { unset = 0; null = 0; number = λ f ns. f ns }

-- ---- what a run does with a value: tagged with its kind, or an untagged word

pub record Carrier (A : Type 0) : Type 0 where
  pub over : Domain A
  -- whether operands are as wanted; over words it is not asked
  pub finds : Program → List ReferenceType → Wants → ℕ → Slots A → Bool
  pub int : ℕ → A
  pub reference : ℕ → A
  pub word : A → ℕ
  pub words : List A → List ℕ
  pub referent : A → Option ℕ
  pub is_instance : Program → List ReferenceType → ReferenceType → A → Bool

abbrev pub values : Carrier Value
values =
    record {
      over = over_values;
      finds = λ files objects. is_ready (value_meets files objects) over_values;
      int = λ n. value.Int n;
      reference = λ r. value.Reference r;
      word = word_of;
      words = map word_of;
      referent = reference_of;
      is_instance = is_value_of;
    }

abbrev pub words : Carrier ℕ
words =
    record {
      over = over_words;
      finds = λ files objects w max s. true;
      int = λ n. n;
      reference = suc;
      word = λ n. n;
      words = λ ns. ns;
      referent = word_reference;
      is_instance = is_word_of;
    }
