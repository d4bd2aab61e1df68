-- What the constructors of java.lang.String do, and those methods of it without code that ask for more than texts and ints (the API of
-- String). A String is empty until its constructor was called, and keeps its text after that. The receiver is not null here.
use Rattle.std.specs.Prelude.{◌≡◌, ℕ, ◌-◌, List, [], ◌∷◌, ◌++◌, Option, Some, None, Bool, ◌&&◌, ◌==◌, if◌then◌else◌, nat_le, length, map, take, drop, find, codes, refl}
use Rattle.std.specs.Option.{option_map, option_and_then}
use Rattle.model.specs.declared.text_method.TextMethod.{TextMethod}
use Rattle.model.specs.declared.text_method.TextMethod.TheVariants.{ConstructEmpty, ConstructOfString, ConstructOfChars, GetChars, Intern}
use Rattle.model.specs.declared.value.Value.{Value}
use Rattle.model.specs.declared.value.Value.TheVariants as value
use Rattle.model.specs.Texts.{Text}
use Rattle.model.specs.Classes.{Program}
use Rattle.model.specs.ReferenceTypes.{Char}
use Rattle.model.specs.Operands.{Slots, Carrier, values}
use Rattle.model.specs.State.{World, WorldOf, Primitives, Characters}
use Rattle.model.specs.Opening.{opening_count, string_references}
use Rattle.model.specs.Outcomes.{OutcomeOf, Goes, Raises, Cost, Free, Fills, NullPointer, StringIndexOutOfBounds, ArrayIndexOutOfBounds}
use Rattle.model.specs.Worlds.{object_at, with_object, elements_of, with_elements, string_text, text_of, with_text, kept}
use Rattle.model.specs.StringMethods.{is_at_most, is_same_text}
use Rattle.model.specs.Sites.{pushing, pushing_at, operand, referent, int_operand, object_of}

pub data TextAnswer : Type 0 where
  -- a NullPointerException
  IsNull : TextAnswer
  -- a StringIndexOutOfBoundsException
  IsOutside : TextAnswer
  -- an ArrayIndexOutOfBoundsException
  IsOutsideArray : TextAnswer
  -- the receiver, by its place among the operands, gets the text
  Becomes : (receiver : ℕ) (text : Text) → TextAnswer
  -- the units become elements of an array, by its place, from an index on
  Stores : (array index : ℕ) (text : Text) → TextAnswer
  -- the String that stands for all of this text
  StandsFor : (text : Text) → TextAnswer

-- what is done with a text, or with the units of an array; null is a NullPointerException
abbrev pub if_there : Option Text → (Text → TextAnswer) → TextAnswer
if_there None go = IsNull
if_there (Some text) go = go text

-- so many units, from an offset on
abbrev pub text_of_part : Text → ℕ → ℕ → TextAnswer
text_of_part units offset count =
    if is_at_most (length units) count && is_at_most (length units - count) offset then Becomes 3 (take count (drop offset units)) else IsOutside

-- an array of so many elements has room for the units
abbrev pub if_room : ℕ → ℕ → Text → TextAnswer
if_room elements index text =
    if nat_le (length text) elements && is_at_most (elements - length text) index then Stores 1 index text else IsOutsideArray

-- the units of a text from begin to end
abbrev pub stored_part : ℕ → Text → ℕ → ℕ → ℕ → TextAnswer
stored_part elements text begin end index =
    if is_at_most (length text) end && is_at_most end begin then if_room elements index (take (end - begin) (drop begin text)) else IsOutside

-- ---- the table: by the ints among the operands, by their bits, the texts of the Strings among them, and the units of the arrays of
-- chars; the last operand has number 0, and the receiver the highest

abbrev pub text_answer : TextMethod → (ℕ → ℕ) → (ℕ → Option Text) → (ℕ → Option Text) → TextAnswer
text_answer ConstructEmpty int text units = Becomes 0 []
text_answer ConstructOfString int text units = if_there (text 0) (Becomes 1)
text_answer ConstructOfChars int text units = if_there (units 2) (λ elements. text_of_part elements (int 1) (int 0))
text_answer GetChars int text units =
    if_there (text 4) (λ this. if_there (units 1) (λ elements. stored_part (length elements) this (int 3) (int 2) (int 0)))
text_answer Intern int text units = if_there (text 0) StandsFor

-- ---- chars

abbrev pub unit_in : {A : Type 0} → Carrier A → A → ℕ
unit_in C value = kept Char (C.word value)

abbrev pub char_value : {A : Type 0} → Carrier A → ℕ → A
char_value C unit = C.int (kept Char unit)

-- the units of an array, if it is not null
abbrev pub units_operand : {A : Type 0} → Carrier A → WorldOf A → List A → ℕ → Option Text
units_operand C world ops k = option_map (λ r. map (unit_in C) (elements_of (object_at world r))) (referent C ops k)

-- the text of an operand, if it is a String and not null
abbrev pub string_operand : {A : Type 0} → Carrier A → WorldOf A → List A → ℕ → Option Text
string_operand C world ops k = option_and_then (λ r. string_text (object_at world r)) (referent C ops k)

-- ---- the Strings that stand for a text: constants, and then those that were interned, the first one first

abbrev pub is_string_of : {A : Type 0} → WorldOf A → Text → ℕ → Bool
is_string_of world text r = is_same_text text (string_text (object_at world r))

abbrev pub standing_for : {A : Type 0} → List ℕ → WorldOf A → Text → Option ℕ
standing_for constants world text = find (is_string_of world text) (constants ++ world.interned)

abbrev pub with_interned : {A : Type 0} → WorldOf A → ℕ → WorldOf A
with_interned world string = record world { interned = world.interned ++ string ∷ [] }

-- ---- what becomes of it, by how many objects the opening has, and by the Strings of the constants

-- the String that stands for a text, which the receiver does from now on where there is none
abbrev pub gives_standing : {A : Type 0} → Carrier A → Option ℕ → ℕ → WorldOf A → Slots A → List A → List A → OutcomeOf A
gives_standing C None next world slots ops rest = pushing next (operand C ops 0 ∷ []) (with_interned world (object_of C ops 0)) slots rest
gives_standing C (Some string) next world slots ops rest = pushing next (C.reference string ∷ []) world slots rest

-- A String that the run made, as one that is not among so many objects of the opening, and that is empty gets a text. Any other String
-- keeps what it has.
abbrev pub is_blank : {A : Type 0} → ℕ → WorldOf A → ℕ → Bool
is_blank opened world string = nat_le opened string && length (text_of (object_at world string)) == 0

abbrev pub with_text_at : {A : Type 0} → ℕ → WorldOf A → ℕ → Text → WorldOf A
with_text_at opened world string text =
    if is_blank opened world string then with_object world string (with_text text (object_at world string)) else world

abbrev pub with_units_at : {A : Type 0} → Carrier A → WorldOf A → ℕ → ℕ → Text → WorldOf A
with_units_at C world array index text = with_object world array (with_elements index (map (char_value C) text) (object_at world array))

-- The units of a String that gets its text are cells, which belong to an object that is there.
abbrev pub writes : {A : Type 0} → Carrier A → ℕ → List ℕ → TextAnswer → ℕ → WorldOf A → Slots A → List A → List A → OutcomeOf A
writes C opened constants IsNull next world slots ops rest = Raises NullPointer
writes C opened constants IsOutside next world slots ops rest = Raises StringIndexOutOfBounds
writes C opened constants IsOutsideArray next world slots ops rest = Raises ArrayIndexOutOfBounds
-- .., objectref, [value, ..] -> ..
writes C opened constants (Becomes receiver text) next world slots ops rest =
    pushing_at (Fills (length text)) next [] (with_text_at opened world (object_of C ops receiver) text) slots rest
writes C opened constants (Stores array index text) next world slots ops rest = pushing next [] (with_units_at C world (object_of C ops array) index text) slots rest
-- .., objectref -> .., result
writes C opened constants (StandsFor text) next world slots ops rest = gives_standing C (standing_for constants world text) next world slots ops rest

abbrev pub string_writes : {A : Type 0} → Carrier A → Program → TextMethod → ℕ → WorldOf A → Slots A → List A → List A → OutcomeOf A
string_writes C files method next world slots ops rest =
    writes C (opening_count files) (string_references files) (text_answer method (int_operand C ops) (string_operand C world ops) (units_operand C world ops)) next world slots ops rest

-- ---- examples

-- an empty String after `new`, the text `hello`, and an array of five chars
abbrev pub three_objects : World
three_objects =
    record {
      heap = Characters [] ∷ Characters (codes "hello") ∷ Primitives Char (map (λ unit. value.Int unit) (codes "abcde")) ∷ [];
      statics = [];
      classes = [];
      monitors = [];
      threads = [];
      printed = [];
      interned = [];
      unnamed = 0;
    }

-- what an answer makes of it, by the operands, the last one first
abbrev pub does : TextMethod → List Value → OutcomeOf Value
does method ops =
    writes values 0 (1 ∷ []) (text_answer method (int_operand values ops) (string_operand values three_objects ops) (units_operand values three_objects ops)) 3 three_objects
    (record { locals = []; stack = [] }) ops []

-- what it costs, and what texts there are then, of the array too
abbrev pub told : OutcomeOf Value → Option (Cost × List Text)
told (Goes cost world slots to) =
    Some (cost, text_of (object_at world 0) ∷ map (unit_in values) (elements_of (object_at world 2)) ∷ [])
told other = None

constructs : told (does ConstructOfString (value.Reference 1 ∷ value.Reference 0 ∷ [])) ≡ Some (Fills 5, codes "hello" ∷ codes "abcde" ∷ [])
constructs = refl

-- two chars from offset 3 on
constructs_of_chars : told (does ConstructOfChars (value.Int 2 ∷ value.Int 3 ∷ value.Reference 2 ∷ value.Reference 0 ∷ []))
    ≡ Some (Fills 2, codes "de" ∷ codes "abcde" ∷ [])
constructs_of_chars = refl

-- three of them are too many, and an array is wanted
constructs_of_none : map (λ (ops : List Value). does ConstructOfChars ops)
    ((value.Int 3 ∷ value.Int 3 ∷ value.Reference 2 ∷ value.Reference 0 ∷ []) ∷ (value.Int 0 ∷ value.Int 0 ∷ value.Null ∷ value.Reference 0 ∷ []) ∷ [])
    ≡ Raises StringIndexOutOfBounds ∷ Raises NullPointer ∷ []
constructs_of_none = refl

-- `"hello".getChars(1, 4, array, index)`
gets_chars : map (λ index. told (does GetChars (value.Int index ∷ value.Reference 2 ∷ value.Int 4 ∷ value.Int 1 ∷ value.Reference 1 ∷ []))) (1 ∷ 3 ∷ [])
    ≡ Some (Free, [] ∷ codes "aelle" ∷ []) ∷ None ∷ []
gets_chars = refl

-- a text stays
constructs_again : told (does ConstructEmpty (value.Reference 1 ∷ [])) ≡ Some (Fills 0, [] ∷ codes "abcde" ∷ [])
constructs_again = refl

-- a constant stands for its text, and else the String itself from now on
abbrev pub given : OutcomeOf Value → Option (List Value × List ℕ)
given (Goes cost world slots to) = Some (slots.stack, world.interned)
given other = None

interns : map (λ string. given (does Intern (value.Reference string ∷ []))) (0 ∷ 1 ∷ [])
    ≡ Some (value.Reference 0 ∷ [], 0 ∷ []) ∷ Some (value.Reference 1 ∷ [], []) ∷ []
interns = refl
