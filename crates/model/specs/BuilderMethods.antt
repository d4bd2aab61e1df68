-- What the methods of java.lang.StringBuilder do that have no code (the API of StringBuilder). A StringBuilder keeps its text as a
-- String, in a hidden field (own). The receiver is not null here.
use Rattle.std.specs.Prelude.{◌≡◌, ℕ, List, [], ◌∷◌, ◌++◌, Option, Some, None, Bool, if◌then◌else◌, length, map, codes, refl}
use Rattle.std.specs.Option.{is_none}
use Rattle.std.specs.Fmt.{digits, signed_decimal}
use Rattle.model.specs.declared.builder_method.BuilderMethod.{BuilderMethod}
use Rattle.model.specs.declared.builder_method.BuilderMethod.TheVariants.{ConstructEmpty, ConstructOfString, AppendString, AppendInt, AppendChar, AppendBuilder, ToString}
use Rattle.model.specs.declared.instr.Conversion.TheVariants.{ToChar}
use Rattle.model.specs.declared.value.Value.{Value}
use Rattle.model.specs.declared.value.Value.TheVariants as value
use Rattle.model.specs.Ints.{signed, converted}
use Rattle.model.specs.Texts.{Text}
use Rattle.model.specs.Names.{java_lang_string_builder, builder_text}
use Rattle.model.specs.Operands.{Slots, Carrier, values}
use Rattle.model.specs.State.{World, WorldOf, ObjectOf, Instance, Characters}
use Rattle.model.specs.Outcomes.{Cost, Free, Makes, NullPointer, OutcomeOf, Goes, Raises}
use Rattle.model.specs.Worlds.{allocated, object_at, with_object, value_in, fields_of, with_field, text_of, string_shown}
use Rattle.model.specs.Sites.{pushing, pushing_at, operand, referent, int_operand, object_of}

-- ---- the text of a StringBuilder

-- the String that is its text; null before a constructor has put one there
abbrev pub kept_string : {A : Type 0} → Carrier A → ObjectOf A → A
kept_string C builder = value_in C.over.null builder_text (fields_of builder)

-- the text of a String; of null it is empty
abbrev pub text_or_empty : {A : Type 0} → WorldOf A → Option ℕ → Text
text_or_empty world None = []
text_or_empty world (Some string) = text_of (object_at world string)

abbrev pub built_text : {A : Type 0} → Carrier A → WorldOf A → ℕ → Text
built_text C world builder = text_or_empty world (C.referent (kept_string C (object_at world builder)))

-- a String becomes its text
abbrev pub with_string : {A : Type 0} → WorldOf A → ℕ → A → WorldOf A
with_string world builder string = with_object world builder (with_field builder_text string (object_at world builder))

-- what is added for a StringBuilder: its text, and for null the word `null`
abbrev pub builder_shown : {A : Type 0} → Carrier A → WorldOf A → Option ℕ → Text
builder_shown C world None = codes "null"
builder_shown C world (Some builder) = built_text C world builder

-- ---- what each method does, by the operand behind the receiver: its bits, whether it is null, and what is added for it as a
-- String and as a StringBuilder

pub data BuilderAnswer : Type 0 where
  -- a NullPointerException
  IsNull : BuilderAnswer
  -- the constant of the empty text becomes the text
  KeepsEmpty : BuilderAnswer
  -- the operand becomes the text
  Keeps : BuilderAnswer
  -- the text and then what is added, in a new String, become the text; the StringBuilder is given
  Adds : (added : Text) → BuilderAnswer
  -- the text is given
  GivesText : BuilderAnswer

abbrev pub builder_answer : BuilderMethod → ℕ → Bool → Text → Text → BuilderAnswer
builder_answer ConstructEmpty int is_null string builder = KeepsEmpty
builder_answer ConstructOfString int is_null string builder = if is_null then IsNull else Keeps
builder_answer AppendString int is_null string builder = Adds string
builder_answer AppendInt int is_null string builder = Adds (signed_decimal (signed int))
builder_answer AppendChar int is_null string builder = Adds (converted ToChar int ∷ [])
builder_answer AppendBuilder int is_null string builder = Adds builder
builder_answer ToString int is_null string builder = GivesText

-- ---- what becomes of it: the receiver is the last operand of a method without parameters, and else the one under it

-- A String of the whole text is made, and its units are cells.
abbrev pub with_composed : {A : Type 0} → Carrier A → WorldOf A → ℕ → Text → WorldOf A
with_composed C world builder text = with_string (allocated world (Characters text)) builder (C.reference (length world.heap))

abbrev pub composed : {A : Type 0} → Carrier A → Text → ℕ → WorldOf A → Slots A → List A → List A → OutcomeOf A
composed C text next world slots ops rest =
    pushing_at (Makes (length text)) next (operand C ops 1 ∷ []) (with_composed C world (object_of C ops 1) text) slots rest

abbrev pub builds : {A : Type 0} → Carrier A → ℕ → BuilderAnswer → ℕ → WorldOf A → Slots A → List A → List A → OutcomeOf A
builds C empty IsNull next world slots ops rest = Raises NullPointer
-- .., objectref -> ..
builds C empty KeepsEmpty next world slots ops rest = pushing next [] (with_string world (object_of C ops 0) (C.reference empty)) slots rest
-- .., objectref, value -> ..
builds C empty Keeps next world slots ops rest = pushing next [] (with_string world (object_of C ops 1) (operand C ops 0)) slots rest
-- .., objectref, value -> .., objectref
builds C empty (Adds added) next world slots ops rest = composed C (built_text C world (object_of C ops 1) ++ added) next world slots ops rest
-- .., objectref -> .., value
builds C empty GivesText next world slots ops rest = pushing next (kept_string C (object_at world (object_of C ops 0)) ∷ []) world slots rest

-- what a method does where the constant of the empty text is at hand
abbrev pub builder_does : {A : Type 0} → Carrier A → ℕ → BuilderMethod → ℕ → WorldOf A → Slots A → List A → List A → OutcomeOf A
builder_does C empty method next world slots ops rest =
    builds C empty
    (builder_answer method (int_operand C ops 0) (is_none (referent C ops 0)) (string_shown world (referent C ops 0)) (builder_shown C world (referent C ops 0)))
    next world slots ops rest

-- ---- examples

-- a StringBuilder of a String
abbrev pub builder_of : Value → ObjectOf Value
builder_of string = Instance java_lang_string_builder ((builder_text, string) ∷ [])

-- the empty text, the text `ab`, a StringBuilder of it, and one after `new`
abbrev pub four_objects : World
four_objects =
    record {
      heap = Characters [] ∷ Characters (codes "ab") ∷ builder_of (value.Reference 1) ∷ builder_of value.Null ∷ [];
      statics = [];
      classes = [];
      monitors = [];
      threads = [];
      printed = [];
      interned = [];
      unnamed = 0;
    }

-- what a method does there, by its operands, the last one first
abbrev pub does : BuilderMethod → List Value → OutcomeOf Value
does method ops = builder_does values 0 method 3 four_objects (record { locals = []; stack = [] }) ops []

-- what it costs, what it gives, and what objects there are then
abbrev pub told : OutcomeOf Value → Option (Cost × List Value × List (ObjectOf Value))
told (Goes cost world slots to) = Some (cost, slots.stack, world.heap)
told other = None

-- the text of the first StringBuilder after an `append` to it
abbrev pub text_after : OutcomeOf Value → Option Text
text_after (Goes cost world slots to) = Some (built_text values world 2)
text_after other = None

constructs : told (does ConstructEmpty (value.Reference 3 ∷ []))
    ≡ Some (Free, [], Characters [] ∷ Characters (codes "ab") ∷ builder_of (value.Reference 1) ∷ builder_of (value.Reference 0) ∷ [])
constructs = refl

constructs_of_null : does ConstructOfString (value.Null ∷ value.Reference 3 ∷ []) ≡ Raises NullPointer
constructs_of_null = refl

appends_an_int : told (does AppendInt (value.Int 7 ∷ value.Reference 2 ∷ []))
    ≡ Some (Makes 3, value.Reference 2 ∷ [], Characters [] ∷ Characters (codes "ab") ∷ builder_of (value.Reference 4) ∷ builder_of value.Null ∷ Characters (codes "ab7") ∷ [])
unfolding digits
appends_an_int = refl

appends_strings : map (λ added. text_after (does AppendString (added ∷ value.Reference 2 ∷ []))) (value.Reference 0 ∷ value.Reference 1 ∷ value.Null ∷ [])
    ≡ Some (codes "ab") ∷ Some (codes "abab") ∷ Some (codes "abnull") ∷ []
appends_strings = refl

appends_builders : map (λ added. text_after (does AppendBuilder (added ∷ value.Reference 2 ∷ []))) (value.Reference 2 ∷ value.Reference 3 ∷ value.Null ∷ [])
    ≡ Some (codes "abab") ∷ Some (codes "ab") ∷ Some (codes "abnull") ∷ []
appends_builders = refl

appends_the_low_bits : text_after (does AppendChar (value.Int 0x10041 ∷ value.Reference 2 ∷ [])) ≡ Some (codes "abA")
appends_the_low_bits = refl

-- the String itself, and nothing is made
gives_its_text : told (does ToString (value.Reference 2 ∷ [])) ≡ Some (Free, value.Reference 1 ∷ [], four_objects.heap)
gives_its_text = refl
