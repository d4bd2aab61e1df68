-- What the methods of StringBuilder read and write, by the objects of a heap and the words on top of a stack (own).
use Rattle.std.specs.Prelude.{◌==◌, ◌++◌, ◌-◌, ℕ, zero, suc, List, [], ◌∷◌, Option, Some, None, Bool, true, false, if◌then◌else◌, codes, slice_get, slice_index, unwrap_or}
use Rattle.std.specs.Fmt.{signed_decimal}
use Rattle.model.specs.declared.builder_method.BuilderMethod.{BuilderMethod}
use Rattle.model.specs.declared.builder_method.BuilderMethod.TheVariants.{ConstructEmpty, ConstructOfString, AppendString, AppendInt, AppendChar, AppendBuilder, ToString}
use Rattle.model.specs.declared.instr.Conversion.TheVariants.{ToChar}
use Rattle.model.specs.BuiltInNumbers.{string_builder_number}
use Rattle.model.specs.Ints.{signed, converted}
use Rattle.model.specs.Texts.{Text}
use Rattle.heap.specs.declared.kind.ObjectKind.{ObjectKind}
use Rattle.heap.specs.declared.kind.ObjectKind.TheVariants as kind
use Rattle.heap.specs.Heap.{Object, put_field}
use Rattle.thread_stacks.specs.Stacks.{ShownEntry}
use Rattle.machine_instructions.specs.thread_methods.Moves.{operand_of}
use Rattle.machine_instructions.specs.thread_methods.Texts.{text_by}

abbrev pub is_builder : ObjectKind → Bool
is_builder (kind.Instance class) = class == string_builder_number
is_builder _ = false

abbrev pub is_builder_if : Option Object → Bool
is_builder_if None = false
is_builder_if (Some object) = is_builder object.kind

-- ---- its text: its only field refers to it

-- the word of the field; 0 of another object
abbrev pub kept_in : Option Object → ℕ
kept_in None = 0
kept_in (Some object) = if is_builder object.kind then slice_index object.words 0 else 0

abbrev pub kept_word : List Object → ℕ → ℕ
kept_word objects builder = kept_in (slice_get objects builder)

-- the units of the String to which a word refers; none of null, and of another object
abbrev pub units_by : List Object → ℕ → Text
units_by objects word = unwrap_or (text_by objects word) []

abbrev pub kept_text : List Object → ℕ → Text
kept_text objects builder = units_by objects (kept_word objects builder)

-- a String becomes it; another object stays
abbrev pub with_kept : List Object → (builder word : ℕ) → List Object
with_kept objects builder word = if is_builder_if (slice_get objects builder) then put_field objects builder 0 word else objects

-- ---- what is added

-- for the String or the StringBuilder to which a word refers: for null the word `null`
abbrev pub added_string : List Object → ℕ → Text
added_string objects zero = codes "null"
added_string objects (suc string) = units_by objects (suc string)

abbrev pub added_builder : List Object → ℕ → Text
added_builder objects zero = codes "null"
added_builder objects (suc builder) = kept_text objects builder

-- for the word on top, by a method; the others add nothing
abbrev pub added_by : BuilderMethod → List Object → ℕ → Text
added_by ConstructEmpty objects word = []
added_by ConstructOfString objects word = []
added_by AppendString objects word = added_string objects word
added_by AppendInt objects word = signed_decimal (signed word)
added_by AppendChar objects word = converted ToChar word ∷ []
added_by AppendBuilder objects word = added_builder objects word
added_by ToString objects word = []

-- behind the text of the receiver, which is under it
abbrev pub appended_by : BuilderMethod → List Object → List ShownEntry → Text
appended_by method objects stack = kept_text objects (operand_of 1 stack - 1) ++ added_by method objects (operand_of 0 stack)

abbrev pub appends : BuilderMethod → Bool
appends ConstructEmpty = false
appends ConstructOfString = false
appends AppendString = true
appends AppendInt = true
appends AppendChar = true
appends AppendBuilder = true
appends ToString = false
