-- What the methods of PrintStream print, by the objects of a heap and the word on top of the stack (own).
use Rattle.std.specs.Prelude.{◌<◌, ◌≤◌, ◌++◌, ◌%◌, ◌^◌, ℕ, zero, suc, List, [], ◌∷◌, unwrap_or, map, length, codes, slice_get}
use Rattle.std.specs.Fmt.{signed_decimal}
use Rattle.model.specs.declared.print_method.PrintMethod.{PrintMethod}
use Rattle.model.specs.declared.print_method.PrintMethod.TheVariants.{Println, PrintlnChar, PrintlnInt, PrintlnString, PrintChar, PrintInt, PrintString}
use Rattle.model.specs.declared.instr.Conversion.TheVariants.{ToChar}
use Rattle.model.specs.Ints.{signed, converted}
use Rattle.model.specs.Texts.{Text, int_line}
use Rattle.heap.specs.Heap.{Object}
use Rattle.machine_instructions.specs.thread_methods.Texts.{text_in}

-- the units of a String, each a word; none of another object
abbrev pub units_at : List Object → ℕ → List ℕ
units_at objects reference = unwrap_or (text_in (slice_get objects reference)) []

-- a unit is the low 16 bits of its word
abbrev pub unit_in : ℕ → ℕ
unit_in word = word % 2 ^ 16

-- the text of the String to which a word refers
abbrev pub string_by : List Object → ℕ → Text
string_by objects zero = codes "null"
string_by objects (suc reference) = map unit_in (units_at objects reference)

abbrev pub printed_of : PrintMethod → List Object → ℕ → Text
printed_of Println objects word = 10 ∷ []
printed_of PrintlnChar objects word = converted ToChar word ∷ 10 ∷ []
printed_of PrintlnInt objects word = int_line word
printed_of PrintlnString objects word = string_by objects word ++ 10 ∷ []
printed_of PrintChar objects word = converted ToChar word ∷ []
printed_of PrintInt objects word = signed_decimal (signed word)
printed_of PrintString objects word = string_by objects word

-- for a text that has units, room for so many; for one that has none, none
pub record IsRoomFor (room : ℕ) (text : Text) : Type 0 where
  pub enough : length text ≤ room
  pub needed : 0 < room → 0 < length text
