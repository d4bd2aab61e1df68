-- What methods of StringBuilder without code read and write, by the words of a frame (JLS 17.4.2; own: a text is a variable).
use Rattle.std.specs.Prelude.{ℕ, List, ◌++◌, Option, None, Bool, false, ◌==◌, if◌then◌else◌, slice_index_or}
use Rattle.std.specs.Option.{option_map, option_to_list}
use Rattle.model.specs.declared.builder_method.BuilderMethod.{BuilderMethod}
use Rattle.model.specs.declared.builder_method.BuilderMethod.TheVariants.{ConstructEmpty, ConstructOfString, AppendString, AppendInt, AppendChar, AppendBuilder, ToString}
use Rattle.model.specs.BuiltInNumbers.{string_builder_number}
use Rattle.race_places.specs.declared.run_actions.Variable.{Variable}
use Rattle.race_places.specs.declared.run_actions.Variable.TheVariants as variable
use Rattle.race_places.specs.declared.run_actions.Action.{Action}
use Rattle.next_accesses.specs.accesses.Accesses.{object_under, read_of, write_of}
use Rattle.next_accesses.specs.declared.builder_texts.TextAccesses.{TextAccesses}

-- ---- what a method accesses, in its order

abbrev pub accesses_in : TextAccesses → List Action
accesses_in told = option_to_list told.first ++ option_to_list told.second ++ option_to_list told.third

abbrev pub one_access : Option Action → TextAccesses
one_access access = record { first = access; second = None; third = None }

-- ---- texts of StringBuilders

-- the text is the first field of its class
abbrev pub text_of : Option ℕ → Option Variable
text_of object = option_map (λ r. variable.InstanceField r string_builder_number 0) object

-- the text of the operand under so many others
abbrev pub text_under : List ℕ → ℕ → Option Variable
text_under operands place = text_of (object_under operands place)

abbrev pub appending : List ℕ → Option Variable → TextAccesses
appending operands added = record { first = read_of false (text_under operands 1); second = read_of false added; third = write_of false (text_under operands 1) }

abbrev pub texts_accessed : List ℕ → BuilderMethod → TextAccesses
texts_accessed operands ConstructEmpty = one_access (write_of false (text_under operands 0))
texts_accessed operands ConstructOfString = one_access (write_of false (text_under operands 1))
texts_accessed operands AppendString = appending operands None
texts_accessed operands AppendInt = appending operands None
texts_accessed operands AppendChar = appending operands None
texts_accessed operands AppendBuilder = appending operands (text_under operands 0)
texts_accessed operands ToString = one_access (read_of false (text_under operands 0))

-- ---- whether it throws

-- the String of a constructor is null
abbrev pub throws_on : List ℕ → BuilderMethod → Bool
throws_on operands ConstructOfString = slice_index_or operands 0 0 == 0
throws_on operands _ = false

-- what it accesses, unless it throws
abbrev pub texts_on : List ℕ → BuilderMethod → TextAccesses
texts_on operands method = if throws_on operands method then one_access None else texts_accessed operands method
