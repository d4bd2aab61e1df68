-- The constants of static fields (JVMS 4.7.2, 5.5 step 6), and the slots of static fields.
use Rattle.std.specs.Prelude.{ℕ, suc, ◌-◌, List, [], ◌∷◌, Option, Some, None, Bool, true, false, option_map, length, take}
use Rattle.model.specs.BuiltInNumbers.{built_in_count}
use Rattle.model.specs.Tree.{FieldTree, FileTree}
use Rattle.model.specs.Classes.{Program, name_of}
use Rattle.model.specs.Lookup.{field_member}
use Rattle.model.specs.Operands.{words}
use Rattle.model.specs.Opening.{static_fields}
use Rattle.model.specs.Worlds.{put_value}
use Rattle.model.specs.ClassInitialisation.{constant_value}
use Rattle.linked_code.specs.declared.class.LinkedConstant.{LinkedConstant}

-- the word that a field has as the initialisation of its class begins, if it has a constant
abbrev pub word_in : Program → FileTree → FieldTree → Option ℕ
word_in files file f = option_map (put_value words (field_member (name_of file) file.pool f)) (constant_value words files file.pool f)

-- how many static fields the files before the class of a number declare
abbrev pub slots_before : Program → ℕ → ℕ
slots_before files class = length (static_fields (take (class - built_in_count) files))

-- what a field adds to the constants of its class, and to the slots
abbrev pub constant_at : ℕ → Option ℕ → List LinkedConstant
constant_at slot None = []
constant_at slot (Some word) = record { slot = slot; word = word } ∷ []

abbrev pub slot_behind : ℕ → Bool → ℕ
slot_behind slot true = suc slot
slot_behind slot false = slot
