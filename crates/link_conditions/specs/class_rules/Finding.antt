-- What a search through exception entries finds.
use Rattle.std.specs.Prelude.{◌≡◌, ℕ, Option, Some, None, Bool, false, take, position, slice_get}
use Rattle.std.specs.Option.{option_and_then, option_map_or}
use Rattle.std.specs.List.{list_any}
use Rattle.model.specs.Tree.{CodeTree, MethodTree, FileTree}
use Rattle.model.specs.Classes.{Program, code_in}
use Rattle.link_conditions.specs.class_rules.Rules.{entry_breaks_rule}

-- the first entry of a method's code that breaks the rule
abbrev pub first_entry_in : Program → FileTree → MethodTree → Option ℕ
first_entry_in files file m = option_and_then (λ (c : CodeTree). position (entry_breaks_rule files file) c.exceptions) (code_in m.parts)

-- an entry of the method's code breaks it
abbrev pub some_entry_in : Program → FileTree → MethodTree → Bool
some_entry_in files file m = option_map_or (λ (c : CodeTree). list_any (entry_breaks_rule files file) c.exceptions) (code_in m.parts) false

-- nothing is found where no method has such an entry; what is found is a method, none before which has one, and its first
abbrev pub FindsException : Program → FileTree → Option (ℕ × ℕ) → Type 0
FindsException files file None = list_any (some_entry_in files file) file.methods ≡ false
FindsException files file (Some found) =
    (list_any (some_entry_in files file) (take found.0 file.methods) ≡ false)
    × (option_and_then (first_entry_in files file) (slice_get file.methods found.0) ≡ Some found.1)
