-- Which of the fields that a class itself declares count for the limit on cells.
use Rattle.std.specs.Prelude.{ℕ, Bool, ◌&&◌, length}
use Rattle.std.specs.List.{filter}
use Rattle.model.specs.Tree.{FieldTree, FileTree}
use Rattle.model.specs.AccessFlags.{is_instance_field}
use Rattle.model.specs.Classes.{name_of}
use Rattle.model.specs.HiddenMembers.{is_cell}
use Rattle.model.specs.Lookup.{field_member}

abbrev pub is_own_cell : FileTree → FieldTree → Bool
is_own_cell file field = is_instance_field field && is_cell (field_member (name_of file) file.pool field)

abbrev pub own_cells : FileTree → ℕ
own_cells file = length (filter (is_own_cell file) file.fields)
