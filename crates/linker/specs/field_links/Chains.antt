-- Sums up the chains of superclasses.
use Rattle.std.specs.Prelude.{ℕ, zero, suc, ◌+◌, List, length, map, slice_get}
use Rattle.std.specs.Option.{option_and_then, option_map_or}
use Rattle.std.specs.List.{filter}
use Rattle.model.specs.Names.{Member}
use Rattle.model.specs.Tree.{FileTree}
use Rattle.model.specs.AccessFlags.{is_instance_field}
use Rattle.model.specs.Classes.{Program, super_name_of, classes_of}
use Rattle.model.specs.HiddenMembers.{is_cell}
use Rattle.hierarchy.specs.Places.{place_of}
use Rattle.link_conditions.specs.limits_of_linking.Cells.{own_cells}
use Rattle.linker.specs.declared.field_links.chain.Counted.{Counted}
use Rattle.linker.specs.declared.field_links.chain.Counted.TheVariants as counted
use Rattle.linker.specs.declared.field_links.chain.Shape.{Shape}

-- how many instance fields a class itself declares: all, or those that count for the limit on cells
abbrev pub own_count : Counted → FileTree → ℕ
own_count counted.Fields file = length (filter is_instance_field file.fields)
own_count counted.Cells file = own_cells file

-- and how many there are in a list
abbrev pub count_in : Counted → List Member → ℕ
count_in counted.Fields fields = length fields
count_in counted.Cells fields = length (filter is_cell fields)

abbrev pub shape_of : Counted → Program → FileTree → Shape
shape_of what files file = record { superclass = option_and_then (place_of files) (super_name_of file); fields = own_count what file }

-- for each class, in their order
unfoldable pub shapes : Counted → Program → List Shape
shapes what files = map (shape_of what files) (classes_of files)

-- how many fields the first so many classes declare, from the one at a place upwards
abbrev pub chain_sum : List Shape → ℕ → ℕ → ℕ
chain_sum rows zero place = 0
chain_sum rows (suc n) place =
    option_map_or (λ (row : Shape). row.fields + option_map_or (λ (above : ℕ). chain_sum rows n above) row.superclass 0) (slice_get rows place) 0
