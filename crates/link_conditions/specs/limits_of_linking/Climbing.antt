-- How many instance fields of classes count as cells, so many steps up from each.
use Rattle.std.specs.Prelude.{ℕ, zero, suc, ◌+◌, min, length, List, map, slice_get, Option, Some}
use Rattle.std.specs.Option.{option_and_then, option_map_or}
use Rattle.std.specs.List.{filter, flat_map}
use Rattle.model.specs.Names.{Name}
use Rattle.model.specs.Tree.{FileTree}
use Rattle.model.specs.Classes.{Program, name_of, classes_of, superclass_of, lineage_of}
use Rattle.model.specs.HiddenMembers.{is_cell}
use Rattle.model.specs.Lookup.{own_instance_fields}
use Rattle.hierarchy.specs.Places.{place_of}
use Rattle.link_conditions.specs.declared.limits_of_linking.climb.Climb.{Climb}

-- the superclass so many steps above a class
abbrev pub superclass_after : Program → ℕ → Name → Option Name
superclass_after files zero class = Some class
superclass_after files (suc n) class = option_and_then (superclass_after files n) (superclass_of files class)

-- how many cells the first so many classes declare, from a class upwards
abbrev pub cells_within : Program → ℕ → Name → ℕ
cells_within files n class = length (filter is_cell (flat_map (own_instance_fields files) (lineage_of files n class)))

-- a count that goes no further than one more than is allowed
abbrev pub capped : ℕ → ℕ
capped n = min n 65536

abbrev pub climb : Program → ℕ → Name → Climb
climb files n class = record { next = option_and_then (place_of files) (superclass_after files n class); cells = capped (cells_within files n class) }

-- for each class, in their order
unfoldable pub climbs : Program → ℕ → List Climb
climbs files n = map (λ (file : FileTree). climb files n (name_of file)) (classes_of files)

-- a climb, and from where it leads another one
abbrev pub after : Climb → Climb → Climb
after first second = record { next = second.next; cells = capped (first.cells + second.cells) }

-- by the row of the class where it leads
abbrev pub onward : List Climb → Climb → Climb
onward rows first = option_map_or (after first) (option_and_then (slice_get rows) first.next) first
