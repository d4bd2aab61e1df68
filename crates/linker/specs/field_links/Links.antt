-- Where the fields are that constant pools name (JVMS 5.4.3.2).
use Rattle.std.specs.Prelude.{◌≡◌, ℕ, List, Option, Some, length, option_map, position, true, if◌then◌else◌}
use Rattle.std.specs.Option.{option_and_then}
use Rattle.std.specs.List.{filter}
use Rattle.model.specs.Names.{Name, Member, member_eq, system_out, system_err}
use Rattle.model.specs.Tree.{FieldTree, FileTree}
use Rattle.model.specs.HiddenMembers.{is_cell}
use Rattle.model.specs.Pool.{field_at}
use Rattle.model.specs.Classes.{Program, name_of, is_subclass}
use Rattle.model.specs.Lookup.{is_static_field, field_of, find_field, instance_fields}
use Rattle.model.specs.Opening.{static_fields}
use Rattle.hierarchy.specs.Places.{class_at, place_of}
use Rattle.linker.specs.declared.field_links.link.FieldLink.{FieldLink}
use Rattle.linker.specs.declared.field_links.link.FieldLink.TheVariants as links

-- ---- slots

-- the slot of a field among those of a list: where it stands first
abbrev pub slot_in : List Member → Member → Option ℕ
slot_in fields field = position (λ (f : Member). member_eq f field) fields

-- how many slots the objects of the class at a place have
abbrev pub slot_count : Program → ℕ → Option ℕ
slot_count files class = option_map (λ (file : FileTree). length (instance_fields files (name_of file))) (class_at files class)

-- how many of them count for the limit on cells
abbrev pub cell_count : Program → ℕ → Option ℕ
cell_count files class =
    option_map (λ (file : FileTree). length (filter is_cell (instance_fields files (name_of file)))) (class_at files class)

-- a field has one slot in the objects of the class that declares it and in those of all subclasses
abbrev pub KeepsSlots : Program → Type 0
KeepsSlots files =
    (class : Name) (field : Member) (slot : ℕ) → is_subclass files class field.class ≡ true
    → slot_in (instance_fields files field.class) field ≡ Some slot → slot_in (instance_fields files class) field ≡ Some slot

-- ---- links

-- a field that the class at a place declares: among the static fields of the files, or in the objects of the class
abbrev pub link_by : Program → Member → ℕ → FieldTree → Option FieldLink
link_by files field class f =
    if is_static_field f
    then option_map (λ (slot : ℕ). links.Static class slot) (slot_in (static_fields files) field)
    else option_map (λ (slot : ℕ). links.Instance class slot) (slot_in (instance_fields files field.class) field)

abbrev pub link_in : Program → Member → ℕ → Option FieldLink
link_in files field class = option_and_then (λ (f : FieldTree). link_by files field class f) (field_of files field)

-- a field that is named by the class that declares it
abbrev pub link_of : Program → Member → Option FieldLink
link_of files field = option_and_then (λ (class : ℕ). link_in files field class) (place_of files field.class)

-- the field that a symbolic reference names; System.out and System.err are the machine's
abbrev pub named_link : Program → Member → Option FieldLink
named_link files named =
    if member_eq named system_out then Some links.SystemOut
    else if member_eq named system_err then Some links.SystemErr
    else option_and_then (link_of files) (find_field files named)

-- the field that the Fieldref of an index names, in the constant pool of the class at a place
abbrev pub field_link : Program → ℕ → ℕ → Option FieldLink
field_link files class index = option_and_then (λ (file : FileTree). option_and_then (named_link files) (field_at file.pool index)) (class_at files class)
