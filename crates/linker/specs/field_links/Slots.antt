-- Behind which slots the fields end that classes declare.
use Rattle.std.specs.Prelude.{◌≡◌, ℕ, ◌+◌, ◌-◌, List, [], ◌∷◌, Option, None, length, map, option_map, slice_get, nat_lt, if◌then◌else◌}
use Rattle.std.specs.List.{filter}
use Rattle.model.specs.BuiltInNumbers.{built_in_count}
use Rattle.model.specs.Tree.{FieldTree, FileTree}
use Rattle.model.specs.AccessFlags.{is_static_field, is_instance_field}
use Rattle.model.specs.Classes.{Program, name_of, classes_of}
use Rattle.model.specs.Lookup.{instance_fields}
use Rattle.model.specs.Opening.{static_fields_in}
use Rattle.linker.specs.declared.field_links.chain.Counted.{Counted}
use Rattle.linker.specs.declared.field_links.chain.Counted.TheVariants as counted
use Rattle.linker.specs.declared.field_links.link.FieldLink.{FieldLink}
use Rattle.linker.specs.declared.field_links.link.FieldLink.TheVariants as links
use Rattle.linker.specs.declared.field_links.slots.Ends.{Ends}
use Rattle.linker.specs.field_links.Chains.{count_in}

-- for each class how many slots its objects have, or how many of these count for the limit on cells
unfoldable pub sizes : Counted → Program → List ℕ
sizes what files = map (λ (file : FileTree). count_in what (instance_fields files (name_of file))) (classes_of files)

-- for each file how many static fields it and those before it declare, and so many more
abbrev pub static_ends : ℕ → List FileTree → List ℕ
static_ends n [] = []
static_ends n (file ∷ files) = (n + length (static_fields_in file)) ∷ static_ends (n + length (static_fields_in file)) files

pub record AreEnds (files : Program) (ends : Ends) : Type 0 where
  pub instances : ends.instances.items ≡ sizes counted.Fields files
  pub statics : ends.statics.items ≡ static_ends 0 files

-- ---- slots, counted from where those of the class end; `fields` are those of the class from the field on

abbrev pub static_slot : Ends → ℕ → List FieldTree → Option ℕ
static_slot ends class fields =
    if nat_lt class built_in_count then None else option_map (λ (end : ℕ). end - length (filter is_static_field fields)) (slice_get ends.statics.items (class - built_in_count))

abbrev pub instance_slot : Ends → ℕ → List FieldTree → Option ℕ
instance_slot ends class fields = option_map (λ (end : ℕ). end - length (filter is_instance_field fields)) (slice_get ends.instances.items class)

abbrev pub link_from : Ends → ℕ → FieldTree → List FieldTree → Option FieldLink
link_from ends class f fields =
    if is_static_field f
    then option_map (λ (slot : ℕ). links.Static class slot) (static_slot ends class fields)
    else option_map (λ (slot : ℕ). links.Instance class slot) (instance_slot ends class fields)
