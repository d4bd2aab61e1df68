-- What the tables of links hold.
use Rattle.std.specs.Prelude.{◌≡◌, ℕ, ◌<◌, ◌^◌, List, Option, None, length, slice_get, slice_index_or}
use Rattle.std.specs.Option.{option_and_then}
use Rattle.model.specs.Tree.{FileTree}
use Rattle.model.specs.Pool.{field_at}
use Rattle.model.specs.Classes.{Program}
use Rattle.model.specs.Opening.{static_fields}
use Rattle.linker.specs.declared.field_links.link.FieldLink.{FieldLink}
use Rattle.linker.specs.field_links.Links.{named_link, field_link, slot_count, cell_count, KeepsSlots}

pub record FieldTables : Type 0 where
  -- for each class, by the indices of its constant pool
  pub rows : List (List (Option FieldLink))
  -- for each class
  pub sizes : List ℕ
  -- for each class
  pub cells : List ℕ
  pub statics : ℕ

-- what a row says of an index
abbrev pub in_row : List (Option FieldLink) → ℕ → Option FieldLink
in_row row index = slice_index_or row index None

-- a row says of each index where the field is that it names
abbrev pub IsRow : Program → FileTree → List (Option FieldLink) → Type 0
IsRow files file row = (index : ℕ) → index < 2 ^ 16 → in_row row index ≡ option_and_then (named_link files) (field_at file.pool index)

-- what the rows say of an index in the class at a place
abbrev pub in_rows : List (List (Option FieldLink)) → ℕ → ℕ → Option FieldLink
in_rows rows class index = option_and_then (λ (row : List (Option FieldLink)). in_row row index) (slice_get rows class)

abbrev pub AreRows : Program → List (List (Option FieldLink)) → Type 0
AreRows files rows = (class index : ℕ) → index < 2 ^ 16 → in_rows rows class index ≡ field_link files class index

-- Tables say where the fields of a program are.
pub record AreFieldLinks (files : Program) (tables : FieldTables) : Type 0 where
  pub rows : AreRows files tables.rows
  pub sizes : (class : ℕ) → slice_get tables.sizes class ≡ slot_count files class
  pub cells : (class : ℕ) → slice_get tables.cells class ≡ cell_count files class
  pub statics : tables.statics ≡ length (static_fields files)
  -- a slot of a class is one of its subclasses
  pub kept : KeepsSlots files
