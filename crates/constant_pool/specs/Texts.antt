-- What the texts of a pool are, and which of them are the same.
use Rattle.std.specs.Prelude.{◌≡◌, ℕ, suc, List, [], ◌∷◌, map, Option, Some, None, nat_lt, if◌then◌else◌}
use Rattle.std.specs.Str.{bytes_eq}
use Rattle.std.specs.Cmp.Lexicographic.{slice_cmp}
use Rattle.std.specs.Ordering.{nat_cmp}
use Rattle.std.specs.BTreeMap.{BTreeMap, get_by}
use denote.Ref.{Bor}
use Rattle.model.specs.Tree.{Entry}
use Rattle.model.specs.Spelling.{text_of}
use Rattle.model.specs.Descriptors.{is_unqualified, is_class_name}
use Rattle.model.specs.DescriptorScan.{is_field_descriptor, method_slots}
use Rattle.model.specs.Conditions.{text_at, begins_with, is_method_name, is_class_or_array}
use Rattle.constant_pool.specs.declared.kind.TextKind.{TextKind}

abbrev pub kind_of : List ℕ → TextKind
kind_of text = record {
  is_unqualified = is_unqualified text;
  is_method_name = is_method_name text;
  is_class_name = is_class_name text;
  is_class_or_array = is_class_or_array text;
  is_field_descriptor = is_field_descriptor text;
  begins_as_method = begins_with 40 text;
  method_slots = method_slots text;
}

-- the text of each index from 0 on, none where it names no Utf8
abbrev pub texts : List Entry → List (List ℕ)
texts pool = [] ∷ map text_of pool

-- how many texts stand before the first that is this one
abbrev pub first_place : List (List ℕ) → List ℕ → ℕ
first_place [] text = 0
first_place (t ∷ others) text = if bytes_eq t text then 0 else suc (first_place others text)

-- the first index that has the text of this one
abbrev pub first_index : List Entry → ℕ → ℕ
first_index pool index = first_place (texts pool) (text_at pool index)

-- the map has the first place of each text that stands among so many, and of no other
abbrev pub HasPlaces : List (List ℕ) → ℕ → BTreeMap (Bor (List ℕ)) ℕ → Type 0
HasPlaces all count seen = (text : List ℕ) → get_by (λ k. slice_cmp nat_cmp text k.now) seen ≡ (if nat_lt (first_place all text) count then Some (first_place all text) else None)
