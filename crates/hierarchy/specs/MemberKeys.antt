-- A table of the members that classes declare, by numbers of the texts that name and describe them.
use Rattle.std.specs.Prelude.{◌≡◌, ℕ, List, ◌∷◌, Option, Some, None, Bool, false, ◌&&◌, ◌||◌, ◌==◌, not, is_some, map, get_or, position, slice_get}
use Rattle.std.specs.Option.{option_and_then}
use Rattle.std.specs.List.{list_any}
use Rattle.model.specs.Names.{Name, name_eq, Member}
use Rattle.model.specs.Tree.{Entry, FieldTree, MethodTree, FileTree}
use Rattle.model.specs.Pool.{utf8_of, utf8_at}
use Rattle.model.specs.Classes.{Program}
use Rattle.hierarchy.specs.Places.{class_at}
use Rattle.hierarchy.specs.declared.member_keys.MemberKey.{MemberKey}
use Rattle.hierarchy.specs.declared.member_keys.ClassKeys.{ClassKeys}

-- ---- numbers of texts

-- the number of a text: its place among these; none where there is no text, or it isn't one of these
abbrev pub number_of : List Name → Option Name → Option ℕ
number_of texts text = option_and_then (λ t. position (name_eq t) texts) text

-- those of the entries of a constant pool; none of an entry that is no Utf8
abbrev pub numbers_of : List Name → List Entry → List (Option ℕ)
numbers_of texts pool = map (λ e. number_of texts (utf8_of e)) pool

-- that of the entry of an index
abbrev pub number_at : List (Option ℕ) → ℕ → Option ℕ
number_at numbers index = get_or (None ∷ numbers) index None

-- the text of an index is there, and has no number
abbrev pub is_unnumbered : List Entry → List (Option ℕ) → ℕ → Bool
is_unnumbered pool numbers index = is_some (utf8_at pool index) && not (is_some (number_at numbers index))

-- two numbers are there, and are one
abbrev pub is_same_number : Option ℕ → Option ℕ → Bool
is_same_number None other = false
is_same_number (Some number) None = false
is_same_number (Some number) (Some other) = number == other

-- ---- keys of members

-- by the indices of the name and of the descriptor
abbrev pub key_of : List (Option ℕ) → ℕ → ℕ → MemberKey
key_of numbers name descriptor = record { name = number_at numbers name; descriptor = number_at numbers descriptor }

abbrev pub field_key : List (Option ℕ) → FieldTree → MemberKey
field_key numbers f = key_of numbers f.name f.descriptor

abbrev pub method_key : List (Option ℕ) → MethodTree → MemberKey
method_key numbers m = key_of numbers m.name m.descriptor

-- of the member that is sought
abbrev pub key_sought : List Name → Member → MemberKey
key_sought texts m = record { name = number_of texts (Some m.name); descriptor = number_of texts (Some m.descriptor) }

-- the second key has the name and the descriptor of the first
abbrev pub is_of_key : MemberKey → MemberKey → Bool
is_of_key sought key = is_same_number key.name sought.name && is_same_number key.descriptor sought.descriptor

-- ---- members whose texts are all numbered

abbrev pub has_unnumbered : List Entry → List (Option ℕ) → ℕ → ℕ → Bool
has_unnumbered pool numbers name descriptor = is_unnumbered pool numbers name || is_unnumbered pool numbers descriptor

abbrev pub has_unnumbered_field : List Entry → List (Option ℕ) → FieldTree → Bool
has_unnumbered_field pool numbers f = has_unnumbered pool numbers f.name f.descriptor

abbrev pub has_unnumbered_method : List Entry → List (Option ℕ) → MethodTree → Bool
has_unnumbered_method pool numbers m = has_unnumbered pool numbers m.name m.descriptor

-- ---- what is so of a table

-- The keys are those of the members of a class, and each text of these has a number.
pub record HasKeys (texts : List Name) (file : FileTree) (keys : ClassKeys) : Type 0 where
  pub of_fields : keys.fields.items ≡ map (field_key (numbers_of texts file.pool)) file.fields
  pub of_methods : keys.methods.items ≡ map (method_key (numbers_of texts file.pool)) file.methods
  pub fields_numbered : list_any (has_unnumbered_field file.pool (numbers_of texts file.pool)) file.fields ≡ false
  pub methods_numbered : list_any (has_unnumbered_method file.pool (numbers_of texts file.pool)) file.methods ≡ false

-- It is so of each class that the table has; the empty table has none.
abbrev pub HasMemberKeys : Program → List Name → List ClassKeys → Type 0
HasMemberKeys files texts table =
    (place : ℕ) (keys : ClassKeys) (file : FileTree) → slice_get table place ≡ Some keys → class_at files place ≡ Some file
    → HasKeys texts file keys
