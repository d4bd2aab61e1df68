-- The numbers of the classes and texts that constant pools name.
use Rattle.std.specs.Prelude.{◌≡◌, ℕ, ◌<◌, ◌^◌, List, [], Option, None, map, position, slice_get, slice_index_or}
use Rattle.std.specs.Option.{option_and_then}
use Rattle.std.specs.List.{position_or_len}
use Rattle.model.specs.Tree.{FileTree}
use Rattle.model.specs.Names.{Name, name_eq}
use Rattle.model.specs.Pool.{class_name_at, string_at}
use Rattle.model.specs.StringConstants.{division_text, main_text, string_texts}
use Rattle.model.specs.Texts.{Text, decoded}
use Rattle.model.specs.Classes.{Program}
use Rattle.hierarchy.specs.Places.{class_at, place_of}

-- what a row says of an index
abbrev pub number_in : List (Option ℕ) → ℕ → Option ℕ
number_in row index = slice_index_or row index None

-- what the rows say of an index in the class at a place
abbrev pub number_at : List (List (Option ℕ)) → ℕ → ℕ → Option ℕ
number_at rows class index = option_and_then (λ (row : List (Option ℕ)). number_in row index) (slice_get rows class)

-- ---- classes

-- the place of the class that the Class of an index names, in the constant pool of the class at a place
abbrev pub class_number : Program → ℕ → ℕ → Option ℕ
class_number files class index = option_and_then (λ (file : FileTree). option_and_then (place_of files) (class_name_at file.pool index)) (class_at files class)

-- a row says of each index which class it names
abbrev pub IsClassRow : Program → FileTree → List (Option ℕ) → Type 0
IsClassRow files file row = (index : ℕ) → index < 2 ^ 16 → number_in row index ≡ option_and_then (place_of files) (class_name_at file.pool index)

abbrev pub AreClassNumbers : Program → List (List (Option ℕ)) → Type 0
AreClassNumbers files rows = (class index : ℕ) → index < 2 ^ 16 → number_at rows class index ≡ class_number files class index

-- ---- texts of string constants

-- the number of a text among texts
abbrev pub text_number : List Name → Name → Option ℕ
text_number texts text = position (name_eq text) texts

-- the number of the text of the String of an index, in the constant pool of the class at a place
abbrev pub string_number : Program → ℕ → ℕ → Option ℕ
string_number files class index = option_and_then (λ (file : FileTree). option_and_then (text_number (string_texts files)) (string_at file.pool index)) (class_at files class)

-- a row says of each index which text its String has
abbrev pub IsStringRow : List Name → FileTree → List (Option ℕ) → Type 0
IsStringRow texts file row = (index : ℕ) → index < 2 ^ 16 → number_in row index ≡ option_and_then (text_number texts) (string_at file.pool index)

abbrev pub SayNumbers : Program → List (List (Option ℕ)) → Type 0
SayNumbers files rows = (class index : ℕ) → index < 2 ^ 16 → number_at rows class index ≡ string_number files class index

pub record StringTables : Type 0 where
  -- for each class, by the indices of its constant pool
  pub rows : List (List (Option ℕ))
  -- in UTF-16 code units, by their numbers
  pub texts : List Text
  -- the number of the empty one, of what a division by zero tells, and of the name of the first thread
  pub empty : ℕ
  pub division : ℕ
  pub main : ℕ

pub record AreStringNumbers (files : Program) (tables : StringTables) : Type 0 where
  pub rows : SayNumbers files tables.rows
  pub texts : tables.texts ≡ map decoded (string_texts files)
  pub empty : tables.empty ≡ position_or_len (name_eq []) (string_texts files)
  pub division : tables.division ≡ position_or_len (name_eq division_text) (string_texts files)
  pub main : tables.main ≡ position_or_len (name_eq main_text) (string_texts files)
