-- The numbers of texts.
use Rattle.std.proofs.Common.{◌≡◌, ℕ, ◌≤◌, Bool, true, false, not, cond, List, length, refl, ap, ◌∙◌, arith, Option, Some, None}
use Rattle.std.specs.Prelude.{position, nat_lt}
use Rattle.std.specs.Option.{option_and_then, option_map_or}
use Rattle.std.specs.List.{position_or_len}
use Rattle.std.proofs.lemmas.List.Sums.{prefix_len-le-length}
use Rattle.std.proofs.lemmas.Bool.Decides.{nat_tests}
use Rattle.model.specs.Names.{name_eq}
use Rattle.model.specs.Tree.{FileTree}
use Rattle.model.specs.Pool.{string_at}
use Rattle.model.specs.Classes.{Program}
use Rattle.model.specs.StringConstants.{string_texts}
use Rattle.hierarchy.specs.Places.{class_at}
use Rattle.linker.specs.field_links.Numbers.{text_number, string_number}

same_at_end : (m n : ℕ) → m ≤ n → nat_lt m n ≡ false → n ≡ m
same_at_end m n le h = grind (arith, nat_tests)

pub position_fits : {A : Type 0} (p : A → Bool) (xs : List A) → position_or_len p xs ≤ length xs
position_fits p xs = prefix_len-le-length (λ x. not (p x)) xs

pub position_or : {A : Type 0} (p : A → Bool) (xs : List A)
    → option_map_or (λ (n : ℕ). n) (position p xs) (length xs) ≡ position_or_len p xs
position_or p xs = by (nat_lt (position_or_len p xs) (length xs)) refl
  where
    by : (b : Bool) → nat_lt (position_or_len p xs) (length xs) ≡ b
        → option_map_or (λ (n : ℕ). n) (cond b (Some (position_or_len p xs)) None) (length xs) ≡ position_or_len p xs
    by true h = refl
    by false h = same_at_end (position_or_len p xs) (length xs) (prefix_len-le-length (λ x. not (p x)) xs) h

pub number_is : (files : Program) (class index : ℕ) (file : FileTree) (text : List ℕ) → class_at files class ≡ Some file
    → string_at file.pool index ≡ Some text
    → option_map_or (λ (n : ℕ). n) (string_number files class index) (length (string_texts files))
    ≡ position_or_len (name_eq text) (string_texts files)
number_is files class index file text at is =
    ap (λ (o : Option FileTree). option_map_or (λ (n : ℕ). n) (option_and_then (λ (file : FileTree). option_and_then (text_number (string_texts files)) (string_at file.pool index)) o) (length (string_texts files))) at
    ∙ ap (λ (o : Option (List ℕ)). option_map_or (λ (n : ℕ). n) (option_and_then (text_number (string_texts files)) o) (length (string_texts files))) is
    ∙ position_or (name_eq text) (string_texts files)

pub number_fits : (files : Program) (class index : ℕ)
    → option_map_or (λ (n : ℕ). n) (string_number files class index) (length (string_texts files)) ≤ length (string_texts files)
number_fits files class index = by_class (class_at files class)
  where
    texts : List (List ℕ)
    texts = string_texts files

    by_text : (o : Option (List ℕ)) → option_map_or (λ (n : ℕ). n) (option_and_then (text_number (string_texts files)) o)
        (length (string_texts files)) ≤ length (string_texts files)
    by_text None = omega arith
    by_text (Some text) = omega (arith, position_or (name_eq text) (string_texts files), prefix_len-le-length (λ (t : List ℕ). not (name_eq text t)) (string_texts files))

    by_class : (o : Option FileTree) → option_map_or (λ (n : ℕ). n)
        (option_and_then (λ (file : FileTree). option_and_then (text_number (string_texts files)) (string_at file.pool index)) o)
        (length (string_texts files)) ≤ length (string_texts files)
    by_class None = omega arith
    by_class (Some file) = by_text (string_at file.pool index)
