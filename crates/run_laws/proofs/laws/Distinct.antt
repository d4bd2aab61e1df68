-- Texts, each once: what texts behind others add to them.
use Rattle.std.proofs.Common.{◌≡◌, ℕ, suc, ◌≤◌, List, [], ◌∷◌, ◌++◌, cond, filter, length, Bool, true, false, refl, ap, ◌∙◌, arith}
use Rattle.std.proofs.lemmas.List.Elements.{filter-append}
use Rattle.model.specs.Names.{Name}
use Rattle.model.specs.StringConstants.{is_other_text, distinct}

length_kept : (c : Bool) (x : Name) (ys : List Name) (n : ℕ) → length ys ≤ n → length (cond c (x ∷ ys) ys) ≤ suc n
length_kept true x ys n h = omega (arith, h)
length_kept false x ys n h = omega (arith, h)

pub length_filtered : (p : Name → Bool) (xs : List Name) → length (filter p xs) ≤ length xs
length_filtered p [] = omega arith
length_filtered p (x ∷ xs) = length_kept (p x) x (filter p xs) (length xs) (length_filtered p xs)

pub length_distinct : (xs : List Name) → length (distinct xs) ≤ length xs
length_distinct [] = omega arith
length_distinct (x ∷ xs) = omega (arith, length_distinct xs, length_filtered (is_other_text x) (distinct xs))

-- those that were there stand first, and of the others there are at most as many as there were
pub record Added (xs ys : List Name) : Type 0 where
  pub others : List Name
  pub are : distinct (xs ++ ys) ≡ distinct xs ++ others
  pub count : length others ≤ length ys

pub distinct_added : (xs ys : List Name) → Added xs ys
distinct_added [] ys = record { others = distinct ys; are = refl; count = length_distinct ys }
distinct_added (x ∷ xs) ys =
    let later = distinct_added xs ys in
    let other = is_other_text x in
    record {
      others = filter other later.others;
      are = ap (λ l. x ∷ filter other l) later.are ∙ ap (λ l. x ∷ l) (filter-append other (distinct xs) later.others);
      count = omega (arith, later.count, length_filtered other later.others);
    }
