-- The indices of the interfaces of a built-in class, one after another.
use Rattle.std.proofs.Common.{◌≡◌, ℕ, ◌+◌, ◌<◌, List, [], ◌∷◌, length, map, drop, get_or, subst, sym, ap, ◌∙◌, add-one, drop-cons}
use Rattle.std.specs.List.{drop-map}
use Rattle.std.proofs.lemmas.List.{length-map}
use Rattle.model.specs.Names.{Name}
use Rattle.model.specs.BuiltInForm.{indices_from}

module _ {X : Type 0} (name : X → Name) (xs : List X) (i : ℕ) (less : i < length xs) where
  abbrev names : List Name
  names = map name xs

  first : drop i names ≡ get_or names i [] ∷ drop (i + 1) names
  first = drop-cons names i [] (subst (λ n. i < n) (sym (length-map xs name)) less) ∙ ap (λ k. get_or names i [] ∷ drop k names) (sym (add-one i))

  -- from a place on: the index of the name there, and those behind it
  pub indices_behind : (at : ℕ) → indices_from at (map name (drop i xs)) ≡ at ∷ indices_from (at + 2) (map name (drop (i + 1) xs))
  indices_behind at =
      ap (indices_from at) (sym (drop-map name i xs) ∙ first)
      ∙ ap (λ (l : List Name). at ∷ indices_from (at + 2) l) (drop-map name (i + 1) xs)
