-- A class and those above it, one behind the other.
use Rattle.std.proofs.Common.{arith, ◌≡◌, ◌<◌, ◌≤◌, ◌+◌, ◌-◌, sym, ap, ◌∙◌, ℕ, suc, List, [], ◌∷◌, ◌++◌, Option, Some, None}
use Rattle.std.specs.Option.{option_map_or}
use Rattle.std.proofs.lemmas.List.{append-nil, append_assoc}
use Rattle.model.specs.Classes.{Program, lineage_of, superclass_of}
use Rattle.model.specs.Names.{Name}

module _ (files : Program) (n step : ℕ) (below : step < n) (names : List Name) (name : Name) (all : List Name)
    (so_far : names ++ lineage_of files (n - step) name ≡ all) where
  less : n - step ≡ suc (n - (step + 1))
  less = omega (arith, below)

  abbrev above : Option Name → List Name
  above o = option_map_or (λ s. lineage_of files (n - (step + 1)) s) o []

  by : names ++ (name ∷ above (superclass_of files name)) ≡ all
  by = sym (ap (λ k. names ++ lineage_of files k name) less) ∙ so_far

  pub one_more : (next : Name) → Some next ≡ superclass_of files name → (more : List Name) → more ≡ names ++ name ∷ []
      → more ++ lineage_of files (n - (step + 1)) next ≡ all
  one_more next e more is =
      ap (λ l. l ++ lineage_of files (n - (step + 1)) next) is
      ∙ (append_assoc names (name ∷ []) (lineage_of files (n - (step + 1)) next)
      ∙ (ap (λ o. names ++ (name ∷ above o)) e ∙ by))

  pub last : None ≡ superclass_of files name → (more : List Name) → more ≡ names ++ name ∷ [] → more ≡ all
  last e more is = is ∙ (ap (λ o. names ++ (name ∷ above o)) e ∙ by)

-- at the end none are left
pub all_named : (files : Program) (n step : ℕ) → n ≤ step → (names : List Name) (name : Name) (all : List Name) → names ++ lineage_of files (n - step) name ≡ all → names ≡ all
all_named files n step past names name all e =
    let none : n - step ≡ 0 = omega (arith, past) in
    sym (append-nil names) ∙ (sym (ap (λ k. names ++ lineage_of files k name) none) ∙ e)
