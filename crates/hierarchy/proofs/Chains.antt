-- Walks along superclasses.
use Rattle.std.proofs.Common.{◌≡◌, ℕ, suc, ◌+◌, ◌-◌, ◌<◌, false, ◌||◌, [], ◌∷◌, refl, ap, arith, Option, Some, None}
use Rattle.std.specs.Option.{option_map_or}
use Rattle.model.specs.Names.{Name, name_eq, Member}
use Rattle.model.specs.Classes.{Program, superclass_of, is_within, lineage_of}
use Rattle.model.specs.Lookup.{first_found}

-- one step less
one_less : (n i : ℕ) → i < n → n - i ≡ suc (n - (i + 1))
one_less n i h = omega arith

pub within_step : (files : Program) (n i : ℕ) (c d : Name) → i < n
    → is_within files (n - i) c d ≡ (name_eq c d || option_map_or (λ s. is_within files (n - (i + 1)) s d) (superclass_of files c) false)
within_step files n i c d h = ap (λ k. is_within files k c d) (one_less n i h)

pub lineage_step : (files : Program) (n i : ℕ) (c : Name) → i < n
    → lineage_of files (n - i) c ≡ c ∷ option_map_or (λ s. lineage_of files (n - (i + 1)) s) (superclass_of files c) []
lineage_step files n i c h = ap (λ k. lineage_of files k c) (one_less n i h)

pub next_step : (files : Program) (n i : ℕ) (c s : Name) (f : Name → Option Member) → i < n → f c ≡ None → superclass_of files c ≡ Some s
    → first_found f (lineage_of files (n - i) c) ≡ first_found f (lineage_of files (n - (i + 1)) s)
next_step files n i c s f h e above = rw (lineage_step files n i c h, above, e) refl

pub subclass_next : (files : Program) (n i : ℕ) (c s d : Name) → i < n → name_eq c d ≡ false → superclass_of files c ≡ Some s
    → is_within files (n - i) c d ≡ is_within files (n - (i + 1)) s d
subclass_next files n i c s d h other above = rw (within_step files n i c d h, other, above) refl
