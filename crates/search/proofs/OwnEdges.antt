-- Class files that name methods with edges of the machine's own, one after another.
use Rattle.std.proofs.Common.{◌≡◌, ℕ, zero, suc, [], ◌∷◌, ◌+◌, ◌<◌, ◌≤◌, ◌||◌, length, take, Option, Some, None, true, false, refl, sym, ap, ◌∙◌, get_or, arith}
use Rattle.std.specs.Prelude.{slice_get}
use Rattle.std.specs.List.{list_any}
use Rattle.std.specs.Option.{option_map_or}
use Rattle.std.proofs.lemmas.Bool.{false≢true}
use Rattle.std.proofs.lemmas.List.{take_all}
use Rattle.std.proofs.lemmas.List.Folds.{list_any_at, list_any_more}
use Rattle.std.proofs.lemmas.Option.{get_or_from_slice_get, slice_get_within, none-some}
use Rattle.model.specs.Classes.{Program}
use Rattle.model.specs.Tree.{FileTree}
use Rattle.search.specs.OwnEdges.{names_own_edge, names_own_edges}

abbrev pub DoNone : Program → ℕ → Type 0
DoNone files i = list_any names_own_edge (take i files) ≡ false

pub one_does : (files : Program) (i : ℕ) → option_map_or names_own_edge (slice_get files i) false ≡ true → names_own_edges files ≡ true
one_does files i = by (slice_get files i) refl
  where
    by : (o : Option FileTree) → slice_get files i ≡ o → option_map_or names_own_edge o false ≡ true → names_own_edges files ≡ true
    by None is e = absurd (false≢true e)
    by (Some f) is e =
        list_any_at names_own_edge files i f (slice_get_within files i f is) (ap names_own_edge (get_or_from_slice_get files i f f is) ∙ e)

not_none : (files : Program) (i : ℕ) → i < length files → slice_get files i ≡ None → ⊥
not_none [] i lt is = absurd (omega (arith, lt))
not_none (f ∷ files) zero lt is = none-some f (sym is)
not_none (f ∷ files) (suc i) lt is = not_none files i (omega (arith, lt)) is

pub none_more : (files : Program) (i : ℕ) → i < length files → DoNone files i → option_map_or names_own_edge (slice_get files i) false ≡ false → DoNone files (i + 1)
none_more files i lt none = by (slice_get files i) refl
  where
    by : (o : Option FileTree) → slice_get files i ≡ o → option_map_or names_own_edge o false ≡ false → DoNone files (i + 1)
    by None is e = absurd (not_none files i lt is)
    by (Some f) is e =
        list_any_more names_own_edge files i f lt ∙ (ap (λ b. b || names_own_edge (get_or files i f)) none ∙ (ap names_own_edge (get_or_from_slice_get files i f f is) ∙ e))

pub none_does : (files : Program) (i : ℕ) → length files ≤ i → DoNone files i → names_own_edges files ≡ false
none_does files i le none = sym (ap (list_any names_own_edge) (take_all i files le)) ∙ none
