-- The rows of a table, one for each index.
use Rattle.std.proofs.Common.{◌≡◌, ℕ, ◌+◌, ◌<◌, ◌≤◌, List, [], ◌∷◌, ◌++◌, length, get_or, refl, sym, ap, ◌∙◌, arith, below_more, inl, inr}
use Rattle.std.proofs.lemmas.Bool.{cases_lt}
use Rattle.std.proofs.lemmas.List.{get_or_past, get_or_append_left, get_or-append-add}
use Rattle.model.specs.Tree.{Unusable, FileTree}
use Rattle.model.specs.Spelling.{entry_at}
use Rattle.model.specs.Classes.{Program}
use Rattle.link_conditions.specs.declared.resolution.table.Row.{Row}
use Rattle.link_conditions.specs.resolution.Rows.{nothing, row_of}

-- no entry stands past the end
past_end : (files : Program) (file : FileTree) (k : ℕ) → length file.pool + 1 ≤ k → row_of files file k ≡ nothing
past_end files file k past =
    let none : entry_at file.pool k ≡ Unusable = get_or_past (Unusable ∷ file.pool) k Unusable (omega arith) in
    rw none refl

module _ (files : Program) (file : FileTree) where
  -- what the rows before an index say
  abbrev pub Told : List Row → ℕ → Type 0
  Told rows n = (k : ℕ) → k < n → get_or rows k nothing ≡ row_of files file k

  -- one row more
  pub one_more : (rows : List Row) (n : ℕ) (row : Row) → length rows ≡ n → Told rows n → row ≡ row_of files file n
      → Told (rows ++ row ∷ []) (n + 1)
  one_more rows n row count said is_so =
      let last : get_or (rows ++ row ∷ []) n nothing ≡ row = ap (λ (j : ℕ). get_or (rows ++ row ∷ []) j nothing) (omega (arith, count)) ∙ get_or-append-add rows (row ∷ []) 0 nothing in
      below_more (λ (k : ℕ). get_or (rows ++ row ∷ []) k nothing ≡ row_of files file k) n
      (λ k below. get_or_append_left rows (row ∷ []) nothing k (omega (arith, below, count)) ∙ said k below) (last ∙ is_so)

  -- those of all entries
  pub all_told : (rows : List Row) (n : ℕ) → length rows ≡ n → Told rows n → (k : ℕ) → (n ≤ k → length file.pool + 1 ≤ k)
      → get_or rows k nothing ≡ row_of files file k
  all_told rows n count said k past = elim (cases_lt k n) [
    | inl below ↦ said k below
    | inr above ↦ get_or_past rows k nothing (omega (arith, count, above)) ∙ sym (past_end files file k (past above))
  ]
