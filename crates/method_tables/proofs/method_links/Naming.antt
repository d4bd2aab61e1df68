-- The methods that entries of constant pools name.
use Rattle.std.proofs.Common.{◌≡◌, ℕ, ◌+◌, ◌<◌, ◌≤◌, List, [], ◌∷◌, ◌++◌, length, get_or, refl, sym, ap, ◌∙◌, subst, arith, below_more, Option, Some, None, inl, inr}
use Rattle.std.proofs.lemmas.Bool.{cases_lt}
use Rattle.std.proofs.lemmas.List.{get_or_past, get_or_append_left, get_or-append-add}
use Rattle.model.specs.Names.{Member}
use Rattle.model.specs.Tree.{Entry, Utf8, Integer, Float, Long, Double, Class, String, Field, Method, InterfaceMethod, NameAndType, Unusable}
use Rattle.model.specs.Spelling.{entry_at}
use Rattle.model.specs.Pool.{method_at, interface_method_at, method_of_entry, interface_method_of_entry}
use Rattle.model.specs.Classes.{Program}
use Rattle.model.specs.Lookup.{find_method, find_interface_method}
use Rattle.method_tables.specs.method_links.Methods.{Names}
use Rattle.method_tables.specs.method_links.Named.{named_by, named_in}

-- ---- rows, one place after the other

module _ {A : Type 0} (d : A) (P : ℕ → A → Type 0) where
  pub each_more : (rows : List A) (n : ℕ) (x : A) → length rows ≡ n → ((k : ℕ) → k < n → P k (get_or rows k d)) → P n x → (k : ℕ)
      → k < n + 1 → P k (get_or (rows ++ x ∷ []) k d)
  each_more rows n x count said now =
      let place : n ≡ length rows + 0 = omega (arith, count) in
      let last : get_or (rows ++ x ∷ []) n d ≡ x = ap (λ (j : ℕ). get_or (rows ++ x ∷ []) j d) place ∙ get_or-append-add rows (x ∷ []) 0 d in
      below_more (λ (k : ℕ). P k (get_or (rows ++ x ∷ []) k d)) n
      (λ k below. subst (P k) (sym (get_or_append_left rows (x ∷ []) d k (omega (arith, below, count)))) (said k below)) (subst (P n) (sym last) now)

-- ---- entries

module _ (files : Program) (pool : List Entry) where
  -- no entry stands past the end
  past_end : (k : ℕ) → length pool + 1 ≤ k → named_in files pool k ≡ None
  past_end k past =
      let none : entry_at pool k ≡ Unusable = get_or_past (Unusable ∷ pool) k Unusable (omega arith) in
      rw none refl

  pub all_named : (row : List (Option ℕ)) (n : ℕ) → length row ≡ n
      → ((k : ℕ) → k < n → Names files (get_or row k None) (named_in files pool k)) → (k : ℕ) → (n ≤ k → length pool + 1 ≤ k)
      → Names files (get_or row k None) (named_in files pool k)
  all_named row n count said k past = elim (cases_lt k n) [
    | inl below ↦ said k below
    | inr above ↦ subst (λ o. Names files o (named_in files pool k)) (sym (get_or_past row k None (omega (arith, count, above)))) (subst (Names files None) (sym (past_end k (past above))) refl)
  ]

  pub by_method : (k : ℕ) (number : Option ℕ) (m : Member) → method_at pool k ≡ Some m → Names files number (named_in files pool k)
      → Names files number (find_method files m)
  by_method k number m e h = subst (Names files number) (ap (λ o. named_by files o (interface_method_at pool k)) e) h

  no_method : (e : Entry) (m : Member) → interface_method_of_entry pool e ≡ Some m → method_of_entry pool e ≡ None
  no_method (Utf8 text) m h = refl
  no_method (Integer bits) m h = refl
  no_method (Float bits) m h = refl
  no_method (Long bits) m h = refl
  no_method (Double bits) m h = refl
  no_method (Class name) m h = refl
  no_method (String text) m h = refl
  no_method (Field class name) m h = refl
  no_method (Method class name) m h = absurd cc
  no_method (InterfaceMethod class name) m h = refl
  no_method (NameAndType name descriptor) m h = refl
  no_method Unusable m h = refl

  pub by_interface : (k : ℕ) (number : Option ℕ) (m : Member) → interface_method_at pool k ≡ Some m
      → Names files number (named_in files pool k) → Names files number (find_interface_method files m)
  by_interface k number m e h =
      subst (Names files number) (ap (λ o. named_by files o (interface_method_at pool k)) (no_method (entry_at pool k) m e) ∙ ap (named_by files None) e) h

  none_named : (number : Option ℕ) → Names files number None → number ≡ None
  none_named None h = refl
  none_named (Some n) h = absurd cc

  pub by_none : (k : ℕ) (number : Option ℕ) → method_at pool k ≡ None → interface_method_at pool k ≡ None
      → Names files number (named_in files pool k) → number ≡ None
  by_none k number e i h = none_named number (subst (Names files number) (ap (λ o. named_by files o (interface_method_at pool k)) e ∙ ap (named_by files None) i) h)
