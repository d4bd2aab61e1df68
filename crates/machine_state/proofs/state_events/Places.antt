-- Stacks in their places.
use Rattle.std.proofs.Common.{◌≡◌, ℕ, zero, suc, List, [], ◌∷◌, ◌++◌, Some, refl, sym, ap, subst, length}
use Rattle.std.specs.Prelude.{slice_get, slice_set}
use Rattle.std.proofs.lemmas.Option.{same_Some}
use Rattle.model.specs.Classes.{Program}
use Rattle.model.specs.State.{StackOf}
use Rattle.linked_code.specs.declared.program.LinkedProgram.{LinkedProgram}
use Rattle.thread_stacks.specs.Stacks.{ShownEntry}
use Rattle.machine_state.specs.shown_stacks.Shown.{ShowsStack}
use Rattle.machine_state.specs.state_events.Whole.{ShowsStacks}

pub record IsOwn (trees : Program) (p : LinkedProgram) (ms : List (StackOf ℕ)) (t : ℕ) (from : List ShownEntry) : Type 0 where
  pub own : StackOf ℕ
  pub is : slice_get ms t ≡ Some own
  pub shows : ShowsStack trees p from own

module _ (trees : Program) (p : LinkedProgram) where
  pub own_at : (ss : List (List ShownEntry)) (ms : List (StackOf ℕ)) → ShowsStacks trees p ss ms → (t : ℕ) (from : List ShownEntry)
      → slice_get ss t ≡ Some from
      → IsOwn trees p ms t from
  own_at [] [] h t from e = absurd cc
  own_at [] (m ∷ ms) h t from e = absurd h
  own_at (s ∷ ss) [] h t from e = absurd h
  own_at (s ∷ ss) (m ∷ ms) h zero from e = record { own = m; is = refl; shows = subst (λ x. ShowsStack trees p x m) (same_Some s from e) h.0 }
  own_at (s ∷ ss) (m ∷ ms) h (suc t) from e = let r = own_at ss ms h.1 t from e in record { own = r.own; is = r.is; shows = r.shows }

  pub set_at : (ss : List (List ShownEntry)) (ms : List (StackOf ℕ)) → ShowsStacks trees p ss ms → (t : ℕ) (to : List ShownEntry)
      (own : StackOf ℕ) → ShowsStack trees p to own
      → ShowsStacks trees p (slice_set ss t to) (slice_set ms t own)
  set_at [] [] h t to own s = h
  set_at [] (m ∷ ms) h t to own s = absurd h
  set_at (s ∷ ss) [] h t to own x = absurd h
  set_at (s ∷ ss) (m ∷ ms) h zero to own x = (x, h.1)
  set_at (s ∷ ss) (m ∷ ms) h (suc t) to own x = (h.0, set_at ss ms h.1 t to own x)

  pub one_more : (ss : List (List ShownEntry)) (ms : List (StackOf ℕ)) → ShowsStacks trees p ss ms
      → ShowsStacks trees p (ss ++ [] ∷ []) (ms ++ [] ∷ [])
  one_more [] [] h = (tt, tt)
  one_more [] (m ∷ ms) h = absurd h
  one_more (s ∷ ss) [] h = absurd h
  one_more (s ∷ ss) (m ∷ ms) h = (h.0, one_more ss ms h.1)

  pub as_many : (ss : List (List ShownEntry)) (ms : List (StackOf ℕ)) → ShowsStacks trees p ss ms → length ss ≡ length ms
  as_many [] [] h = refl
  as_many [] (m ∷ ms) h = absurd h
  as_many (s ∷ ss) [] h = absurd h
  as_many (s ∷ ss) (m ∷ ms) h = ap suc (as_many ss ms h.1)

-- a stack that is put where it stood changes nothing
pub set_same : (ss : List (List ShownEntry)) (t : ℕ) (from : List ShownEntry) → slice_get ss t ≡ Some from → slice_set ss t from ≡ ss
set_same [] t from e = refl
set_same (s ∷ ss) zero from e = ap (λ x. x ∷ ss) (sym (same_Some s from e))
set_same (s ∷ ss) (suc t) from e = ap (λ l. s ∷ l) (set_same ss t from e)
