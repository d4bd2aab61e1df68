-- The first handler that takes an exception, from one to the next.
use Rattle.std.proofs.Common.{◌≡◌, ℕ, zero, suc, Bool, List, [], ◌∷◌, length, drop, refl, sym, subst, Option, Some, None, if◌then◌else◌}
use Rattle.std.specs.Prelude.{find, slice_get}
use Rattle.model.specs.declared.class_file.ExceptionEntry.{ExceptionEntry}
use Rattle.model.specs.Tree.{Entry}
use Rattle.model.specs.Classes.{Program}
use Rattle.linked_code.specs.declared.method.Handler.{Handler}
use Rattle.linked_code.specs.declared.program.LinkedProgram.{LinkedProgram}
use Rattle.linked_code.specs.Methods.{IsHandler, AreHandlers}
use Rattle.machine_state.specs.exception_handlers.Handlers.{IsPlaceOf}

module _ (trees : Program) (p : LinkedProgram) (pool : List Entry) (at : ℕ → ℕ) (test : ExceptionEntry → Bool) where
  -- the entry of a handler at a place
  pub record HasEntry (entries : List ExceptionEntry) (handler : Handler) (k : ℕ) : Type 0 where
    pub entry : ExceptionEntry
    pub is : IsHandler trees p pool at entry handler
    pub rest : find test (drop k entries) ≡ (if test entry then Some entry else find test (drop (suc k) entries))

  pub entry_at : (entries : List ExceptionEntry) (handlers : List Handler) → AreHandlers trees p pool at entries handlers → (k : ℕ)
      (handler : Handler) → slice_get handlers k ≡ Some handler
      → HasEntry entries handler k
  entry_at [] [] h k handler e = absurd cc
  entry_at [] (l ∷ ls) h k handler e = absurd h
  entry_at (x ∷ xs) [] h k handler e = absurd h
  entry_at (x ∷ xs) (l ∷ ls) h zero handler e = let same : l ≡ handler = cc in record { entry = x; is = subst (λ z. IsHandler trees p pool at x z) same h.0; rest = refl }
  entry_at (x ∷ xs) (l ∷ ls) h (suc k) handler e = let r = entry_at xs ls h.1 k handler e in record { entry = r.entry; is = r.is; rest = r.rest }

  pub none_behind : (entries : List ExceptionEntry) (handlers : List Handler) → AreHandlers trees p pool at entries handlers
      → find test (drop (length handlers) entries) ≡ None
  none_behind [] [] h = refl
  none_behind [] (l ∷ ls) h = absurd h
  none_behind (x ∷ xs) [] h = absurd h
  none_behind (x ∷ xs) (l ∷ ls) h = none_behind xs ls h.1

-- so far none was found
pub is_place : (at : ℕ → ℕ) (found : Option ExceptionEntry) (e : ExceptionEntry) (place : ℕ) → found ≡ Some e → at place ≡ e.handler
    → IsPlaceOf at found (Some place)
is_place at found e place is leads = subst (λ o. IsPlaceOf at o (Some place)) (sym is) leads

pub no_place : (at : ℕ → ℕ) (found : Option ExceptionEntry) → found ≡ None → IsPlaceOf at found None
no_place at found is = subst (λ o. IsPlaceOf at o None) (sym is) tt
