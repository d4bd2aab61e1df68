-- What calls of monitors keep of owners.
use Rattle.std.proofs.Common.{◌≡◌, ℕ, zero, suc, List, [], ◌∷◌, ◌++◌, Option, Some, None, refl, ap, ◌∙◌}
use Rattle.std.specs.Prelude.{slice_set, slice_index_or}
use Rattle.std.proofs.lemmas.Bool.{cond_both, eqb-false}
use Rattle.model.specs.State.{Monitor}
use Rattle.model.specs.Monitors.{Answered, unlocked, owns, as_owner, monitor_at, at_object}
use Rattle.monitor_laws.specs.owners.Owners.{KeepsOwners}

-- ---- lists

set_other : {A : Type 0} (xs : List A) (d : A) (j k : ℕ) (x : A) → (k ≡ j → ⊥) → slice_index_or (slice_set xs j x) k d ≡ slice_index_or xs k d
set_other [] d j k x ne = refl
set_other (y ∷ ys) d zero zero x ne = absurd (ne refl)
set_other (y ∷ ys) d zero (suc k) x ne = refl
set_other (y ∷ ys) d (suc j) zero x ne = refl
set_other (y ∷ ys) d (suc j) (suc k) x ne = set_other ys d j k x (λ e. ne (ap suc e))

owner_pushed : (ms : List Monitor) (k : ℕ) → (slice_index_or (ms ++ unlocked ∷ []) k unlocked).owner ≡ (slice_index_or ms k unlocked).owner
owner_pushed [] zero = refl
owner_pushed [] (suc k) = refl
owner_pushed (m ∷ ms) zero = refl
owner_pushed (m ∷ ms) (suc k) = owner_pushed ms k

owner_set : (ms : List Monitor) (j k : ℕ) (m : Monitor) → m.owner ≡ (slice_index_or ms j unlocked).owner
    → (slice_index_or (slice_set ms j m) k unlocked).owner ≡ (slice_index_or ms k unlocked).owner
owner_set [] j k m e = refl
owner_set (y ∷ ys) zero zero m e = e
owner_set (y ∷ ys) zero (suc k) m e = refl
owner_set (y ∷ ys) (suc j) zero m e = refl
owner_set (y ∷ ys) (suc j) (suc k) m e = owner_set ys j k m e

-- ---- owners that stay

pub any_keeps : (o : Option ℕ) (old new : List Monitor) → KeepsOwners None old new → KeepsOwners o old new
any_keeps o old new h other e = h other refl

pub then_keeps : (o : Option ℕ) (one two three : List Monitor) → KeepsOwners o one two → KeepsOwners None two three → KeepsOwners o one three
then_keeps o one two three h g other e = g other refl ∙ h other e

pub more_keeps : (ms : List Monitor) → KeepsOwners None ms (ms ++ unlocked ∷ [])
more_keeps ms other e = owner_pushed ms other

-- a call of the monitor of an object changes no other one
pub call_changes : (object : ℕ) (call : Monitor → Answered Monitor) (ms : List Monitor) → KeepsOwners (Some object) ms (at_object object call ms).after
call_changes object call ms other e =
    ap (λ (m : Monitor). m.owner) (set_other ms unlocked object other (call (monitor_at ms object)).after (eqb-false other object e))

pub call_keeps : (object : ℕ) (call : Monitor → Answered Monitor) (ms : List Monitor) → ((m : Monitor) → (call m).after.owner ≡ m.owner)
    → KeepsOwners None ms (at_object object call ms).after
call_keeps object call ms h other e = owner_set ms object other (call (monitor_at ms object)).after (h (monitor_at ms object))

pub as_owner_keeps : (t : ℕ) (m after : Monitor) → after.owner ≡ m.owner → (as_owner t m after).after.owner ≡ m.owner
as_owner_keeps t m after h = cond_both (owns t m.owner) _ _ (λ (a : Answered Monitor). a.after.owner ≡ m.owner) (λ e. h) (λ e. refl)
