-- What is told of each method, one number after the other.
use Rattle.std.proofs.Common.{◌≡◌, ℕ, ◌+◌, ◌<◌, ◌≤◌, List, [], ◌∷◌, ◌++◌, length, refl, sym, ◌∙◌, subst, arith, below_more, Option, Some, None, inl, inr}
use Rattle.std.specs.Prelude.{slice_get}
use Rattle.std.specs.Option.{option_map}
use Rattle.std.proofs.lemmas.Bool.{cases_lt}
use Rattle.std.proofs.lemmas.Option.{slice_get_past}
use Rattle.model.specs.Names.{Member}
use Rattle.model.specs.Classes.{Program}
use Rattle.hierarchy.specs.declared.place.MemberPlace.{MemberPlace}
use Rattle.method_tables.specs.method_links.Methods.{methods_of, member_at}
use Rattle.method_tables.specs.method_links.Calls.{IsTold, AreCallsOf}
use Rattle.method_tables.specs.declared.method_links.call.MethodCall.{MethodCall}
use Rattle.method_tables.proofs.method_links.Lists.{get_last, get_within, inner, none_of}
use Rattle.hierarchy.proofs.Indices.{get_front}

module _ (files : Program) where
  -- of the methods before a number
  abbrev pub Told : List MethodCall → ℕ → Type 0
  Told calls n = (k : ℕ) → k < n → IsTold files (slice_get (methods_of files) k) (slice_get calls k)

  pub none_told : (calls : List MethodCall) → Told calls 0
  none_told calls k lt = absurd (no k lt)
    where
      no : (k : ℕ) → k < 0 → ⊥
      no k lt = omega (arith, lt)

  pub one_told : (calls : List MethodCall) (n : ℕ) (call : MethodCall) (place : MemberPlace) → length calls ≡ n → Told calls n
      → Some (member_at files place) ≡ option_map (λ m. Some m) (slice_get (methods_of files) n)
      → IsTold files (member_at files place) (Some call) → Told (calls ++ call ∷ []) (n + 1)
  one_told calls n call place count said at told =
      below_more (λ (k : ℕ). IsTold files (slice_get (methods_of files) k) (slice_get (calls ++ call ∷ []) k)) n
      (λ k below. subst (IsTold files (slice_get (methods_of files) k)) (sym (get_front calls (call ∷ []) k (omega (arith, below, count)))) (said k below))
      (subst (IsTold files (slice_get (methods_of files) n)) (sym (get_last calls call n count)) (subst (λ o. IsTold files o (Some call)) (inner (member_at files place) (slice_get (methods_of files) n) at) told))

  pub all_told : (calls : List MethodCall) (n : ℕ) → length calls ≡ n → Told calls n → length (methods_of files) ≤ n
      → AreCallsOf files calls
  all_told calls n count said all k = elim (cases_lt k n) [
    | inl below ↦ said k below
    | inr above ↦ subst (λ o. IsTold files o (slice_get calls k)) (sym (slice_get_past (methods_of files) k (omega (arith, above, all)))) (subst (IsTold files None) (sym (slice_get_past calls k (omega (arith, above, count)))) tt)
  ]

  -- there is no method of a number that has no place
  pub no_place : (n : ℕ) → None ≡ option_map (λ m. Some m) (slice_get (methods_of files) n) → length (methods_of files) ≤ n
  no_place n e = get_within (methods_of files) n (none_of (slice_get (methods_of files) n) e)

  untold : (o : Option Member) → IsTold files o None → o ≡ None
  untold None h = refl
  untold (Some m) h = absurd h

  pub no_call : (n : ℕ) (place : MemberPlace) → Some (member_at files place) ≡ option_map (λ m. Some m) (slice_get (methods_of files) n)
      → IsTold files (member_at files place) None → length (methods_of files) ≤ n
  no_call n place at h = get_within (methods_of files) n (sym (inner (member_at files place) (slice_get (methods_of files) n) at) ∙ untold (member_at files place) h)
