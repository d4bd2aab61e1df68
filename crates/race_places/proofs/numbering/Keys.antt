-- Numbers of keys: they are equal where the keys are, and stay where keys are added.
use Rattle.std.proofs.Common.{◌≡◌, refl, sym, ◌∙◌, ap, subst, suc, ◌+◌, ◌⊎◌, inl, inr, List, [], ◌∷◌, ◌++◌, cond, arith}
use Rattle.std.specs.Prelude.{Some, slice_get, Bool, true, false, not, ◌&&◌, ◌||◌, ◌==◌, IsTrue}
use Rattle.std.proofs.lemmas.Bool.{eq-eqb}
use Rattle.std.proofs.lemmas.Bool.Decides.{eqb_tells}
use Rattle.race_places.specs.declared.run_actions.Key.{Key}
use Rattle.race_places.specs.run_actions.Order.{is_same_key}
use Rattle.race_places.specs.numbering.Numbers.{number_in, is_in}

key_by : (a b : Key) → a.kind ≡ b.kind → a.first ≡ b.first → a.second ≡ b.second → a.third ≡ b.third → a ≡ b
key_by a b k f s t = λ i. record { kind = k i; first = f i; second = s i; third = t i }

-- of conjunctions
first_true : (a b : Bool) → a ≡ true → (a && b) ≡ b
first_true a b e = ap (λ x. x && b) e

first_false : (a b : Bool) → a ≡ false → (a && b) ≡ false
first_false a b e = ap (λ x. x && b) e

pub same_self : (k : Key) → is_same_key k k ≡ true
same_self k =
    first_true _ _ (eq-eqb k.kind k.kind refl)
    ∙ first_true _ _ (eq-eqb k.first k.first refl)
    ∙ first_true _ _ (eq-eqb k.second k.second refl)
    ∙ eq-eqb k.third k.third refl

pub same_or_not : (a b : Key) → ((is_same_key a b ≡ true) × (a ≡ b)) ⊎ (is_same_key a b ≡ false)
same_or_not a b =
    elim (eqb_tells a.kind b.kind) [
      | inl k ↦
          elim (eqb_tells a.first b.first) [
            | inl f ↦
                elim (eqb_tells a.second b.second) [
                  | inl s ↦
                      elim (eqb_tells a.third b.third) [
                        | inl t ↦
                            inl (
                              first_true _ _ k.0 ∙ first_true _ _ f.0 ∙ first_true _ _ s.0 ∙ t.0,
                              key_by a b k.1 f.1 s.1 t.1,
                            )
                        | inr t ↦ inr (first_true _ _ k.0 ∙ first_true _ _ f.0 ∙ first_true _ _ s.0 ∙ t.0)
                      ]
                  | inr s ↦ inr (first_true _ _ k.0 ∙ first_true _ _ f.0 ∙ first_false _ _ s.0)
                ]
            | inr f ↦ inr (first_true _ _ k.0 ∙ first_false _ _ f.0)
          ]
      | inr k ↦ inr (first_false _ _ k.0)
    ]

-- ---- the key of a number

number_first : (k x : Key) (keys : List Key) → is_same_key k x ≡ true → number_in (x ∷ keys) k ≡ 0
number_first k x keys e = ap (λ b. cond (not b) (1 + number_in keys k) 0) e

number_later : (k x : Key) (keys : List Key) → is_same_key k x ≡ false → number_in (x ∷ keys) k ≡ suc (number_in keys k)
number_later k x keys e =
    let one : 1 + number_in keys k ≡ suc (number_in keys k) = omega arith in
    ap (λ b. cond (not b) (1 + number_in keys k) 0) e ∙ one

in_later : (k x : Key) (keys : List Key) → is_same_key k x ≡ false → is_in (x ∷ keys) k ≡ is_in keys k
in_later k x keys e = ap (λ b. b || is_in keys k) e

in_first : (k x : Key) (keys : List Key) → is_same_key k x ≡ true → is_in (x ∷ keys) k ≡ true
in_first k x keys e = ap (λ b. b || is_in keys k) e

pub key_at : (keys : List Key) (k : Key) → IsTrue (is_in keys k) → slice_get keys (number_in keys k) ≡ Some k
key_at [] k h = absurd (cc)
key_at (x ∷ keys) k h =
    elim (same_or_not k x) [
      | inl s ↦ subst (λ n. slice_get (x ∷ keys) n ≡ Some k) (sym (number_first k x keys s.0)) (ap (λ y. Some y) (sym s.1))
      | inr s ↦
          subst (λ n. slice_get (x ∷ keys) n ≡ Some k) (sym (number_later k x keys s))
          (key_at keys k (sym (in_later k x keys s) ∙ h))
    ]

-- numbers are equal where the keys are
pub number_tells : (keys : List Key) (k l : Key) → IsTrue (is_in keys k) → IsTrue (is_in keys l)
    → (number_in keys k == number_in keys l) ≡ is_same_key k l
number_tells keys k l at_k at_l =
    elim (same_or_not k l) [
      | inl s ↦ eq-eqb (number_in keys k) (number_in keys l) (ap (λ m. number_in keys m) s.1) ∙ sym s.0
      | inr s ↦
          elim (eqb_tells (number_in keys k) (number_in keys l)) [
            | inl e ↦
                let same : Some k ≡ Some l = sym (key_at keys k at_k) ∙ ap (λ n. slice_get keys n) e.1 ∙ key_at keys l at_l in
                let k_is : k ≡ l = cc in
                absurd (let g : true ≡ false = sym (same_self k) ∙ ap (λ m. is_same_key k m) k_is ∙ s in cc)
            | inr e ↦ e.0 ∙ sym s
          ]
    ]

-- ---- more keys

pub in_longer : (keys more : List Key) (k : Key) → IsTrue (is_in keys k) → IsTrue (is_in (keys ++ more) k)
in_longer [] more k h = absurd (cc)
in_longer (x ∷ keys) more k h =
    elim (same_or_not k x) [
      | inl s ↦ in_first k x (keys ++ more) s.0
      | inr s ↦ in_later k x (keys ++ more) s ∙ in_longer keys more k (sym (in_later k x keys s) ∙ h)
    ]

pub number_longer : (keys more : List Key) (k : Key) → IsTrue (is_in keys k) → number_in (keys ++ more) k ≡ number_in keys k
number_longer [] more k h = absurd (cc)
number_longer (x ∷ keys) more k h =
    elim (same_or_not k x) [
      | inl s ↦ number_first k x (keys ++ more) s.0 ∙ sym (number_first k x keys s.0)
      | inr s ↦
          number_later k x (keys ++ more) s ∙ ap suc (number_longer keys more k (sym (in_later k x keys s) ∙ h)) ∙ sym (number_later k x keys s)
    ]

-- the last key
pub in_seam : (keys : List Key) (k : Key) → IsTrue (is_in (keys ++ k ∷ []) k)
in_seam [] k = in_first k k [] (same_self k)
in_seam (x ∷ keys) k =
    elim (same_or_not k x) [
      | inl s ↦ in_first k x (keys ++ k ∷ []) s.0
      | inr s ↦ in_later k x (keys ++ k ∷ []) s ∙ in_seam keys k
    ]

-- a key that is not there gets the next number
pub number_new : (keys : List Key) (k : Key) → is_in keys k ≡ false → number_in (keys ++ k ∷ []) k ≡ number_in keys k
number_new [] k h = number_first k k [] (same_self k)
number_new (x ∷ keys) k h =
    elim (same_or_not k x) [
      | inl s ↦ absurd (let g : true ≡ false = sym (in_first k x keys s.0) ∙ h in cc)
      | inr s ↦
          number_later k x (keys ++ k ∷ []) s ∙ ap suc (number_new keys k (sym (in_later k x keys s) ∙ h)) ∙ sym (number_later k x keys s)
    ]
