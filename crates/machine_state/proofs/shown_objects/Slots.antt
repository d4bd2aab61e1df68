-- A field by its slot.
use Rattle.std.proofs.Common.{◌≡◌, ◌<◌, ℕ, suc, ◌+◌, Bool, true, false, ltb, cond, List, [], ◌∷◌, length, refl, sym, ap, ◌∙◌, arith, Option, Some, None}
use Rattle.std.proofs.lemmas.Bool.Decides.{nat_tests}
use Rattle.std.specs.Prelude.{position, option_map, slice_index, slice_set, if◌then◌else◌}
use Rattle.std.specs.List.{position_or_len}
use Rattle.model.specs.Names.{Member, member_eq}
use Rattle.model.specs.Worlds.{value_in, with_value}
use Rattle.linked_code.specs.Numbers.{slot_in}
use Rattle.machine_state.specs.shown_objects.Shown.{names_of, words_in}

lt_step : (a n : ℕ) → ltb (1 + a) (suc n) ≡ ltb a n
lt_step a n = grind (arith, nat_tests)

zero_lt : (n : ℕ) → ltb 0 (suc n) ≡ true
zero_lt n = grind (arith, nat_tests)

step_over : {A : Type 0} (p : A → Bool) (x : A) (xs : List A) → p x ≡ false
    → position p (x ∷ xs) ≡ option_map (λ (k : ℕ). suc k) (position p xs)
step_over p x xs h = rw (h, lt_step (position_or_len p xs) (length xs)) (by (ltb (position_or_len p xs) (length xs)))
  where
    by : (b : Bool) → cond b (Some (1 + position_or_len p xs)) None
        ≡ option_map (λ (k : ℕ). suc k) (cond b (Some (position_or_len p xs)) None)
    by true = ap (λ (k : ℕ). Some k) (omega arith)
    by false = refl

stop_at : {A : Type 0} (p : A → Bool) (x : A) (xs : List A) → p x ≡ true → position p (x ∷ xs) ≡ Some 0
stop_at p x xs h = rw (h, zero_lt (length xs)) refl

next_of : (o : Option ℕ) (k : ℕ) → option_map (λ (j : ℕ). suc j) o ≡ Some k → (j : ℕ) × (o ≡ Some j) × (suc j ≡ k)
next_of None k q = absurd cc
next_of (Some j) k q = (j, refl, cc)

some_is : (a b : ℕ) → Some a ≡ Some b → a ≡ b
some_is a b e = cc

module _ (field : Member) where
  -- it is read at its slot
  pub value_slot : (first : ℕ) (fields : List (Member × ℕ)) (n : ℕ) → slot_in (names_of fields) field ≡ Some n
      → value_in first field fields ≡ slice_index (words_in fields) n
  value_slot first [] n e = absurd cc
  value_slot first (f ∷ fields) n e = by (λ j h. value_slot first fields j h) (member_eq f.0 field) refl
    where
      by : ((j : ℕ) → slot_in (names_of fields) field ≡ Some j → value_in first field fields ≡ slice_index (words_in fields) j)
          → (b : Bool) → member_eq f.0 field ≡ b → (if b then f.1 else value_in first field fields) ≡ slice_index (f.1 ∷ words_in fields) n
      by rest true h =
          let z : 0 ≡ n = some_is 0 n (sym (stop_at (λ (m : Member). member_eq m field) f.0 (names_of fields) h) ∙ e) in
          ap (λ k. slice_index (f.1 ∷ words_in fields) k) z
      by rest false h =
          let more = next_of (slot_in (names_of fields) field) n (sym (step_over (λ (m : Member). member_eq m field) f.0 (names_of fields) h) ∙ e) in
          rest more.0 more.1 ∙ ap (λ k. slice_index (f.1 ∷ words_in fields) k) more.2

  -- it is written there
  pub with_slot : (v : ℕ) (fields : List (Member × ℕ)) (n : ℕ) → slot_in (names_of fields) field ≡ Some n
      → words_in (with_value field v fields) ≡ slice_set (words_in fields) n v
  with_slot v [] n e = absurd cc
  with_slot v (f ∷ fields) n e = by (λ j h. with_slot v fields j h) (member_eq f.0 field) refl
    where
      by : ((j : ℕ) → slot_in (names_of fields) field ≡ Some j → words_in (with_value field v fields) ≡ slice_set (words_in fields) j v)
          → (b : Bool) → member_eq f.0 field ≡ b → words_in (if b then (f.0, v) ∷ fields else f ∷ with_value field v fields)
          ≡ slice_set (f.1 ∷ words_in fields) n v
      by rest true h =
          let z : 0 ≡ n = some_is 0 n (sym (stop_at (λ (m : Member). member_eq m field) f.0 (names_of fields) h) ∙ e) in
          ap (λ k. slice_set (f.1 ∷ words_in fields) k v) z
      by rest false h =
          let more = next_of (slot_in (names_of fields) field) n (sym (step_over (λ (m : Member). member_eq m field) f.0 (names_of fields) h) ∙ e) in
          ap (λ l. f.1 ∷ l) (rest more.0 more.1) ∙ ap (λ k. slice_set (f.1 ∷ words_in fields) k v) more.2

  -- and the fields stay where they are
  pub with_names : (v : ℕ) (fields : List (Member × ℕ)) → names_of (with_value field v fields) ≡ names_of fields
  with_names v [] = refl
  with_names v (f ∷ fields) = by (with_names v fields) (member_eq f.0 field)
    where
      by : names_of (with_value field v fields) ≡ names_of fields → (b : Bool)
          → names_of (if b then (f.0, v) ∷ fields else f ∷ with_value field v fields) ≡ f.0 ∷ names_of fields
      by rest true = refl
      by rest false = ap (λ l. f.0 ∷ l) rest

  -- the slot is one of them
  pub slot_within : (fields : List Member) (n : ℕ) → slot_in fields field ≡ Some n → n < length fields
  slot_within [] n e = absurd cc
  slot_within (f ∷ fields) n e = by (λ j h. slot_within fields j h) (member_eq f field) refl
    where
      by : ((j : ℕ) → slot_in fields field ≡ Some j → j < length fields) → (b : Bool) → member_eq f field ≡ b → n < length (f ∷ fields)
      by rest true h =
          let z : 0 ≡ n = some_is 0 n (sym (stop_at (λ (m : Member). member_eq m field) f fields h) ∙ e) in
          omega arith
      by rest false h =
          let more = next_of (slot_in fields field) n (sym (step_over (λ (m : Member). member_eq m field) f fields h) ∙ e) in
          let lt : more.0 < length fields = rest more.0 more.1 in
          let is : suc more.0 ≡ n = more.2 in
          omega arith
