-- What is told, step by step.
use Rattle.std.proofs.Common.{◌≡◌, ℕ, ◌+◌, ◌<◌, ◌≤◌, List, [], ◌∷◌, ◌++◌, map, length, Bool, true, false, inl, inr, None, sym, ap, subst, ◌∙◌, arith, below_more}
use Rattle.std.specs.Prelude.{slice_get, IfOk, OnOk, Result, Ok, Err}
use Rattle.std.specs.List.{Contains}
use Rattle.std.specs.Option.{option_map_or}
use Rattle.std.proofs.lemmas.Bool.{cases_lt}
use Rattle.std.proofs.lemmas.List.{map-append}
use Rattle.std.proofs.lemmas.List.Elements.{Contains-append_left, Contains-push}
use Rattle.std.proofs.lemmas.Option.{slice_get_past}
use Rattle.advice.specs.declared.told.Told.{Told}
use Rattle.advice.specs.declared.told.ToldPlace.{ToldPlace}
use Rattle.advice.specs.Told.{subject, IsTold, Keeps}
use Rattle.advice.specs.Telling.{Tells, TellsEach}

-- ---- what was told is kept

pub keeps_none : (told : List Told) → Keeps told told
keeps_none told = record { kept = λ file place h. h }

pub keeps_both : (a b c : List Told) → Keeps a b → Keeps b c → Keeps a c
keeps_both a b c first second = record { kept = λ file place h. second.kept file place (first.kept file place h) }

subjects : (before after : List Told) (t : Told) → after ≡ before ++ t ∷ [] → map subject after ≡ map subject before ++ subject t ∷ []
subjects before after t e = ap (map subject) e ∙ map-append subject before (t ∷ [])

pub keeps_push : (before after : List Told) (t : Told) → after ≡ before ++ t ∷ [] → Keeps before after
keeps_push before after t e = record {
  kept = λ file place h. record {
    there = subst (λ (l : List (ℕ × ToldPlace)). Contains l (file, place)) (sym (subjects before after t e)) (Contains-append_left (map subject before) (subject t ∷ []) (file, place) h.there);
  };
}

pub told_push : (before after : List Told) (t : Told) → after ≡ before ++ t ∷ [] → IsTold after t.file t.place
told_push before after t e = record {
  there = subst (λ (l : List (ℕ × ToldPlace)). Contains l (subject t)) (sym (subjects before after t e)) (Contains-push (map subject before) (subject t));
}

-- ---- behind a call

pub on_ok : {T E P Q : Type 0} → (r : Result T E) → (P → Q) → OnOk r P → OnOk r Q
on_ok (Ok x) f h = f h
on_ok (Err e) f h = h

pub if_ok_each : {T E : Type 0} → (P : T → Type 0) (r : Result T E) → ((x : T) → P x) → IfOk r P
if_ok_each P (Ok x) f = f x
if_ok_each P (Err e) f = tt

pub if_ok_then : {T E : Type 0} → (P Q : T → Type 0) (r : Result T E) → ((x : T) → P x → Q x) → IfOk r P → IfOk r Q
if_ok_then P Q (Ok x) f h = f x h
if_ok_then P Q (Err e) f h = h

-- ---- of one place

pub nothing_wrong : (before after : List Told) (file : ℕ) (place : ToldPlace) (is_wrong : Bool) → Keeps before after → is_wrong ≡ false
    → Tells before after file place is_wrong
nothing_wrong before after file place is_wrong kept e = record { kept = kept; told = λ (h : is_wrong ≡ true). absurd cc }

pub wrong_told : (before after : List Told) (file : ℕ) (place : ToldPlace) (is_wrong : Bool) → Keeps before after → IsTold after file place
    → Tells before after file place is_wrong
wrong_told before after file place is_wrong kept there = record { kept = kept; told = λ h. there }

pub tells_then : (a b c : List Told) (file : ℕ) (place : ToldPlace) (is_wrong : Bool) → Tells a b file place is_wrong → Keeps b c
    → Tells a c file place is_wrong
tells_then a b c file place is_wrong first second = record {
  kept = keeps_both a b c first.kept second;
  told = λ h. second.kept file place (first.told h);
}

-- ---- of the first places of some

pub record TellsBelow (before after : List Told) (file : ℕ) (place : ℕ → ToldPlace) (is_wrong : ℕ → Bool) (count : ℕ) : Type 0 where
  pub kept : Keeps before after
  pub told : (k : ℕ) → k < count → is_wrong k ≡ true → IsTold after file (place k)

pub none_below : (told : List Told) (file : ℕ) (place : ℕ → ToldPlace) (is_wrong : ℕ → Bool) → TellsBelow told told file place is_wrong 0
none_below told file place is_wrong = record { kept = keeps_none told; told = λ k lt h. absurd (omega (arith, lt)) }

pub one_more : (a b c : List Told) (file : ℕ) (place : ℕ → ToldPlace) (is_wrong : ℕ → Bool) (i : ℕ) (here : Bool)
    → TellsBelow a b file place is_wrong i → Tells b c file (place i) here → (is_wrong i ≡ true → here ≡ true)
    → TellsBelow a c file place is_wrong (i + 1)
one_more a b c file place is_wrong i here first last same = record {
  kept = keeps_both a b c first.kept last.kept;
  told = below_more (λ k. is_wrong k ≡ true → IsTold c file (place k)) i (λ k lt h. last.kept.kept file (place k) (first.told k lt h)) (λ h. last.told (same h));
}

pub each_of : (a b : List Told) (file : ℕ) (place : ℕ → ToldPlace) (is_wrong : ℕ → Bool) (n : ℕ) → TellsBelow a b file place is_wrong n
    → ((k : ℕ) → n ≤ k → is_wrong k ≡ true → ⊥) → TellsEach a b file place is_wrong
each_of a b file place is_wrong n below past = record {
  kept = below.kept;
  told = λ k h. elim (cases_lt k n) [ inl lt ↦ below.told k lt h | inr le ↦ absurd (past k le h) ];
}

-- ---- places past the end

pub none_past : {X : Type 0} (p : X → Bool) (xs : List X) (k : ℕ) → length xs ≤ k → option_map_or p (slice_get xs k) false ≡ true → ⊥
none_past p xs k le h = let e : slice_get xs k ≡ None = slice_get_past xs k le in let f : false ≡ true = ap (λ o. option_map_or p o false) (sym e) ∙ h in absurd cc
