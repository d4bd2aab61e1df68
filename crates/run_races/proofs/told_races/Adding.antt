-- A race is told once.
use Rattle.std.proofs.Common.{◌≡◌, inl, inr, zero, suc, List, [], ◌∷◌, ◌++◌, Bool, true, false, if◌then◌else◌, refl, sym, ap}
use Rattle.std.specs.Prelude.{Some, ◌&&◌, ◌||◌, ◌==◌}
use Rattle.std.specs.List.{list_any}
use Rattle.std.proofs.lemmas.Bool.{false≢true, and_parts, eqb-true}
use Rattle.std.proofs.Math.Bool.{beq}
use Rattle.indexmap.specs.IndexSet.{insert_key}
use Rattle.run_races.specs.declared.told_races.Race.{Race}
use Rattle.run_races.specs.declared.told_races.RaceAccess.{RaceAccess}
use Rattle.run_races.specs.declared.told_races.RacedVariable.{RacedVariable}
use Rattle.run_races.specs.told_races.Adding.{IsAmong, AddsRace}

-- ---- whether two are one

abbrev pub is_same_variable : RacedVariable → RacedVariable → Bool
is_same_variable a b = (a.kind == b.kind) && ((a.object == b.object) && ((a.class == b.class) && (a.place == b.place)))

abbrev pub is_same_access : RaceAccess → RaceAccess → Bool
is_same_access a b = (a.thread == b.thread) && (beq a.is_write b.is_write && ((a.method == b.method) && (a.offset == b.offset)))

abbrev pub is_same_race : Race → Race → Bool
is_same_race a b = is_same_variable a.variable b.variable && (is_same_access a.first b.first && is_same_access a.second b.second)

same_bool : (a b : Bool) → beq a b ≡ true → a ≡ b
same_bool true true e = refl
same_bool true false e = absurd (false≢true e)
same_bool false true e = absurd (false≢true e)
same_bool false false e = refl

variable_by : (a b : RacedVariable) → is_same_variable a b ≡ true → a ≡ b
variable_by a b e =
    let first = and_parts (a.kind == b.kind) _ e in
    let second = and_parts (a.object == b.object) _ first.1 in
    let third = and_parts (a.class == b.class) _ second.1 in
    let k = eqb-true a.kind b.kind first.0 in
    let o = eqb-true a.object b.object second.0 in
    let c = eqb-true a.class b.class third.0 in
    let p = eqb-true a.place b.place third.1 in
    λ i. record { kind = k i; object = o i; class = c i; place = p i }

access_by : (a b : RaceAccess) → is_same_access a b ≡ true → a ≡ b
access_by a b e =
    let first = and_parts (a.thread == b.thread) _ e in
    let second = and_parts (beq a.is_write b.is_write) _ first.1 in
    let third = and_parts (a.method == b.method) _ second.1 in
    let t = eqb-true a.thread b.thread first.0 in
    let w = same_bool a.is_write b.is_write second.0 in
    let m = eqb-true a.method b.method third.0 in
    let o = eqb-true a.offset b.offset third.1 in
    λ i. record { thread = t i; is_write = w i; method = m i; offset = o i }

race_by : (a b : Race) → is_same_race a b ≡ true → a ≡ b
race_by a b e =
    let first = and_parts (is_same_variable a.variable b.variable) _ e in
    let second = and_parts (is_same_access a.first b.first) _ first.1 in
    let v = variable_by a.variable b.variable first.0 in
    let f = access_by a.first b.first second.0 in
    let s = access_by a.second b.second second.1 in
    λ i. record { variable = v i; first = f i; second = s i }

-- ---- added

among : (race : Race) (races : List Race) → list_any (is_same_race race) races ≡ true → IsAmong race races
among race [] e = absurd (false≢true e)
among race (x ∷ races) e = by (among race races) (is_same_race race x) refl e
  where
    by : (list_any (is_same_race race) races ≡ true → IsAmong race races) → (b : Bool) → is_same_race race x ≡ b → (b || list_any (is_same_race race) races) ≡ true
        → IsAmong race (x ∷ races)
    by rest true same h = record { place = zero; at = ap (λ (r : Race). Some r) (sym (race_by race x same)) }
    by rest false same h = let r = rest h in record { place = suc r.place; at = r.at }

pub race_added : (race : Race) (races : List Race) → AddsRace race races (insert_key is_same_race races race)
race_added race races = by (list_any (is_same_race race) races) refl
  where
    by : (b : Bool) → list_any (is_same_race race) races ≡ b → AddsRace race races (if b then races else races ++ race ∷ [])
    by true e = inl (among race races e, refl)
    by false e = inr refl
