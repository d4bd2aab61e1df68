-- A line of its pieces, and lines behind lines.
use Rattle.std.proofs.Common.{◌≡◌, ℕ, suc, zero, List, [], ◌∷◌, ◌++◌, Some, None, Result, Ok, Err, codes, length, take, refl, sym, ap, subst, append_assoc, append-nil, ◌∙◌, ◌==◌, ◌≤◌}
use Rattle.std.proofs.lemmas.List.{take_all}
use Rattle.std.specs.Prelude.{OnOk, slice_get}
use Rattle.model.specs.Classes.{Program}
use Rattle.model.specs.Report.{number}
use Rattle.run_races.specs.declared.told_races.Race.{Race}
use Rattle.run_races.specs.declared.told_races.RaceAccess.{RaceAccess}
use Rattle.race_runs.specs.race_lines.Lines.{AddsRaceLines, AreRaceLines, IsRaceLine, SpellsAccess, SpellsSite, SpellsVariable, kind_words}
use Rattle.race_runs.specs.race_lines.Pieces.{AddsSpelled}

-- ---- a line

pub spelled_access : {A E : Type 0} (result : Result A E) (trees : Program) (access : RaceAccess) (old a b c d new word : List ℕ)
    → word ≡ kind_words access.is_write → a ≡ old ++ word → b ≡ a ++ codes " at " → AddsSpelled (SpellsSite trees access.method access.offset) b c
    → d ≡ c ++ codes " by thread " → OnOk result (new ≡ d ++ number access.thread) → OnOk result (AddsSpelled (SpellsAccess trees access) old new)
spelled_access (Err fault) trees access old a b c d new word is ha hb hc hd h = tt
spelled_access (Ok value) trees access old a b c d new word is ha hb hc hd h = (
  kind_words access.is_write ++ (codes " at " ++ (hc.0 ++ (codes " by thread " ++ number access.thread))),
  five (kind_words access.is_write) (codes " at ") hc.0 (codes " by thread ") (number access.thread) (ha ∙ ap (λ (l : List ℕ). old ++ l) is) hb hc.1 hd h,
  record { site = hc.0; spells = hc.2; are = refl },
)
  where
    five : (u v w x y : List ℕ) → a ≡ old ++ u → b ≡ a ++ v → c ≡ b ++ w → d ≡ c ++ x → new ≡ d ++ y → new ≡ old ++ (u ++ (v ++ (w ++ (x ++ y))))
    five u v w x y hu hv hw hx hy =
        hy
        ∙ ap (λ (l : List ℕ). l ++ y) (hx ∙ ap (λ (l : List ℕ). l ++ x) (hw ∙ ap (λ (l : List ℕ). l ++ w) (hv ∙ ap (λ (l : List ℕ). l ++ v) hu)))
        ∙ simp append_assoc

pub spelled_race : {A E : Type 0} (result : Result A E) (trees : Program) (race : Race) (old a b c d e f new : List ℕ)
    → a ≡ old ++ codes "race " → AddsSpelled (SpellsVariable (race.variable.kind == 2) trees race.variable) a b → c ≡ b ++ codes ": "
    → AddsSpelled (SpellsAccess trees race.first) c d → e ≡ d ++ codes ", " → AddsSpelled (SpellsAccess trees race.second) e f
    → OnOk result (new ≡ f ++ codes "\n") → OnOk result (AddsSpelled (IsRaceLine trees race) old new)
spelled_race (Err fault) trees race old a b c d e f new ha hb hc hd he hf h = tt
spelled_race (Ok value) trees race old a b c d e f new ha hb hc hd he hf h = (
  codes "race " ++ (hb.0 ++ (codes ": " ++ (hd.0 ++ (codes ", " ++ (hf.0 ++ codes "\n"))))),
  seven (codes "race ") hb.0 (codes ": ") hd.0 (codes ", ") hf.0 (codes "\n") ha hb.1 hc hd.1 he hf.1 h,
  record { variable = hb.0; of = hb.2; first = hd.0; is_first = hd.2; second = hf.0; is_second = hf.2; is = refl },
)
  where
    seven : (s t u v w x y : List ℕ) → a ≡ old ++ s → b ≡ a ++ t → c ≡ b ++ u → d ≡ c ++ v → e ≡ d ++ w → f ≡ e ++ x → new ≡ f ++ y
        → new ≡ old ++ (s ++ (t ++ (u ++ (v ++ (w ++ (x ++ y))))))
    seven s t u v w x y hs ht hu hv hw hx hy =
        hy
        ∙ ap (λ (l : List ℕ). l ++ y) (hx ∙ ap (λ (l : List ℕ). l ++ x) (hw ∙ ap (λ (l : List ℕ). l ++ w) (hv ∙ ap (λ (l : List ℕ). l ++ v) (hu ∙ ap (λ (l : List ℕ). l ++ u) (ht ∙ ap (λ (l : List ℕ). l ++ t) hs)))))
        ∙ simp append_assoc

-- ---- lines

-- one more at the end
one_more : (trees : Program) (races : List Race) (race : Race) (lines line : List ℕ) → AreRaceLines trees races lines → IsRaceLine trees race line
    → AreRaceLines trees (races ++ race ∷ []) (lines ++ line)
one_more trees [] race lines line are is =
    (line, [], is, refl, ap (λ (l : List ℕ). l ++ line) are ∙ sym (append-nil line))
one_more trees (first ∷ races) race lines line are is =
    (are.0, are.1 ++ line, are.2, one_more trees races race are.1 line are.3 is, ap (λ (l : List ℕ). l ++ line) are.4 ∙ append_assoc are.0 are.1 line)

-- ---- those of a front

front_more : (races : List Race) (k : ℕ) (race : Race) → slice_get races k ≡ Some race → take (suc k) races ≡ take k races ++ race ∷ []
front_more [] k race at = absurd cc
front_more (first ∷ races) zero race at = ap (λ (r : Race). r ∷ []) (let same : first ≡ race = cc in same)
front_more (first ∷ races) (suc k) race at = ap (λ (l : List Race). first ∷ l) (front_more races k race at)

front_same : (races : List Race) (k : ℕ) → slice_get races k ≡ None → take (suc k) races ≡ take k races
front_same [] zero at = refl
front_same [] (suc k) at = refl
front_same (first ∷ races) zero at = absurd cc
front_same (first ∷ races) (suc k) at = ap (λ (l : List Race). first ∷ l) (front_same races k at)

pub added_more : (trees : Program) (races : List Race) (k : ℕ) (race : Race) → slice_get races k ≡ Some race → (old text new : List ℕ)
    → AddsRaceLines trees (take k races) old text → AddsSpelled (IsRaceLine trees race) text new → AddsRaceLines trees (take (suc k) races) old new
added_more trees races k race at old text new adds more = (
  adds.0 ++ more.0,
  more.1 ∙ ap (λ (l : List ℕ). l ++ more.0) adds.1 ∙ append_assoc old adds.0 more.0,
  subst (λ (l : List Race). AreRaceLines trees l (adds.0 ++ more.0)) (sym (front_more races k race at))
      (one_more trees (take k races) race adds.0 more.0 adds.2 more.2),
)

pub added_same : (trees : Program) (races : List Race) (k : ℕ) → slice_get races k ≡ None → (old text : List ℕ)
    → AddsRaceLines trees (take k races) old text → AddsRaceLines trees (take (suc k) races) old text
added_same trees races k at old text adds = subst (λ (l : List Race). AddsRaceLines trees l old text) (sym (front_same races k at)) adds

pub none_added : (trees : Program) (text : List ℕ) → AddsRaceLines trees [] text text
none_added trees text = ([], sym (append-nil text), refl)

pub all_added : (trees : Program) (races : List Race) (k count : ℕ) → count ≡ length races → count ≤ k → (old text : List ℕ)
    → AddsRaceLines trees (take k races) old text → AddsRaceLines trees races old text
all_added trees races k count is past old text adds =
    subst (λ (l : List Race). AddsRaceLines trees l old text) (take_all k races (subst (λ n. n ≤ k) is past)) adds
