-- A test for data races of a run: all pairs of places that race, computed. For each action it walks once along those behind it.
use Rattle.std.specs.Prelude.{ℕ, suc, List, [], ◌∷◌, ◌++◌, Bool, true, false, not, ◌&&◌, ◌||◌}
use Rattle.std.specs.List.{list_any}
use Rattle.data_races.specs.HappensBefore.{Relations}

-- an action, and whether a first one happens before it or is it
pub record Marked (A : Type 0) : Type 0 where
  pub action : A
  pub is_behind : Bool

abbrev pub marked : {A : Type 0} → A → Bool → Marked A
marked action is_behind = record { action = action; is_behind = is_behind }

-- no action between takes away what the action left, where it matters
abbrev pub stays : {A : Type 0} → Relations A → A → List A → Bool → Bool
stays R a between false = false
stays R a between true = not (list_any (R.takes_away a) between)

-- it comes before another one at once, by the order of its thread or by what it left, where these are between
abbrev pub precedes : {A : Type 0} → Relations A → A → List A → A → Bool
precedes R a between b = R.is_of_one_thread a b || stays R a between (R.synchronizes a b)

-- one that is marked comes before an action at once; the latest of those before it come first
abbrev pub follows : {A : Type 0} → Relations A → List A → A → List (Marked A) → Bool
follows R between b [] = false
follows R between b (m ∷ earlier) = (m.is_behind && precedes R m.action between b) || follows R (m.action ∷ between) b earlier

abbrev pub pair_if : Bool → ℕ → ℕ → List (ℕ × ℕ)
pair_if true i j = (i, j) ∷ []
pair_if false i j = []

-- the places from j on of what races with the action at i, where these stand between
abbrev pub races_with : {A : Type 0} → Relations A → A → ℕ → List (Marked A) → ℕ → List A → List (ℕ × ℕ)
races_with R a i earlier j [] = []
races_with R a i earlier j (b ∷ run) =
    pair_if (R.conflict a b && not (follows R [] b earlier)) i j ++ races_with R a i (marked b (follows R [] b earlier) ∷ earlier) (suc j) run

-- only where something conflicts
abbrev pub races_if : {A : Type 0} → Relations A → Bool → A → ℕ → List A → List (ℕ × ℕ)
races_if R false a i run = []
races_if R true a i run = races_with R a i (marked a true ∷ []) (suc i) run

abbrev pub races_from : {A : Type 0} → Relations A → ℕ → List A → List (ℕ × ℕ)
races_from R i [] = []
races_from R i (a ∷ run) = races_if R (list_any (R.conflict a) run) a i run ++ races_from R (suc i) run

-- the places of all races of a run
abbrev pub races_of : {A : Type 0} → Relations A → List A → List (ℕ × ℕ)
races_of R run = races_from R 0 run
