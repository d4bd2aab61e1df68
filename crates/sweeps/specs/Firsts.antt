-- Which runs are the first that show what they do (own).
use Rattle.std.specs.Prelude.{◌≡◌, ℕ, suc, Bool, List, [], ◌∷◌, ◌++◌, not, cond, count_by}
use Rattle.std.specs.List.{list_any}

-- a run, how many of all runs show the same, and its seed
pub record First (R : Type 0) : Type 0 where
  pub run : R
  pub count : ℕ
  pub seed : ℕ

-- those among runs with the seeds from one up, behind others: none before them shows the same
abbrev pub firsts_of : {R : Type 0} (same : R → R → Bool) (all before : List R) (seed : ℕ) → List R → List (First R)
firsts_of same all before seed [] = []
firsts_of same all before seed (r ∷ runs) =
    cond (list_any (same r) before) (firsts_of same all (before ++ r ∷ []) (suc seed) runs)
    (record { run = r; count = count_by (same r) all; seed = seed } ∷ firsts_of same all (before ++ r ∷ []) (suc seed) runs)

abbrev pub firsts : {R : Type 0} (same : R → R → Bool) (seed : ℕ) → List R → List (First R)
firsts same seed runs = firsts_of same runs [] seed runs
