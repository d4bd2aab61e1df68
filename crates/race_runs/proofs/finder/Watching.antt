-- Actions of one event, told one after another.
use Rattle.std.proofs.Common.{◌≡◌, ◌+◌, ◌<◌, ℕ, List, [], ◌∷◌, ◌++◌, length, map, take, get_or, Option, sym, ap, subst, ◌∙◌}
use Rattle.std.proofs.lemmas.List.{append-nil, append_assoc, map_more}
use Rattle.race_places.specs.declared.run_actions.Action.{Action}
use Rattle.race_places.specs.declared.run_actions.RunAction.{RunAction}
use Rattle.race_actions.specs.declared.looking.CodeSite.{CodeSite}
use Rattle.run_races.specs.declared.race_finder.RaceFinder.{RaceFinder}
use Rattle.run_races.specs.race_finder.Found.{HasWatched}
use Rattle.run_races.specs.named_races.Named.{numbered_in}
use Rattle.race_runs.specs.finder.Events.{Watched, label_at}

module _ (t : ℕ) (site : Option CodeSite) (actions : List Action) where
  abbrev numbered : Action → RunAction
  numbered = numbered_in t (label_at site)

  -- it was told of the first ones
  abbrev pub WatchedFirst : ℕ → (old new : RaceFinder) → Type 0
  WatchedFirst n old new = Watched t site (take n actions) old new

  pub none_watched : (finder : RaceFinder) → WatchedFirst 0 finder finder
  none_watched finder = λ run h. subst (λ (l : List RunAction). HasWatched l finder.detector finder.told.races.keys) (sym (append-nil run)) h

  -- an action with its number
  abbrev pub WatchesOne : (number : ℕ) → Action → (old new : RaceFinder) → Type 0
  WatchesOne number a old new =
      (run : List RunAction) → HasWatched run old.detector old.told.races.keys
      → HasWatched (run ++ record { thread = t; event = number; action = a } ∷ []) new.detector new.told.races.keys

  pub one_watched : (n : ℕ) (old between new : RaceFinder) → WatchedFirst n old between → (d : Action) → n < length actions → (number : ℕ)
      → number ≡ label_at site (get_or actions n d) → WatchesOne number (get_or actions n d) between new → WatchedFirst (n + 1) old new
  one_watched n old between new so_far d below number number_is one = λ run h.
      let mine : WatchesOne (label_at site (get_or actions n d)) (get_or actions n d) between new =
      subst (λ (k : ℕ). WatchesOne k (get_or actions n d) between new) number_is one
      in
      let all : (run ++ map numbered (take n actions)) ++ numbered (get_or actions n d) ∷ [] ≡ run ++ map numbered (take (n + 1) actions) =
      append_assoc run (map numbered (take n actions)) (numbered (get_or actions n d) ∷ []) ∙ ap (λ l. run ++ l) (sym (map_more numbered actions n d below))
      in
      subst (λ (l : List RunAction). HasWatched l new.detector new.told.races.keys) all (mine (run ++ map numbered (take n actions)) (so_far run h))
