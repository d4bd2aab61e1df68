-- One more action of a run that is watched.
use Rattle.std.proofs.Common.{◌≡◌, ℕ, zero, suc, ◌<◌, ◌⊎◌, inl, inr, List, [], ◌∷◌, ◌++◌, length, Bool, Some, None, sym, ap, subst, ◌∙◌, arith}
use Rattle.std.specs.Prelude.{slice_get}
use Rattle.std.proofs.lemmas.Option.{same_Some, none-some}
use Rattle.data_races.specs.HappensBefore.{IsRace}
use Rattle.data_races.proofs.Order.{get_left, get_seam, at_next, within, longer}
use Rattle.race_detection.specs.declared.run_steps.Step.{Step}
use Rattle.race_places.specs.declared.run_actions.Variable.{Variable}
use Rattle.race_places.specs.declared.run_actions.RunAction.{RunAction}
use Rattle.race_places.specs.run_actions.Order.{run_order}
use Rattle.race_places.specs.action_detector.Watched.{ActionDetectorOf, WatchesActions, IsEarlier, TellsAction}
use Rattle.run_races.specs.declared.told_races.Race.{Race}
use Rattle.run_races.specs.labels.Labels.{access_of}
use Rattle.run_races.specs.told_races.Variables.{numbers_of}
use Rattle.run_races.specs.told_races.Adding.{IsAmong, AddsRace}
use Rattle.run_races.specs.race_finder.Found.{accessed, told_with, IsTold, HasTold, AreTold, HasWatched}

module _ (run : List RunAction) (next : RunAction) where
  abbrev more : List RunAction
  more = run ++ next ∷ []

  -- a race of the run is one of the longer run, and the other way round where it lies within
  race_longer : (i j : ℕ) → IsRace run_order run i j → j < length run → IsRace run_order more i j
  race_longer i j r below =
      let i_below : i < length run = let e = r.pair.earlier in omega arith in
      record {
        pair = record {
          first = r.pair.first;
          second = r.pair.second;
          earlier = r.pair.earlier;
          at_first = get_left run (next ∷ []) i i_below ∙ r.pair.at_first;
          at_second = get_left run (next ∷ []) j below ∙ r.pair.at_second;
        };
        conflict = r.conflict;
        unordered = λ h. r.unordered (within run_order run next i j h below);
      }

  race_within : (i j : ℕ) → IsRace run_order more i j → j < length run → IsRace run_order run i j
  race_within i j r below =
      let i_below : i < length run = let e = r.pair.earlier in omega arith in
      record {
        pair = record {
          first = r.pair.first;
          second = r.pair.second;
          earlier = r.pair.earlier;
          at_first = sym (get_left run (next ∷ []) i i_below) ∙ r.pair.at_first;
          at_second = sym (get_left run (next ∷ []) j below) ∙ r.pair.at_second;
        };
        conflict = r.conflict;
        unordered = λ h. r.unordered (longer run_order run next i j h);
      }

  below_of : (j : ℕ) (x : RunAction) → slice_get run j ≡ Some x → j < length run
  below_of j x e = by run j e
    where
      by : (l : List RunAction) (k : ℕ) → slice_get l k ≡ Some x → k < length l
      by [] k h = absurd (none-some x h)
      by (y ∷ ys) zero h = omega arith
      by (y ∷ ys) (suc k) h = let b = by ys k h in omega arith

  told_longer : (race : Race) → IsTold run race → IsTold more race
  told_longer race t =
      let j_below = below_of t.j t.second t.at_second in
      let i_below : t.i < length run = let e = t.is.pair.earlier in omega arith in
      record {
        i = t.i;
        j = t.j;
        is = race_longer t.i t.j t.is j_below;
        first = t.first;
        at_first = get_left run (next ∷ []) t.i i_below ∙ t.at_first;
        second = t.second;
        at_second = get_left run (next ∷ []) t.j j_below ∙ t.at_second;
        variable = t.variable;
        writes = t.writes;
        accesses = t.accesses;
        told = t.told;
      }

  -- ---- of the next action

  -- by the races that were told before, where those stay
  all_by : (races later : List Race) → AreTold run races → ((second : RunAction) (variable : Variable) → HasTold races second variable → HasTold later second variable)
      → ((i : ℕ) → IsRace run_order more i (length run) → (variable : Variable) (writes : Bool) → accessed next.action ≡ Some (variable, writes) → HasTold later next variable)
      → (i j : ℕ) → IsRace run_order more i j → (second : RunAction) → slice_get more j ≡ Some second → (variable : Variable) (writes : Bool)
      → accessed second.action ≡ Some (variable, writes) → HasTold later second variable
  all_by races later told stay last i j is second at variable writes accesses =
      elim (at_next run next j second at) [
        | inl h ↦ stay second variable (told.all i j (race_within i j is h.0) second h.1 variable writes accesses)
        | inr h ↦
            subst (λ (s : RunAction). HasTold later s variable) (sym h.1)
            (last i (subst (λ n. IsRace run_order more i n) h.0 is) variable writes (ap (λ (s : RunAction). accessed s.action) (sym h.1) ∙ accesses))
      ]

  pub none_told : (d : ActionDetectorOf) (races : List Race) → WatchesActions more d → AreTold run races → TellsAction run next None → HasWatched more d races
  none_told d races watches told tells =
      record {
        watches = watches;
        told = record {
          each = λ k race at. told_longer race (told.each k race at);
          all = all_by races races told (λ second variable h. h) (λ i is variable writes accesses. absurd (tells i is));
        };
      }

  pub no_access_told : (d : ActionDetectorOf) (races : List Race) → WatchesActions more d → AreTold run races → accessed next.action ≡ None → HasWatched more d races
  no_access_told d races watches told none =
      record {
        watches = watches;
        told = record {
          each = λ k race at. told_longer race (told.each k race at);
          all = all_by races races told (λ second variable h. h) (λ i is variable writes accesses. absurd (none-some (variable, writes) (sym none ∙ accesses)));
        };
      }

  below_at : (l : List Race) (k : ℕ) (x : Race) → slice_get l k ≡ Some x → k < length l
  below_at [] k x h = absurd (none-some x h)
  below_at (y ∷ ys) zero x h = omega arith
  below_at (y ∷ ys) (suc k) x h = let b = below_at ys k x h in omega arith

  -- one more race is told, unless it was
  module _ (d : ActionDetectorOf) (races later : List Race) (watches : WatchesActions more d) (told : AreTold run races) (race : Race)
      (adds : AddsRace race races later) where
    of_later : (k : ℕ) (x : Race) → slice_get later k ≡ Some x → (slice_get races k ≡ Some x) ⊎ (x ≡ race)
    of_later k x e = elim adds [
      | inl h ↦ inl (subst (λ (l : List Race). slice_get l k ≡ Some x) h.1 e)
      | inr h ↦ elim (at_next races race k x (subst (λ (l : List Race). slice_get l k ≡ Some x) h e)) [ inl g ↦ inl g.1 | inr g ↦ inr g.1 ]
    ]

    stays_at : (k : ℕ) (x : Race) → slice_get races k ≡ Some x → slice_get later k ≡ Some x
    stays_at k x e = elim adds [
      | inl h ↦ subst (λ (l : List Race). slice_get l k ≡ Some x) (sym h.1) e
      | inr h ↦ subst (λ (l : List Race). slice_get l k ≡ Some x) (sym h) (get_left races (race ∷ []) k (below_at races k x e) ∙ e)
    ]

    there : IsAmong race later
    there = elim adds [
      | inl h ↦ record { place = h.0.place; at = stays_at h.0.place race h.0.at }
      | inr h ↦ record { place = length races; at = subst (λ (l : List Race). slice_get l (length races) ≡ Some race) (sym h) (get_seam races race) }
    ]

    pub race_told : (earlier : Step) → IsEarlier run next earlier → (variable : Variable) (writes : Bool) → accessed next.action ≡ Some (variable, writes)
        → race ≡ told_with earlier next variable
        → HasWatched more d later
    race_told earlier is variable writes accesses made =
        record {
          watches = watches;
          told = record {
            each = λ k x at. elim (of_later k x at) [
              | inl h ↦ told_longer x (told.each k x h)
              | inr h ↦ subst (λ (r : Race). IsTold more r) (sym h) new
            ];
            all = all_by races later told
                (λ second v h. record { place = h.place; race = h.race; at = stays_at h.place h.race h.at; of_variable = h.of_variable; of_second = h.of_second })
                (λ i r v w a.
                let same_variable : variable ≡ v = ap (λ (p : Variable × Bool). p.0) (same_Some (variable, writes) (v, w) (sym accesses ∙ a)) in
                record {
                  place = there.place;
                  race = race;
                  at = there.at;
                  of_variable = ap (λ (r : Race). r.variable) made ∙ ap numbers_of same_variable;
                  of_second = ap (λ (r : Race). r.second) made;
                });
          };
        }
      where
        new : IsTold more race
        new =
            record {
              i = is.place;
              j = length run;
              is = is.race;
              first = is.earlier;
              at_first = get_left run (next ∷ []) is.place (below_of is.place is.earlier is.at) ∙ is.at;
              second = next;
              at_second = get_seam run next;
              variable = variable;
              writes = writes;
              accesses = accesses;
              told = made ∙ ap (λ n. record { variable = numbers_of variable; first = access_of n earlier.event; second = access_of next.thread next.event }) is.thread
                  ∙ ap (λ n. record { variable = numbers_of variable; first = access_of is.earlier.thread n; second = access_of next.thread next.event }) is.event;
            }

-- ---- no action yet

pub nothing_watched : (d : ActionDetectorOf) (races : List Race) → WatchesActions [] d → races ≡ [] → HasWatched [] d races
nothing_watched d races watches none =
    record {
      watches = watches;
      told = subst (AreTold []) (sym none)
          (record { each = λ k race at. absurd (none-some race at); all = λ i j is second at variable writes accesses. absurd (none-some second at) });
    }
