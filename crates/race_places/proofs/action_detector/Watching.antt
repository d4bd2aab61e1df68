-- One more action: the detector knows the longer run, and what it tells is right.
use Rattle.std.proofs.Common.{◌≡◌, refl, sym, ◌∙◌, ap, subst, ℕ, zero, suc, List, [], ◌∷◌, ◌++◌, length, map}
use Rattle.std.specs.Prelude.{Option, Some, None, Result, Ok, Err, slice_get}
use Rattle.data_races.specs.HappensBefore.{IsRace}
use Rattle.data_races.proofs.Order.{get_left}
use Rattle.std.proofs.lemmas.Option.{slice_get_within}
use Rattle.race_detection.specs.declared.run_steps.Step.{Step}
use Rattle.race_detection.specs.run_steps.Synchronization.{step_order}
use Rattle.race_detection.specs.race_detector.Watched.{DetectorOf, Watches, Tells, IsTold, IsWatching}
use Rattle.race_places.specs.declared.run_actions.RunAction.{RunAction}
use Rattle.race_places.specs.run_actions.Order.{run_order}
use Rattle.race_places.specs.numbering.Numbers.{NumberingOf, Numbers, numbered_step, IsNext, IsNumbering}
use Rattle.race_places.specs.action_detector.Watched.{ActionDetectorOf, WatchesActions, TellsAction, IsActionTold, with_step}
use Rattle.race_places.proofs.numbering.Renamed.{alike}

-- ---- lists

but_last : {A : Type 0} → List A → List A
but_last [] = []
but_last (x ∷ []) = []
but_last (x ∷ y ∷ ys) = x ∷ but_last (y ∷ ys)

but_last_is : {A : Type 0} (xs : List A) (x : A) → but_last (xs ++ x ∷ []) ≡ xs
unfolding but_last
but_last_is [] x = refl
but_last_is (y ∷ []) x = refl
but_last_is (y ∷ z ∷ zs) x = ap (λ ws. y ∷ ws) (but_last_is (z ∷ zs) x)

map_last : (n : NumberingOf) (run : List RunAction) (a : RunAction) → map (numbered_step n) (run ++ a ∷ []) ≡ map (numbered_step n) run ++ numbered_step n a ∷ []
map_last n [] a = refl
map_last n (b ∷ run) a = ap (λ s. numbered_step n b ∷ s) (map_last n run a)

map_length : (n : NumberingOf) (run : List RunAction) → length (map (numbered_step n) run) ≡ length run
map_length n [] = refl
map_length n (a ∷ run) = ap suc (map_length n run)

last_is : {A : Type 0} (xs ys : List A) (x y : A) → xs ++ x ∷ [] ≡ ys ++ y ∷ [] → xs ≡ ys → x ≡ y
last_is xs ys x y e same =
    let f : ys ++ x ∷ [] ≡ ys ++ y ∷ [] = ap (λ zs. zs ++ x ∷ []) (sym same) ∙ e in by_front ys x y f
  where
    by_front : {A : Type 0} (zs : List A) (x y : A) → zs ++ x ∷ [] ≡ zs ++ y ∷ [] → x ≡ y
    by_front [] x y e = cc
    by_front (z ∷ zs) x y e = by_front zs x y (cc)

before_map : (n : NumberingOf) (run : List RunAction) (k : ℕ) (s : Step) → slice_get (map (numbered_step n) run) k ≡ Some s
    → (a : RunAction) × (slice_get run k ≡ Some a) × (s ≡ numbered_step n a)
before_map n [] k s h = absurd (cc)
before_map n (a ∷ run) zero s h = let e : numbered_step n a ≡ s = cc in (a, refl, sym e)
before_map n (a ∷ run) (suc k) s h = before_map n run k s h

module _ (run : List RunAction) (steps : List Step) (next : RunAction) (s : Step) (n : NumberingOf) (numbers : Numbers (run ++ next ∷ []) (steps ++ s ∷ []) n) where
  whole : steps ++ s ∷ [] ≡ map (numbered_step n) run ++ numbered_step n next ∷ []
  whole = numbers.steps_are ∙ map_last n run next

  front : steps ≡ map (numbered_step n) run
  front = sym (but_last_is steps s) ∙ ap (λ xs. but_last xs) whole ∙ but_last_is (map (numbered_step n) run) (numbered_step n next)

  pub last_step : s ≡ numbered_step n next
  last_step = last_is steps (map (numbered_step n) run) s (numbered_step n next) whole front

  -- without its last action
  pub numbers_before : Numbers run steps n
  numbers_before =
      record {
        steps_are = front;
        have_numbers = λ a at.
            numbers.have_numbers a (at.0, get_left run (next ∷ []) at.0 (slice_get_within run at.0 a at.1) ∙ at.1);
      }

  lengths : length steps ≡ length run
  lengths = ap (λ xs. length xs) front ∙ map_length n run

  race_of : (i : ℕ) → IsRace step_order (steps ++ s ∷ []) i (length steps) → IsRace run_order (run ++ next ∷ []) i (length run)
  race_of i race =
      (alike (run ++ next ∷ []) (steps ++ s ∷ []) n numbers i (length run)).1 (subst (λ m. IsRace step_order (steps ++ s ∷ []) i m) lengths race)

  race_to : (i : ℕ) → IsRace run_order (run ++ next ∷ []) i (length run) → IsRace step_order (steps ++ s ∷ []) i (length steps)
  race_to i race =
      subst (λ m. IsRace step_order (steps ++ s ∷ []) i m) (sym lengths) ((alike (run ++ next ∷ []) (steps ++ s ∷ []) n numbers i (length run)).0 race)

  pub tells : (told : Option Step) → Tells steps s told → TellsAction run next told
  tells None none = λ i race. none i (race_to i race)
  tells (Some earlier) h =
      let a = before_map n run h.0 earlier (subst (λ xs. slice_get xs h.0 ≡ Some earlier) front h.1) in
      record {
        place = h.0;
        earlier = a.0;
        at = a.1;
        thread = ap (λ (t : Step). t.thread) a.2;
        event = ap (λ (t : Step). t.event) a.2;
        race = race_of h.0 h.2;
      }

-- ---- by what numbering and detector answer

module _ (next : RunAction) (old new : ActionDetectorOf) where
  pub watched : {E F : Type 0} (numbered : Result Step E) (s : Step) (answer : Result (Option Step) F) (told : Option Step) → numbered ≡ Ok s → answer ≡ Ok told
      → IsNumbering numbered next old.numbering new.numbering → IsWatching answer s old.detector new.detector
      → (run : List RunAction) → WatchesActions run old
      → (s ≡ numbered_step new.numbering next) × WatchesActions (run ++ next ∷ []) new × TellsAction run next told
  watched {E} {F} numbered s answer told is_s is_told g h run w =
      let numbers = subst (λ (r : Result Step E). IsNext r run w.steps next new.numbering) is_s (g run w.steps w.numbers) in
      let known = subst (λ (r : Result (Option Step) F). IsTold r w.steps s new.detector) is_told (h w.steps w.watches) in (
        last_step run w.steps next s new.numbering numbers,
        record { steps = w.steps ++ s ∷ []; numbers = numbers; watches = known.0 },
        tells run w.steps next s new.numbering numbers told known.1,
      )

  pub not_watched : {E F : Type 0} (numbered : Result Step E) (s : Step) (answer : Result (Option Step) F) (fault : F) → numbered ≡ Ok s → answer ≡ Err fault
      → IsNumbering numbered next old.numbering new.numbering → IsWatching answer s old.detector new.detector
      → (run : List RunAction) → WatchesActions run old → WatchesActions run new
  not_watched {E} {F} numbered s answer fault is_s is_fault g h run w =
      let numbers = subst (λ (r : Result Step E). IsNext r run w.steps next new.numbering) is_s (g run w.steps w.numbers) in
      record {
        steps = w.steps;
        numbers = numbers_before run w.steps next s new.numbering numbers;
        watches = subst (λ (r : Result (Option Step) F). IsTold r w.steps s new.detector) is_fault (h w.steps w.watches);
      }

  pub not_numbered : {E : Type 0} (numbered : Result Step E) (fault : E) → numbered ≡ Err fault → IsNumbering numbered next old.numbering new.numbering
      → new.detector ≡ old.detector → (run : List RunAction) → WatchesActions run old → WatchesActions run new
  not_numbered {E} numbered fault is_fault g same run w =
      record {
        steps = w.steps;
        numbers = subst (λ (r : Result Step E). IsNext r run w.steps next new.numbering) is_fault (g run w.steps w.numbers);
        watches = subst (λ (d : DetectorOf). Watches w.steps d) (sym same) w.watches;
      }

  pub watched_by : {E F : Type 0} (numbered : Result Step E) (s : Step) (answer : Result (Option Step) F) → numbered ≡ Ok s
      → IsNumbering numbered next old.numbering new.numbering → IsWatching answer s old.detector new.detector
      → (run : List RunAction) → WatchesActions run old → IsActionTold (with_step s answer) run next new
  watched_by {E} {F} numbered s (Ok told) is_s g h run w = watched {E = E} {F = F} numbered s (Ok told) told is_s refl g h run w
  watched_by {E} {F} numbered s (Err fault) is_s g h run w = not_watched {E = E} {F = F} numbered s (Err fault) fault is_s refl g h run w
