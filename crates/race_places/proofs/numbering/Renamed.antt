-- The steps of actions are these under other names, where all that they ask for has a number.
use Rattle.std.proofs.Common.{◌≡◌, refl, sym, ◌∙◌, ap, subst, ℕ, List, ◌++◌}
use Rattle.std.specs.Prelude.{Option, Some, None, Bool, true, false, not, ◌&&◌, ◌||◌, ◌==◌, ◌↔◌, IsTrue}
use Rattle.data_races.specs.HappensBefore.{IsRace}
use Rattle.data_races.proofs.Mapped.{IsRenaming, race_to, race_from}
use Rattle.race_detection.specs.declared.run_steps.Step.{Step}
use Rattle.race_detection.specs.run_steps.Synchronization as steps
use Rattle.race_detection.specs.run_steps.Synchronization.{step_order}
use Rattle.race_places.specs.declared.run_actions.Action.{Action}
use Rattle.race_places.specs.declared.run_actions.Action.TheVariants.{Read, Write, Lock, Unlock, Begin, Finish, Start, Interrupt, ClearInterrupt, Wake, FinishInitialisation, FindStarted, FindFinished, FindInterrupted, FindNotInterrupted, FindWoken, FindInitialised}
use Rattle.race_places.specs.declared.run_actions.RunAction.{RunAction}
use Rattle.race_places.specs.declared.run_actions.Key.{Key}
use Rattle.race_places.specs.run_actions.Order.{is_one, left_by, found_by, taken_by, read_by, written_by, conflicts, run_order}
use Rattle.race_places.specs.numbering.Numbers.{NumberingOf, number_in, is_in, numbered_action, numbered_step, AreIn, HasNumbers, IsLonger, Has, Numbers}
use Rattle.race_places.proofs.numbering.Keys.{number_tells, in_longer}

-- ---- what steps leave, find, take away, read and write

abbrev number_by : List Key → Option Key → Option ℕ
number_by keys None = None
number_by keys (Some k) = Some (number_in keys k)

abbrev is_at : List Key → ℕ → Option Key → Bool
is_at keys number None = false
is_at keys number (Some k) = number == number_in keys k

module _ (n : NumberingOf) where
  left_is : (a : Action) → steps.left_by (numbered_action n a) ≡ number_by n.places (left_by a)
  left_is (Read variable true) = refl
  left_is (Read variable false) = refl
  left_is (Write variable true) = refl
  left_is (Write variable false) = refl
  left_is (Lock object) = refl
  left_is (Unlock object) = refl
  left_is (Begin thread) = refl
  left_is (Finish thread) = refl
  left_is (Start thread) = refl
  left_is (Interrupt thread) = refl
  left_is (ClearInterrupt thread) = refl
  left_is (Wake thread) = refl
  left_is (FinishInitialisation class) = refl
  left_is (FindStarted thread) = refl
  left_is (FindFinished thread) = refl
  left_is (FindInterrupted thread) = refl
  left_is (FindNotInterrupted thread) = refl
  left_is (FindWoken thread) = refl
  left_is (FindInitialised class) = refl

  finds_is : (p : ℕ) (a : Action) → steps.finds p (numbered_action n a) ≡ is_at n.places p (found_by a)
  finds_is p (Read variable true) = refl
  finds_is p (Read variable false) = refl
  finds_is p (Write variable true) = refl
  finds_is p (Write variable false) = refl
  finds_is p (Lock object) = refl
  finds_is p (Unlock object) = refl
  finds_is p (Begin thread) = refl
  finds_is p (Finish thread) = refl
  finds_is p (Start thread) = refl
  finds_is p (Interrupt thread) = refl
  finds_is p (ClearInterrupt thread) = refl
  finds_is p (Wake thread) = refl
  finds_is p (FinishInitialisation class) = refl
  finds_is p (FindStarted thread) = refl
  finds_is p (FindFinished thread) = refl
  finds_is p (FindInterrupted thread) = refl
  finds_is p (FindNotInterrupted thread) = refl
  finds_is p (FindWoken thread) = refl
  finds_is p (FindInitialised class) = refl

  takes_is : (p : ℕ) (a : Action) → steps.takes p (numbered_action n a) ≡ is_at n.places p (taken_by a)
  takes_is p (Read variable true) = refl
  takes_is p (Read variable false) = refl
  takes_is p (Write variable true) = refl
  takes_is p (Write variable false) = refl
  takes_is p (Lock object) = refl
  takes_is p (Unlock object) = refl
  takes_is p (Begin thread) = refl
  takes_is p (Finish thread) = refl
  takes_is p (Start thread) = refl
  takes_is p (Interrupt thread) = refl
  takes_is p (ClearInterrupt thread) = refl
  takes_is p (Wake thread) = refl
  takes_is p (FinishInitialisation class) = refl
  takes_is p (FindStarted thread) = refl
  takes_is p (FindFinished thread) = refl
  takes_is p (FindInterrupted thread) = refl
  takes_is p (FindNotInterrupted thread) = refl
  takes_is p (FindWoken thread) = refl
  takes_is p (FindInitialised class) = refl

  reads_is : (v : ℕ) (a : Action) → steps.is_read v (numbered_action n a) ≡ is_at n.variables v (read_by a)
  reads_is v (Read variable true) = refl
  reads_is v (Read variable false) = refl
  reads_is v (Write variable true) = refl
  reads_is v (Write variable false) = refl
  reads_is v (Lock object) = refl
  reads_is v (Unlock object) = refl
  reads_is v (Begin thread) = refl
  reads_is v (Finish thread) = refl
  reads_is v (Start thread) = refl
  reads_is v (Interrupt thread) = refl
  reads_is v (ClearInterrupt thread) = refl
  reads_is v (Wake thread) = refl
  reads_is v (FinishInitialisation class) = refl
  reads_is v (FindStarted thread) = refl
  reads_is v (FindFinished thread) = refl
  reads_is v (FindInterrupted thread) = refl
  reads_is v (FindNotInterrupted thread) = refl
  reads_is v (FindWoken thread) = refl
  reads_is v (FindInitialised class) = refl

  writes_is : (v : ℕ) (a : Action) → steps.is_write v (numbered_action n a) ≡ is_at n.variables v (written_by a)
  writes_is v (Read variable true) = refl
  writes_is v (Read variable false) = refl
  writes_is v (Write variable true) = refl
  writes_is v (Write variable false) = refl
  writes_is v (Lock object) = refl
  writes_is v (Unlock object) = refl
  writes_is v (Begin thread) = refl
  writes_is v (Finish thread) = refl
  writes_is v (Start thread) = refl
  writes_is v (Interrupt thread) = refl
  writes_is v (ClearInterrupt thread) = refl
  writes_is v (Wake thread) = refl
  writes_is v (FinishInitialisation class) = refl
  writes_is v (FindStarted thread) = refl
  writes_is v (FindFinished thread) = refl
  writes_is v (FindInterrupted thread) = refl
  writes_is v (FindNotInterrupted thread) = refl
  writes_is v (FindWoken thread) = refl
  writes_is v (FindInitialised class) = refl

  -- an access that isn't one conflicts with nothing
  abbrev one_conflict : Option Key → Option Key → Action → Bool
  one_conflict r w b = is_one r (written_by b) || (is_one w (written_by b) || is_one w (read_by b))

  -- ---- they answer alike

  at_one : (keys : List Key) (k : Key) (o : Option Key) → IsTrue (is_in keys k) → AreIn keys o → is_at keys (number_in keys k) o ≡ is_one (Some k) o
  at_one keys k None at_k at_o = refl
  at_one keys k (Some l) at_k at_o = number_tells keys k l at_k at_o

  found_alike : (l f : Option Key) (b : Action) → found_by b ≡ f → AreIn n.places l → AreIn n.places f
      → steps.is_found (number_by n.places l) (numbered_action n b) ≡ is_one l f
  found_alike None f b e at_l at_f = refl
  found_alike (Some k) f b e at_l at_f = finds_is (number_in n.places k) b ∙ ap (λ o. is_at n.places (number_in n.places k) o) e ∙ at_one n.places k f at_l at_f

  taken_alike : (l f : Option Key) (b : Action) → taken_by b ≡ f → AreIn n.places l → AreIn n.places f
      → steps.is_taken (number_by n.places l) (numbered_action n b) ≡ is_one l f
  taken_alike None f b e at_l at_f = refl
  taken_alike (Some k) f b e at_l at_f = takes_is (number_in n.places k) b ∙ ap (λ o. is_at n.places (number_in n.places k) o) e ∙ at_one n.places k f at_l at_f

  or_false : (x : Bool) → x ≡ (x || false)
  or_false true = refl
  or_false false = refl

  write_alike : (k : Key) (b : Action) → IsTrue (is_in n.variables k) → HasNumbers n b
      → steps.is_write (number_in n.variables k) (numbered_action n b) ≡ is_one (Some k) (written_by b)
  write_alike k b at_k h = writes_is (number_in n.variables k) b ∙ at_one n.variables k (written_by b) at_k h.written

  read_alike : (k : Key) (b : Action) → IsTrue (is_in n.variables k) → HasNumbers n b
      → steps.is_read (number_in n.variables k) (numbered_action n b) ≡ is_one (Some k) (read_by b)
  read_alike k b at_k h = reads_is (number_in n.variables k) b ∙ at_one n.variables k (read_by b) at_k h.read

  conflicts_alike : (a b : Action) → HasNumbers n a → HasNumbers n b → steps.conflicts (numbered_action n a) (numbered_action n b) ≡ conflicts a b
  conflicts_alike (Read variable true) b g h = refl
  conflicts_alike (Read variable false) b g h = write_alike _ b g.read h ∙ or_false _
  conflicts_alike (Write variable true) b g h = refl
  conflicts_alike (Write variable false) b g h = λ i. write_alike _ b g.written h i || read_alike _ b g.written h i
  conflicts_alike (Lock object) b g h = refl
  conflicts_alike (Unlock object) b g h = refl
  conflicts_alike (Begin thread) b g h = refl
  conflicts_alike (Finish thread) b g h = refl
  conflicts_alike (Start thread) b g h = refl
  conflicts_alike (Interrupt thread) b g h = refl
  conflicts_alike (ClearInterrupt thread) b g h = refl
  conflicts_alike (Wake thread) b g h = refl
  conflicts_alike (FinishInitialisation class) b g h = refl
  conflicts_alike (FindStarted thread) b g h = refl
  conflicts_alike (FindFinished thread) b g h = refl
  conflicts_alike (FindInterrupted thread) b g h = refl
  conflicts_alike (FindNotInterrupted thread) b g h = refl
  conflicts_alike (FindWoken thread) b g h = refl
  conflicts_alike (FindInitialised class) b g h = refl

  synchronizes_alike : (a b : Action) → HasNumbers n a → HasNumbers n b
      → steps.is_found (steps.left_by (numbered_action n a)) (numbered_action n b) ≡ is_one (left_by a) (found_by b)
  synchronizes_alike a b g h =
      ap (λ o. steps.is_found o (numbered_action n b)) (left_is a) ∙ found_alike (left_by a) (found_by b) b refl g.left h.found

  takes_alike : (a b : Action) → HasNumbers n a → HasNumbers n b
      → steps.is_taken (steps.left_by (numbered_action n a)) (numbered_action n b) ≡ is_one (left_by a) (taken_by b)
  takes_alike a b g h =
      ap (λ o. steps.is_taken o (numbered_action n b)) (left_is a) ∙ taken_alike (left_by a) (taken_by b) b refl g.left h.taken

  renamed : (run : List RunAction) → ((a : RunAction) → Has run a → HasNumbers n a.action) → IsRenaming run_order step_order (numbered_step n) run
  renamed run has =
      record {
        one_thread = λ a b at_a at_b. refl;
        synchronizes = λ a b at_a at_b. synchronizes_alike a.action b.action (has a at_a) (has b at_b);
        takes_away = λ a b at_a at_b. takes_alike a.action b.action (has a at_a) (has b at_b);
        conflict = λ a b at_a at_b. ap (λ c. not (a.thread == b.thread) && c) (conflicts_alike a.action b.action (has a at_a) (has b at_b));
      }

pub alike : (run : List RunAction) (steps : List Step) (n : NumberingOf) → Numbers run steps n → (i j : ℕ)
    → IsRace run_order run i j ↔ IsRace step_order steps i j
alike run steps n numbers i j =
    let r = renamed n run numbers.have_numbers in (
      λ race. subst (λ s. IsRace step_order s i j) (sym numbers.steps_are) (race_to run_order step_order (numbered_step n) run r i j race),
      λ race. race_from run_order step_order (numbered_step n) run r i j (subst (λ s. IsRace step_order s i j) numbers.steps_are race),
    )

-- ---- numbers stay

in_more : (old new : List Key) (more : List Key) → new ≡ old ++ more → (o : Option Key) → AreIn old o → AreIn new o
in_more old new more e None h = h
in_more old new more e (Some k) h = subst (λ keys. IsTrue (is_in keys k)) (sym e) (in_longer old more k h)

module _ (old new : NumberingOf) (longer : IsLonger old new) where
  pub has_longer : (a : Action) → HasNumbers old a → HasNumbers new a
  has_longer a h =
      record {
        left = in_more old.places new.places longer.places.0 longer.places.1 (left_by a) h.left;
        found = in_more old.places new.places longer.places.0 longer.places.1 (found_by a) h.found;
        taken = in_more old.places new.places longer.places.0 longer.places.1 (taken_by a) h.taken;
        read = in_more old.variables new.variables longer.variables.0 longer.variables.1 (read_by a) h.read;
        written = in_more old.variables new.variables longer.variables.0 longer.variables.1 (written_by a) h.written;
      }
