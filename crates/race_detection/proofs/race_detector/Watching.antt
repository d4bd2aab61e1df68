-- A detector after one more step watches the longer run.
use Rattle.std.proofs.Common.{◌≡◌, refl, sym, ◌∙◌, ap, subst, ℕ, ◌+◌, ◌<◌, ◌≤◌, inl, inr, List, length, arith}
use Rattle.std.specs.Prelude.{Option, Some, None, Result, Err, slice_get, true, false, ◌==◌, ◌↔◌, IsTrue, IsFalse}
use Rattle.std.proofs.lemmas.Bool.Decides.{eqb_tells}
use Rattle.std.proofs.lemmas.Bool.{eqb-true, eq-eqb}
use Rattle.data_races.proofs.Order.{with_next}
use Rattle.race_detection.specs.declared.run_steps.Action.{Action}
use Rattle.race_detection.specs.declared.run_steps.Action.TheVariants.{Read, Write, Acquire}
use Rattle.race_detection.specs.declared.run_steps.Step.{Step}
use Rattle.race_detection.specs.declared.last_accesses.Access.{Access}
use Rattle.race_detection.specs.run_steps.Synchronization.{left_by, finds, takes}
use Rattle.race_detection.specs.vector_clocks.Times.{time_in, AreSameTimes, IsRaised, IsStamped}
use Rattle.race_detection.specs.last_accesses.Accesses.{IsKept, AccessesOf, AreSameAccesses, IsReadKept, IsWriteKept}
use Rattle.race_detection.specs.race_detector.Watched.{DetectorOf, accesses_of, IsKnownTo, IsLeftAt, AreLast, Watches, IsTold, IsWatching}
use Rattle.race_detection.proofs.race_detector.Known.{IsFoundBy}
use Rattle.race_detection.proofs.race_detector.Clocks.{ShowKnown, ShowLeft, AreBounded, length_next, same_raised, raised_bounded, more_bounded, threads_next, ShowUntaken, places_untaken, places_left, places_left_bounded}
use Rattle.race_detection.proofs.race_detector.Kept.{last_stays, last_kept}

-- ---- where nothing was watched

pub record IsSame (old new : DetectorOf) : Type 0 where
  pub position : new.position ≡ old.position
  pub threads : AreSameTimes old.threads new.threads
  pub places : AreSameTimes old.places new.places
  pub variables : AreSameAccesses old.variables new.variables

pub same_watches : (run : List Step) (old new : DetectorOf) → IsSame old new → Watches run old → Watches run new
same_watches run old new same w =
    record {
      position = same.position ∙ w.position;
      threads = λ thread i step at other. subst (λ t. (i < t) ↔ IsKnownTo run thread i) (sym (same.threads thread step.thread)) (w.threads thread i step at other);
      places = λ place i step at. subst (λ t. (i < t) ↔ IsLeftAt run place i) (sym (same.places place step.thread)) (w.places place i step at);
      threads_bounded = λ thread t. subst (λ u. u ≤ length run) (sym (same.threads thread t)) (w.threads_bounded thread t);
      places_bounded = λ place t. subst (λ u. u ≤ length run) (sym (same.places place t)) (w.places_bounded place t);
      reads = λ variable. subst (λ (a : AccessesOf). AreLast run (Read variable) a.reads) (sym (same.variables variable)) (w.reads variable);
      writes = λ variable. subst (λ (a : AccessesOf). AreLast run (Write variable) a.writes) (sym (same.variables variable)) (w.writes variable);
    }

-- where memory is missing
pub not_told : {E : Type 0} (r : Result (Option Step) E) (e : E) → r ≡ Err e → (step : Step) (inside old new : DetectorOf) → inside ≡ old → IsSame inside new
    → IsWatching r step old new
not_told r e p step inside old new is same run w =
    subst (λ q. IsTold q run step new) (sym p) (same_watches run inside new same (subst (λ (d : DetectorOf). Watches run d) (sym is) w))

-- ---- one more step

eq_itself : (n : ℕ) → (n == n) ≡ true
eq_itself n = eq-eqb n n refl

module _ (run : List Step) (s : Step) (old new : DetectorOf) (w : Watches run old) (one_more : new.position ≡ old.position + 1) where
  position_next : new.position ≡ length (with_next run s)
  position_next = let e = w.position in let f = length_next run s in omega arith

  next_bounded : (clocks : List (List ℕ)) → AreBounded clocks (length run) → AreBounded clocks (length (with_next run s))
  next_bounded clocks b = let e = length_next run s in more_bounded clocks (length run) (length (with_next run s)) (omega arith) b

  same_bounded : (a b : List (List ℕ)) → AreSameTimes a b → AreBounded a (length run) → AreBounded b (length run)
  same_bounded a b same bounded k t = subst (λ u. u ≤ length run) (sym (same k t)) (bounded k t)

  -- a step that finds nothing
  threads_same : AreSameTimes old.threads new.threads → ((i : ℕ) → IsFoundBy run s i → ⊥) → ShowKnown (with_next run s) new.threads
  threads_same same nothing =
      threads_next run s old.threads new.threads (λ t. 0) w.threads w.threads_bounded (same_raised old.threads new.threads s.thread same) (λ t. omega arith)
      (λ i step at. (λ l. absurd (omega arith), λ f. absurd (nothing i f)))

  -- a step that leaves nothing and takes nothing away
  places_same : AreSameTimes old.places new.places → left_by s.action ≡ None → ((place : ℕ) → IsFalse (takes place s.action)) → ShowLeft (with_next run s) new.places
  places_same same nothing none =
      places_untaken run s new.places
      (λ place i step at.
      let f = subst (λ t. (i < t) ↔ IsLeftAt run place i) (sym (same place step.thread)) (w.places place i step at) in (λ l. (f.0 l, none place), λ h. f.1 h.0))
      (same_bounded old.places new.places same w.places_bounded) nothing

  reads_same : (variable : ℕ) → accesses_of new variable ≡ accesses_of old variable → (s.action ≡ Read variable → ⊥)
      → AreLast (with_next run s) (Read variable) (accesses_of new variable).reads
  reads_same variable is other =
      subst (λ (a : AccessesOf). AreLast (with_next run s) (Read variable) a.reads) (sym is) (last_stays run s (Read variable) (accesses_of old variable).reads (w.reads variable) other)

  writes_same : (variable : ℕ) → accesses_of new variable ≡ accesses_of old variable → (s.action ≡ Write variable → ⊥)
      → AreLast (with_next run s) (Write variable) (accesses_of new variable).writes
  writes_same variable is other =
      subst (λ (a : AccessesOf). AreLast (with_next run s) (Write variable) a.writes) (sym is) (last_stays run s (Write variable) (accesses_of old variable).writes (w.writes variable) other)

  abbrev this : ℕ → Access
  this position = record { thread = s.thread; position = position; event = s.event }

  -- ---- accesses

  module _ (threads : AreSameTimes old.threads new.threads) (places : AreSameTimes old.places new.places) where
    pub read_watches : (variable : ℕ) → s.action ≡ Read variable → IsReadKept old.variables new.variables variable (this old.position) → Watches (with_next run s) new
    read_watches variable is kept =
        let nothing : (i : ℕ) → IsFoundBy run s i → ⊥ = λ i f. let e : false ≡ true = subst (λ (a : Action). finds f.place a ≡ true) is f.finds in cc in
        let kept_at : IsKept (accesses_of old variable).reads (accesses_of new variable).reads (this (length run)) =
        subst (λ p. IsKept (accesses_of old variable).reads (accesses_of new variable).reads (this p)) w.position kept.reads in
        record {
          position = position_next;
          threads = threads_same threads nothing;
          places = places_same places (ap left_by is) (λ place. ap (takes place) is);
          threads_bounded = next_bounded new.threads (same_bounded old.threads new.threads threads w.threads_bounded);
          places_bounded = next_bounded new.places (same_bounded old.places new.places places w.places_bounded);
          reads = λ v.
              elim (eqb_tells v variable) [
                | inl q ↦
                    subst (λ u. AreLast (with_next run s) (Read u) (accesses_of new u).reads) (sym q.1)
                    (last_kept run s (Read variable) (accesses_of old variable).reads (accesses_of new variable).reads (w.reads variable) is kept_at)
                | inr q ↦ reads_same v (kept.others v q.1) (λ e. q.1 (let g : Read v ≡ Read variable = sym e ∙ is in cc))
              ];
          writes = λ v.
              let other : s.action ≡ Write v → ⊥ = λ e. let g : Read variable ≡ Write v = sym is ∙ e in cc in
              elim (eqb_tells v variable) [
                | inl q ↦
                    subst (λ u. AreLast (with_next run s) (Write u) (accesses_of new u).writes) (sym q.1)
                    (subst (λ (a : List Access). AreLast (with_next run s) (Write variable) a) (sym kept.writes)
                    (last_stays run s (Write variable) (accesses_of old variable).writes (w.writes variable) (λ e. let g : Read variable ≡ Write variable = sym is ∙ e in cc)))
                | inr q ↦ writes_same v (kept.others v q.1) other
              ];
        }

    pub write_watches : (variable : ℕ) → s.action ≡ Write variable → IsWriteKept old.variables new.variables variable (this old.position) → Watches (with_next run s) new
    write_watches variable is kept =
        let nothing : (i : ℕ) → IsFoundBy run s i → ⊥ = λ i f. let e : false ≡ true = subst (λ (a : Action). finds f.place a ≡ true) is f.finds in cc in
        let kept_at : IsKept (accesses_of old variable).writes (accesses_of new variable).writes (this (length run)) =
        subst (λ p. IsKept (accesses_of old variable).writes (accesses_of new variable).writes (this p)) w.position kept.writes in
        record {
          position = position_next;
          threads = threads_same threads nothing;
          places = places_same places (ap left_by is) (λ place. ap (takes place) is);
          threads_bounded = next_bounded new.threads (same_bounded old.threads new.threads threads w.threads_bounded);
          places_bounded = next_bounded new.places (same_bounded old.places new.places places w.places_bounded);
          writes = λ v.
              elim (eqb_tells v variable) [
                | inl q ↦
                    subst (λ u. AreLast (with_next run s) (Write u) (accesses_of new u).writes) (sym q.1)
                    (last_kept run s (Write variable) (accesses_of old variable).writes (accesses_of new variable).writes (w.writes variable) is kept_at)
                | inr q ↦ writes_same v (kept.others v q.1) (λ e. q.1 (let g : Write v ≡ Write variable = sym e ∙ is in cc))
              ];
          reads = λ v.
              let other : s.action ≡ Read v → ⊥ = λ e. let g : Write variable ≡ Read v = sym is ∙ e in cc in
              elim (eqb_tells v variable) [
                | inl q ↦
                    subst (λ u. AreLast (with_next run s) (Read u) (accesses_of new u).reads) (sym q.1)
                    (subst (λ (a : List Access). AreLast (with_next run s) (Read variable) a) (sym kept.reads)
                    (last_stays run s (Read variable) (accesses_of old variable).reads (w.reads variable) (λ e. let g : Write variable ≡ Read variable = sym is ∙ e in cc)))
                | inr q ↦ reads_same v (kept.others v q.1) other
              ];
        }

  -- ---- synchronization

  module _ (same : AreSameAccesses old.variables new.variables) where
    pub acquire_watches : (place : ℕ) → s.action ≡ Acquire place → IsRaised old.threads new.threads s.thread (time_in old.places place)
        → AreSameTimes old.places new.places → Watches (with_next run s) new
    acquire_watches place is raised places =
        let found : (i : ℕ) (step : Step) → slice_get run i ≡ Some step → (i < time_in old.places place step.thread) ↔ IsFoundBy run s i = λ i step at.
        let f = w.places place i step at in (
          λ l. record {
            place = place;
            finds = subst (λ (a : Action). IsTrue (finds place a)) (sym is) (eq_itself place);
            left = f.0 l;
          },
          λ h. f.1 (subst (λ p. IsLeftAt run p i) (eqb-true h.place place (subst (λ (a : Action). IsTrue (finds h.place a)) is h.finds)) h.left),
        ) in
        record {
          position = position_next;
          threads = threads_next run s old.threads new.threads (time_in old.places place) w.threads w.threads_bounded raised (w.places_bounded place) found;
          places = places_same places (ap left_by is) (λ p. ap (takes p) is);
          threads_bounded = next_bounded new.threads (raised_bounded old.threads new.threads s.thread (time_in old.places place) (length run) raised w.threads_bounded (w.places_bounded place));
          places_bounded = next_bounded new.places (same_bounded old.places new.places places w.places_bounded);
          reads = λ v. reads_same v (same v) (λ e. let g : Acquire place ≡ Read v = sym is ∙ e in cc);
          writes = λ v. writes_same v (same v) (λ e. let g : Acquire place ≡ Write v = sym is ∙ e in cc);
        }

    -- a step that leaves what its thread knows at a place, where some of it was taken away before
    pub leave_watches : (place : ℕ) → left_by s.action ≡ Some place → ((p : ℕ) → IsFalse (finds p s.action)) → ((v : ℕ) → s.action ≡ Read v → ⊥) → ((v : ℕ) → s.action ≡ Write v → ⊥)
        → (untaken mid : List (List ℕ)) → ShowUntaken run s untaken → AreBounded untaken (length run)
        → IsRaised untaken mid place (time_in old.threads s.thread) → IsStamped mid new.places place s.thread (old.position + 1)
        → AreSameTimes old.threads new.threads → Watches (with_next run s) new
    leave_watches place leaves finds_none no_read no_write untaken mid shown bounded raised stamped threads =
        let nothing : (i : ℕ) → IsFoundBy run s i → ⊥ = λ i f. let e : false ≡ true = sym (finds_none f.place) ∙ f.finds in cc in
        let stamped_at : IsStamped mid new.places place s.thread (length run + 1) = subst (λ p. IsStamped mid new.places place s.thread (p + 1)) w.position stamped in
        record {
          position = position_next;
          threads = threads_same threads nothing;
          places = places_left run s old.threads untaken mid new.places place w.threads w.threads_bounded shown bounded leaves nothing raised stamped_at;
          threads_bounded = next_bounded new.threads (same_bounded old.threads new.threads threads w.threads_bounded);
          places_bounded = subst (λ n. AreBounded new.places n) (sym (length_next run s))
              (places_left_bounded run s old.threads untaken mid new.places place w.threads w.threads_bounded shown bounded leaves nothing raised stamped_at);
          reads = λ v. reads_same v (same v) (no_read v);
          writes = λ v. writes_same v (same v) (no_write v);
        }
