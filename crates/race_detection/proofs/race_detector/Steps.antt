-- One more step, by its action: the detector watches the longer run, and what it tells is right.
use Rattle.std.proofs.Common.{◌≡◌, refl, sym, ◌∙◌, ap, subst, ℕ, ◌+◌, ◌<◌, ◌≤◌, inl, inr, List, [], length, max, arith}
use Rattle.std.specs.Prelude.{Option, None, slice_index_or, true, false, ◌↔◌, IsFalse}
use Rattle.std.specs.Option.{option_map, option_or}
use Rattle.std.proofs.lemmas.Bool.{eq-eqb}
use Rattle.std.proofs.lemmas.Bool.Decides.{eqb_tells}
use Rattle.data_races.proofs.Order.{with_next}
use Rattle.race_detection.specs.declared.run_steps.Action.{Action}
use Rattle.race_detection.specs.declared.run_steps.Action.TheVariants.{Read, Write, Acquire, Release, Clear}
use Rattle.race_detection.specs.declared.run_steps.Step.{Step}
use Rattle.race_detection.specs.declared.last_accesses.Access.{Access}
use Rattle.race_detection.specs.run_steps.Synchronization.{left_by, finds, takes}
use Rattle.race_detection.specs.vector_clocks.Times.{time_in, AreSameTimes, IsRaised, IsStamped, IsReset}
use Rattle.race_detection.specs.last_accesses.Accesses.{AccessesOf, accesses_at, AreSameAccesses, IsFirstUnknown, IsReadKept, IsWriteKept}
use Rattle.race_detection.specs.race_detector.Watched.{DetectorOf, IsLeftAt, Watches, Tells, step_with}
use Rattle.race_detection.proofs.race_detector.Known.{IsFoundBy}
use Rattle.race_detection.proofs.race_detector.Clocks.{ShowUntaken, AreBounded}
use Rattle.race_detection.proofs.race_detector.Told.{ConflictsWithNone, acquire_alone, release_alone, clear_alone, tells_nothing, told_read, told_write}
use Rattle.race_detection.proofs.race_detector.Watching.{read_watches, write_watches, acquire_watches, leave_watches}

raised_after : (a b c : List (List ℕ)) (k : ℕ) (by : ℕ → ℕ) → AreSameTimes a b → IsRaised b c k by → IsRaised a c k by
raised_after a b c k by same r =
    record {
      raised = λ t. r.raised t ∙ ap (λ m. max m (by t)) (same k t);
      others = λ j t ne. r.others j t ne ∙ same j t;
    }

same_bounded : (a b : List (List ℕ)) (n : ℕ) → AreSameTimes a b → AreBounded a n → AreBounded b n
same_bounded a b n same bounded k t = subst (λ u. u ≤ n) (sym (same k t)) (bounded k t)

reset_bounded : (a b : List (List ℕ)) (taken n : ℕ) → IsReset a b taken → AreBounded a n → AreBounded b n
reset_bounded a b taken n r bounded k t =
    elim (eqb_tells k taken) [
      | inl q ↦ subst (λ p. time_in b p t ≤ n) (sym q.1) (let e = r.reset t in omega arith)
      | inr q ↦ subst (λ u. u ≤ n) (sym (r.others k t q.1)) (bounded k t)
    ]

module _ (run : List Step) (s : Step) (old : DetectorOf) (w : Watches run old) where
  untaken_same : (made : List (List ℕ)) → AreSameTimes old.places made → ((p : ℕ) → IsFalse (takes p s.action)) → ShowUntaken run s made
  untaken_same made same none place i step at =
      let f = subst (λ t. (i < t) ↔ IsLeftAt run place i) (sym (same place step.thread)) (w.places place i step at) in (λ l. (f.0 l, none place), λ h. f.1 h.0)

  untaken_reset : (made reset : List (List ℕ)) (taken left : ℕ) → AreSameTimes old.places made → IsReset made reset taken → s.action ≡ Clear taken left
      → ShowUntaken run s reset
  untaken_reset made reset taken left same r is place i step at =
      elim (eqb_tells place taken) [
        | inl q ↦
            subst (λ p. (i < time_in reset p step.thread) ↔ (IsLeftAt run p i × IsFalse (takes p s.action))) (sym q.1) (
              λ l. absurd (let e = r.reset step.thread in omega arith),
              λ h. absurd (let e : true ≡ false = sym (eq-eqb taken taken refl) ∙ subst (λ (a : Action). takes taken a ≡ false) is h.1 in cc),
            )
        | inr q ↦
            let same_time : time_in reset place step.thread ≡ time_in old.places place step.thread = r.others place step.thread q.1 ∙ same place step.thread in
            let f = subst (λ t. (i < t) ↔ IsLeftAt run place i) (sym same_time) (w.places place i step at) in (
              λ l. (f.0 l, subst (λ (a : Action). takes place a ≡ false) (sym is) q.0),
              λ h. f.1 h.0,
            )
      ]

module _ (run : List Step) (s : Step) (old new : DetectorOf) (w : Watches run old) (one_more : new.position ≡ old.position + 1) where
  alone : (a : Action) → s.action ≡ a → ConflictsWithNone a → ConflictsWithNone s.action
  alone a is none = subst (λ (b : Action). ConflictsWithNone b) (sym is) none

  module _ (same : AreSameAccesses old.variables new.variables) where
    pub acquired : (place : ℕ) (made : List (List ℕ)) → s.action ≡ Acquire place → AreSameTimes old.threads made
        → IsRaised made new.threads s.thread (time_in old.places place) → AreSameTimes old.places new.places
        → Watches (with_next run s) new × Tells run s None
    acquired place made is threads raised places = (
      acquire_watches run s old new w one_more same place is (raised_after old.threads made new.threads s.thread (time_in old.places place) threads raised) places,
      tells_nothing run s (alone (Acquire place) is (acquire_alone place)),
    )

    pub released : (place : ℕ) (made mid : List (List ℕ)) → s.action ≡ Release place → AreSameTimes old.places made
        → IsRaised made mid place (time_in old.threads s.thread) → IsStamped mid new.places place s.thread (old.position + 1)
        → AreSameTimes old.threads new.threads → Watches (with_next run s) new × Tells run s None
    released place made mid is places raised stamped threads = (
      leave_watches run s old new w one_more same place (ap left_by is) (λ p. ap (finds p) is)
          (λ v e. let g : Release place ≡ Read v = sym is ∙ e in cc) (λ v e. let g : Release place ≡ Write v = sym is ∙ e in cc) made mid
          (untaken_same run s old w made places (λ p. ap (takes p) is)) (same_bounded old.places made (length run) places w.places_bounded) raised stamped threads,
      tells_nothing run s (alone (Release place) is (release_alone place)),
    )

    pub cleared : (taken left : ℕ) (made reset mid : List (List ℕ)) → s.action ≡ Clear taken left → AreSameTimes old.places made → IsReset made reset taken
        → IsRaised reset mid left (time_in old.threads s.thread) → IsStamped mid new.places left s.thread (old.position + 1)
        → AreSameTimes old.threads new.threads → Watches (with_next run s) new × Tells run s None
    cleared taken left made reset mid is places r raised stamped threads = (
      leave_watches run s old new w one_more same left (ap left_by is) (λ p. ap (finds p) is)
          (λ v e. let g : Clear taken left ≡ Read v = sym is ∙ e in cc) (λ v e. let g : Clear taken left ≡ Write v = sym is ∙ e in cc) reset mid
          (untaken_reset run s old w made reset taken left places r is)
          (reset_bounded made reset taken (length run) r (same_bounded old.places made (length run) places w.places_bounded)) raised stamped threads,
      tells_nothing run s (alone (Clear taken left) is (clear_alone taken left)),
    )

  module _ (threads : AreSameTimes old.threads new.threads) (places : AreSameTimes old.places new.places) where
    nothing_found : (a : Action) → s.action ≡ a → ((p : ℕ) → finds p a ≡ false) → (i : ℕ) → IsFoundBy run s i → ⊥
    nothing_found a is none i f = let e : false ≡ true = sym (none f.place) ∙ subst (λ (b : Action). finds f.place b ≡ true) is f.finds in cc

    -- what is read here stands in copies of the variables and of the clocks
    pub read_told : (variable : ℕ) → s.action ≡ Read variable
        → IsReadKept old.variables new.variables variable (record { thread = s.thread; position = old.position; event = s.event })
        → (variables : List AccessesOf) (clocks : List (List ℕ)) → variables ≡ old.variables → clocks ≡ old.threads
        → (o : Option Access) → IsFirstUnknown (accesses_at variables variable).writes s.thread (slice_index_or clocks s.thread []) o
        → (told : Option Step) → told ≡ option_map (step_with (Write variable)) o → Watches (with_next run s) new × Tells run s told
    read_told variable is kept variables clocks vs cs o first told told_is =
        let f : IsFirstUnknown (accesses_at old.variables variable).writes s.thread (slice_index_or old.threads s.thread []) o =
        subst (λ (c : List (List ℕ)). IsFirstUnknown (accesses_at old.variables variable).writes s.thread (slice_index_or c s.thread []) o) cs
        (subst (λ (v : List AccessesOf). IsFirstUnknown (accesses_at v variable).writes s.thread (slice_index_or clocks s.thread []) o) vs first) in (
          read_watches run s old new w one_more threads places variable is kept,
          subst (λ (t : Option Step). Tells run s t) (sym told_is)
              (told_read run s old.threads w.threads (nothing_found (Read variable) is (λ p. refl)) variable is (accesses_at old.variables variable).writes (w.writes variable) o f),
        )

    pub write_told : (variable : ℕ) → s.action ≡ Write variable
        → IsWriteKept old.variables new.variables variable (record { thread = s.thread; position = old.position; event = s.event })
        → (variables others : List AccessesOf) (clocks more : List (List ℕ)) → variables ≡ old.variables → others ≡ old.variables → clocks ≡ old.threads → more ≡ old.threads
        → (o p : Option Access) → IsFirstUnknown (accesses_at variables variable).writes s.thread (slice_index_or clocks s.thread []) o
        → IsFirstUnknown (accesses_at others variable).reads s.thread (slice_index_or more s.thread []) p
        → (told : Option Step) → told ≡ option_or (option_map (step_with (Write variable)) o) (option_map (step_with (Read variable)) p)
        → Watches (with_next run s) new × Tells run s told
    write_told variable is kept variables others clocks more vs os cs ms o p first second told told_is =
        let f : IsFirstUnknown (accesses_at old.variables variable).writes s.thread (slice_index_or old.threads s.thread []) o =
        subst (λ (c : List (List ℕ)). IsFirstUnknown (accesses_at old.variables variable).writes s.thread (slice_index_or c s.thread []) o) cs
        (subst (λ (v : List AccessesOf). IsFirstUnknown (accesses_at v variable).writes s.thread (slice_index_or clocks s.thread []) o) vs first) in
        let g : IsFirstUnknown (accesses_at old.variables variable).reads s.thread (slice_index_or old.threads s.thread []) p =
        subst (λ (c : List (List ℕ)). IsFirstUnknown (accesses_at old.variables variable).reads s.thread (slice_index_or c s.thread []) p) ms
        (subst (λ (v : List AccessesOf). IsFirstUnknown (accesses_at v variable).reads s.thread (slice_index_or more s.thread []) p) os second) in (
          write_watches run s old new w one_more threads places variable is kept,
          subst (λ (t : Option Step). Tells run s t) (sym told_is)
              (told_write run s old.threads w.threads (nothing_found (Write variable) is (λ p. refl)) variable is (accesses_at old.variables variable).reads
              (accesses_at old.variables variable).writes (w.reads variable) (w.writes variable) o p f g),
        )
