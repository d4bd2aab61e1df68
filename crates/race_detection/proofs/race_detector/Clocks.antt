-- The clocks of a detector after one more step.
use Rattle.std.proofs.Common.{◌≡◌, sym, ◌∙◌, ap, subst, ℕ, ◌+◌, ◌<◌, ◌≤◌, ◌⊎◌, inl, inr, List, [], ◌∷◌, length, arith, length-append}
use Rattle.std.specs.Prelude.{Some, None, slice_get, ◌↔◌, IsFalse}
use Rattle.std.proofs.lemmas.Option.{slice_get_within}
use Rattle.std.proofs.lemmas.Bool.Decides.{eqb_tells, leb_tells}
use Rattle.data_races.proofs.Order.{at_next, with_next}
use Rattle.race_detection.specs.declared.run_steps.Step.{Step}
use Rattle.race_detection.specs.run_steps.Synchronization.{left_by, takes}
use Rattle.race_detection.specs.vector_clocks.Times.{time_in, AreSameTimes, IsRaised, IsStamped}
use Rattle.race_detection.specs.race_detector.Watched.{IsKnownTo, IsLeftAt}
use Rattle.race_detection.proofs.race_detector.Known.{IsFoundBy, known_below, left_below, known_longer, known_else, known_itself, known_own, found_known, known_cases, left_cases, left_stays, left_new}

pub length_next : (run : List Step) (s : Step) → length (with_next run s) ≡ length run + 1
length_next run s = length-append run (s ∷ [])

pub lt_or_le : (a b : ℕ) → (a < b) ⊎ (b ≤ a)
lt_or_le a b = elim (leb_tells b a) [ inl p ↦ inr p.1 | inr p ↦ inl p.1 ]

-- what the clocks of threads show
abbrev pub ShowKnown : List Step → List (List ℕ) → Type 0
ShowKnown run threads =
    (thread i : ℕ) (step : Step) → slice_get run i ≡ Some step → (step.thread ≡ thread → ⊥) → (i < time_in threads thread step.thread) ↔ IsKnownTo run thread i

-- what those of places show
abbrev pub ShowLeft : List Step → List (List ℕ) → Type 0
ShowLeft run places = (place i : ℕ) (step : Step) → slice_get run i ≡ Some step → (i < time_in places place step.thread) ↔ IsLeftAt run place i

abbrev pub AreBounded : List (List ℕ) → ℕ → Type 0
AreBounded clocks n = (k t : ℕ) → time_in clocks k t ≤ n

pub same_raised : (old new : List (List ℕ)) (k : ℕ) → AreSameTimes old new → IsRaised old new k (λ t. 0)
same_raised old new k same = record { raised = λ t. let e = same k t in omega arith; others = λ j t ne. same j t }

pub raised_bounded : (old new : List (List ℕ)) (k : ℕ) (by : ℕ → ℕ) (n : ℕ) → IsRaised old new k by → AreBounded old n → ((t : ℕ) → by t ≤ n) → AreBounded new n
raised_bounded old new k by n r b l j t =
    elim (eqb_tells j k) [
      | inl p ↦ subst (λ m. time_in new m t ≤ n) (sym p.1) (let e = r.raised t in let u = b k t in let v = l t in omega arith)
      | inr p ↦ let e = r.others j t p.1 in let u = b j t in omega arith
    ]

pub more_bounded : (clocks : List (List ℕ)) (n m : ℕ) → n ≤ m → AreBounded clocks n → AreBounded clocks m
more_bounded clocks n m l b k t = let u = b k t in omega arith

module _ (run : List Step) (s : Step) where
  -- ---- threads

  module _ (old new : List (List ℕ)) (by : ℕ → ℕ) (shown : ShowKnown run old) (bounded : AreBounded old (length run)) (raised : IsRaised old new s.thread by)
      (most : (t : ℕ) → by t ≤ length run)
      (found : (i : ℕ) (step : Step) → slice_get run i ≡ Some step → (i < by step.thread) ↔ IsFoundBy run s i) where
    own_shown : (i : ℕ) (step : Step) → slice_get run i ≡ Some step → (step.thread ≡ s.thread → ⊥) → i < time_in new s.thread step.thread
        → IsKnownTo (with_next run s) s.thread i
    own_shown i step at other l =
        elim (lt_or_le i (time_in old s.thread step.thread)) [
          | inl p ↦ known_longer run s s.thread i ((shown s.thread i step at other).0 p)
          | inr p ↦
              let e = raised.raised step.thread in
              let m : time_in old s.thread step.thread ≤ i = p in
              found_known run s i ((found i step at).0 (omega arith))
        ]

    own_known : (i : ℕ) (step : Step) → slice_get run i ≡ Some step → (step.thread ≡ s.thread → ⊥) → IsKnownTo (with_next run s) s.thread i
        → i < time_in new s.thread step.thread
    own_known i step at other h =
        let e = raised.raised step.thread in
        elim (known_cases run s i h) [
          | inl is ↦ absurd (let l : i < length run = slice_get_within run i step at in omega arith)
          | inr o ↦ elim o [
            | inl k ↦ let l : i < time_in old s.thread step.thread = (shown s.thread i step at other).1 k in omega arith
            | inr f ↦ let l : i < by step.thread = (found i step at).1 f in omega arith
          ]
        ]

    before_last : (thread i : ℕ) (step : Step) → slice_get run i ≡ Some step → (step.thread ≡ thread → ⊥)
        → (i < time_in new thread step.thread) ↔ IsKnownTo (with_next run s) thread i
    before_last thread i step at other =
        elim (eqb_tells thread s.thread) [
          | inl q ↦
              let ne : step.thread ≡ s.thread → ⊥ = λ g. other (g ∙ sym q.1) in
              subst (λ t. (i < time_in new t step.thread) ↔ IsKnownTo (with_next run s) t i) (sym q.1) (own_shown i step at ne, own_known i step at ne)
          | inr q ↦
              let e = raised.others thread step.thread q.1 in
              let f = shown thread i step at other in (
                λ l. known_longer run s thread i (f.0 (omega arith)),
                λ h. let l : i < time_in old thread step.thread = f.1 (known_else run s thread i (λ g. q.1 (sym g)) h) in omega arith,
              )
        ]

    at_last : (thread i : ℕ) (step : Step) → i ≡ length run → (s.thread ≡ thread → ⊥) → (i < time_in new thread step.thread) ↔ IsKnownTo (with_next run s) thread i
    at_last thread i step is ne =
        let e = raised.others thread step.thread (λ g. ne (sym g)) in
        let b = bounded thread step.thread in (
          λ l. absurd (omega arith),
          λ h. absurd (let k : i < length run = known_below run thread i (known_else run s thread i ne h) in omega arith),
        )

    -- where the clock of the step's thread gets the times of what the step finds
    pub threads_next : ShowKnown (with_next run s) new
    threads_next thread i step at other =
        elim (at_next run s i step at) [
          | inl p ↦ before_last thread i step p.1 other
          | inr p ↦ at_last thread i step p.0 (λ g. other (ap (λ (x : Step). x.thread) p.1 ∙ g))
        ]

  -- ---- places

  -- what is left where the step takes some of it away
  abbrev pub ShowUntaken : List (List ℕ) → Type 0
  ShowUntaken places =
      (place i : ℕ) (step : Step) → slice_get run i ≡ Some step
      → (i < time_in places place step.thread) ↔ (IsLeftAt run place i × IsFalse (takes place s.action))

  -- where it leaves nothing
  pub places_untaken : (places : List (List ℕ)) → ShowUntaken places → AreBounded places (length run) → left_by s.action ≡ None → ShowLeft (with_next run s) places
  places_untaken places shown bounded nothing place i step at =
      elim (at_next run s i step at) [
        | inl p ↦
            let f = shown place i step p.1 in (
              λ l. let h = f.0 l in left_stays run s place i h.0 h.1,
              λ h. elim (left_cases run s place i h) [ inl k ↦ f.1 k | inr k ↦ absurd (let e : None ≡ Some place = sym nothing ∙ k.0 in cc) ],
            )
        | inr p ↦
            let b = bounded place step.thread in
            let is : i ≡ length run = p.0 in (
              λ l. absurd (omega arith),
              λ h. elim (left_cases run s place i h) [
                | inl k ↦ absurd (let l : i < length run = left_below run place i k.0 in omega arith)
                | inr k ↦ absurd (let e : None ≡ Some place = sym nothing ∙ k.0 in cc)
              ],
            )
      ]

  -- where it leaves what its thread knows
  module _ (threads old mid new : List (List ℕ)) (place : ℕ) (known : ShowKnown run threads) (threads_bounded : AreBounded threads (length run))
      (shown : ShowUntaken old) (bounded : AreBounded old (length run)) (leaves : left_by s.action ≡ Some place)
      (nothing : (i : ℕ) → IsFoundBy run s i → ⊥)
      (raised : IsRaised old mid place (time_in threads s.thread)) (stamped : IsStamped mid new place s.thread (length run + 1)) where
    left_here : (i : ℕ) (step : Step) → slice_get (with_next run s) i ≡ Some step → i < time_in new place step.thread → IsLeftAt (with_next run s) place i
    left_here i step at l =
        elim (at_next run s i step at) [
          | inl p ↦
              elim (eqb_tells step.thread s.thread) [
                | inl q ↦ left_new run s place i leaves (known_own run s i step p.1 q.1)
                | inr q ↦
                    let e = stamped.rest step.thread q.1 in
                    let f = raised.raised step.thread in
                    elim (lt_or_le i (time_in old place step.thread)) [
                      | inl o ↦ let h = (shown place i step p.1).0 o in left_stays run s place i h.0 h.1
                      | inr o ↦
                          let m : time_in old place step.thread ≤ i = o in
                          left_new run s place i leaves (known_longer run s s.thread i ((known s.thread i step p.1 q.1).0 (omega arith)))
                    ]
              ]
          | inr p ↦ left_new run s place i leaves (known_itself run s i p.0)
        ]

    known_here : (i : ℕ) (step : Step) → slice_get (with_next run s) i ≡ Some step → IsKnownTo (with_next run s) s.thread i → i < time_in new place step.thread
    known_here i step at h =
        let at_most : i < length run + 1 = let l : i < length (with_next run s) = known_below (with_next run s) s.thread i h in let e = length_next run s in omega arith in
        elim (eqb_tells step.thread s.thread) [
          | inl q ↦ subst (λ t. i < time_in new place t) (sym q.1) (let e = stamped.stamped in omega arith)
          | inr q ↦
              let e = stamped.rest step.thread q.1 in
              let f = raised.raised step.thread in
              elim (at_next run s i step at) [
                | inl p ↦
                    elim (known_cases run s i h) [
                      | inl is ↦ absurd (let l : i < length run = p.0 in omega arith)
                      | inr o ↦ elim o [
                        | inl k ↦ let l : i < time_in threads s.thread step.thread = (known s.thread i step p.1 q.1).1 k in omega arith
                        | inr k ↦ absurd (nothing i k)
                      ]
                    ]
                | inr p ↦ absurd (q.1 (ap (λ (x : Step). x.thread) p.1))
              ]
        ]

    kept_here : (i : ℕ) (step : Step) → slice_get (with_next run s) i ≡ Some step → IsLeftAt run place i → IsFalse (takes place s.action)
        → i < time_in new place step.thread
    kept_here i step at h free =
        let below : i < length run = left_below run place i h in
        elim (eqb_tells step.thread s.thread) [
          | inl q ↦ subst (λ t. i < time_in new place t) (sym q.1) (let e = stamped.stamped in omega arith)
          | inr q ↦
              let e = stamped.rest step.thread q.1 in
              let f = raised.raised step.thread in
              elim (at_next run s i step at) [
                | inl p ↦ let l : i < time_in old place step.thread = (shown place i step p.1).1 (h, free) in omega arith
                | inr p ↦ absurd (let is : i ≡ length run = p.0 in omega arith)
              ]
        ]

    here : (i : ℕ) (step : Step) → slice_get (with_next run s) i ≡ Some step → (i < time_in new place step.thread) ↔ IsLeftAt (with_next run s) place i
    here i step at = (
      left_here i step at,
      λ h. elim (left_cases run s place i h) [ inl k ↦ kept_here i step at k.0 k.1 | inr k ↦ known_here i step at k.1 ],
    )

    elsewhere : (other i : ℕ) (step : Step) → slice_get (with_next run s) i ≡ Some step → (other ≡ place → ⊥)
        → (i < time_in new other step.thread) ↔ IsLeftAt (with_next run s) other i
    elsewhere other i step at ne =
        let same : left_by s.action ≡ Some other → ⊥ = λ g. ne (let e : Some other ≡ Some place = sym g ∙ leaves in cc) in
        let e : time_in new other step.thread ≡ time_in old other step.thread = stamped.others other step.thread ne ∙ raised.others other step.thread ne in
        elim (at_next run s i step at) [
          | inl p ↦
              let f = shown other i step p.1 in (
                λ l. let h = f.0 (subst (λ t. i < t) e l) in left_stays run s other i h.0 h.1,
                λ h. elim (left_cases run s other i h) [ inl k ↦ subst (λ t. i < t) (sym e) (f.1 k) | inr k ↦ absurd (same k.0) ],
              )
          | inr p ↦
              let b = bounded other step.thread in
              let is : i ≡ length run = p.0 in (
                λ l. absurd (let m : i < time_in old other step.thread = subst (λ t. i < t) e l in omega arith),
                λ h. elim (left_cases run s other i h) [
                  | inl k ↦ absurd (let l : i < length run = left_below run other i k.0 in omega arith)
                  | inr k ↦ absurd (same k.0)
                ],
              )
        ]

    pub places_left : ShowLeft (with_next run s) new
    places_left other i step at =
        elim (eqb_tells other place) [
          | inl q ↦ subst (λ p. (i < time_in new p step.thread) ↔ IsLeftAt (with_next run s) p i) (sym q.1) (here i step at)
          | inr q ↦ elsewhere other i step at q.1
        ]

    pub places_left_bounded : AreBounded new (length run + 1)
    places_left_bounded k t =
        let b = raised_bounded old mid place (time_in threads s.thread) (length run) raised bounded (threads_bounded s.thread) in
        elim (eqb_tells k place) [
          | inl q ↦
              subst (λ p. time_in new p t ≤ length run + 1) (sym q.1)
              (elim (eqb_tells t s.thread) [
                | inl o ↦ subst (λ u. time_in new place u ≤ length run + 1) (sym o.1) (let e = stamped.stamped in omega arith)
                | inr o ↦ let e = stamped.rest t o.1 in let m = b place t in omega arith
              ])
          | inr q ↦ let e = stamped.others k t q.1 in let m = b k t in omega arith
        ]
