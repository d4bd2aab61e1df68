-- What one more step changes of what threads know and of what is left at places.
use Rattle.std.proofs.Common.{◌≡◌, refl, sym, ◌∙◌, ap, subst, ℕ, ◌<◌, ◌≤◌, ◌⊎◌, inl, inr, List, [], ◌∷◌, length, arith}
use Rattle.std.specs.Prelude.{Option, Some, None, slice_get, IsTrue, IsFalse}
use Rattle.std.proofs.lemmas.Option.{slice_get_within}
use Rattle.std.proofs.lemmas.Bool.{eqb-true, eq-eqb}
use Rattle.data_races.specs.HappensBefore.{Pair, HappensBefore}
use Rattle.data_races.proofs.Order.{get_left, get_seam, at_next, onwards, Precedes, with_next, within, longer, to_last, last_by}
use Rattle.race_detection.specs.declared.run_steps.Action.{Action}
use Rattle.race_detection.specs.declared.run_steps.Step.{Step}
use Rattle.race_detection.specs.run_steps.Synchronization.{left_by, finds, takes, is_found, is_taken, step_order}
use Rattle.race_detection.specs.race_detector.Watched.{IsUpTo, IsKnownTo, IsLeftAt}

pub up_to_at_most : (run : List Step) (i k : ℕ) → IsUpTo run i k → i ≤ k
up_to_at_most run i k p = elim p [ inl e ↦ omega arith | inr h ↦ let l : i < k = onwards step_order run i k h in omega arith ]

pub known_below : (run : List Step) (thread i : ℕ) → IsKnownTo run thread i → i < length run
known_below run thread i h =
    let l : h.by < length run = slice_get_within run h.by h.step h.at in
    let m : i ≤ h.by = up_to_at_most run i h.by h.up_to in omega arith

pub left_below : (run : List Step) (place i : ℕ) → IsLeftAt run place i → i < length run
left_below run place i h =
    let l : h.by < length run = slice_get_within run h.by h.step h.at in
    let m : i ≤ h.by = up_to_at_most run i h.by h.up_to in omega arith

-- what a step finds
pub record IsFoundBy (run : List Step) (s : Step) (i : ℕ) : Type 0 where
  pub place : ℕ
  pub finds : IsTrue (finds place s.action)
  pub left : IsLeftAt run place i

-- the place of what is found
place_found : (o : Option ℕ) (a : Action) → IsTrue (is_found o a) → (place : ℕ) × (o ≡ Some place) × IsTrue (finds place a)
place_found None a h = absurd (cc)
place_found (Some place) a h = (place, refl, h)

module _ (run : List Step) (s : Step) where
  up_to_longer : (i k : ℕ) → IsUpTo run i k → IsUpTo (with_next run s) i k
  up_to_longer i k p = elim p [ inl e ↦ inl e | inr h ↦ inr (longer step_order run s i k h) ]

  up_to_within : (i k : ℕ) → k < length run → IsUpTo (with_next run s) i k → IsUpTo run i k
  up_to_within i k l p = elim p [ inl e ↦ inl e | inr h ↦ inr (within step_order run s i k h l) ]

  pub known_longer : (thread i : ℕ) → IsKnownTo run thread i → IsKnownTo (with_next run s) thread i
  known_longer thread i h =
      record {
        by = h.by;
        step = h.step;
        at = get_left run (s ∷ []) h.by (slice_get_within run h.by h.step h.at) ∙ h.at;
        of_thread = h.of_thread;
        up_to = up_to_longer i h.by h.up_to;
      }

  -- another thread knows no more than before
  pub known_else : (thread i : ℕ) → (s.thread ≡ thread → ⊥) → IsKnownTo (with_next run s) thread i → IsKnownTo run thread i
  known_else thread i other h =
      elim (at_next run s h.by h.step h.at) [
        | inl p ↦ record { by = h.by; step = h.step; at = p.1; of_thread = h.of_thread; up_to = up_to_within i h.by p.0 h.up_to }
        | inr p ↦ absurd (other (ap (λ (x : Step). x.thread) (sym p.1) ∙ h.of_thread))
      ]

  -- the thread of the step knows the step itself
  pub known_itself : (i : ℕ) → i ≡ length run → IsKnownTo (with_next run s) s.thread i
  known_itself i e = record { by = length run; step = s; at = get_seam run s; of_thread = refl; up_to = inl e }

  -- and all of its own
  pub known_own : (i : ℕ) (step : Step) → slice_get run i ≡ Some step → step.thread ≡ s.thread → IsKnownTo (with_next run s) s.thread i
  known_own i step at e =
      record {
        by = i;
        step = step;
        at = get_left run (s ∷ []) i (slice_get_within run i step at) ∙ at;
        of_thread = e;
        up_to = inl refl;
      }

  by_program : (k : ℕ) (step : Step) → slice_get run k ≡ Some step → step.thread ≡ s.thread → Precedes step_order (with_next run s) k (length run)
  by_program k step at e =
      let l : k < length run = slice_get_within run k step at in
      let pair : Pair (with_next run s) k (length run) = record { first = step; second = s; earlier = l; at_first = get_left run (s ∷ []) k l ∙ at; at_second = get_seam run s } in
      inl (record { pair = pair; same = eq-eqb step.thread s.thread e })

  -- what the thread knew happens before the step
  pub known_before : (i : ℕ) → IsKnownTo run s.thread i → HappensBefore step_order (with_next run s) i (length run)
  known_before i h = last_by step_order run s i h.by (length run) h.up_to (by_program h.by h.step h.at h.of_thread)

  by_synchronization : (i : ℕ) (f : IsFoundBy run s i) → Precedes step_order (with_next run s) f.left.by (length run)
  by_synchronization i f =
      let k = f.left.by in
      let step = f.left.step in
      let l : k < length run = slice_get_within run k step f.left.at in
      let pair : Pair (with_next run s) k (length run) = record { first = step; second = s; earlier = l; at_first = get_left run (s ∷ []) k l ∙ f.left.at; at_second = get_seam run s } in
      inr (record {
        pair = pair;
        synchronizes = subst (λ (o : Option ℕ). IsTrue (is_found o s.action)) (sym f.left.left) f.finds;
        stays = λ m between a b at.
            subst (λ (o : Option ℕ). IsFalse (is_taken o between.action)) (sym f.left.left) (f.left.stays m between a (sym (get_left run (s ∷ []) m b) ∙ at));
      })

  pub found_before : (i : ℕ) → IsFoundBy run s i → HappensBefore step_order (with_next run s) i (length run)
  found_before i f = last_by step_order run s i f.left.by (length run) f.left.up_to (by_synchronization i f)

  pub found_known : (i : ℕ) → IsFoundBy run s i → IsKnownTo (with_next run s) s.thread i
  found_known i f = record { by = length run; step = s; at = get_seam run s; of_thread = refl; up_to = inr (found_before i f) }

  -- what happens before the step was known to its thread, or is found by the step
  pub before_cases : (i : ℕ) → HappensBefore step_order (with_next run s) i (length run) → IsKnownTo run s.thread i ⊎ IsFoundBy run s i
  before_cases i h =
      let p = to_last step_order run s i (length run) h refl in
      let second : (x : Step) → slice_get (with_next run s) (length run) ≡ Some x → x ≡ s = λ x at. let e : Some x ≡ Some s = sym at ∙ get_seam run s in cc in
      elim p.2 [
        | inl q ↦
            let l : p.0 < length run = q.pair.earlier in
            inl (record {
              by = p.0;
              step = q.pair.first;
              at = sym (get_left run (s ∷ []) p.0 l) ∙ q.pair.at_first;
              of_thread = eqb-true q.pair.first.thread q.pair.second.thread q.same ∙ ap (λ (x : Step). x.thread) (second q.pair.second q.pair.at_second);
              up_to = p.1;
            })
        | inr q ↦
            let l : p.0 < length run = q.pair.earlier in
            let is = second q.pair.second q.pair.at_second in
            let f = place_found (left_by q.pair.first.action) q.pair.second.action q.synchronizes in
            inr (record {
              place = f.0;
              finds = subst (λ (x : Step). IsTrue (finds f.0 x.action)) is f.2;
              left = record {
                by = p.0;
                step = q.pair.first;
                at = sym (get_left run (s ∷ []) p.0 l) ∙ q.pair.at_first;
                left = f.1;
                stays = λ m between a at.
                    let b : m < length run = slice_get_within run m between at in
                    subst (λ (o : Option ℕ). IsFalse (is_taken o between.action)) f.1 (q.stays m between a b (get_left run (s ∷ []) m b ∙ at));
                up_to = p.1;
              };
            })
      ]

  -- what the thread of the step knows after it
  pub known_cases : (i : ℕ) → IsKnownTo (with_next run s) s.thread i → (i ≡ length run) ⊎ (IsKnownTo run s.thread i ⊎ IsFoundBy run s i)
  known_cases i h =
      elim (at_next run s h.by h.step h.at) [
        | inl p ↦ inr (inl (record { by = h.by; step = h.step; at = p.1; of_thread = h.of_thread; up_to = up_to_within i h.by p.0 h.up_to }))
        | inr p ↦ elim h.up_to [ inl e ↦ inl (e ∙ p.0) | inr b ↦ inr (before_cases i (subst (λ k. HappensBefore step_order (with_next run s) i k) p.0 b)) ]
      ]

  -- ---- places

  -- what is left at a place after the step
  pub left_cases : (place i : ℕ) → IsLeftAt (with_next run s) place i
      → (IsLeftAt run place i × IsFalse (takes place s.action)) ⊎ ((left_by s.action ≡ Some place) × IsKnownTo (with_next run s) s.thread i)
  left_cases place i h =
      elim (at_next run s h.by h.step h.at) [
        | inl p ↦
            inl (
              record {
                by = h.by;
                step = h.step;
                at = p.1;
                left = h.left;
                stays = λ k between a at. h.stays k between a (get_left run (s ∷ []) k (slice_get_within run k between at) ∙ at);
                up_to = up_to_within i h.by p.0 h.up_to;
              },
              h.stays (length run) s p.0 (get_seam run s),
            )
        | inr p ↦
            inr (
              ap (λ (x : Step). left_by x.action) (sym p.1) ∙ h.left,
              record { by = h.by; step = h.step; at = h.at; of_thread = ap (λ (x : Step). x.thread) p.1; up_to = h.up_to },
            )
      ]

  pub left_stays : (place i : ℕ) → IsLeftAt run place i → IsFalse (takes place s.action) → IsLeftAt (with_next run s) place i
  left_stays place i h not_taken =
      record {
        by = h.by;
        step = h.step;
        at = get_left run (s ∷ []) h.by (slice_get_within run h.by h.step h.at) ∙ h.at;
        left = h.left;
        stays = λ k between a at.
            elim (at_next run s k between at) [
              | inl p ↦ h.stays k between a p.1
              | inr p ↦ subst (λ (x : Step). IsFalse (takes place x.action)) (sym p.1) not_taken
            ];
        up_to = up_to_longer i h.by h.up_to;
      }

  known_up_to : (i : ℕ) → IsKnownTo (with_next run s) s.thread i → IsUpTo (with_next run s) i (length run)
  known_up_to i h =
      elim (known_cases i h) [ inl e ↦ inl e | inr o ↦ elim o [ inl k ↦ inr (known_before i k) | inr f ↦ inr (found_before i f) ] ]

  -- a step leaves what its thread knows then
  pub left_new : (place i : ℕ) → left_by s.action ≡ Some place → IsKnownTo (with_next run s) s.thread i → IsLeftAt (with_next run s) place i
  left_new place i e h =
      record {
        by = length run;
        step = s;
        at = get_seam run s;
        left = e;
        stays = λ k between a at.
            elim (at_next run s k between at) [
              | inl p ↦ absurd (let l : k < length run = p.0 in omega arith)
              | inr p ↦ absurd (let l : k ≡ length run = p.0 in omega arith)
            ];
        up_to = known_up_to i h;
      }
