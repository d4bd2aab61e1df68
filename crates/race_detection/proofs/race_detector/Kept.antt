-- The last accesses of a detector after one more step.
use Rattle.std.proofs.Common.{◌≡◌, sym, ◌∙◌, ap, subst, ◌<◌, inl, inr, List, [], ◌∷◌, length, arith}
use Rattle.std.specs.Prelude.{Some, slice_get}
use Rattle.std.proofs.lemmas.Option.{slice_get_within}
use Rattle.data_races.proofs.Order.{get_left, get_seam, at_next, with_next}
use Rattle.race_detection.specs.declared.run_steps.Action.{Action}
use Rattle.race_detection.specs.declared.run_steps.Step.{Step}
use Rattle.race_detection.specs.declared.last_accesses.Access.{Access}
use Rattle.race_detection.specs.last_accesses.Accesses.{IsKept}
use Rattle.race_detection.specs.race_detector.Watched.{AreLast, step_with}

module _ (run : List Step) (s : Step) (action : Action) where
  stands_longer : (access : Access) → slice_get run access.position ≡ Some (step_with action access)
      → slice_get (with_next run s) access.position ≡ Some (step_with action access)
  stands_longer access at = get_left run (s ∷ []) access.position (slice_get_within run access.position (step_with action access) at) ∙ at

  -- a step that does something else
  pub last_stays : (accesses : List Access) → AreLast run action accesses → (s.action ≡ action → ⊥) → AreLast (with_next run s) action accesses
  last_stays accesses h other =
      record {
        stand = λ access has. stands_longer access (h.stand access has);
        last = λ i step at is.
            elim (at_next run s i step at) [
              | inl p ↦ h.last i step p.1 is
              | inr p ↦ absurd (other (ap (λ (x : Step). x.action) (sym p.1) ∙ is))
            ];
      }

  abbrev this : Access
  this = record { thread = s.thread; position = length run; event = s.event }

  -- a step that does this
  pub last_kept : (old new : List Access) → AreLast run action old → s.action ≡ action → IsKept old new this → AreLast (with_next run s) action new
  last_kept old new h is kept =
      record {
        stand = λ access has.
            elim (kept.only access has) [
              | inl o ↦ stands_longer access (h.stand access o)
              | inr e ↦
                  let here : slice_get (with_next run s) (length run) ≡ Some (step_with action this) = get_seam run s ∙ ap (λ (a : Action). Some (record s { action = a })) is in
                  subst (λ (a : Access). slice_get (with_next run s) a.position ≡ Some (step_with action a)) (sym e) here
            ];
        last = λ i step at does.
            elim (at_next run s i step at) [
              | inl p ↦
                  let q = h.last i step p.1 does in
                  elim (kept.stays q.0 q.1) [
                    | inl has ↦ (q.0, has, q.2, q.3)
                    | inr e ↦ (this, kept.has, sym e ∙ q.2, let l : i < length run = p.0 in omega arith)
                  ]
              | inr p ↦ (this, kept.has, ap (λ (x : Step). x.thread) (sym p.1), let e : i ≡ length run = p.0 in omega arith)
            ];
      }
