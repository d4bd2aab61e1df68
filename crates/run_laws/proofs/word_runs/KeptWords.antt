-- A step leaves words of a well-typed state.
use Rattle.std.proofs.Common.{◌≡◌, ℕ, Some, refl, sym, ap, ◌∙◌, subst}
use Rattle.model.specs.declared.event.Event.{Event}
use Rattle.model.specs.Classes.{Program}
use Rattle.model.specs.Operands.{words, values}
use Rattle.model.specs.Outcomes.{Cost}
use Rattle.model.specs.State.{State, StateOf}
use Rattle.model.specs.Step.{SteppedOf, NotEnabled, WrongKind, Next, next_by, stepped, step}
use Rattle.model.specs.WellTyped.{IsWellTyped}
use Rattle.model.specs.Words.{words_of, AreWellTypedWords}
use Rattle.run_laws.specs.word_runs.Words.{map_stepped, IsCarried}

module _ (files : Program) (carries : IsCarried files)
    (keeps : (frames : ℕ) (state : State) (event : Event) (next : State) → IsWellTyped files state
    → step files frames state event ≡ Some next → IsWellTyped files next) where
  kept_by : (frames : ℕ) (state : State) (event : Event) (cost : Cost) (next : StateOf ℕ) → IsWellTyped files state → (y : SteppedOf State)
      → stepped values files frames state event ≡ y → map_stepped words_of y ≡ Next cost next → AreWellTypedWords files next
  kept_by frames state event cost next h NotEnabled q e = absurd (no_next e)
    where
      no_next : {S : Type 0} {c : Cost} {s : S} → NotEnabled ≡ Next c s → ⊥
      no_next e = absurd cc
  kept_by frames state event cost next h WrongKind q e = absurd (no_next e)
    where
      no_next : {S : Type 0} {c : Cost} {s : S} → WrongKind ≡ Next c s → ⊥
      no_next e = absurd cc
  kept_by frames state event cost next h (Next c after) q e =
      let is : words_of after ≡ next = of_next e in
      (after, record { typed = keeps frames state event after h (ap next_by q); are = sym is })
    where
      of_next : Next c (words_of after) ≡ Next cost next → words_of after ≡ next
      of_next e = cc

  pub kept_words : (frames : ℕ) (before : StateOf ℕ) (event : Event) (cost : Cost) (next : StateOf ℕ) → AreWellTypedWords files before
      → stepped words files frames before event ≡ Next cost next → AreWellTypedWords files next
  kept_words frames before event cost next h e =
      kept_by frames h.0 event cost next h.1.typed (stepped values files frames h.0 event) refl
      (sym (carries frames h.0 event h.1.typed) ∙ subst (λ (w : StateOf ℕ). stepped words files frames w event ≡ Next cost next) h.1.are e)
