-- What becomes of the event, by what is on top.
use Rattle.std.proofs.Common.{◌≡◌, ℕ, List, [], ◌∷◌, Result, refl, subst}
use Rattle.model.specs.Classes.{Program}
use Rattle.model.specs.LimitStands.{Bounds}
use Rattle.model.specs.State as model
use Rattle.model.specs.State.{StackOf, StateOf}
use Rattle.model.specs.Step.{NotEnabled}
use Rattle.linked_code.specs.declared.program.LinkedProgram.{LinkedProgram}
use Rattle.linked_code.specs.Numbers.{IsClassAt}
use Rattle.thread_stacks.specs.declared.entry.Phase.{Phase}
use Rattle.thread_stacks.specs.declared.entry.Top.TheVariants as top
use Rattle.thread_stacks.specs.Stacks.{ShownEntry, Invocation, Initialisation, top_of}
use Rattle.machine_state.specs.declared.answers.Answer.{Answer}
use Rattle.machine_state.specs.declared.refusals.EventRefusal.{EventRefusal}
use Rattle.machine_state.specs.declared.state.Shared.{Shared}
use Rattle.machine_threads.specs.pending_exceptions.Pending.{IsPending, event_of_pending, DoesPending, DoesInFrame, DoesInClass}

module _ (p : LinkedProgram) (t exception : ℕ) (old : Shared) where
  pub empty : (from : List ShownEntry) → top.Empty ≡ top_of from → (trees : Program) (bounds : Bounds) (inflated : List ℕ)
      (state : StateOf ℕ) (own : StackOf ℕ)
      → IsPending trees p bounds inflated t exception old from state own → event_of_pending trees t exception state own ≡ NotEnabled
  empty [] e trees bounds inflated state [] is = refl
  empty [] e trees bounds inflated state (entry ∷ rest) is = absurd is.lent.shows_stack
  empty (Invocation f ∷ others) e trees bounds inflated state own is = absurd cc
  empty (Initialisation n ph ∷ others) e trees bounds inflated state own is = absurd cc

  module _ (result : Result Answer EventRefusal) (new : Shared) (to : List ShownEntry) where
    pub frame : (from : List ShownEntry) → top.Invocation ≡ top_of from → DoesInFrame p t exception result old new from to
        → DoesPending p t exception result old new from to
    frame [] e does trees bounds inflated state own is = absurd cc
    frame (Initialisation n ph ∷ others) e does trees bounds inflated state own is = absurd cc
    frame (Invocation f ∷ others) e does trees bounds inflated state [] is = absurd is.lent.shows_stack
    frame (Invocation f ∷ others) e does trees bounds inflated state (model.Initialisation class phase ∷ rest) is = absurd is.lent.shows_stack.0
    frame (Invocation f ∷ others) e does trees bounds inflated state (model.Invocation g ∷ rest) is = does trees bounds inflated state g rest is

    pub class : (number : ℕ) (at : Phase) (from : List ShownEntry) → top.Initialisation number at ≡ top_of from
        → DoesInClass p t number exception result old new from to
        → DoesPending p t exception result old new from to
    class number at [] e does trees bounds inflated state own is = absurd cc
    class number at (Invocation f ∷ others) e does trees bounds inflated state own is = absurd cc
    class number at (Initialisation n ph ∷ others) e does trees bounds inflated state [] is = absurd is.lent.shows_stack
    class number at (Initialisation n ph ∷ others) e does trees bounds inflated state (model.Invocation g ∷ rest) is = absurd is.lent.shows_stack.0
    class number at (Initialisation n ph ∷ others) e does trees bounds inflated state (model.Initialisation name phase ∷ rest) is =
        let same : n ≡ number = cc in
        does trees bounds inflated state name phase rest (subst (λ k. IsClassAt trees k name) same is.lent.shows_stack.0.0) is
