-- Calls, ends of invocations, and what comes before an event that needs a class.
use Rattle.std.proofs.Common.{◌≡◌, ℕ, ◌∷◌, Bool, true, false, ◌==◌, Option, Some, None, refl, sym, ◌∙◌, subst}
use Rattle.std.specs.Prelude.{slice_get, nat_lt}
use Rattle.std.proofs.lemmas.Bool.{cond_both}
use Rattle.model.specs.declared.value.Value.{Value}
use Rattle.model.specs.Names.{Name}
use Rattle.model.specs.Classes.{Program}
use Rattle.model.specs.Operands.{values}
use Rattle.model.specs.State.{types_of, Running, Thread, Frame, Invocation, Initialisation, Super, StackOf, World}
use Rattle.model.specs.Outcomes.{NoClassDefFound, StackOverflow, IllegalMonitorState}
use Rattle.model.specs.Worlds.{may_enter, entry_cost, with_entry, is_owner, with_exit}
use Rattle.model.specs.Frames.{frame_count}
use Rattle.model.specs.ClassInitialisation.{with_class_begun, Look, IsReady, IsNew, IsHeld, HasFailed, look_by, status_of}
use Rattle.model.specs.Step.{SteppedOf, Next, PartOf, part, enabled_if, unpicked, needing, needing_class, entering, pushed, leaving}
use Rattle.model.specs.declared.event.Event.{Event}
use Rattle.model.specs.WellTyped.{Instruction, Beneath, Failing, IsRunning}
use Rattle.run_laws.specs.laws.Steps.{Rooted}
use Rattle.run_laws.proofs.typed_runs.Invariant.{failing_from, beneath_more}
use Rattle.run_laws.proofs.typed_runs.Changes.{Fits}
use Rattle.run_laws.proofs.typed_runs.WorldChanges.{Keeps, entry_keeps, exit_keeps}
use Rattle.run_laws.proofs.typed_runs.StepParts.{At, OnPart, PartTyped, at_keeps, at_same, on_typed, raised_typed}

-- beginning with a class sets its constants, and keeps all else
abbrev pub BegunKeeps : Program → Type 0
BegunKeeps files = (t : ℕ) (class : Name) (world : World) → Fits files world → Keeps files world (with_class_begun values files t class world)

module _ (files : Program) (t : ℕ) (before : World) where
  pub enabled_typed : (b : Bool) (x : SteppedOf (PartOf Value)) → OnPart files t before x → OnPart files t before (enabled_if b x)
  enabled_typed true x h = h
  enabled_typed false x h = tt

  pub unpicked_typed : (event : Event) (x : SteppedOf (PartOf Value)) → OnPart files t before x → OnPart files t before (unpicked event x)
  unpicked_typed event x h = enabled_typed (event.pick == 0) x h

module _ (files : Program) (rooted : Rooted files) (t : ℕ) (before : World) (first : Thread)
    (was : slice_get before.threads t ≡ Some first) where
  -- a running thread without a pending exception goes on with a stack
  pub going_typed : (world : World) (thread : Thread) (stack : StackOf Value) → At files t before world thread → thread.status ≡ Running
      → thread.pending ≡ None → Beneath files (types_of world.heap) Instruction stack → PartTyped files t before (part world stack)
  going_typed world thread stack at runs none h =
      on_typed files t before first was world thread stack at runs (subst (λ p. IsRunning files (types_of world.heap) p stack) (sym none) h)

  -- ---- calls

  entering_typed : (world : World) (thread : Thread) (rest : StackOf Value) (frame : Frame) (o : Option ℕ) → At files t before world thread
      → thread.status ≡ Running → thread.pending ≡ None → Beneath files (types_of world.heap) Instruction (Invocation frame ∷ rest)
      → OnPart files t before (entering t world rest frame o)
  entering_typed world thread rest frame None at runs none h = going_typed world thread (Invocation frame ∷ rest) at runs none h
  entering_typed world thread rest frame (Some object) at runs none h =
      let x = entry_keeps files world at.changes.fits t object in
      enabled_typed files t before (may_enter world t object) (Next (entry_cost world object) (part (with_entry world t object) (Invocation frame ∷ rest)))
      (going_typed (with_entry world t object) thread (Invocation frame ∷ rest) (at_same files t before first was world (with_entry world t object) thread at x refl) runs none h)

  -- a frame on a stack, or an exception over another stack, from the world where it is made
  pub pushed_typed : (frames : ℕ) (world after : World) (thread new : Thread) (stack rest : StackOf Value) (frame : Frame)
      → At files t before world thread → thread.status ≡ Running → At files t before after new → new.status ≡ Running → new.pending ≡ None
      → Failing files (types_of world.heap) stack → Beneath files (types_of after.heap) Instruction (Invocation frame ∷ rest)
      → OnPart files t before (pushed values files frames t world after stack rest frame)
  pushed_typed frames world after thread new stack rest frame at runs later runs_later none failing h =
      cond_both (nat_lt (frame_count stack) frames) _ _ (OnPart files t before)
      (λ q. entering_typed after new rest frame frame.entered later runs_later none h)
      (λ q. raised_typed files t before first was rooted StackOverflow world thread stack at runs failing)

  -- ---- the end of an invocation

  pub leaving_typed : (o : Option ℕ) (world : World) (thread : Thread) (rest stack : StackOf Value) → At files t before world thread
      → thread.status ≡ Running → IsRunning files (types_of world.heap) thread.pending rest → Failing files (types_of world.heap) stack
      → OnPart files t before (leaving values files t o world rest stack)
  leaving_typed None world thread rest stack at runs h failing = on_typed files t before first was world thread rest at runs h
  leaving_typed (Some object) world thread rest stack at runs h failing =
      let x = exit_keeps files world at.changes.fits t object in
      cond_both (is_owner world t object) _ _ (OnPart files t before)
      (λ q. on_typed files t before first was (with_exit world t object) thread rest (at_same files t before first was world (with_exit world t object) thread at x refl) runs h)
      (λ q. raised_typed files t before first was rooted IllegalMonitorState world thread stack at runs failing)

  -- ---- a class that is needed

  module _ (begun_keeps : BegunKeeps files) where
    needing_typed : (class : Name) (look : Look) (world : World) (thread : Thread) (stack : StackOf Value)
        (rest : SteppedOf (PartOf Value)) → At files t before world thread → thread.status ≡ Running → thread.pending ≡ None
        → Beneath files (types_of world.heap) Instruction stack → OnPart files t before rest
        → OnPart files t before (needing values files t class look world stack rest)
    needing_typed class IsReady world thread stack rest at runs none h r = r
    needing_typed class IsNew world thread stack rest at runs none h r =
        let after = with_class_begun values files t class world in
        let x = begun_keeps t class world at.changes.fits in
        let k = at_keeps files t before first was world after thread at x in
        going_typed after k.thread (Initialisation class Super ∷ stack) k.at (k.status ∙ runs) (k.pending ∙ none) (beneath_more files _ _ x.extends Instruction stack h)
    needing_typed class IsHeld world thread stack rest at runs none h r = tt
    needing_typed class HasFailed world thread stack rest at runs none h r =
        raised_typed files t before first was rooted NoClassDefFound world thread stack at runs (failing_from files _ Instruction stack h)

    pub needing_class_typed : (class : Option Name) (world : World) (thread : Thread) (stack : StackOf Value)
        (rest : SteppedOf (PartOf Value)) → At files t before world thread → thread.status ≡ Running → thread.pending ≡ None
        → Beneath files (types_of world.heap) Instruction stack → OnPart files t before rest
        → OnPart files t before (needing_class values files t class world stack rest)
    needing_class_typed None world thread stack rest at runs none h r = r
    needing_class_typed (Some class) world thread stack rest at runs none h r =
        needing_typed class (look_by t (status_of world class)) world thread stack rest at runs none h r
