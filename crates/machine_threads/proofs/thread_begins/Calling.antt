-- The call of main, whose class is ready.
use Rattle.std.proofs.Common.{◌≡◌, ◌<◌, ◌+◌, ℕ, List, [], ◌∷◌, Option, Some, None, length, sym, ap, subst, ◌∙◌}
use Rattle.model.specs.Names.{Member, main_of}
use Rattle.model.specs.Classes.{Program, body_of}
use Rattle.model.specs.Frames.{entered_by, frame_with}
use Rattle.model.specs.LimitStands.{Bounds}
use Rattle.model.specs.Opening.{arguments_reference, class_reference}
use Rattle.model.specs.Operands.{words}
use Rattle.model.specs.State.{StateOf, WorldOf}
use Rattle.model.specs.Worlds.{with_begun}
use Rattle.model.specs.Step.{initial_class, main_frame, pushed}
use Rattle.run_laws.proofs.laws.LinkedOf.{linked_of}
use Rattle.linked_code.specs.declared.program.LinkedProgram.{LinkedProgram}
use Rattle.linked_code.specs.Numbers.{IsClassAt}
use Rattle.thread_stacks.specs.declared.entry.Callee.{Callee}
use Rattle.thread_stacks.specs.Stacks.{ShownEntry}
use Rattle.run_laws.proofs.typed_threads.Threads.{tables_counted}
use Rattle.machine_state.specs.declared.state.Shared.{Shared}
use Rattle.machine_state.specs.Shown.{IsProgram, IsLent}
use Rattle.machine_state.specs.entries.Entered.{IsShared}
use Rattle.machine_state.specs.invocations.Entering.{IsThere}
use Rattle.machine_threads.specs.thread_begins.Callees.{IsFirstCallee, MayEnter}
use Rattle.machine_threads.proofs.thread_begins.Placed.{class_object, class_object_there}

abbrev pub main : Program → Member
main trees = main_of (initial_class trees)

-- main of linked files has code
pub main_has_code : (trees : Program) (p : LinkedProgram) → IsProgram trees p → body_of trees (main trees) ≡ None → ⊥
main_has_code trees p program none =
    let coded = (linked_of program.files trees program.linkable.spelled program.linkable.no_refusal).main in
    let e = sym coded.is_body ∙ none in cc

module _ (trees : Program) (p : LinkedProgram) (bounds : Bounds) (inflated : List ℕ) (t : ℕ) (shared : Shared) (stack : List ShownEntry)
    (state : StateOf ℕ)
    (lent : IsLent trees p bounds inflated t shared stack state []) where
  pub is_shared : IsShared trees p bounds inflated shared state.world
  is_shared = record { represents = lent.represents; flags = lent.flags; counted = lent.counted }

  module _ (program : IsProgram trees p) (n : ℕ) (at : IsClassAt trees n (initial_class trees)) (object : ℕ) (is : object ≡ 3 + n) where
    has_monitor : object < length shared.heap.locks.monitors
    has_monitor =
        subst (λ r. r < length shared.heap.locks.monitors) (sym (is ∙ class_object trees p program n at))
        (subst (λ (count : ℕ). class_reference trees (initial_class trees) < count) (sym (ap length lent.represents.world_is.monitors ∙ (tables_counted trees state lent.typed).monitors))
        (class_object_there trees state lent.typed n (initial_class trees) at))

    pub monitor_there : (entered : Option ℕ) → MayEnter object entered → IsThere entered shared.heap
    monitor_there None h = tt
    monitor_there (Some other) h = subst (λ r. r < length shared.heap.locks.monitors) (sym h) has_monitor

-- what the call pushes
module _ (trees : Program) (p : LinkedProgram) (program : IsProgram trees p) (frames : ℕ) (world : WorldOf ℕ) where
  pub calls : (n : ℕ) → IsClassAt trees n (initial_class trees) → (object : ℕ) → object ≡ 3 + n → (callee : Callee)
      (h : IsFirstCallee trees p (main trees) object callee)
      → main_frame words trees frames world (main trees) (body_of trees (main trees))
      ≡ pushed words trees frames 0 world (with_begun world 0) [] [] (frame_with words (main trees) (words.reference arguments_reference
      ∷ []) callee.entered h.body)
  calls n at object is callee h =
      let e : entered_by trees (main trees) (class_reference trees (initial_class trees)) ≡ callee.entered =
      ap (entered_by trees (main trees)) (sym (is ∙ class_object trees p program n at)) ∙ sym h.entered in
      ap (main_frame words trees frames world (main trees)) h.is_body
      ∙ ap (λ entered. pushed words trees frames 0 world (with_begun world 0) [] [] (frame_with words (main trees) (words.reference arguments_reference ∷ []) entered h.body)) e
