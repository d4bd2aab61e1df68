-- A started thread, its Thread object, and the call of run.
use Rattle.std.proofs.Common.{◌≡◌, ◌<◌, ◌+◌, ℕ, suc, List, [], ◌∷◌, Option, Some, None, length, slice_index_or, refl, sym, ap, subst, ◌∙◌, arith}
use Rattle.std.specs.Prelude.{slice_get}
use Rattle.std.specs.Option.{option_and_then}
use Rattle.std.proofs.lemmas.Option.{slice_get-get_or, slice_get_within}
use Rattle.model.specs.Names.{Member, java_lang_thread}
use Rattle.model.specs.Classes.{Program, body_of}
use Rattle.model.specs.Frames.{frame_with}
use Rattle.model.specs.LimitStands.{Bounds}
use Rattle.model.specs.Operands.{words}
use Rattle.model.specs.Outcomes.{AbstractMethod}
use Rattle.model.specs.State.{StateOf, WorldOf, Thread, new_thread}
use Rattle.model.specs.Worlds.{no_thread, thread_at, with_begun}
use Rattle.model.specs.Step.{pushed, raised, run_of, run_frame}
use Rattle.heap.specs.java_threads.Table as table
use Rattle.linked_code.specs.declared.program.LinkedProgram.{LinkedProgram}
use Rattle.thread_stacks.specs.declared.entry.Callee.{Callee}
use Rattle.thread_stacks.specs.Stacks.{ShownEntry}
use Rattle.machine_state.proofs.shown_objects.Objects.{counted}
use Rattle.run_laws.specs.typed_threads.Objects.{IsInstance}
use Rattle.run_laws.proofs.typed_threads.Threads.{tables_counted, thread_objects}
use Rattle.machine_state.specs.declared.state.Shared.{Shared}
use Rattle.machine_state.specs.Shown.{IsLent}
use Rattle.machine_state.specs.entries.Entered.{IsShared}
use Rattle.machine_state.specs.invocations.Entering.{IsThere}
use Rattle.machine_threads.specs.thread_begins.Callees.{MayEnter}
use Rattle.machine_threads.specs.thread_begins.Runs.{IsRunOf}

module _ (trees : Program) (p : LinkedProgram) (bounds : Bounds) (inflated : List ℕ) (t : ℕ) (shared : Shared) (stack : List ShownEntry)
    (state : StateOf ℕ)
    (lent : IsLent trees p bounds inflated t shared stack state []) (r : ℕ) (is : r ≡ (table.thread_at shared.threads.threads t).object) where
  pub is_shared : IsShared trees p bounds inflated shared state.world
  is_shared = record { represents = lent.represents; flags = lent.flags; counted = lent.counted }

  there : slice_get state.world.threads t ≡ Some (thread_at state.world t)
  there = slice_get-get_or state.world.threads t no_thread (subst (λ n. t < n) (tables_counted trees state lent.typed).stacks (slice_get_within state.stacks t [] lent.is_own))

  pub object_is : r ≡ (thread_at state.world t).object
  object_is = is ∙ ap (λ (l : List Thread). (slice_index_or l t (new_thread 0)).object) lent.represents.world_is.threads

  pub instance : IsInstance trees state.world.heap java_lang_thread r
  instance = subst (λ n. IsInstance trees state.world.heap java_lang_thread n) (sym object_is) (thread_objects trees state lent.typed t (thread_at state.world t) there)

  pub within : r < length shared.heap.objects
  within = subst (λ n. r < n) (sym (counted trees p.components.items shared.heap.objects state.world.heap lent.represents.world_is.objects)) instance.there

  has_monitor : r < length shared.heap.locks.monitors
  has_monitor = subst (λ n. r < n) (sym (ap length lent.represents.world_is.monitors ∙ (tables_counted trees state lent.typed).monitors)) instance.there

  pub monitor_there : (entered : Option ℕ) → MayEnter r entered → IsThere entered shared.heap
  monitor_there None h = tt
  monitor_there (Some object) h = subst (λ n. n < length shared.heap.locks.monitors) (sym h) has_monitor

-- ---- the event

module _ (trees : Program) (p : LinkedProgram) (frames t : ℕ) (world : WorldOf ℕ) (r : ℕ) where
  pub calls : (o : Option Member) (callee : Callee) (h : IsRunOf trees p o r (Some callee)) (word : ℕ) → word ≡ r + 1
      → run_of words trees frames t world r o
      ≡ pushed words trees frames t world (with_begun world t) [] [] (frame_with words h.0 (word ∷ []) callee.entered h.2.body)
  calls o callee h word is =
      let e : suc r ≡ r + 1 = omega arith in
      let w : suc r ≡ word = e ∙ sym is in
      ap (run_of words trees frames t world r) h.1
      ∙ ap (run_frame words trees frames t world r h.0) h.2.is_body
      ∙ (λ i. pushed words trees frames t world (with_begun world t) [] [] (frame_with words h.0 (w i ∷ []) (sym h.2.entered i) h.2.body))

  pub fails : (o : Option Member) → option_and_then (body_of trees) o ≡ None
      → run_of words trees frames t world r o ≡ raised words trees t AbstractMethod world []
  fails None h = refl
  fails (Some method) h = ap (run_frame words trees frames t world r method) h
