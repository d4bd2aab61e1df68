-- What becomes of a frame where an exception is pending.
use Rattle.std.proofs.Common.{◌≡◌, ℕ, suc, ◌+◌, ◌<◌, ◌^◌, List, [], ◌∷◌, Bool, true, Option, Some, None, Result, Ok, Err, length, refl, sym, ap, subst, ◌∙◌, arith}
use Rattle.std.specs.Prelude.{slice_get}
use Rattle.std.specs.Option.{option_and_then}
use Rattle.std.specs.Result.{IsErrAnd}
use Rattle.std.proofs.lemmas.Option.{slice_get_within, slice_get-get_or}
use Rattle.model.specs.declared.class_file.ExceptionEntry.{ExceptionEntry}
use Rattle.model.specs.Classes.{Program, body_of}
use Rattle.model.specs.Frames.{at_offset}
use Rattle.model.specs.LimitStands.{Bounds}
use Rattle.model.specs.Operands.{words}
use Rattle.model.specs.State as model
use Rattle.model.specs.State.{ObjectOf, FrameOf, StackOf, StateOf, Thread, WorldOf}
use Rattle.model.specs.Worlds.{no_thread, thread_at, with_caught}
use Rattle.model.specs.Outcomes.{Free}
use Rattle.model.specs.Step.{PartOf, part, handler_in, on_to, unwound}
use Rattle.heap.specs.Heap.{Object}
use Rattle.machine_state.proofs.limits_at_words.Room.{thread_words_fit}
use Rattle.run_laws.specs.word_runs.Words.{StandsInCode}
use Rattle.run_laws.proofs.word_runs.InCode.{in_code}
use Rattle.run_laws.proofs.typed_threads.Threads.{tables_counted}
use Rattle.linked_code.specs.declared.program.LinkedProgram.{LinkedProgram}
use Rattle.linked_code.specs.declared.types.LinkedType.{LinkedType}
use Rattle.thread_stacks.specs.Stacks.{ShownFrame, ShownEntry, Invocation, caught}
use Rattle.machine_state.specs.shown_objects.Shown.{ShowsObjects}
use Rattle.machine_state.specs.shown_stacks.Shown.{ShowsFrame, ShowsStack, offset_at}
use Rattle.machine_state.proofs.shown_stacks.Laws.{catch}
use Rattle.machine_state.specs.declared.answers.Answer.{Answer}
use Rattle.machine_state.specs.declared.refusals.EventRefusal.{EventRefusal}
use Rattle.machine_state.specs.declared.refusals.EventRefusal.TheVariants as refusal
use Rattle.machine_state.specs.declared.state.Shared.{Shared}
use Rattle.machine_state.specs.Shown.{Represents}
use Rattle.machine_state.specs.Events.{MayBeRefused, Becomes, IsDone}
use Rattle.machine_state.specs.Memory.{operand_counts, shown_counts, has_grown, takes_memory}
use Rattle.machine_state.proofs.Memory.{grown_frame, takes_by_growth}
use Rattle.machine_state.proofs.linked_frames.Frames.{HasTop, has_top}
use Rattle.machine_state.proofs.linked_frames.Moves.{free_done}
use Rattle.machine_state.specs.exception_handlers.Handlers.{type_at, IsPlaceOf}
use Rattle.machine_instructions.specs.returns.Unwound.{Unwinds}
use Rattle.machine_threads.specs.pending_exceptions.Finding.{IsHandlerOnTop}
use Rattle.machine_threads.specs.pending_exceptions.Caught.{IsCleared, Catches}
use Rattle.machine_threads.specs.pending_exceptions.Pending.{IsPending, event_of_pending}

-- ---- the frame goes on at a handler

one_more : (n : ℕ) → n + 1 ≡ suc n
one_more n = omega arith

module _ (trees : Program) (p : LinkedProgram) (bounds : Bounds) (inflated : List ℕ) (world : WorldOf ℕ) (old : Shared)
    (r : Represents trees p bounds old world)
    (shown : ShownFrame) (others : List ShownEntry) (frame : FrameOf ℕ) (rest : StackOf ℕ) (shows : ShowsFrame trees p shown frame) (under : ShowsStack trees p others rest) where
  abbrev taken : (exception offset : ℕ) → StackOf ℕ
  taken exception offset = model.Invocation (at_offset frame offset (record { locals = frame.place.slots.locals; stack = words.reference exception ∷ [] })) ∷ rest

  pub catches : (t handler exception word offset : ℕ) → offset_at p shown.method handler ≡ offset → word ≡ exception + 1
      → (new : Shared) → IsCleared t old new → (to : List ShownEntry) → to ≡ Invocation (caught handler word shown) ∷ others
      → IsDone trees p bounds inflated world (on_to (with_caught world t) (taken exception offset)) old new to
  catches t handler exception word offset place word_is new cleared to to_is =
      free_done trees p bounds inflated world (with_caught world t) (taken exception offset) old new to (cleared.represents trees p bounds world r)
      (subst (λ (st : List ShownEntry). ShowsStack trees p st (taken exception offset)) (sym (to_is ∙ ap (λ w. Invocation (caught handler w shown) ∷ others) (word_is ∙ one_more exception)))
      (catch trees p shown frame shows handler offset (suc exception) place, under))
      (ap (λ (s : Shared). s.heap.locks.fat) cleared.rest) (ap (λ (s : Shared). s.stacks) cleared.rest) cleared.count

  -- where there is no memory for the reference, the frame had no operand
  pub uncaught : (t exception offset : ℕ) (from : List ShownEntry) → from ≡ Invocation shown ∷ others → length shown.operands ≡ 0
      → (result : Result Answer EventRefusal) → IsErrAnd result (λ told. told ≡ refusal.Memory) → (to : List ShownEntry) → to ≡ from
      → Becomes trees p bounds inflated world (on_to (with_caught world t) (taken exception offset)) result old old from to
  uncaught t exception offset from is none (Ok answer) e to same = absurd e
  uncaught t exception offset from is none (Err told) e to same = (
    record { cost = Free; next = after; is = refl; may = subst (MayBeRefused trees bounds inflated world Free takes) (sym e) (takes_by_growth world (shown_counts from) Free after grown) },
    record { shared = refl; stack = same },
  )
    where
      after : PartOf ℕ
      after = part (with_caught world t) (taken exception offset)

      takes : Bool
      takes = takes_memory world (shown_counts from) Free after

      grown : has_grown (shown_counts from) (operand_counts after.stack) ≡ true
      grown =
          grown_frame trees p shown others rest under from is
          (at_offset frame offset (record { locals = frame.place.slots.locals; stack = words.reference exception ∷ [] })) (omega (arith, none))

-- ---- the exception is one of the objects

same_length : (trees : Program) (components : List LinkedType) (objects : List Object) (heap : List (ObjectOf ℕ))
    → ShowsObjects trees components objects heap → length objects ≡ length heap
same_length trees components [] [] s = refl
same_length trees components [] (m ∷ ms) s = absurd s
same_length trees components (o ∷ os) [] s = absurd s
same_length trees components (o ∷ os) (m ∷ ms) s = ap suc (same_length trees components os ms s.1)

module _ (trees : Program) (p : LinkedProgram) (bounds : Bounds) (inflated : List ℕ) (t exception : ℕ) (shared : Shared)
    (stack : List ShownEntry) (state : StateOf ℕ) (own : StackOf ℕ)
    (is : IsPending trees p bounds inflated t exception shared stack state own) where
  within : t < length state.world.threads
  within = subst (λ n. t < n) (tables_counted trees state is.lent.typed).stacks (slice_get_within state.stacks t own is.lent.is_own)

  pub there : slice_get state.world.threads t ≡ Some (thread_at state.world t)
  there = slice_get-get_or state.world.threads t no_thread within

  same : length shared.heap.objects ≡ length state.world.heap
  same = same_length trees p.components.items shared.heap.objects state.world.heap is.lent.represents.world_is.objects

  pub fits : length shared.heap.objects < 2 ^ 32 → exception < length shared.heap.objects
  fits few =
      subst (λ n. exception < n) (sym same)
      ((thread_words_fit trees state is.lent.typed (subst (λ n. n < 2 ^ 32) same few) t (thread_at state.world t) there).pending exception is.going is.pending).there

module _ (trees : Program) (p : LinkedProgram) (bounds : Bounds) (inflated : List ℕ) (t exception : ℕ) (shared : Shared)
    (stack : List ShownEntry) (state : StateOf ℕ) (frame : FrameOf ℕ) (rest : StackOf ℕ)
    (is : IsPending trees p bounds inflated t exception shared stack state (model.Invocation frame ∷ rest)) where
  stands : StandsInCode trees frame
  stands =
      (in_code trees state is.lent.typed t (thread_at state.world t) (model.Invocation frame ∷ rest)
      (there trees p bounds inflated t exception shared stack state (model.Invocation frame ∷ rest) is) is.lent.is_own is.going).0

  -- ---- by its handler

  top : HasTop trees p stack frame rest
  top = has_top trees p stack frame rest is.lent.shows_stack

  abbrev handler : Option ExceptionEntry
  handler = option_and_then (handler_in trees frame.place.offset (type_at state.world.heap exception)) (body_of trees frame.method)

  place_is : (found : Option ℕ) → IsHandlerOnTop p shared.heap.objects exception stack found
      → IsPlaceOf (offset_at p top.shown.method) handler found
  place_is found h =
      subst (λ (st : List ShownEntry). IsHandlerOnTop p shared.heap.objects exception st found) top.is h
      trees is.program state.world.heap is.lent.represents.world_is.objects frame top.shows.top stands

  module _ (result : Result Answer EventRefusal) (new : Shared) (to : List ShownEntry) where
    abbrev BecomesBy : Option ExceptionEntry → Type 0
    BecomesBy entry = Becomes trees p bounds inflated state.world (unwound words trees t exception state.world frame rest entry) result shared new stack to

    pub goes_on : (place : ℕ) → IsHandlerOnTop p shared.heap.objects exception stack (Some place)
        → Catches t place exception result shared new stack to
        → Becomes trees p bounds inflated state.world (event_of_pending trees t exception state (model.Invocation frame
        ∷ rest)) result shared new stack to
    goes_on place h catches = by handler (place_is (Some place) h)
      where
        by : (entry : Option ExceptionEntry) → IsPlaceOf (offset_at p top.shown.method) entry (Some place) → BecomesBy entry
        by None at = absurd at
        by (Some entry) at = catches trees p bounds inflated state.world is.lent.represents (fits trees p bounds inflated t exception shared stack state (model.Invocation frame ∷ rest) is) top.shown top.others top.is frame rest top.shows.top top.shows.under entry.handler at

    pub ends : IsHandlerOnTop p shared.heap.objects exception stack None → Unwinds result t shared new stack to
        → Becomes trees p bounds inflated state.world (event_of_pending trees t exception state (model.Invocation frame
        ∷ rest)) result shared new stack to
    ends h unwinds = by handler (place_is None h)
      where
        by : (entry : Option ExceptionEntry) → IsPlaceOf (offset_at p top.shown.method) entry None → BecomesBy entry
        by None at = unwinds trees p bounds inflated state.world is.lent.represents frame rest is.lent.shows_stack
        by (Some entry) at = absurd at
