-- An instruction on the monitor of the object on top: what it finds, and what becomes of its event.
use Rattle.std.proofs.Common.{◌≡◌, ◌<◌, ◌+◌, ◌-◌, ◌^◌, ℕ, zero, suc, List, [], ◌∷◌, length, take, drop, Bool, true, false, Option, Some, None, Result, Ok, Err, refl, sym, ap, subst, arith, ◌∙◌}
use Rattle.std.specs.Prelude.{slice_get, slice_index_or, slice_set, if◌then◌else◌}
use Rattle.std.specs.Option.{option_map_or}
use Rattle.std.specs.Result.{IsErrAnd}
use Rattle.std.proofs.lemmas.Bool.{false≢true, and_parts}
use Rattle.std.proofs.lemmas.List.{set-get_or, length-map}
use Rattle.std.proofs.lemmas.Option.{slice_get_within, same_Some}
use Rattle.model.specs.Classes.{Program}
use Rattle.model.specs.LimitStands.{Bounds}
use Rattle.model.specs.ReferenceTypes.{ReferenceType, is_assignable}
use Rattle.model.specs.declared.monitor_answer.MonitorAnswer.TheVariants.{NotOwner}
use Rattle.model.specs.Types.{AReference}
use Rattle.model.specs.Objects.{any_object}
use Rattle.model.specs.Operands.{words, word_reference, pops_meet}
use Rattle.model.specs.Outcomes.{Cost, not_null}
use Rattle.model.specs.Monitors.{unlocked, owns, monitor_at, as_owner, released, answers_done}
use Rattle.model.specs.MonitorMeanings.{may_enter_object, monitor_enter_meaning, monitor_exit_meaning, left}
use Rattle.model.specs.Meanings.{meaning_of}
use Rattle.model.specs.Sites.{MeaningOf, Site, wants_of, pushing_at}
use Rattle.model.specs.State as model
use Rattle.model.specs.State.{ObjectOf, types_of, Monitor, Thread, FrameOf, StackOf, WorldOf, StateOf}
use Rattle.model.specs.Worlds.{is_owner, with_entry, entry_cost, with_exit}
use Rattle.model.specs.Frames.{at_offset}
use Rattle.model.specs.Step.{SteppedOf, PartOf, Next, enabled_if, become}
use Rattle.heap.specs.Heap.{Heap}
use Rattle.heap.specs.monitor.Locks.{Locks}
use Rattle.linked_code.specs.declared.instruction.LinkedInstruction.{LinkedInstruction}
use Rattle.linked_code.specs.declared.method.BuiltInMethod.TheVariants as method
use Rattle.linked_code.specs.declared.method.LinkedCode.{LinkedCode}
use Rattle.linked_code.specs.declared.program.LinkedProgram.{LinkedProgram}
use Rattle.linked_code.specs.Linked.{offset_in}
use Rattle.run_laws.specs.word_operands.Operands.{word_meets}
use Rattle.thread_stacks.specs.Stacks.{ShownEntry, Invocation, at_place, replaced}
use Rattle.machine_state.specs.shown_stacks.Shown.{ShowsStack, offset_at}
use Rattle.machine_state.specs.declared.answers.Effect.{Effect}
use Rattle.machine_state.specs.declared.refusals.EventRefusal.{EventRefusal}
use Rattle.machine_state.specs.declared.state.Shared.{Shared}
use Rattle.machine_state.specs.Events.{MayBeRefused}
use Rattle.machine_state.specs.Memory.{takes_shared, shown_counts, takes_memory}
use Rattle.machine_state.proofs.Memory.{or_left, refused_if}
use Rattle.machine_state.specs.Instructions.{Does, instruction_event}
use Rattle.heap.specs.monitor_events.Tables.{over, MonitorsBecome}
use Rattle.machine_state.specs.linked_frames.Frames.{IsRunning, event_of}
use Rattle.machine_state.proofs.linked_frames.Frames.{top_shown, finds, meaning_is, event_is}
use Rattle.machine_state.proofs.linked_frames.Moves.{replaced_shown}
use Rattle.machine_instructions.specs.thread_methods.Called.{IsCalling}
use Rattle.machine_instructions.proofs.thread_methods.There.{thread_there, monitors_are}
use Rattle.machine_instructions.specs.monitor_instructions.Frames.{object_on, GoesOn}

-- ---- the operand on top

first_taken : (stack : List ℕ) → slice_index_or (take 1 stack) 0 0 ≡ slice_index_or stack 0 0
first_taken [] = refl
first_taken (w ∷ stack) = refl

-- it refers to an object that is there, if it is not null
object_there : (trees : Program) (heap : List (ObjectOf ℕ)) (stack : List ℕ) (r : ℕ) → Some r ≡ word_reference (slice_index_or stack 0 0)
    → pops_meet (word_meets trees (types_of heap)) (AReference any_object ∷ []) stack ≡ true → r < length heap
object_there trees heap [] r e h = absurd (false≢true h)
object_there trees heap (zero ∷ stack) r e h = absurd cc
object_there trees heap (suc q ∷ stack) r e h =
    subst (λ n. n < length heap) (sym (same_Some r q e))
    (subst (λ n. q < n) (length-map heap model.type_of) (by (slice_get (types_of heap) q) refl (and_parts _ _ h).0))
  where
    by : (found : Option ReferenceType) → slice_get (types_of heap) q ≡ found
        → option_map_or (λ (type : ReferenceType). is_assignable trees type any_object) found false ≡ true → q < length (types_of heap)
    by None is h = absurd (false≢true h)
    by (Some type) is h = slice_get_within (types_of heap) q type is

module _ (trees : Program) (p : LinkedProgram) (bounds : Bounds) (inflated : List ℕ) (t : ℕ) (old : Shared) (from : List ShownEntry)
    (state : StateOf ℕ) (frame : FrameOf ℕ) (rest : StackOf ℕ) (code : LinkedCode) (site : Site) (meaning : MeaningOf ℕ)
    (instruction : LinkedInstruction)
    (is : IsRunning trees p bounds inflated t old from state frame rest code site meaning instruction) where
  abbrev pub world : WorldOf ℕ
  world = state.world

  -- a call of a method that wants nothing may stand here
  calling : IsCalling trees p bounds inflated t old from state frame rest method.Construct 1 0 (offset_at p is.shown.method 0)
  calling = record { program = is.program; lent = is.lent; shown = is.shown; others = is.others; is_stack = is.is_stack; goes_on = refl; arguments = tt }

  pub started : t < length old.threads.threads
  started = (thread_there trees p bounds inflated t old from state frame rest method.Construct 1 0 _ calling).0

  abbrev taken_object : Option ℕ
  taken_object = word_reference (slice_index_or (take 1 frame.place.slots.stack) 0 0)

  object_same : taken_object ≡ object_on from
  object_same =
      ap word_reference (first_taken frame.place.slots.stack)
      ∙ ap (λ (stack : List ℕ). word_reference (slice_index_or stack 0 0)) (top_shown trees p bounds inflated t old from state frame rest code site meaning instruction is).top.operands
      ∙ sym (ap object_on is.is_stack)

  -- where the meaning wants an object, it has a monitor
  pub there : (m : MeaningOf ℕ) → meaning_of words trees site ≡ Some m → m.wants ≡ wants_of (AReference any_object ∷ []) 0 → (r : ℕ)
      → Some r ≡ object_on from → r < length old.heap.locks.monitors
  there m e wants r found =
      let f = finds trees p bounds inflated t old from state frame rest code site meaning instruction is in
      let is_m = meaning_is trees p bounds inflated t old from state frame rest code site meaning instruction is m e in
      let ready = subst (λ w. pops_meet (word_meets trees (types_of world.heap)) w.pops frame.place.slots.stack ≡ true) (ap (λ (x : MeaningOf ℕ). x.wants) is_m ∙ wants) (and_parts _ _ (and_parts _ _ (and_parts _ _ f.ready).1).1).0 in
      subst (λ n. r < n) (sym (monitors_are trees p bounds inflated t old from state frame rest method.Construct 1 0 _ calling))
      (object_there trees world.heap frame.place.slots.stack r (found ∙ sym object_same ∙ ap word_reference (first_taken frame.place.slots.stack)) ready)

  -- ---- the stack after it

  abbrev pub gone_on : StackOf ℕ
  gone_on = model.Invocation (at_offset frame site.next (record { locals = frame.place.slots.locals; stack = drop 1 frame.place.slots.stack })) ∷ rest

  place_within : is.shown.place < 2 ^ 63
  place_within =
      let items = code.instructions in
      let less : is.shown.place < length items.items = slice_get_within items.items is.shown.place instruction is.stands.is in
      let count = items.ok.0 in
      let most = items.ok.1 in
      let small = items.small in
      omega arith

  pub went : site.next ≡ offset_in code.starts.items (is.shown.place + 1) → (to : List ShownEntry) → GoesOn from to
      → ShowsStack trees p to gone_on
  went next to goes =
      let to_is : to ≡ Invocation (at_place (is.shown.place + 1) (replaced 1 [] is.shown)) ∷ is.others = subst (λ s. GoesOn s to) is.is_stack goes place_within in
      subst (λ s. ShowsStack trees p s gone_on) (sym to_is)
      (subst (λ o. ShowsStack trees p (Invocation (at_place (is.shown.place + 1) (replaced 1 [] is.shown)) ∷ is.others)
      (model.Invocation (at_offset frame o (record { locals = frame.place.slots.locals; stack = drop 1 frame.place.slots.stack })) ∷ rest)) (sym next)
      (replaced_shown trees p bounds inflated t old from state frame rest code site meaning instruction is (is.shown.place + 1) 1 []))

  -- ---- monitorenter

  module _ (frames : ℕ) where
    -- by the object on top, if there is one
    abbrev pub entering : Option ℕ → SteppedOf (PartOf ℕ)
    entering found =
        enabled_if (may_enter_object world t found)
        (become words trees frames t world frame rest (not_null found (λ r. pushing_at (entry_cost world r) site.next [] (with_entry world t r) frame.place.slots (drop 1 frame.place.slots.stack))))

    pub enters : meaning_of words trees site ≡ Some (monitor_enter_meaning words site) → (found : Option ℕ) → found ≡ object_on from
        → instruction_event trees frames (event_of t) world frame rest meaning ≡ entering found
    enters e found is_found =
        event_is trees p bounds inflated t old from state frame rest code site meaning instruction is frames (event_of t) (monitor_enter_meaning words site) e
        ∙ ap entering (object_same ∙ sym is_found)

    -- ---- monitorexit

    abbrev pub exiting : Option ℕ → SteppedOf (PartOf ℕ)
    exiting found =
        become words trees frames t world frame rest (not_null found (λ r. left (is_owner world t r) site.next t r world frame.place.slots (drop 1 frame.place.slots.stack)))

    pub exits : meaning_of words trees site ≡ Some (monitor_exit_meaning words site) → (found : Option ℕ) → found ≡ object_on from
        → instruction_event trees frames (event_of t) world frame rest meaning ≡ exiting found
    exits e found is_found =
        event_is trees p bounds inflated t old from state frame rest code site meaning instruction is frames (event_of t) (monitor_exit_meaning words site) e
        ∙ ap exiting (object_same ∙ sym is_found)

  -- ---- a refusal changes nothing

  pub refused : (new : Shared) (stepped : SteppedOf (PartOf ℕ)) (cost : Cost) (after : PartOf ℕ) → stepped ≡ Next cost after
      → (told : EventRefusal) → MayBeRefused trees bounds inflated world cost (takes_shared cost) told → new ≡ old
      → (result : Result Effect EventRefusal) → IsErrAnd result (λ e. e ≡ told)
      → Does trees p bounds inflated t world (model.Invocation frame ∷ rest) stepped result old new from from
  refused new stepped cost after e told may unchanged (Ok other) h = absurd h
  refused new stepped cost after e told may unchanged (Err other) h = (
    record {
      cost = cost;
      next = after;
      is = e;
      may = subst (MayBeRefused trees bounds inflated world cost takes) (sym h)
          (refused_if trees bounds inflated world cost (takes_shared cost) takes (or_left _ _) told may);
    },
    record { shared = unchanged; stack = refl },
  )
    where
      takes : Bool
      takes = takes_memory world (shown_counts from) cost after

-- ---- who is not the owner changes nothing

not_owner_stays : (t : ℕ) (m after : Monitor) → owns t m.owner ≡ false → (as_owner t m after).after ≡ m
not_owner_stays t m after e = ap (λ b. (if b then answers_done after else record { answer = NotOwner; after = m }).after) e

pub exit_stays : (world : WorldOf ℕ) (t object : ℕ) (old new : Heap) → is_owner (over world old) t object ≡ false
    → MonitorsBecome (λ w. with_exit w t object) old.locks.fat old new → new ≡ old
exit_stays world t object old new e becomes =
    let m = monitor_at old.locks.monitors object in
    let monitors : new.locks.monitors ≡ old.locks.monitors =
    ap (λ (w : WorldOf ℕ). w.monitors) (becomes.world world) ∙ ap (slice_set old.locks.monitors object) (not_owner_stays t m (released m (m.count - 1)) e) ∙ set-get_or old.locks.monitors object unlocked
    in
    let locks : new.locks ≡ old.locks = λ i. record { monitors = monitors i; fat = becomes.fat_are i; limit = becomes.limit i } in
    becomes.rest ∙ ap (λ (l : Locks). record old { locks = l }) locks
