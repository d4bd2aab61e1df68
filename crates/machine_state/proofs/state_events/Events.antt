-- An event of a thread, done on a stack that was lent, is the event of the state.
use Rattle.std.proofs.Common.{◌≡◌, ◌<◌, ◌+◌, ◌-◌, ℕ, suc, List, [], ◌∷◌, ◌++◌, Some, Result, Ok, Err, Bool, true, false, if◌then◌else◌, length, replicate, sym, ap, subst, ◌∙◌, inl, inr, arith}
use Rattle.std.specs.Prelude.{slice_get, slice_set}
use Rattle.std.proofs.lemmas.List.{length-set, length-append, append-nil, get_or-set_same, get_or_append_left, set-set, set-append_left}
use Rattle.std.proofs.lemmas.Option.{same_Some, slice_get_within, slice_get-get_or}
use Rattle.model.specs.declared.event.Event.{Event}
use Rattle.model.specs.Classes.{Program}
use Rattle.model.specs.Accepted.{IsAccepted}
use Rattle.model.specs.LimitStands.{Bounds, inflated_by, is_inflating_entry}
use Rattle.model.specs.Operands.{words}
use Rattle.model.specs.Outcomes.{Cost, Free, Makes, Fills, Starts, Enters, Joins}
use Rattle.model.specs.State.{StackOf, WorldOf, StateOf}
use Rattle.model.specs.Step.{SteppedOf, Next, PartOf, part, thread_at, thread_event, settled, with_part, event_of, stepped}
use Rattle.model.specs.Words.{AreWellTypedWords}
use Rattle.run_laws.proofs.laws.LinkedOf.{linked_of}
use Rattle.run_laws.proofs.word_runs.Carried.{carried}
use Rattle.run_laws.proofs.word_runs.KeptWords.{kept_words}
use Rattle.run_laws.proofs.soundness.Sound.{kept}
use Rattle.run_laws.specs.monitor_counts.Counts.{is_inflated, AreMonitorsCounted}
use Rattle.run_laws.proofs.monitor_counts.Runs.{inflated_are}
use Rattle.run_laws.proofs.monitor_counts.CountedSteps.{counts_kept}
use Rattle.run_laws.specs.object_counts.Bounds.{made}
use Rattle.run_laws.proofs.object_counts.CountedSteps.{objects_counted}
use Rattle.machine_state.specs.limits_at_words.FatLocks.{AreFlags, IsOneOf, flags_after}
use Rattle.machine_state.proofs.limits_at_words.FatLocks.{flags_kept}
use Rattle.run_laws.specs.typed_threads.Threads.{IsCounted}
use Rattle.run_laws.proofs.typed_threads.Threads.{tables_counted}
use Rattle.run_laws.proofs.typed_threads.EndsAtWords.{ends_kept}
use Rattle.heap.specs.Heap.{Heap}
use Rattle.linked_code.specs.declared.program.LinkedProgram.{LinkedProgram}
use Rattle.thread_stacks.specs.Stacks.{ShownEntry}
use Rattle.machine_state.specs.shown_stacks.Shown.{ShowsStack}
use Rattle.machine_state.specs.declared.answers.Answer.{Answer}
use Rattle.machine_state.specs.declared.answers.Answer.TheVariants as answer
use Rattle.machine_state.specs.declared.refusals.EventRefusal.{EventRefusal}
use Rattle.machine_state.specs.declared.state.Shared.{Shared}
use Rattle.machine_state.specs.Shown.{Represents}
use Rattle.machine_state.specs.Events.{AreStacksAdded, HasBecome, MayBeRefused, Becomes}
use Rattle.machine_state.specs.Memory.{operand_counts, shown_counts, takes_memory, takes_memory_at, stack_at}
use Rattle.machine_state.specs.state_events.Whole.{ShowsStacks, IsShown, HasInPlace, IsSame, IsEventDone, Turns, AreStacksLent, AreEventsWhole}
use Rattle.machine_state.proofs.Memory.{counts_shown}
use Rattle.machine_state.proofs.state_events.Places.{IsOwn, own_at, set_at, set_same, one_more}

-- ---- what doesn't ask for stacks

represents_in : (trees : Program) (p : LinkedProgram) (bounds : Bounds) (old new : Shared) (world : WorldOf ℕ)
    → Represents trees p bounds old world → new ≡ record old { stacks = new.stacks }
    → Represents trees p bounds new world
represents_in trees p bounds old new world r same = subst (λ (s : Shared). Represents trees p bounds s world) (sym same) with_stacks
  where
    with_stacks : Represents trees p bounds (record old { stacks = new.stacks }) world
    with_stacks =
        record {
          world_is = record {
            objects = r.world_is.objects;
            counted = r.world_is.counted;
            monitors = r.world_is.monitors;
            statics = r.world_is.statics;
            statuses = r.world_is.statuses;
            ready = r.world_is.ready;
            threads = r.world_is.threads;
            printed = r.world_is.printed;
            interned = r.world_is.interned;
            unnamed = r.world_is.unnamed;
          };
          limits = record {
            opening = r.limits.opening;
            objects = r.limits.objects;
            cells = r.limits.cells;
            monitors = r.limits.monitors;
            threads = r.limits.threads;
          };
        }

heap_in : (old new : Shared) → new ≡ record old { stacks = new.stacks } → new.heap ≡ old.heap
heap_in old new same = ap (λ (s : Shared). s.heap) same

pub stacks_lent : AreStacksLent
stacks_lent trees p bounds inflated shared state h t from e other lent placed =
    record {
      own = own.own;
      is = own.is;
      lends = record {
        represents = represents_in trees p bounds shared lent state.world h.represents placed.rest;
        flags = subst (λ (l : Heap). AreFlags l.locks.fat inflated) (sym (heap_in shared lent placed.rest)) h.flags;
        counted = h.counted;
        shows_stack = own.shows;
        is_own = own.is;
        typed = h.typed;
      };
    }
  where
    own : IsOwn trees p state.stacks t from
    own = own_at trees p shared.stacks.items state.stacks h.stacks t from e

-- ---- fat locks

-- an event makes as many flags as objects
flags_made : (cost : Cost) (flags : List Bool) → length (flags_after cost flags) ≡ length flags + made cost
flags_made Free flags = omega arith
flags_made (Makes cells) flags = length-append flags (false ∷ [])
flags_made (Fills cells) flags = omega arith
flags_made Starts flags = omega arith
flags_made (Enters object count) flags = entered (is_inflating_entry count)
  where
    entered : (b : Bool) → length (if b then slice_set flags object true else flags) ≡ length flags + 0
    entered true = length-set flags object true ∙ omega arith
    entered false = omega arith
flags_made (Joins object) flags = length-set flags object true ∙ omega arith

-- ---- stacks

module _ (trees : Program) (p : LinkedProgram) (t : ℕ) (own : StackOf ℕ) (to : List ShownEntry) (shows : ShowsStack trees p to own) where
  -- the stacks of the next state, where so many threads were started
  after_it : (ss : List (List ShownEntry)) (ms : List (StackOf ℕ)) → ShowsStacks trees p ss ms → t < length ss
      → (lent after : Shared) (other : List ShownEntry) → lent.stacks.items ≡ slice_set ss t other → AreStacksAdded lent after
      → length lent.threads.threads ≡ length ms
      → ShowsStacks trees p (slice_set after.stacks.items t to) (slice_set ms t own
      ++ replicate (length after.threads.threads - length ms) [])
  after_it ss ms h there lent after other placed (inl kept) counted =
      subst (λ n. ShowsStacks trees p (slice_set after.stacks.items t to) (slice_set ms t own ++ replicate n [])) (sym none)
      (subst (ShowsStacks trees p (slice_set after.stacks.items t to)) (sym (append-nil (slice_set ms t own)))
      (subst (λ l. ShowsStacks trees p l (slice_set ms t own)) (sym back) (set_at trees p ss ms h t to own shows)))
    where
      none : length after.threads.threads - length ms ≡ 0
      none = let count : length after.threads.threads ≡ length ms = kept.threads ∙ counted in omega arith

      back : slice_set after.stacks.items t to ≡ slice_set ss t to
      back = ap (λ l. slice_set l t to) (kept.stacks ∙ placed) ∙ set-set ss t other to
  after_it ss ms h there lent after other placed (inr one) counted =
      subst (λ n. ShowsStacks trees p (slice_set after.stacks.items t to) (slice_set ms t own ++ replicate n [])) (sym started)
      (subst (λ l. ShowsStacks trees p l (slice_set ms t own ++ [] ∷ [])) (sym back) (one_more trees p (slice_set ss t to) (slice_set ms t own) (set_at trees p ss ms h t to own shows)))
    where
      started : length after.threads.threads - length ms ≡ 1
      started = let count : length after.threads.threads ≡ suc (length ms) = one.threads ∙ ap suc counted in omega arith

      back : slice_set after.stacks.items t to ≡ slice_set ss t to ++ [] ∷ []
      back =
          ap (λ l. slice_set l t to) (one.stacks ∙ ap (λ l. l ++ [] ∷ []) placed)
          ∙ set-append_left (slice_set ss t other) ([] ∷ []) t to (subst (λ n. t < n) (sym (length-set ss t other)) there)
          ∙ ap (λ l. l ++ [] ∷ []) (set-set ss t other to)

-- ---- an event

module _ (files : List (List ℕ)) (trees : Program) (accepted : IsAccepted files trees) (p : LinkedProgram) (bounds : Bounds)
    (inflated : List ℕ) (shared : Shared) (state : StateOf ℕ) (h : IsShown trees p bounds inflated shared state)
    (event : Event) (from : List ShownEntry) (own : StackOf ℕ) (kept_is : slice_get shared.stacks.items event.thread ≡ Some from) (own_is : slice_get state.stacks event.thread ≡ Some own)
    (other : List ShownEntry) (lent : Shared) (lends : HasInPlace event.thread other shared lent) where
  abbrev pub part_after : SteppedOf (PartOf ℕ)
  part_after = settled event.thread (thread_event words trees bounds.frames event state.world own (thread_at state.world event.thread).status)

  whole_is : stepped words trees bounds.frames state event ≡ with_part state event.thread part_after
  whole_is = ap (event_of words trees bounds.frames state event) own_is

  module _ (after : Shared) (to : List ShownEntry) (cost : Cost) (next : PartOf ℕ) (is : part_after ≡ Next cost next) where
    abbrev pub next_state : StateOf ℕ
    next_state = record { world = next.world; stacks = slice_set state.stacks event.thread next.stack ++ replicate (length next.world.threads - length state.stacks) [] }

    steps : stepped words trees bounds.frames state event ≡ Next cost next_state
    steps = whole_is ∙ ap (with_part state event.thread) is

    typed_after : AreWellTypedWords trees next_state
    typed_after =
        kept_words trees (carried trees (linked_of files trees accepted.linkable.spelled accepted.linkable.no_refusal).rooted)
        (λ n at state after typed is. kept files trees accepted n at state after typed is) bounds.frames state event cost next_state h.typed steps

    -- its own stack is the one that is lent, and stands in its place after it
    takes_is : takes_memory state.world (shown_counts from) cost next ≡ takes_memory_at state event.thread cost next_state
    takes_is = λ i. takes_memory state.world (counts_are i) cost (part next.world (after_is i))
      where
        there : event.thread < length state.stacks
        there = slice_get_within state.stacks event.thread own own_is

        before_is : own ≡ stack_at state event.thread
        before_is = same_Some own (stack_at state event.thread) (sym own_is ∙ slice_get-get_or state.stacks event.thread [] there)

        counts_are : shown_counts from ≡ operand_counts (stack_at state event.thread)
        counts_are =
            let lent = own_at trees p shared.stacks.items state.stacks h.stacks event.thread from kept_is in
            counts_shown trees p from lent.own lent.shows ∙ ap operand_counts (same_Some lent.own own (sym lent.is ∙ own_is) ∙ before_is)

        after_is : next.stack ≡ stack_at next_state event.thread
        after_is =
            sym (get_or_append_left (slice_set state.stacks event.thread next.stack) (replicate (length next.world.threads - length state.stacks) []) [] event.thread
            (subst (λ n. event.thread < n) (sym (length-set state.stacks event.thread next.stack)) there)
            ∙ get_or-set_same state.stacks event.thread next.stack [] there)

    module _ (b : HasBecome trees p bounds inflated state.world cost next lent after to) (new : Shared) (given : HasInPlace event.thread to after new) where
      lent_heap : lent.heap ≡ shared.heap
      lent_heap = heap_in shared lent lends.rest

      new_heap : new.heap ≡ after.heap
      new_heap = heap_in after new given.rest

      flags_are : new.heap.locks.fat ≡ flags_after cost shared.heap.locks.fat
      flags_are = ap (λ (l : Heap). l.locks.fat) new_heap ∙ b.flags ∙ ap (λ (l : Heap). flags_after cost l.locks.fat) lent_heap

      is_one : IsOneOf cost (length shared.heap.locks.fat)
      is_one = subst (IsOneOf cost) (ap (λ (l : Heap). length l.locks.monitors) lent_heap ∙ sym h.flag_count) b.there

      counted_before : IsCounted state
      counted_before = tables_counted trees state h.typed

      counted_after : IsCounted next_state
      counted_after = tables_counted trees next_state typed_after

      monitors_are : length new.heap.locks.monitors ≡ length shared.heap.locks.monitors + made cost
      monitors_are =
          ap (λ (l : Heap). length l.locks.monitors) new_heap
          ∙ ap length b.represents.world_is.monitors
          ∙ counted_after.monitors
          ∙ objects_counted.of_words trees bounds.frames state event cost next_state steps
          ∙ ap (λ n. n + made cost) (sym counted_before.monitors ∙ ap length (sym h.represents.world_is.monitors))

      count_is : length new.heap.locks.fat ≡ length new.heap.locks.monitors
      count_is = ap length flags_are ∙ flags_made cost shared.heap.locks.fat ∙ ap (λ n. n + made cost) h.flag_count ∙ sym monitors_are

      lent_threads : length lent.threads.threads ≡ length state.stacks
      lent_threads =
          ap (λ (s : Shared). length s.threads.threads) lends.rest
          ∙ ap length h.represents.world_is.threads
          ∙ sym counted_before.stacks

      stacks_are : ShowsStacks trees p new.stacks.items next_state.stacks
      stacks_are =
          subst (λ l. ShowsStacks trees p l next_state.stacks) (sym given.stacks)
          (subst (λ n. ShowsStacks trees p (slice_set after.stacks.items event.thread to) (slice_set state.stacks event.thread next.stack ++ replicate (n - length state.stacks) []))
          (ap length b.represents.world_is.threads)
          (after_it trees p event.thread next.stack to b.stack shared.stacks.items state.stacks h.stacks
          (slice_get_within shared.stacks.items event.thread from kept_is) lent after other lends.stacks b.others lent_threads))

      is_done : IsEventDone trees p bounds inflated state event new
      is_done =
          record {
            cost = cost;
            next = next_state;
            is = steps;
            within = b.within;
            shown = record {
              represents = represents_in trees p bounds after new next.world b.represents given.rest;
              flags = subst (λ l. AreFlags l (inflated_by cost inflated)) (sym flags_are) (flags_kept.after cost shared.heap.locks.fat inflated h.flags is_one);
              flag_count = count_is;
              counted =
                  subst (λ (fat : ℕ → Bool). AreMonitorsCounted fat next.world) (λ i object. sym (inflated_are cost inflated object) i)
                  (counts_kept.of_words trees bounds.frames state event cost next_state steps (is_inflated inflated) h.counted);
              stacks = stacks_are;
              typed = typed_after;
              ends = ends_kept files trees accepted bounds.frames state event cost next_state h.typed h.ends steps;
            };
          }

  -- nothing has changed, and the stack stands in its place again
  same_again : (after : Shared) (to : List ShownEntry) → after ≡ lent → to ≡ from → (new : Shared) → HasInPlace event.thread to after new
      → IsSame shared new
  same_again after to shared_is stack_is new given =
      record {
        rest = given.rest ∙ ap (λ (s : Shared). record s { stacks = new.stacks }) (shared_is ∙ lends.rest);
        stacks =
            given.stacks
            ∙ (λ i. slice_set (shared_is i).stacks.items event.thread (stack_is i))
            ∙ ap (λ l. slice_set l event.thread from) lends.stacks
            ∙ set-set shared.stacks.items event.thread other from
            ∙ set_same shared.stacks.items event.thread from kept_is;
      }

  turns : (result : Result Answer EventRefusal) (after : Shared) (to : List ShownEntry)
      → Becomes trees p bounds inflated state.world part_after result lent after from to
      → (new : Shared) → HasInPlace event.thread to after new → Turns trees p bounds inflated state event result shared new
  turns (Ok answer.Done) after to b new given = is_done after to b.cost b.next b.is b.becomes new given
  turns (Ok answer.NotEnabled) after to b new given = (whole_is ∙ ap (with_part state event.thread) b.0, same_again after to b.1.shared b.1.stack new given)
  turns (Err told) after to b new given = (
    record {
      cost = b.0.cost;
      next = next_state after to b.0.cost b.0.next b.0.is;
      is = steps after to b.0.cost b.0.next b.0.is;
      may = subst (λ takes. MayBeRefused trees bounds inflated state.world b.0.cost takes told) (takes_is after to b.0.cost b.0.next b.0.is) b.0.may;
    },
    same_again after to b.1.shared b.1.stack new given,
  )

pub events_whole : AreEventsWhole
events_whole files trees accepted p bounds inflated shared state h event from own kept_is own_is other lent lends result after to b new given =
    turns files trees accepted p bounds inflated shared state h event from own kept_is own_is other lent lends result after to b new given
