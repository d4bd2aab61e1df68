-- The end of a thread, after its event.
use Rattle.std.proofs.Common.{◌≡◌, ◌≤◌, ℕ, List, [], ◌∷◌, Bool, true, false, ◌||◌, length, refl, sym, ap, subst, ◌∙◌, inl, inr, ◌==◌, arith, eqb-true}
use Rattle.std.specs.Prelude.{nat_lt}
use Rattle.std.proofs.lemmas.List.{length-set, set_past, get_or_past}
use Rattle.std.proofs.lemmas.Bool.{false≢true}
use Rattle.model.specs.Classes.{Program}
use Rattle.model.specs.State.{Monitor, Waiter, WakeCause, Notified, Thread, StackOf, WorldOf}
use Rattle.model.specs.Monitors as monitors
use Rattle.model.specs.Monitors.{unlocked, monitor_at}
use Rattle.model.specs.LimitStands.{Bounds}
use Rattle.model.specs.Worlds.{all_woken, woken, waiters_of, thread_at, with_thread, with_monitors}
use Rattle.model.specs.Step.{SteppedOf, Next, PartOf, part, is_over, ended, with_waiters_woken, with_end, end_of, settled}
use Rattle.heap.specs.Heap.{Heap}
use Rattle.heap.specs.java_threads.Table.{ThreadTable}
use Rattle.heap.specs.java_threads.Table as table
use Rattle.heap.specs.monitor_events.Tables.{shared, ThreadsBecome}
use Rattle.linked_code.specs.declared.program.LinkedProgram.{LinkedProgram}
use Rattle.thread_stacks.specs.Stacks.{ShownEntry}
use Rattle.machine_state.specs.shown_stacks.Shown.{ShowsStack}
use Rattle.machine_state.specs.declared.state.Shared.{Shared}
use Rattle.machine_state.specs.declared.refusals.EventRefusal.{EventRefusal}
use Rattle.machine_state.specs.Events.{MayBeRefused, IsRefused, IsDone, AreStacksAdded}
use Rattle.machine_state.specs.Memory.{takes_shared, operand_counts, shown_counts, has_grown}
use Rattle.machine_state.proofs.entries.Changing.{both_shown}
use Rattle.machine_threads.specs.thread_wakes.Ends.{Ends}

-- ---- as many threads as before

woken_count : (object : ℕ) (cause : WakeCause) (world : WorldOf ℕ) (waiters : List Waiter)
    → length (all_woken object cause world waiters).threads ≡ length world.threads
woken_count object cause world [] = refl
woken_count object cause world (waiter ∷ waiters) =
    woken_count object cause (woken object cause world waiter) waiters ∙ length-set world.threads waiter.thread _

end_count : (world : WorldOf ℕ) (t : ℕ) → length (with_end world t true).threads ≡ length world.threads
end_count world t =
    let after = with_thread world t (ended (thread_at world t)) in
    let object = (thread_at world t).object in
    woken_count object Notified (with_monitors after (monitors.wake_all object world.monitors)) (monitor_at world.monitors object).waiters
    ∙ length-set world.threads t (ended (thread_at world t))

-- ---- a Thread object that is not there

-- none waits on it
none_waiting : (world : WorldOf ℕ) (object : ℕ) → length world.monitors ≤ object → with_waiters_woken world object ≡ world
none_waiting world object past =
    ap (λ (m : Monitor). all_woken object Notified (with_monitors world (monitors.wake_all object world.monitors)) m.waiters) (get_or_past world.monitors object unlocked past)
    ∙ ap (λ (ms : List Monitor). record world { monitors = ms }) (set_past world.monitors object _ past)

pub ended_alone : (t : ℕ) (old new : Shared)
    → ThreadsBecome (λ world. with_thread world t (ended (thread_at world t))) old.threads new.threads
    → new ≡ record old { threads = new.threads }
    → length old.heap.locks.monitors ≤ (table.thread_at old.threads.threads t).object → Ends t old new
ended_alone t old new becomes rest past =
    record {
      become = record {
        world = λ world. (λ i. shared world (heap i) new.threads) ∙ ap (λ (w : WorldOf ℕ). record w { monitors = old.heap.locks.monitors }) (becomes.world world) ∙ sym (none_waiting _ _ (past_still world));
        fat_are = ap (λ (h : Heap). h.locks.fat) heap;
        lock_limit = ap (λ (h : Heap). h.locks.limit) heap;
        rest = heap ∙ ap (λ (h : Heap). record old.heap { locks = h.locks }) (sym heap);
        thread_limit = becomes.limit;
      };
      rest = rest ∙ ap (λ (h : Heap). record old { heap = h; threads = new.threads }) (sym heap);
    }
  where
    heap : new.heap ≡ old.heap
    heap = ap (λ (s : Shared). s.heap) rest

    past_still : (world : WorldOf ℕ) → length old.heap.locks.monitors ≤ (thread_at (shared world old.heap old.threads) t).object
    past_still world = past

-- ---- no thread is new

pub added : (old between new : Shared) → new.stacks.items ≡ between.stacks.items
    → length new.threads.threads ≡ length between.threads.threads
    → AreStacksAdded old between → AreStacksAdded old new
added old between new stacks count (inl kept) = inl (record { stacks = stacks ∙ kept.stacks; threads = count ∙ kept.threads })
added old between new stacks count (inr started) = inr (record { stacks = stacks ∙ started.stacks; threads = count ∙ started.threads })

-- ---- whether a thread has ended

module _ (trees : Program) (p : LinkedProgram) (t : ℕ) (world : WorldOf ℕ) where
  not_empty : (to : List ShownEntry) (own : StackOf ℕ) → ShowsStack trees p to own → (length to == 0) ≡ false → end_of t world own ≡ world
  not_empty [] own shows e = absurd (false≢true (sym e))
  not_empty (shown ∷ others) [] shows e = absurd shows
  not_empty (shown ∷ others) (entry ∷ rest) shows e = refl

  not_over : (own : StackOf ℕ) → is_over (thread_at world t) ≡ false → end_of t world own ≡ world
  not_over [] e = ap (with_end world t) e
  not_over (entry ∷ rest) e = refl

  empty_over : (to : List ShownEntry) (own : StackOf ℕ) → ShowsStack trees p to own → (length to == 0) ≡ true
      → is_over (thread_at world t) ≡ true
      → end_of t world own ≡ with_end world t true
  empty_over [] [] shows empty e = ap (with_end world t) e
  empty_over [] (entry ∷ rest) shows empty e = absurd shows
  empty_over (shown ∷ others) own shows empty e =
      let none : length (shown ∷ others) ≡ 0 = eqb-true (length (shown ∷ others)) 0 empty in absurd (omega (arith, none))

-- ---- nothing is printed by it, and no String interned

woken_printed : (object : ℕ) (cause : WakeCause) (world : WorldOf ℕ) (waiters : List Waiter)
    → (all_woken object cause world waiters).printed ≡ world.printed
woken_printed object cause world [] = refl
woken_printed object cause world (waiter ∷ waiters) = woken_printed object cause (woken object cause world waiter) waiters

end_printed : (t : ℕ) (world : WorldOf ℕ) (over : Bool) → (with_end world t over).printed ≡ world.printed
end_printed t world true =
    let over : WorldOf ℕ = with_thread world t (ended (thread_at world t)) in
    let object = (thread_at world t).object in
    woken_printed object Notified (with_monitors over (monitors.wake_all object over.monitors)) (waiters_of over object)
end_printed t world false = refl

printed_same : (t : ℕ) (world : WorldOf ℕ) (own : StackOf ℕ) → (end_of t world own).printed ≡ world.printed
printed_same t world [] = end_printed t world (is_over (thread_at world t))
printed_same t world (entry ∷ own) = refl

woken_interned : (object : ℕ) (cause : WakeCause) (world : WorldOf ℕ) (waiters : List Waiter)
    → (all_woken object cause world waiters).interned ≡ world.interned
woken_interned object cause world [] = refl
woken_interned object cause world (waiter ∷ waiters) = woken_interned object cause (woken object cause world waiter) waiters

end_interned : (t : ℕ) (world : WorldOf ℕ) (over : Bool) → (with_end world t over).interned ≡ world.interned
end_interned t world true =
    let over : WorldOf ℕ = with_thread world t (ended (thread_at world t)) in
    let object = (thread_at world t).object in
    woken_interned object Notified (with_monitors over (monitors.wake_all object over.monitors)) (waiters_of over object)
end_interned t world false = refl

interned_same : (t : ℕ) (world : WorldOf ℕ) (own : StackOf ℕ) → (end_of t world own).interned ≡ world.interned
interned_same t world [] = end_interned t world (is_over (thread_at world t))
interned_same t world (entry ∷ own) = refl

-- an event that is refused is so with the end of the thread, too
pub refused_settled : (t : ℕ) (trees : Program) (bounds : Bounds) (inflated : List ℕ) (world : WorldOf ℕ) (from : List ShownEntry) (stepped : SteppedOf (PartOf ℕ))
    (told : EventRefusal) → IsRefused trees bounds inflated world from stepped told
    → IsRefused trees bounds inflated world from (settled t stepped) told
refused_settled t trees bounds inflated world from stepped told r =
    record {
      cost = r.cost;
      next = part (end_of t r.next.world r.next.stack) r.next.stack;
      is = ap (settled t) r.is;
      may = subst (λ takes. MayBeRefused trees bounds inflated world r.cost takes told)
          (λ i. takes (sym (printed_same t r.next.world r.next.stack) i) (sym (interned_same t r.next.world r.next.stack) i)) r.may;
    }
  where
    -- by what is printed and what Strings are interned after it
    takes : List ℕ → List ℕ → Bool
    takes printed interned =
        takes_shared r.cost
        || (has_grown (shown_counts from) (operand_counts r.next.stack)
        || (nat_lt (length world.printed) (length printed) || nat_lt (length world.interned) (length interned)))

-- ---- the event before

module _ (t : ℕ) (between : Shared) (to : List ShownEntry) (trees : Program) (p : LinkedProgram) (bounds : Bounds) (inflated : List ℕ)
    (world : WorldOf ℕ) (old : Shared) (stepped : SteppedOf (PartOf ℕ))
    (d : IsDone trees p bounds inflated world stepped old between to) where
  -- the thread goes on
  kept : end_of t d.next.world d.next.stack ≡ d.next.world → IsDone trees p bounds inflated world (settled t stepped) old between to
  kept same =
      record { cost = d.cost; next = d.next; is = ap (settled t) d.is ∙ ap (λ (w : WorldOf ℕ). Next d.cost (part w d.next.stack)) same; becomes = d.becomes }

  over_is : is_over (table.thread_at between.threads.threads t) ≡ is_over (thread_at d.next.world t)
  over_is = ap (λ (threads : List Thread). is_over (table.thread_at threads t)) d.becomes.represents.world_is.threads

  pub has_frames : (length to == 0) ≡ false → IsDone trees p bounds inflated world (settled t stepped) old between to
  has_frames e = kept (not_empty trees p t d.next.world to d.next.stack d.becomes.stack e)

  pub goes_on : is_over (table.thread_at between.threads.threads t) ≡ false
      → IsDone trees p bounds inflated world (settled t stepped) old between to
  goes_on e = kept (not_over trees p t d.next.world d.next.stack (sym over_is ∙ e))

  -- it has ended
  over : (new : Shared) → Ends t between new → end_of t d.next.world d.next.stack ≡ with_end d.next.world t true
      → IsDone trees p bounds inflated world (settled t stepped) old new to
  over new e same =
      record {
        cost = d.cost;
        next = part (with_end d.next.world t true) d.next.stack;
        is = ap (settled t) d.is ∙ ap (λ (w : WorldOf ℕ). Next d.cost (part w d.next.stack)) same;
        becomes = record {
          within = d.becomes.within;
          there = d.becomes.there;
          represents = both_shown trees p bounds d.next.world between new d.becomes.represents (λ w. with_end w t true) between.heap.locks.fat e.become e.rest;
          stack = d.becomes.stack;
          flags = e.become.fat_are ∙ d.becomes.flags;
          others = added old between new stacks count d.becomes.others;
        };
      }
    where
      stacks : new.stacks.items ≡ between.stacks.items
      stacks = ap (λ (s : Shared). s.stacks.items) e.rest

      count : length new.threads.threads ≡ length between.threads.threads
      count = ap (λ (w : WorldOf ℕ). length w.threads) (e.become.world d.next.world) ∙ end_count (shared d.next.world between.heap between.threads) t

  pub has_ended : (new : Shared) → Ends t between new → (length to == 0) ≡ true → is_over (table.thread_at between.threads.threads t) ≡ true
      → IsDone trees p bounds inflated world (settled t stepped) old new to
  has_ended new e empty is = over new e (empty_over trees p t d.next.world to d.next.stack d.becomes.stack empty (sym over_is ∙ is))
