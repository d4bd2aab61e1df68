-- A thread that has left a wait set enters the monitor again, notified or interrupted.
use Rattle.std.proofs.Common.{◌≡◌, ◌<◌, ℕ, zero, suc, List, [], ◌∷◌, ◌++◌, Some, None, Bool, true, false, Result, Ok, Err, length, slice_set, slice_index_or, refl, sym, ap, subst, ◌∙◌, arith}
use Rattle.std.specs.Prelude.{slice_get}
use Rattle.std.specs.Result.{IsErrAnd}
use Rattle.std.proofs.lemmas.Bool.{false≢true}
use Rattle.std.proofs.lemmas.List.{length-set, length-append, get_or_append_left, set-append_left}
use Rattle.std.proofs.lemmas.Option.{slice_get_within, slice_get-get_or}
use Rattle.model.specs.Operands.{words}
use Rattle.model.specs.Classes.{Program}
use Rattle.model.specs.State.{Monitor, WakeCause, Notified, Interrupted, Running, Thread, StackOf, WorldOf, StateOf}
use Rattle.model.specs.Monitors as monitors
use Rattle.model.specs.Monitors.{unlocked, monitor_at, monitor_relock}
use Rattle.model.specs.LimitStands.{Bounds}
use Rattle.model.specs.MachineExceptions.{machine_exception}
use Rattle.model.specs.Outcomes.{Cost, Makes, InterruptedWait}
use Rattle.model.specs.Worlds.{is_done, has_ended, no_thread, thread_at, allocated, with_pending, with_interrupted}
use Rattle.model.specs.Step.{Next, PartOf, part, enabled_if, after_wait, raised_by_interrupt, relock_event}
use Rattle.model.specs.Step as step
use Rattle.run_laws.specs.word_runs.Words.{AreInCode}
use Rattle.run_laws.proofs.word_runs.InCode.{in_code}
use Rattle.run_laws.proofs.typed_threads.Threads.{tables_counted}
use Rattle.heap.specs.declared.monitor.call.Call.TheVariants as calls
use Rattle.heap.specs.monitor.Locks.{IsAllowed}
use Rattle.machine_state.proofs.limits_at_words.Relocks.{relocks_at_words}
use Rattle.heap.specs.monitor_events.Events.{Relocks, relocked}
use Rattle.heap.proofs.monitor_events.Ending.{written_twice}
use Rattle.machine_state.proofs.entries.Changing.{both_shown}
use Rattle.linked_code.specs.declared.program.LinkedProgram.{LinkedProgram}
use Rattle.thread_stacks.specs.Stacks.{ShownEntry, Invocation, Initialisation, on_top, moved, returned}
use Rattle.machine_state.specs.shown_stacks.Shown.{ShowsStack}
use Rattle.machine_state.proofs.shown_stacks.Laws.{return}
use Rattle.machine_state.specs.declared.answers.Answer.{Answer}
use Rattle.machine_state.specs.declared.answers.Answer.TheVariants as answer
use Rattle.machine_state.specs.declared.refusals.EventRefusal.{EventRefusal}
use Rattle.machine_state.specs.declared.state.Shared.{Shared}
use Rattle.machine_state.specs.Shown.{Represents}
use Rattle.machine_state.specs.Events.{Becomes, HasBecome, IsDone, MayBeRefused}
use Rattle.machine_state.specs.Memory.{shown_counts, takes_memory}
use Rattle.machine_state.proofs.linked_frames.Moves.{free_done}
use Rattle.machine_instructions.specs.returns.Places.{IsNextOfTop}
use Rattle.machine_threads.specs.thread_wakes.Relocks.{HasLeft}
use Rattle.machine_threads.proofs.thread_wakes.Ending.{added}

-- ---- the exception and the monitor, in both orders

-- the world in which an InterruptedException is pending
abbrev thrown : Program → ℕ → WorldOf ℕ → WorldOf ℕ
thrown trees t world = with_pending (allocated (with_interrupted world t false) (machine_exception words trees InterruptedWait None)) t (length world.heap)

module _ (trees : Program) (t object count : ℕ) (world : WorldOf ℕ) (there : t < length world.threads) (inside : object < length world.monitors) where
  abbrev own : Thread
  own = thread_at world t

  abbrev waits : Thread → Thread
  waits thread = record thread { interrupted = false }

  abbrev throws : Thread → Thread
  throws thread = record thread { pending = Some (length world.heap) }

  abbrev runs : Thread → Thread
  runs thread = record thread { status = Running }

  abbrev written : (Thread → Thread) → List Thread → List Thread
  written change threads = slice_set threads t (change (slice_index_or threads t no_thread))

  threads_same : written runs (written throws (written waits world.threads)) ≡ written throws (written waits (written runs world.threads))
  threads_same =
      ap (written runs) (written_twice world.threads t (waits own) throws there)
      ∙ written_twice world.threads t (throws (waits own)) runs there
      ∙ sym (ap (written throws) (written_twice world.threads t (runs own) waits there) ∙ written_twice world.threads t (waits (runs own)) throws there)

  monitors_same : (monitors.relock object t count (world.monitors ++ unlocked ∷ [])).after
      ≡ (monitors.relock object t count world.monitors).after ++ unlocked ∷ []
  monitors_same =
      ap (λ (m : Monitor). slice_set (world.monitors ++ unlocked ∷ []) object (monitor_relock t count m).after) (get_or_append_left world.monitors (unlocked ∷ []) unlocked object inside)
      ∙ set-append_left world.monitors (unlocked ∷ []) object (monitor_relock t count (monitor_at world.monitors object)).after inside

  either_order : relocked (thrown trees t world) object t count ≡ thrown trees t (relocked world object t count)
  either_order = λ i. record (thrown trees t world) { monitors = monitors_same i; threads = threads_same i }

-- ---- a lock more, which is not fat

not_fat : (flags : List Bool) (n : ℕ) → slice_index_or (flags ++ false ∷ []) n false ≡ slice_index_or flags n false
not_fat [] zero = refl
not_fat [] (suc n) = refl
not_fat (x ∷ flags) zero = refl
not_fat (x ∷ flags) (suc n) = not_fat flags n

-- ---- the frame on top goes on

goes_on : (next : ℕ) (stack : List ShownEntry) → on_top (moved next) stack ≡ returned next [] stack
goes_on next [] = refl
goes_on next (Invocation frame ∷ others) = refl
goes_on next (Initialisation class phase ∷ others) = refl

-- ---- what was done

became : (trees : Program) (p : LinkedProgram) (bounds : Bounds) (inflated : List ℕ) (world : WorldOf ℕ) (cost : Cost) (next : PartOf ℕ)
    (old new : Shared) (to : List ShownEntry)
    → IsDone trees p bounds inflated world (Next cost next) old new to → HasBecome trees p bounds inflated world cost next old new to
became trees p bounds inflated world cost next old new to d =
    let is = d.is in
    let cost_is : d.cost ≡ cost = cc in
    let next_is : d.next ≡ next = cc in
    subst (λ c. HasBecome trees p bounds inflated world c next old new to) cost_is
    (subst (λ n. HasBecome trees p bounds inflated world d.cost n old new to) next_is d.becomes)

-- ---- a thread that has left a wait set

module _ (trees : Program) (p : LinkedProgram) (bounds : Bounds) (inflated : List ℕ) (t object count : ℕ) (cause : WakeCause)
    (old : Shared) (from : List ShownEntry) (state : StateOf ℕ) (own : StackOf ℕ)
    (l : HasLeft trees p bounds inflated t object count cause old from state own) where
  abbrev world : WorldOf ℕ
  world = state.world

  within : t < length world.threads
  within = subst (λ n. t < n) (tables_counted trees state l.lent.typed).stacks (slice_get_within state.stacks t own l.lent.is_own)

  there : slice_get world.threads t ≡ Some (thread_at world t)
  there = slice_get-get_or world.threads t no_thread within

  pub allowed : t < 32767 → IsAllowed (calls.Relock object t count) old.heap.locks
  allowed small =
      relocks_at_words trees state l.lent.typed old.heap.locks inflated l.lent.represents.world_is.monitors l.lent.flags l.lent.counted t (thread_at world t) object count cause there l.status small

  abbrev frees : Shared → Bool
  frees shared = is_done (monitors.relock object t count shared.heap.locks.monitors).answer

  free_is : is_done (monitors.relock object t count world.monitors).answer ≡ frees old
  free_is = ap (λ (ms : List Monitor). is_done (monitors.relock object t count ms).answer) (sym l.lent.represents.world_is.monitors)

  event_is : (free : Bool) → free ≡ frees old
      → relock_event words trees t object count cause world own ≡ enabled_if free (after_wait words trees t cause (relocked world object t count) own)
  event_is free says = ap (λ b. enabled_if b (after_wait words trees t cause (relocked world object t count) own)) (free_is ∙ sym says)

  pub not_enabled : false ≡ frees old → Becomes trees p bounds inflated
      world (relock_event words trees t object count cause world own) (Ok answer.NotEnabled) old old from from
  not_enabled says = (event_is false says, record { shared = refl; stack = refl })

  -- notified, it goes on behind its call
  module _ (notified : cause ≡ Notified) (says : true ≡ frees old) where
    running : AreInCode trees own
    running = in_code trees state l.lent.typed t (thread_at world t) own there l.lent.is_own (ap has_ended l.status)

    pub returns : (new : Shared) (done : Bool) → Relocks done object t count old.heap new.heap old.threads new.threads
        → new ≡ record old { heap = new.heap; threads = new.threads }
        → (next : ℕ) → IsNextOfTop p from next → (to : List ShownEntry) → to ≡ on_top (moved next) from
        → IsDone trees p bounds inflated world (relock_event words trees t object count cause world own) old new to
    returns new false r rest next is to same = absurd (false≢true (sym r.0 ∙ sym says))
    returns new true r rest next is to same =
        subst (λ s. IsDone trees p bounds inflated world s old new to)
        (sym (event_is true says ∙ ap (λ c. after_wait words trees t c (relocked world object t count) own) notified))
        (free_done trees p bounds inflated world (relocked world object t count) (step.returned trees [] own) old new to
        (both_shown trees p bounds world old new l.lent.represents (λ w. relocked w object t count) old.heap.locks.fat r.1 rest)
        (subst (λ (s : List ShownEntry). ShowsStack trees p s (step.returned trees [] own)) (sym (same ∙ goes_on next from))
        (return trees p from own l.lent.shows_stack next [] (is trees l.program own l.lent.shows_stack running)))
        r.1.fat_are (ap (λ (s : Shared). s.stacks) rest)
        (ap (λ (w : WorldOf ℕ). length w.threads) (r.1.world world) ∙ length-set old.threads.threads t _))

  -- interrupted, the exception is made first
  module _ (interrupted : cause ≡ Interrupted) (says : true ≡ frees old) where
    throws_is : relock_event words trees t object count cause world own ≡ raised_by_interrupt words trees t (relocked world object t count) own
    throws_is = event_is true says ∙ ap (λ c. after_wait words trees t c (relocked world object t count) own) interrupted

    pub refused : (why : EventRefusal) (between : Shared)
        → Becomes trees p bounds inflated world (raised_by_interrupt words trees t world own) (Err why) old between from from
        → (result : Result Answer EventRefusal) → IsErrAnd result (λ told. told ≡ why)
        → Becomes trees p bounds inflated world (relock_event words trees t object count cause world own) result old between from from
    refused why between b (Ok told) e = absurd e
    refused why between b (Err told) e =
        let is = b.0.is in
        let cost_is : b.0.cost ≡ Makes 0 = cc in (
          record {
            cost = Makes 0;
            next = part (thrown trees t (relocked world object t count)) own;
            is = throws_is;
            may = subst (MayBeRefused trees bounds inflated world (Makes 0) true) (sym e)
                (subst (λ c. MayBeRefused trees bounds inflated world c (takes_memory world (shown_counts from) c b.0.next) why) cost_is b.0.may);
          },
          b.1,
        )

    -- it may still enter the monitor then
    module _ (between : Shared) (h : HasBecome trees p bounds inflated world (Makes 0) (part (thrown trees t world) own) old between from) (inside : object < length old.heap.locks.monitors) where
      in_world : object < length world.monitors
      in_world = subst (λ (ms : List Monitor). object < length ms) l.lent.represents.world_is.monitors inside

      still_free : frees between ≡ frees old
      still_free =
          ap (λ (ms : List Monitor). is_done (monitors.relock object t count ms).answer) h.represents.world_is.monitors
          ∙ ap (λ (m : Monitor). is_done (monitor_relock t count m).answer) (get_or_append_left world.monitors (unlocked ∷ []) unlocked object in_world)
          ∙ free_is

      still_allowed : IsAllowed (calls.Relock object t count) old.heap.locks → IsAllowed (calls.Relock object t count) between.heap.locks
      still_allowed a =
          let more = ap length h.represents.world_is.monitors ∙ length-append world.monitors (unlocked ∷ []) in (
            omega (arith, more, in_world),
            a.1,
            a.2,
            λ thin. a.3 (sym (ap (λ (flags : List Bool). slice_index_or flags object false) h.flags ∙ not_fat old.heap.locks.fat object) ∙ thin),
          )

      throws_by : (new : Shared) (done : Bool) → Relocks done object t count between.heap new.heap between.threads new.threads
          → new ≡ record between { heap = new.heap; threads = new.threads }
          → IsDone trees p bounds inflated world (relock_event words trees t object count cause world own) old new from
      throws_by new false r rest = absurd (false≢true (sym r.0 ∙ still_free ∙ sym says))
      throws_by new true r rest =
          record {
            cost = Makes 0;
            next = part (thrown trees t (relocked world object t count)) own;
            is = throws_is;
            becomes = record {
              within = h.within;
              there = h.there;
              represents = subst (Represents trees p bounds new) (either_order trees t object count world within in_world)
                  (both_shown trees p bounds (thrown trees t world) between new h.represents (λ w. relocked w object t count) between.heap.locks.fat r.1 rest);
              stack = h.stack;
              flags = r.1.fat_are ∙ h.flags;
              others = added old between new (ap (λ (s : Shared). s.stacks.items) rest)
                  (ap (λ (w : WorldOf ℕ). length w.threads) (r.1.world world) ∙ length-set between.threads.threads t _) h.others;
            };
          }

    abbrev raises : Shared → Answer → Type 0
    raises between told = Becomes trees p bounds inflated world (raised_by_interrupt words trees t world own) (Ok told) old between from from

    done_by : (between : Shared) (told : Answer) → raises between told
        → HasBecome trees p bounds inflated world (Makes 0) (part (thrown trees t world) own) old between from
    done_by between answer.Done b = became trees p bounds inflated world (Makes 0) (part (thrown trees t world) own) old between from b
    done_by between answer.NotEnabled b = let never = b.0 in absurd cc

    pub allowed_then : (between : Shared) (told : Answer) → raises between told → t < 32767
        → IsAllowed (calls.Relock object t count) between.heap.locks
    allowed_then between told b small = still_allowed between (done_by between told b) (allowed small).0 (allowed small)

    pub throws_then : (between : Shared) (told : Answer) → raises between told → object < length old.heap.locks.monitors
        → (new : Shared) (done : Bool) → Relocks done object t count between.heap new.heap between.threads new.threads
        → new ≡ record between { heap = new.heap; threads = new.threads }
        → IsDone trees p bounds inflated world (relock_event words trees t object count cause world own) old new from
    throws_then between told b inside = throws_by between (done_by between told b) inside
