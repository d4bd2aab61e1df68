-- An exception that is allocated and pending, and one that is refused.
use Rattle.std.proofs.Common.{◌≡◌, ℕ, List, Some, true, Result, Ok, Err, slice_index_or, slice_set, length, refl, sym, ap, subst, ◌∙◌, inl}
use Rattle.std.specs.Result.{IsErrAnd}
use Rattle.std.proofs.lemmas.List.{length-set}
use Rattle.model.specs.Classes.{Program}
use Rattle.model.specs.State.{ObjectOf, Thread, StackOf, WorldOf, new_thread}
use Rattle.model.specs.Outcomes.{Makes}
use Rattle.model.specs.LimitStands.{Bounds}
use Rattle.model.specs.Worlds.{allocated, cells_of, with_pending}
use Rattle.model.specs.Step.{PartOf, part, Next}
use Rattle.heap.specs.declared.refusal.AllocRefusal.{AllocRefusal}
use Rattle.heap.specs.Heap as heap
use Rattle.heap.specs.Heap.{Heap}
use Rattle.heap.specs.java_threads.Table.{ThreadTable}
use Rattle.linked_code.specs.declared.program.LinkedProgram.{LinkedProgram}
use Rattle.thread_stacks.specs.Stacks.{ShownEntry}
use Rattle.machine_state.specs.shown_objects.Shown.{ShowsObject}
use Rattle.machine_state.specs.shown_stacks.Shown.{ShowsStack}
use Rattle.machine_state.specs.declared.answers.Answer.{Answer}
use Rattle.machine_state.specs.declared.refusals.EventRefusal.{EventRefusal}
use Rattle.machine_state.specs.declared.state.Shared.{Shared}
use Rattle.machine_state.specs.Refusals.{of_heap}
use Rattle.machine_state.specs.Shown.{Represents}
use Rattle.machine_state.specs.Events.{Becomes, IsDone, MayBeRefused}
use Rattle.machine_state.specs.allocations.Allocated.{IsMade}
use Rattle.machine_state.proofs.allocations.Allocating.{made_one, refused}
use Rattle.machine_state.specs.raised_exceptions.Raised.{IsMadeWith, telling_object}

module _ (trees : Program) (p : LinkedProgram) (bounds : Bounds) (inflated : List ℕ) (world : WorldOf ℕ) (old : Shared)
    (r : Represents trees p bounds old world)
    (shown : List ShownEntry) (own : StackOf ℕ) (s : ShowsStack trees p shown own) where
  -- ---- refused

  pub told_as : (next : PartOf ℕ) (why : AllocRefusal) (after : Heap) → heap.IsRefused why 0 old.heap after
      → (result : Result Answer EventRefusal) → IsErrAnd result (λ told. told ≡ of_heap why)
      → Becomes trees p bounds inflated world (Next (Makes 0) next) result old (record old { heap = after }) shown shown
  told_as next why after is (Ok u) e = absurd e
  told_as next why after is (Err told) e =
      let both : MayBeRefused trees bounds inflated world (Makes 0) true (of_heap why) × (after ≡ old.heap) = refused trees p bounds inflated world old (record old { heap = after }) r 0 why is in (
        record { cost = Makes 0; next = next; is = refl; may = subst (MayBeRefused trees bounds inflated world (Makes 0) true) (sym e) both.0 },
        record { shared = ap (λ (h : Heap). record old { heap = h }) both.1; stack = refl },
      )

  -- ---- done

  -- the threads with the exception pending in one, after another change of them
  abbrev pub pending_in : (change : List Thread → List Thread) (t : ℕ) → List Thread → ℕ → List Thread
  pending_in change t threads exception = slice_set (change threads) t (record (slice_index_or (change threads) t (new_thread 0)) { pending = Some exception })

  module _ (object : ObjectOf ℕ) (class message cause : ℕ)
      (shows : ShowsObject trees p.components.items (telling_object class message cause) object) (none : 0 ≡ cells_of object) where
    pub is_pending : (change : List Thread → List Thread) → ((threads : List Thread) → length (change threads) ≡ length threads)
        → (t reference : ℕ) (after : Heap) (table : ThreadTable)
        → IsMadeWith reference class message cause old.heap after
        → table.threads ≡ pending_in change t old.threads.threads reference → table.limit ≡ old.threads.limit
        → IsDone trees p bounds inflated world
        (Next (Makes 0) (part (with_pending (allocated (record world { threads = change world.threads }) object) t (length world.heap)) own))
        old (record old { heap = after; threads = table }) shown
    is_pending change same t reference after table makes threads_are limit_is =
        record {
          cost = Makes 0;
          next = _;
          is = refl;
          becomes = record {
            within = m.within;
            there = tt;
            represents = record {
              world_is = record {
                objects = m.represents.world_is.objects;
                counted = m.represents.world_is.counted;
                monitors = m.represents.world_is.monitors;
                statics = m.represents.world_is.statics;
                statuses = m.represents.world_is.statuses;
                ready = m.represents.world_is.ready;
                threads = threads_are ∙ (λ i. pending_in change t (r.world_is.threads i) (m.next i));
                printed = m.represents.world_is.printed;
                interned = m.represents.world_is.interned;
                unnamed = m.represents.world_is.unnamed;
              };
              limits = record {
                opening = m.represents.limits.opening;
                objects = m.represents.limits.objects;
                cells = m.represents.limits.cells;
                monitors = m.represents.limits.monitors;
                threads = limit_is ∙ r.limits.threads;
              };
            };
            stack = s;
            flags = m.flags;
            others = inl (record { stacks = refl; threads = ap length threads_are ∙ length-set (change old.threads.threads) t _ ∙ same old.threads.threads });
          };
        }
      where
        m : IsMade trees p bounds inflated world object reference 0 old (record old { heap = after })
        m = made_one trees p bounds inflated world old (record old { heap = after }) r (telling_object class message cause)
            reference 0 makes.answer makes.fits makes.opened makes.objects makes.cells (ap (λ (h : Heap). record old { heap = h }) makes.after) object shows none
