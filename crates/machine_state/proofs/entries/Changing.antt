-- Monitors and threads in another state show a world in that state.
use Rattle.std.proofs.Common.{◌≡◌, ℕ, refl, sym, ap, subst, ◌∙◌}
use Rattle.model.specs.Classes.{Program}
use Rattle.model.specs.State.{WorldOf}
use Rattle.model.specs.LimitStands.{Bounds}
use Rattle.heap.specs.monitor.Locks.{Locks}
use Rattle.heap.specs.Heap.{Heap}
use Rattle.heap.specs.java_threads.Table.{ThreadTable}
use Rattle.heap.specs.monitor_events.Tables.{over, among, shared}
use Rattle.linked_code.specs.declared.program.LinkedProgram.{LinkedProgram}
use Rattle.machine_state.specs.declared.state.Shared.{Shared}
use Rattle.machine_state.specs.Shown.{Represents}
use Rattle.machine_state.specs.entries.Changes.{AreMonitorsShown, AreThreadsShown, AreBothShown}

module _ (trees : Program) (p : LinkedProgram) (bounds : Bounds) (world : WorldOf ℕ) (old new : Shared)
    (r : Represents trees p bounds old world) where
  -- the world is the one with the monitors and the threads that are kept
  over_is : over world old.heap ≡ world
  over_is = λ i. record world { monitors = r.world_is.monitors i }

  among_is : among world old.threads ≡ world
  among_is = λ i. record world { threads = r.world_is.threads i }

  shared_is : shared world old.heap old.threads ≡ world
  shared_is = λ i. record world { monitors = r.world_is.monitors i; threads = r.world_is.threads i }

  -- with other locks and other threads
  abbrev changed : Locks → ThreadTable → Shared
  changed locks table = record old { heap = record old.heap { locks = locks }; threads = table }

  shows_changed : (locks : Locks) (table : ThreadTable) → locks.limit ≡ old.heap.locks.limit → table.limit ≡ old.threads.limit
      → Represents trees p bounds (changed locks table) (record world { monitors = locks.monitors; threads = table.threads })
  shows_changed locks table same_locks same_threads =
      record {
        world_is = record {
          objects = r.world_is.objects;
          counted = r.world_is.counted;
          monitors = refl;
          statics = r.world_is.statics;
          statuses = r.world_is.statuses;
          ready = r.world_is.ready;
          threads = refl;
          printed = r.world_is.printed;
          interned = r.world_is.interned;
          unnamed = r.world_is.unnamed;
        };
        limits = record {
          opening = r.limits.opening;
          objects = r.limits.objects;
          cells = r.limits.cells;
          monitors = same_locks ∙ r.limits.monitors;
          threads = same_threads ∙ r.limits.threads;
        };
      }

  -- so a world that is that one is shown by what is that
  shows : (locks : Locks) (table : ThreadTable) (after : WorldOf ℕ) → locks.limit ≡ old.heap.locks.limit → table.limit ≡ old.threads.limit
      → record world { monitors = locks.monitors; threads = table.threads } ≡ after → new ≡ changed locks table
      → Represents trees p bounds new after
  shows locks table after same_locks same_threads is same =
      subst (λ w. Represents trees p bounds new w) is (subst (λ s. Represents trees p bounds s (record world { monitors = locks.monitors; threads = table.threads })) (sym same) (shows_changed locks table same_locks same_threads))

pub monitors_shown : AreMonitorsShown
monitors_shown trees p bounds world old new r event fat b same =
    shows trees p bounds world old new r new.heap.locks old.threads (event world) b.limit refl
    ((λ i. record world { monitors = new.heap.locks.monitors; threads = r.world_is.threads i }) ∙ b.world world ∙ ap event (over_is trees p bounds world old new r))
    (same ∙ ap (λ (h : Heap). record old { heap = h }) b.rest)

pub threads_shown : AreThreadsShown
threads_shown trees p bounds world old new r event b same =
    shows trees p bounds world old new r old.heap.locks new.threads (event world) refl b.limit
    ((λ i. record world { monitors = r.world_is.monitors i; threads = new.threads.threads }) ∙ b.world world ∙ ap event (among_is trees p bounds world old new r))
    same

pub both_shown : AreBothShown
both_shown trees p bounds world old new r event fat b same =
    shows trees p bounds world old new r new.heap.locks new.threads (event world) b.lock_limit b.thread_limit
    (b.world world ∙ ap event (shared_is trees p bounds world old new r))
    (same ∙ ap (λ (h : Heap). record old { heap = h; threads = new.threads }) b.rest)
