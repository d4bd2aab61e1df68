-- All that there is before any event is shown.
use Rattle.std.proofs.Common.{◌≡◌, ℕ, ◌-◌, List, [], ◌∷◌, ◌++◌, map, length, replicate, true, false, refl, sym, ap, subst, ◌∙◌}
use Rattle.std.specs.Prelude.{drop, sum_by}
use Rattle.std.proofs.Math.Seq.{drop-length}
use Rattle.std.proofs.lemmas.List.{length-replicate}
use Rattle.model.specs.declared.limits.Limits.{Limits}
use Rattle.model.specs.Classes.{Program}
use Rattle.model.specs.LimitStands.{bounds_of, cells_made}
use Rattle.model.specs.Monitors.{unlocked}
use Rattle.model.specs.Operands.{words, values}
use Rattle.model.specs.State.{ObjectOf, Monitor, new_thread}
use Rattle.model.specs.Opening.{static_fields, main_thread_reference, opening_heap, opening}
use Rattle.model.specs.Worlds.{cells_of}
use Rattle.heap.specs.Heap.{Heap}
use Rattle.heap.specs.java_threads.Table.{ThreadTable}
use Rattle.linked_code.specs.declared.program.LinkedProgram.{LinkedProgram}
use Rattle.machine_state.specs.limits_at_words.FatLocks.{AreFlags}
use Rattle.machine_state.proofs.limits_at_words.FatLocks.{flags_kept}
use Rattle.machine_state.proofs.limits_at_words.Limits.{limits_same}
use Rattle.run_laws.specs.monitor_counts.Counts.{is_inflated}
use Rattle.run_laws.proofs.monitor_counts.Runs.{openings_counted}
use Rattle.thread_stacks.specs.Stacks.{ShownEntry}
use Rattle.run_laws.proofs.typed_runs.Opened.{opening_typed}
use Rattle.run_laws.proofs.typed_threads.EndsAtWords.{opening_ends}
use Rattle.run_laws.proofs.word_runs.OpenedWords.{opened_words}
use Rattle.machine_state.specs.shown_objects.Shown.{ShowsObjects}
use Rattle.machine_state.specs.declared.state.ClassStatus.{ClassStatus}
use Rattle.machine_state.specs.declared.state.ClassStatus.TheVariants as status
use Rattle.machine_state.specs.declared.state.Shared.{Shared}
use Rattle.machine_state.specs.Shown.{IsProgram, ShowsStatuses, AreInitialised}
use Rattle.machine_state.specs.state_events.Whole.{IsShown, ShowsStacks}
use Rattle.machine_threads.specs.machine_opening.Opened.{opened, opening_objects}
use Rattle.machine_threads.proofs.machine_opening.OpenedHeap.{first_names, first_words, objects_shown, object_count}
use Rattle.machine_threads.proofs.machine_opening.OpenedClasses.{none_initialised, built_in_are_ready}

monitors_of : (objects : List (ObjectOf ℕ)) → replicate (length objects) unlocked ≡ map (λ object. unlocked) objects
monitors_of [] = refl
monitors_of (object ∷ objects) = ap (λ (l : List Monitor). unlocked ∷ l) (monitors_of objects)

module _ (trees : Program) (p : LinkedProgram) (program : IsProgram trees p) (limits : Limits) (shared : Shared)
    (heap_is : shared.heap ≡ opened limits (opening_objects p))
    (statics_are : shared.statics.items ≡ replicate p.static_fields 0)
    (statuses_are : shared.statuses.items ≡ replicate (length p.classes.items - 37) status.NotInitialised)
    (ready_are : shared.ready.items ≡ replicate 37 true ++ replicate (length p.classes.items - 37) false)
    (threads_are : shared.threads ≡ record { threads = new_thread main_thread_reference ∷ []; limit = limits.threads })
    (printed_are : shared.printed.items ≡ [])
    (interned_are : shared.interned.items ≡ [])
    (unnamed_is : shared.unnamed ≡ 0)
    (stacks_are : shared.stacks.items ≡ [] ∷ []) where
  count : length (opening_objects p) ≡ length (opening_heap words trees)
  count = object_count trees p program.linked

  -- no cell was made
  none_made : 0 ≡ cells_made trees (opening words trees).world
  none_made =
      ap (sum_by cells_of) (sym (drop-length (opening_heap words trees)))
      ∙ ap (λ n. sum_by cells_of (drop n (opening_heap words trees))) (limits_same.opened trees)

  pub is_shown : IsShown trees p (bounds_of limits) [] shared (opening words trees)
  is_shown =
      record {
        represents = record {
          world_is = record {
            objects = subst (λ (heap : Heap). ShowsObjects trees p.components.items heap.objects (opening_heap words trees)) (sym heap_is) (objects_shown trees p program.linked);
            counted = ap (λ (heap : Heap). heap.counted) heap_is ∙ none_made;
            monitors = ap (λ (heap : Heap). heap.locks.monitors) heap_is ∙ ap (λ n. replicate n unlocked) count ∙ monitors_of (opening_heap words trees);
            statics = record {
              words = statics_are ∙ ap (λ n. replicate n 0) program.linked.static_fields ∙ first_words (static_fields trees);
              names = first_names (static_fields trees);
            };
            statuses = subst (λ (l : List ClassStatus). ShowsStatuses trees l (opening words trees).world.classes) (sym statuses_are) (none_initialised trees p program);
            ready = subst (λ l. AreInitialised trees l (opening words trees).world) (sym ready_are) (built_in_are_ready trees p program);
            threads = ap (λ (t : ThreadTable). t.threads) threads_are;
            printed = printed_are;
            interned = interned_are;
            unnamed = unnamed_is;
          };
          limits = record {
            opening = ap (λ (heap : Heap). heap.opening) heap_is ∙ count ∙ limits_same.opened trees;
            objects = ap (λ (heap : Heap). heap.object_limit) heap_is;
            cells = ap (λ (heap : Heap). heap.cell_limit) heap_is;
            monitors = ap (λ (heap : Heap). heap.locks.limit) heap_is;
            threads = ap (λ (t : ThreadTable). t.limit) threads_are;
          };
        };
        flags = subst (λ (heap : Heap). AreFlags heap.locks.fat []) (sym heap_is) (flags_kept.none (length (opening_objects p)));
        flag_count =
            subst (λ (heap : Heap). length heap.locks.fat ≡ length heap.locks.monitors) (sym heap_is)
            (length-replicate (length (opening_objects p)) false ∙ sym (length-replicate (length (opening_objects p)) unlocked));
        counted = openings_counted.of_words trees (is_inflated []);
        stacks = subst (λ (l : List (List ShownEntry)). ShowsStacks trees p l (opening words trees).stacks) (sym stacks_are) (tt, tt);
        typed = (opening values trees, record { typed = opening_typed trees; are = opened_words trees });
        ends = opening_ends trees;
      }
