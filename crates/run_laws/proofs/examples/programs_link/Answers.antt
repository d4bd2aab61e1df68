use Rattle.std.proofs.Common.{refl}
use Rattle.model.specs.OpcodeTable.{low_form, high_form}
use Rattle.model.specs.Instruction.{wide_at, table_switch_at, lookup_switch_at}
use Rattle.model.specs.InstructionStarts.{starts_from}
use Rattle.model.specs.DescriptorScan.{element_at, field_at, field_type, parameters_at, method_type}
use Rattle.model.specs.BuiltIn.{built_in_classes}
use Rattle.run_laws.proofs.examples.programs_link.Goals as goal

pub returns : goal.returns
unfolding built_in_classes low_form high_form wide_at table_switch_at lookup_switch_at starts_from element_at field_at field_type parameters_at method_type
returns c =
    record {
      holds = record {
        array_store_links = refl;
        counter_under_lock_links = refl;
        entry_257_links = refl;
        exception_releases_links = refl;
        exit_of_what_is_not_owned_links = refl;
        failing_initial_class_links = refl;
        failing_initialiser_links = refl;
        handler_order_links = refl;
        held_initialiser_links = refl;
        initialisers_in_order_links = refl;
        interrupted_waits_links = refl;
        lock_order_deadlock_links = refl;
        lost_update_links = refl;
        made_strings_links = refl;
        narrow_arrays_links = refl;
        not_a_runnable_links = refl;
        same_string_links = refl;
        shadowed_fields_links = refl;
        stack_overflow_links = refl;
        super_call_links = refl;
        superclass_constant_links = refl;
        text_methods_links = refl;
        uncaught_exception_links = refl;
        wait_keeps_count_links = refl;
        waiter_of_a_thread_links = refl;
        java_objects_links = refl;
        java_threads_links = refl;
        java_calls_links = refl;
        threads_that_wait_links = refl;
      };
    }
