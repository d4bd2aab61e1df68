use Rattle.std.proofs.Common.{refl}
use Rattle.machine_state.specs.declared.state.Shared.{Shared}
use Rattle.machine_threads.proofs.machine_opening.OpenedHeap.{few_objects}
use Rattle.machine_threads.proofs.machine_opening.OpenedClasses.{enough}
use Rattle.machine_threads.proofs.machine_opening.OpenedStates.{is_shown}
use Rattle.machine_threads.proofs.machine_opening.opening.opening_state.Goals as goal

pub opening_heap-requires : goal.opening_heap-requires
opening_heap-requires c = few_objects c.requires.trees c.args.program.now c.requires.are

pub opening_statuses-requires : goal.opening_statuses-requires
opening_statuses-requires c = enough c.requires.trees c.args.program.now c.requires.are

pub opening_ready-requires : goal.opening_ready-requires
opening_ready-requires c = enough c.requires.trees c.args.program.now c.requires.are

pub returns : goal.returns
returns c = λ trees program.
    let shared : Shared =
    record {
      heap = c.in_ok-opening_heap.field-0;
      statics = c.in_ok-opening_statics.field-0;
      statuses = c.in_ok-opening_statuses.field-0;
      ready = c.in_ok-opening_ready.field-0;
      threads = c.in_ok-new.field-0;
      printed = c.new-2.result;
      interned = c.new-3.result;
      unnamed = 0;
      stacks = c.in_ok-opening_stacks.field-0;
    } in
    is_shown trees c.args.program.now program c.args.limits shared c.in_ok-opening_heap.ensures c.in_ok-opening_statics.ensures c.in_ok-opening_statuses.ensures c.in_ok-opening_ready.ensures
    c.in_ok-new.ensures c.new-2.ensures.items c.new-3.ensures.items refl c.in_ok-opening_stacks.ensures
