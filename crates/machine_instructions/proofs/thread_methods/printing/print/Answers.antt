use Rattle.std.proofs.Common.{◌≡◌, ◌<◌, ◌+◌, [], ◌++◌, length, length-append, take, arith, refl, sym, subst, ◌∙◌}
use Rattle.std.specs.Prelude.{slice_index_or}
use Rattle.model.specs.BuiltInMethods.{printed_by, with_printed}
use Rattle.model.specs.Operands.{words}
use Rattle.model.specs.Outcomes.{Free}
use Rattle.model.specs.Step.{Next, part}
use Rattle.linked_code.specs.declared.method.BuiltInMethod.TheVariants as method
use Rattle.machine_state.specs.declared.refusals.EventRefusal.TheVariants as refusal
use Rattle.machine_state.specs.Memory.{shown_counts}
use Rattle.machine_state.proofs.Memory.{takes_by_print}
use Rattle.machine_instructions.specs.thread_methods.Printed.{printed_of}
use Rattle.machine_instructions.proofs.thread_methods.Calls.{first_taken, operand_is, gone_on, free, refused}
use Rattle.machine_instructions.proofs.thread_methods.Printed.{printed_is}
use Rattle.machine_instructions.proofs.thread_methods.printing.print.Goals as goal

pub returns-in_err-spare : goal.returns-in_err-spare
returns-in_err-spare c = λ t p trees bounds inflated state frame rest offset is frames.
    let old = c.args.shared.now in
    let from = c.args.stack.now in
    let called = method.PrintStreamPrints c.args.print in
    let ops = take c.args.operands frame.place.slots.stack in
    let word_is : c.operand-word.result ≡ slice_index_or ops 0 0 =
    c.operand-word.ensures ∙ operand_is trees p bounds inflated t old from state frame rest called c.args.operands c.args.next offset is 0 ∙ sym (first_taken c.args.operands frame.place.slots.stack is.arguments)
    in
    let text = printed_by words c.args.print state.world ops in
    let text_is : printed_of c.args.print old.heap.objects c.operand-word.result ≡ text =
    printed_is is.program.files trees is.program.linkable p.components.items old.heap.objects state.world is.lent.represents.world_is.objects c.args.print c.operand-word.result ops word_is
    in
    let after = part (with_printed state.world text) (gone_on trees p bounds inflated t old from state frame rest called c.args.operands c.args.next offset is []) in
    let more : length (state.world.printed ++ text) ≡ length state.world.printed + length text = length-append state.world.printed text in
    let some : 0 < length text = subst (λ l. 0 < length l) text_is (c.room_for-room.ensures.room.needed c.in_err-spare.ensures.needed) in
    refused trees p bounds inflated t old from state frame rest called c.args.operands c.args.next offset is old
    (Next Free after) Free after refl refusal.Memory (takes_by_print state.world (shown_counts from) Free after (omega (arith, more, some))) refl
    c.from_residual.result c.from_residual.ensures.1

pub returns : goal.returns
returns c = λ t p trees bounds inflated state frame rest offset is frames.
    let old = c.args.shared.now in
    let from = c.args.stack.now in
    let called = method.PrintStreamPrints c.args.print in
    let new = record old { printed = c.push_printed.new.printed } in
    let ops = take c.args.operands frame.place.slots.stack in
    let word_is : c.operand-word.result ≡ slice_index_or ops 0 0 =
    c.operand-word.ensures ∙ operand_is trees p bounds inflated t old from state frame rest called c.args.operands c.args.next offset is 0 ∙ sym (first_taken c.args.operands frame.place.slots.stack is.arguments)
    in
    let text = printed_by words c.args.print state.world ops in
    let text_is : printed_of c.args.print old.heap.objects c.operand-word.result ≡ text =
    printed_is is.program.files trees is.program.linkable p.components.items old.heap.objects state.world is.lent.represents.world_is.objects c.args.print c.operand-word.result ops word_is
    in
    let world_is = is.lent.represents.world_is in
    let limits = is.lent.represents.limits in
    free trees p bounds inflated t old from state frame rest called c.args.operands c.args.next offset is (with_printed state.world text) new
    (record {
      world_is = record {
        objects = world_is.objects;
        counted = world_is.counted;
        monitors = world_is.monitors;
        statics = world_is.statics;
        statuses = world_is.statuses;
        ready = world_is.ready;
        threads = world_is.threads;
        printed = c.push_printed.ensures ∙ (λ i. (c.take_room.ensures.same ∙ world_is.printed) i ++ text_is i);
        interned = world_is.interned;
        unnamed = world_is.unnamed;
      };
      limits = record { opening = limits.opening; objects = limits.objects; cells = limits.cells; monitors = limits.monitors; threads = limits.threads };
    })
    refl refl refl c.go_on.new.stack [] c.go_on.ensures

pub push_printed-requires : goal.push_printed-requires
push_printed-requires c =
    let room = c.take_room.ensures.room c.room_for-room.result c.in_ok-spare.ensures.larger in
    omega (arith, room, c.room_for-room.ensures.room.enough)
