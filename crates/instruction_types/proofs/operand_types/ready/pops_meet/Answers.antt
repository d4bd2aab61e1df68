use Rattle.std.proofs.Common.{◌<◌, ◌≤◌, ◌+◌, ◌&&◌, ◌∙◌, Bool, length, sym, ap, arith}
use Rattle.instruction_types.specs.declared.operand_types.wants.Want.TheVariants.{AnyWord}
use Rattle.instruction_types.proofs.operand_types.Operands.{meets_from, none_left, one_popped, all_popped}
use Rattle.instruction_types.proofs.operand_types.ready.pops_meet.Goals as goal

pub returns-then-i-len : goal.returns-then-i-len
returns-then-i-len c =
    let none : length c.args.frame.now.stack.items ≤ c.loop-i.i = omega arith in
    sym (none_left c.args.set.now c.args.pops.now c.args.frame.now.stack.items c.loop-i.i AnyWord c.loop-i-test.true none) ∙ c.loop-i.invariant

pub returns-then-not-type_meets : goal.returns-then-not-type_meets
returns-then-not-type_meets c =
    let files = c.args.set.now in
    let ts = c.args.frame.now.stack.items in
    let there : c.loop-i.i < length ts = omega arith in
    sym (ap (λ (b : Bool). b && meets_from files c.args.pops.now ts (c.loop-i.i + 1)) c.if-not-type_meets.true)
    ∙ sym (one_popped files c.args.pops.now ts c.loop-i.i _ c.stack_type.result c.type_meets.result c.loop-i-test.true there c.stack_type.ensures c.type_meets.ensures) ∙ c.loop-i.invariant

pub loop-i-preserved : goal.loop-i-preserved
loop-i-preserved c =
    let files = c.args.set.now in
    let ts = c.args.frame.now.stack.items in
    let there : c.loop-i.i < length ts = omega arith in
    sym (ap (λ (b : Bool). b && meets_from files c.args.pops.now ts (c.loop-i.i + 1)) c.if-not-type_meets.false)
    ∙ sym (one_popped files c.args.pops.now ts c.loop-i.i _ c.stack_type.result c.type_meets.result c.loop-i-test.true there c.stack_type.ensures c.type_meets.ensures) ∙ c.loop-i.invariant

pub returns : goal.returns
returns c = sym (all_popped c.args.set.now c.args.pops.now c.args.frame.now.stack.items c.loop-i.i c.loop-i-test.false) ∙ c.loop-i.invariant
