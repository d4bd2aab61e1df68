use Rattle.std.proofs.Common.{◌≡◌, rules}
use Rattle.model.specs.Instruction.{table_jump}
use Rattle.model.specs.Rows.{target}
use Rattle.instruction_types.proofs.operand_types.Lists.{counted_none, counted_one, counted_all}
use Rattle.instruction_types.proofs.operand_types.targets.table_targets.Goals as goal

pub loop-k-init : goal.loop-k-init
loop-k-init c = counted_none (λ k. target c.args.offset (table_jump c.args.code.now c.args.at k)) c.new-all.result.items _ c.args.default c.args.count c.new-all.ensures.items c.in_ok-push.ensures.ok

pub loop-k-preserved : goal.loop-k-preserved
loop-k-preserved c =
    let is : c.target_of.result ≡ target c.args.offset (table_jump c.args.code.now c.args.at c.loop-k.k) = search rules in
    counted_one (λ k. target c.args.offset (table_jump c.args.code.now c.args.at k)) c.loop-k.all.items _ c.loop-k.k c.args.count _ _ c.loop-k-test.true c.in_ok-push-2.ensures.ok is c.loop-k.invariant

pub returns : goal.returns
returns c = counted_all (λ k. target c.args.offset (table_jump c.args.code.now c.args.at k)) c.loop-k.all.items c.loop-k.k c.args.count _ c.loop-k-test.false c.loop-k.invariant
