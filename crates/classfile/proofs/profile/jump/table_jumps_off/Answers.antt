use Rattle.std.proofs.Common.{rules, arith, ◌≡◌, not, true, refl, sym}
use Rattle.model.specs.Instruction.{table_jump}
use Rattle.model.specs.CodeConditions.{lands}
use Rattle.classfile.proofs.profile.jump.table_jumps_off.Goals as goal
use Rattle.classfile.proofs.profile.Counted.{any_mapped, none_mapped}

pub returns-then-not-lands : goal.returns-then-not-lands
returns-then-not-lands c =
    let off : not (lands c.args.code.now c.args.pc ((table_jump c.args.code.now c.args.at) c.loop-k.k)) ≡ true = search rules in
    sym (any_mapped (λ by. not (lands c.args.code.now c.args.pc by)) (table_jump c.args.code.now c.args.at) c.args.count c.loop-k.k (omega arith) off)

pub returns : goal.returns
returns c =
    sym (none_mapped (λ by. not (lands c.args.code.now c.args.pc by)) (table_jump c.args.code.now c.args.at) c.args.count
    (λ k below. rw (c.loop-k.invariant k (omega (arith, below))) refl))
