use Rattle.std.proofs.Common.{rules, arith, ◌≡◌, not, true, refl, sym}
use Rattle.model.specs.Instruction.{lookup_pair}
use Rattle.model.specs.CodeConditions.{lands}
use Rattle.classfile.proofs.profile.jump.pairs_jump_off.Goals as goal
use Rattle.classfile.proofs.profile.Counted.{any_mapped, none_mapped}

pub returns-then-not-lands : goal.returns-then-not-lands
returns-then-not-lands c =
    let off : not (lands c.args.code.now c.args.pc (lookup_pair c.args.code.now c.args.at c.loop-k.k).1) ≡ true = search rules in
    sym (any_mapped (λ by. not (lands c.args.code.now c.args.pc by)) (λ k. (lookup_pair c.args.code.now c.args.at k).1) c.args.count c.loop-k.k (omega arith) off)

pub returns : goal.returns
returns c =
    sym (none_mapped (λ by. not (lands c.args.code.now c.args.pc by)) (λ k. (lookup_pair c.args.code.now c.args.at k).1) c.args.count
    (λ k below. rw (c.loop-k.invariant k (omega (arith, below))) refl))
