use Rattle.std.proofs.Common.{◌≡◌, ◌<◌, ◌≤◌, ◌∙◌, refl, [], length, take, reverse, ap, map, arith}
use Rattle.std.proofs.lemmas.List.{append-nil, length-set, take_more_set}
use Rattle.types.specs.View.{type_in}
use Rattle.instruction_types.specs.operand_types.RowView.{left_in}
use Rattle.instruction_types.proofs.operand_types.Lists.{laid_none, laid_next, laid_all}
use Rattle.instruction_types.proofs.operand_types.local.left_by.Goals as goal

pub loop-i-init : goal.loop-i-init
loop-i-init c = record {
  whole = refl;
  laid = λ files. laid_none (type_in files) (left_in files c.args.row.now c.args.frame.now) c.args.row.now.pushes.now [] [] refl;
}

pub loop-i-preserved : goal.loop-i-preserved
loop-i-preserved c =
    let most : length c.args.row.now.pushes.now ≤ 6 = c.args.row.now.small in
    let whole : length c.loop-i.left ≡ 6 = c.loop-i.invariant.whole in
    let there : c.loop-i.i < length c.loop-i.left = omega (arith, most, whole) in
    record {
      whole = length-set c.loop-i.left c.loop-i.i c.out_type.result ∙ whole;
      laid = λ files. laid_next (type_in files) (left_in files c.args.row.now c.args.frame.now) c.args.row.now.pushes.now c.loop-i.i _ _ _ c.out_type.result [] c.loop-i-test.true (take_more_set c.loop-i.left c.loop-i.i c.out_type.result there) (c.out_type.ensures files) (c.loop-i.invariant.laid files);
    }

pub returns : goal.returns
returns c =
    let end : length c.args.row.now.pushes.now ≡ c.loop-i.i = omega arith in
    λ files. ap (λ n. reverse (map (type_in files) (take n c.loop-i.left))) end ∙ laid_all (type_in files) (left_in files c.args.row.now c.args.frame.now) c.args.row.now.pushes.now c.loop-i.i (take c.loop-i.i c.loop-i.left) [] c.loop-i-test.false (c.loop-i.invariant.laid files)
    ∙ append-nil (map (left_in files c.args.row.now c.args.frame.now) c.args.row.now.pushes.now)
