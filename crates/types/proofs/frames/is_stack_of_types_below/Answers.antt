use Rattle.model.specs.TypeOrder.{is_stack_below}
use Rattle.types.specs.View.{type_in}
use Rattle.types.proofs.Pairwise.{pairwise_next}
use Rattle.types.proofs.frames.is_stack_of_types_below.Goals as goal

pub loop-i-preserved : goal.loop-i-preserved
loop-i-preserved c =
    let files = c.args.set.now in
    pairwise_next (is_stack_below files) (type_in files) c.args.a.now c.args.b.now _ _ c.loop-i.i _ _ c.if-a-b.false c.loop-i-test.true c.is_stack_below.ensures c.if-not-is_stack_below.false c.loop-i.invariant
