use Rattle.std.proofs.Common.{sym, map}
use Rattle.model.specs.TypeJoin.{stack_join}
use Rattle.types.specs.View.{type_in}
use Rattle.types.proofs.Pairwise.{join_unlike, unlike_mapped}
use Rattle.types.proofs.frames.join_stack.Goals as goal

pub returns-then-a-b : goal.returns-then-a-b
returns-then-a-b c =
    let files = c.args.set.now in
    let f = type_in files in
    sym (join_unlike (stack_join files) (map f c.args.a.now) (map f c.args.b.now) (unlike_mapped f c.args.a.now c.args.b.now c.if-a-b.true))
