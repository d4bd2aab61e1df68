use Rattle.model.specs.Pool.{class_name_at}
use Rattle.hierarchy.specs.Ranks.{is_late}
use Rattle.hierarchy.proofs.Indices.{no_index}
use Rattle.hierarchy.proofs.ranks.an_interface_is_late.Goals as goal

pub loop-index-preserved : goal.loop-index-preserved
loop-index-preserved c =
    no_index (is_late c.args.set.now c.args.ranks.now c.args.rank) (class_name_at c.args.file.now.pool) c.deref-index-items.result.now c.args.file.now.interfaces.items c.loop-index.index-index _ _
    c.deref-index-items.ensures.value c.loop-index-test.true c.class_name.ensures c.is_late.ensures c.if-is_late.false c.loop-index.invariant
