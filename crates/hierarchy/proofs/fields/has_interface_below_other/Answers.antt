use Rattle.model.specs.Pool.{class_name_at}
use Rattle.hierarchy.specs.Fields.{is_below_other}
use Rattle.hierarchy.proofs.Indices.{no_index}
use Rattle.hierarchy.proofs.fields.has_interface_below_other.Goals as goal

pub loop-index-preserved : goal.loop-index-preserved
loop-index-preserved c =
    no_index (is_below_other c.args.set.now) (class_name_at c.args.file.now.pool) c.deref-index-items.result.now c.args.file.now.interfaces.items c.loop-index.index-index _ _
    c.deref-index-items.ensures.value c.loop-index-test.true c.class_name.ensures c.is_below_other.ensures c.if-is_below_other.false c.loop-index.invariant
