use Rattle.model.specs.Names.{name_eq}
use Rattle.model.specs.Pool.{class_name_at}
use Rattle.hierarchy.proofs.Indices.{no_index}
use Rattle.hierarchy.proofs.cycles.has_interface.Goals as goal

pub loop-index-preserved : goal.loop-index-preserved
loop-index-preserved c =
    no_index (λ s. name_eq s c.args.interface.now) (class_name_at c.args.file.now.pool) c.deref-index-items.result.now c.args.file.now.interfaces.items c.loop-index.index-index _ _
    c.deref-index-items.ensures.value c.loop-index-test.true c.class_name.ensures c.is_name.ensures c.if-is_name.false c.loop-index.invariant
