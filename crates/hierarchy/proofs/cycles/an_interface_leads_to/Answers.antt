use Rattle.model.specs.Pool.{class_name_at}
use Rattle.hierarchy.specs.Above.{leads_to}
use Rattle.hierarchy.proofs.Indices.{no_index}
use Rattle.hierarchy.proofs.cycles.an_interface_leads_to.Goals as goal

pub loop-index-preserved : goal.loop-index-preserved
loop-index-preserved c =
    no_index (leads_to c.args.set.now c.args.other.now) (class_name_at c.args.file.now.pool) c.deref-index-items.result.now c.args.file.now.interfaces.items c.loop-index.index-index _ _
    c.deref-index-items.ensures.value c.loop-index-test.true c.class_name.ensures c.leads_to.ensures c.if-leads_to.false c.loop-index.invariant
