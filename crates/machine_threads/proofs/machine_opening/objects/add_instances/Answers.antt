use Rattle.heap.specs.declared.kind.ObjectKind.TheVariants as kind
use Rattle.heap.specs.Heap.{fresh}
use Rattle.machine_threads.proofs.machine_opening.Adding.{adds_next}
use Rattle.machine_threads.proofs.machine_opening.objects.add_instances.Goals as goal

pub loop-preserved : goal.loop-preserved
loop-preserved c = adds_next c.loop.counter (fresh (kind.Instance c.args.class) 0) c.args.heap.now c.loop.heap c.add.new.heap c.loop.invariant c.in_ok-add.ensures
