use Rattle.std.proofs.Common.{replicate}
use Rattle.heap.specs.declared.kind.ObjectKind.TheVariants as kind
use Rattle.heap.specs.Heap.{fresh}
use Rattle.machine_threads.specs.machine_opening.Opened.{AddsObjects}
use Rattle.machine_threads.proofs.machine_opening.objects.add_instances.Given as goal

-- so many of them are there
abbrev pub invariant-loop : goal.invariant-loop
invariant-loop l = AddsObjects (replicate l.counter (fresh (kind.Instance l.class) 0)) l.fn.heap l.heap
