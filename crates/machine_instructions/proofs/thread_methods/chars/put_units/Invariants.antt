use Rattle.std.proofs.Common.{◌≡◌, take, drop}
use Rattle.heap.specs.Heap.{words_at}
use Rattle.machine_instructions.specs.thread_methods.TextWrites.{with_units}
use Rattle.machine_instructions.proofs.thread_methods.chars.put_units.Given as goal

-- so many units are elements
abbrev pub invariant-units : goal.invariant-units
invariant-units l = l.heap ≡ record l.fn.heap { objects = with_units l.fn.heap.objects l.array l.index (take l.done (drop l.begin (words_at l.fn.heap.objects l.string))) }
