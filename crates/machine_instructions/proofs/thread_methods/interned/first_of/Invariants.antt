use Rattle.std.proofs.Common.{◌≡◌, ◌+◌, ◌-◌}
use Rattle.machine_instructions.specs.thread_methods.TextWrites.{first_of}
use Rattle.machine_instructions.proofs.thread_methods.interned.first_of.Given as goal

-- none of those before is
abbrev pub invariant-strings : goal.invariant-strings
invariant-strings l = first_of l.heap.objects l.text l.first l.count ≡ first_of l.heap.objects l.text (l.first + l.place) (l.count - l.place)
