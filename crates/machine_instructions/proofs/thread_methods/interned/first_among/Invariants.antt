use Rattle.std.proofs.Common.{◌≡◌, drop}
use Rattle.machine_instructions.specs.thread_methods.TextWrites.{first_among}
use Rattle.machine_instructions.proofs.thread_methods.interned.first_among.Given as goal

-- none of those before is
abbrev pub invariant-strings : goal.invariant-strings
invariant-strings l = first_among l.heap.objects l.text l.strings ≡ first_among l.heap.objects l.text (drop l.string-index l.strings)
