use Rattle.std.proofs.Common.{◌≡◌, ◌++◌, replicate}
use Rattle.listings.proofs.disasm.numbers.push_offset.Given as goal

abbrev pub invariant-zeros : goal.invariant-zeros
invariant-zeros l = l.text.items ≡ l.fn.text.items ++ replicate l.counter 48
