use Rattle.std.proofs.Common.{◌≡◌, ◌++◌, take}
use Rattle.string_methods.proofs.builders.appended_bytes.Given as goal

abbrev pub invariant-loop-byte : goal.invariant-loop-byte
invariant-loop-byte l = l.units.items ≡ l.text ++ take l.byte-index l.bytes
