use Rattle.std.proofs.Common.{◌≡◌, take}
use Rattle.program_files.specs.Handed.{slashed}
use Rattle.program_files.proofs.file_order.slashed.Given as goal

-- the bytes so far have slashes for dots
abbrev pub invariant-loop-byte : goal.invariant-loop-byte
invariant-loop-byte l = l.bytes.items ≡ slashed (take l.byte-index l.byte-items)
