use Rattle.std.proofs.Common.{◌≡◌, ◌+◌, ◌++◌, take}
use Rattle.std.specs.Vec.{vec_len, vec_capacity}
use Rattle.machine_instructions.proofs.thread_methods.printing.push_bytes.Given as goal

abbrev pub invariant-loop-byte : goal.invariant-loop-byte
invariant-loop-byte l =
    (l.printed.items ≡ l.fn.printed.items ++ take l.byte-index l.bytes)
    × (vec_len l.printed ≡ vec_len l.fn.printed + l.byte-index)
    × (vec_capacity l.printed ≡ vec_capacity l.fn.printed)
