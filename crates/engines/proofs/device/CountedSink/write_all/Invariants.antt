use Rattle.std.proofs.Common.{◌≡◌, ℕ, List, ◌++◌, length, vec_len}
use Rattle.std.specs.Io.KnownBytes.{Appends}
use Rattle.engines.proofs.device.CountedSink.write_all.Given as goal

-- a front of the bytes is written, and the rest isn't; and nothing has failed
abbrev pub invariant-rest : goal.invariant-rest
invariant-rest g l =
    let contents = g.W.Write.contents in
    (front : List ℕ) × (l.bytes ≡ front ++ l.rest) × Appends (contents l.fn.self.device.device) (contents l.self.device.device) front
    × (vec_len l.self.device.failures ≡ vec_len l.fn.self.device.failures)

abbrev pub decreases-rest : goal.decreases-rest
decreases-rest g l = length l.rest
