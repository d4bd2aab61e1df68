use Rattle.std.proofs.Common.{◌≡◌, vec_len}
use Rattle.std.specs.Io.KnownBytes.{Keeps}
use Rattle.engines.proofs.watched.Watched.write.Given as goal

-- nothing is written so far, and nothing has failed
abbrev pub invariant-loop : goal.invariant-loop
invariant-loop g l =
    let contents = g.W.Write.contents in
    record {
      kept : Keeps (contents l.fn.self.device) (contents l.self.device);
      counted : vec_len l.self.failures ≡ vec_len l.fn.self.failures;
    }
