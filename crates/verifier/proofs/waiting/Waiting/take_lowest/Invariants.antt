use Rattle.std.proofs.Common.{◌≡◌}
use Rattle.verifier.specs.Waiting.{NoneWaitsBelow}
use Rattle.verifier.proofs.waiting.Waiting.take_lowest.Given as goal

abbrev pub invariant-loop-offset : goal.invariant-loop-offset
invariant-loop-offset l =
    record {
      same : l.self-inside.marks.items ≡ l.initial.self-inside.marks.items;
      none : NoneWaitsBelow l.self-inside.marks.items l.offset;
    }
