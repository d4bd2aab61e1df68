use Rattle.std.proofs.Common.{◌≡◌, length, take}
use Rattle.verifier.specs.Agreeing.{AgreeAt}
use Rattle.verifier.proofs.packed.PackedFrame.only.Given as goal

abbrev pub invariant-locals : goal.invariant-locals
invariant-locals l =
    record {
      long : length l.only.locals ≡ length l.self.locals;
      holds : AgreeAt (take l.local-index l.locals) l.only.locals l.self.locals;
    }
