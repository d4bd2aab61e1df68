use Rattle.std.proofs.Common.{take}
use Rattle.types.specs.method_code.View.{files_of}
use Rattle.verifier.specs.Found.{leads_in, MergesInto}
use Rattle.verifier.specs.Looks.{KeepsLooks}
use Rattle.verifier.specs.Near.{IsSameOrigin}
use Rattle.verifier.proofs.found.Found.merge_all.Given as goal

abbrev pub invariant-loop-lead : goal.invariant-loop-lead
invariant-loop-lead l =
    record {
      merged : MergesInto l.method l.fn.self (leads_in (files_of l.method) l.fn.origin (take l.lead-index l.leads)) l.self;
      looks : KeepsLooks l.method l.fn.self l.self;
      origin : IsSameOrigin l.fn.origin l.origin;
    }
