use Rattle.std.proofs.Common.{map}
use Rattle.types.specs.method_code.View.{files_of, body_of}
use Rattle.verifier.specs.Found.{tables_in, AreOver}
use Rattle.verifier.specs.Looks.{offset_of}
use Rattle.verifier.proofs.Passing.{RaisesUpTo}
use Rattle.verifier.proofs.found.Found.raise_all.Given as goal

abbrev pub invariant-loop-lead : goal.invariant-loop-lead
invariant-loop-lead l =
    record {
      over : AreOver (body_of l.method) (tables_in (files_of l.method) l.self);
      raised : RaisesUpTo l.method l.fn.self (map offset_of l.leads) l.frame l.changed l.lead-index l.self;
    }
