use Rattle.std.proofs.Common.{take}
use Rattle.types.specs.method_code.View.{files_of}
use Rattle.verifier.specs.Changes.{IsJoined}
use Rattle.verifier.proofs.changes.join_locals.Given as goal

abbrev pub invariant-locals : goal.invariant-locals
invariant-locals l = IsJoined (files_of l.method) (take l.local-index l.locals) l.fn.there l.frame l.there
