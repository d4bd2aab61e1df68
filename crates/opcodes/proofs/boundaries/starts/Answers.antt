use Rattle.std.proofs.Common.{◌≡◌, rules}
use Rattle.model.specs.InstructionStarts.{starts}
use Rattle.model.proofs.StartLaws.{marks_are_starts}
use Rattle.opcodes.proofs.Marks.{more_first, more_inside, all_marked}
use Rattle.opcodes.proofs.boundaries.starts.Goals as goal
use Rattle.opcodes.proofs.boundaries.starts.Goals.{then-inside-eq0+in_ok-push, else-inside-eq0+in_ok-push-2}

pub loop-pc-preserved : goal.loop-pc-preserved
loop-pc-preserved c = elim c.if-inside-eq0.branch [
  | then-inside-eq0+in_ok-push w ↦ more_first c.args.code.now c.loop-pc.marks.items c.if-inside-eq0.marks.items (starts c.args.code.now) c.loop-pc.pc c.loop-pc.inside c.if-inside-eq0.inside (search rules) (search rules) (search rules) (search rules) c.loop-pc.invariant
  | else-inside-eq0+in_ok-push-2 w ↦ more_inside c.args.code.now c.loop-pc.marks.items c.if-inside-eq0.marks.items (starts c.args.code.now) c.loop-pc.pc c.loop-pc.inside c.if-inside-eq0.inside (search rules) (search rules) (search rules) (search rules) c.loop-pc.invariant
]

pub returns-clause-marks : goal.returns-clause-marks
returns-clause-marks c = all_marked c.args.code.now c.loop-pc.marks.items (starts c.args.code.now) c.loop-pc.pc c.loop-pc.inside (search rules) c.loop-pc.invariant

pub returns-clause-boundaries : goal.returns-clause-boundaries
returns-clause-boundaries c =
    let marks : c.loop-pc.marks.items ≡ starts c.args.code.now = all_marked c.args.code.now c.loop-pc.marks.items (starts c.args.code.now) c.loop-pc.pc c.loop-pc.inside (search rules) c.loop-pc.invariant in
    λ pc. rw marks (marks_are_starts c.args.code.now pc)
