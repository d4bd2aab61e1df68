use Rattle.std.specs.Arc.{arc_value}
use Rattle.program_runs.proofs.verified_programs.Linked.{is_program}
use Rattle.program_runs.proofs.verified_programs.program.verified_program.Goals as goal

pub returns : goal.returns
returns c =
    is_program c.args.verified.now c.linked-linked.result.now c.in_ok-program.program (arc_value c.in_ok-new.field-0) c.linked-linked.ensures.same c.in_ok-new.ensures.ok c.hierarchy.ensures.linked
    c.linked-linked.ensures.typed c.in_ok-program.ensures
