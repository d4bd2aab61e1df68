use Rattle.std.proofs.Common.{sym, ap, subst}
use Rattle.model.specs.Pool.{integers_of}
use Rattle.model.specs.Rows.{local_row}
use Rattle.types.specs.View.{frame_in}
use Rattle.types.specs.method_code.View.{files_of}
use Rattle.types.specs.method_code.Site.{site_of}
use Rattle.instruction_types.specs.operand_types.Local.{FlowsLocally}
use Rattle.verifier.proofs.flow.Locally.{answers}
use Rattle.verifier.proofs.flow.local.flow_locally.Goals as goal

pub returns : goal.returns
returns c =
    let s = c.args.site.now in
    let files = files_of s.method in
    let row = local_row (integers_of s.method.file.now.pool) c.deref.result.now s.offset s.next s.instr in
    answers files (site_of s) (frame_in files c.args.frame.now) (frame_in files c.local_flow.new.frame) c.local_flow.result row
    (ap (λ code. local_row (integers_of s.method.file.now.pool) code s.offset s.next s.instr) (sym c.deref.ensures.value))
    (subst (λ f. FlowsLocally f s.method.code.now.max_stack (frame_in f c.args.frame.now) (frame_in f c.local_flow.new.frame) c.local_flow.result row) c.set.ensures c.local_flow.ensures)
