use Rattle.next_accesses.proofs.accessing_calls.Rows.{no_kind, virtual_told}
use Rattle.next_accesses.proofs.accessing_calls.virtual_accessing.Goals as goal

pub returns-in_default : goal.returns-in_default
returns-in_default c program heap shows receiver there m at =
    absurd (no_kind c.args.tables.now.linked.now c.args.program.now c.args.heap.now.objects c.args.object heap shows receiver there c.in_default.ensures)

pub returns : goal.returns
returns c program heap shows receiver there m at =
    virtual_told c.args.tables.now.linked.now c.args.program.now c.args.heap.now.objects c.args.object heap shows receiver there
    c.in-Some.kind c.in-Some.ensures c.class_of_kind.result c.class_of_kind.ensures c.args.callee c.chosen-number.result c.chosen-number.ensures
    c.accessing_at.result c.accessing_at.ensures program m at
