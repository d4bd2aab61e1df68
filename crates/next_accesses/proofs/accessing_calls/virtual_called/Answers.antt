use Rattle.std.proofs.Common.{None, refl, subst}
use Rattle.constant_pool.specs.View.{reference_of}
use Rattle.model.specs.Lookup.{find_method}
use Rattle.method_tables.specs.method_links.Methods.{Names}
use Rattle.thread_stacks.specs.Stacks.{shown_frame}
use Rattle.next_accesses.proofs.accessing_calls.Calls.{virtual_other, virtual_null, virtual_missing, virtual_called}
use Rattle.next_accesses.proofs.accessing_calls.virtual_called.Goals as goal

pub returns-in_default : goal.returns-in_default
returns-in_default c =
    virtual_other c.args.tables.now.linked.now c.args.program.now c.args.heap.now.objects (shown_frame c.args.frame.now).operands (reference_of c.args.named) None c.in_default.ensures refl

pub returns-in_default-object_at : goal.returns-in_default-object_at
returns-in_default-object_at c =
    virtual_null c.args.tables.now.linked.now c.args.program.now c.args.heap.now.objects (shown_frame c.args.frame.now).operands (reference_of c.args.named) None
    c.in-Some.parameters c.in-Some.ensures c.in_default-object_at.ensures refl

pub returns-in_default-callee : goal.returns-in_default-callee
returns-in_default-callee c =
    virtual_missing c.args.tables.now.linked.now c.args.program.now c.args.heap.now.objects (shown_frame c.args.frame.now).operands (reference_of c.args.named) None
    (subst (λ o. Names c.args.tables.now.linked.now o (find_method c.args.tables.now.linked.now (reference_of c.args.named))) c.in_default-callee.is c.requires) refl

pub returns : goal.returns
returns c =
    virtual_called c.args.tables.now.linked.now c.args.program.now c.args.heap.now.objects (shown_frame c.args.frame.now).operands (reference_of c.args.named) c.virtual_accessing.result
    c.in-Some.parameters c.in-Some.ensures c.in-Some-object_at.object c.in-Some-object_at.ensures c.in-Some-callee.callee
    (subst (λ o. Names c.args.tables.now.linked.now o (find_method c.args.tables.now.linked.now (reference_of c.args.named))) c.in-Some-callee.is c.requires)
    c.virtual_accessing.ensures
