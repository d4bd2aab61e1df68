use Rattle.std.proofs.Common.{◌≡◌, None, refl, sym, ap, subst, ◌∙◌}
use Rattle.constant_pool.specs.View.{reference_of}
use Rattle.model.specs.Calls.{special_class}
use Rattle.model.specs.Lookup.{find_method}
use Rattle.method_tables.specs.method_links.Methods.{Names}
use Rattle.thread_stacks.specs.Stacks.{shown_frame}
use Rattle.next_accesses.specs.accessing_calls.Called.{TellsAbove}
use Rattle.next_accesses.proofs.accessing_calls.Calls.{special_other, special_null, special_missing, special_constructor, special_above}
use Rattle.next_accesses.proofs.accessing_calls.special_called.Goals as goal

pub returns-in_default : goal.returns-in_default
returns-in_default c =
    special_other c.args.tables.now.linked.now c.args.program.now (shown_frame c.args.frame.now).operands c.args.current.now (reference_of c.args.named) None c.in_default.ensures refl

pub returns-in_default-object_at : goal.returns-in_default-object_at
returns-in_default-object_at c =
    special_null c.args.tables.now.linked.now c.args.program.now (shown_frame c.args.frame.now).operands c.args.current.now (reference_of c.args.named) None
    c.in-Some.parameters c.in-Some.ensures c.in_default-object_at.ensures refl

pub returns-in_default-callee : goal.returns-in_default-callee
returns-in_default-callee c =
    special_missing c.args.tables.now.linked.now c.args.program.now (shown_frame c.args.frame.now).operands c.args.current.now (reference_of c.args.named) None
    (subst (λ o. Names c.args.tables.now.linked.now o (find_method c.args.tables.now.linked.now (reference_of c.args.named))) c.in_default-callee.is c.requires) refl

pub returns-then-is_constructor : goal.returns-then-is_constructor
returns-then-is_constructor c =
    special_constructor c.args.tables.now.linked.now c.args.program.now (shown_frame c.args.frame.now).operands c.args.current.now (reference_of c.args.named) c.accessing_constructor.result
    c.in-Some.parameters c.in-Some.ensures c.in-Some-object_at._object c.in-Some-object_at.ensures c.in-Some-callee.callee
    (subst (λ o. Names c.args.tables.now.linked.now o (find_method c.args.tables.now.linked.now (reference_of c.args.named))) c.in-Some-callee.is c.requires)
    (sym c.is_constructor.ensures ∙ c.if-is_constructor.true) c.accessing_constructor.ensures

pub returns : goal.returns
returns c =
    let files = c.args.tables.now.linked.now in
    let named = reference_of c.args.named in
    let class : c.special_class-class.result.now ≡ special_class files c.args.current.now named.class =
    c.special_class-class.ensures ∙ ap (λ f. special_class f c.args.current.now named.class) (c.set-set.ensures ∙ c.hierarchy.ensures.same) in
    special_above c.args.tables.now.linked.now c.args.program.now (shown_frame c.args.frame.now).operands c.args.current.now (reference_of c.args.named) c.accessing_above.result
    c.in-Some.parameters c.in-Some.ensures c.in-Some-object_at._object c.in-Some-object_at.ensures c.in-Some-callee.callee
    (subst (λ o. Names c.args.tables.now.linked.now o (find_method c.args.tables.now.linked.now (reference_of c.args.named))) c.in-Some-callee.is c.requires)
    (sym c.is_constructor.ensures ∙ c.if-is_constructor.false)
    (subst (λ n. TellsAbove files c.args.program.now n c.in-Some-callee.callee c.accessing_above.result) class c.accessing_above.ensures)
