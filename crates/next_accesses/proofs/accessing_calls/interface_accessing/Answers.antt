use Rattle.std.proofs.Common.{◌≡◌, ap, sym, ◌∙◌}
use Rattle.model.specs.ReferenceTypes.{is_subclass_or_implements}
use Rattle.hierarchy.specs.Places.{name_at}
use Rattle.next_accesses.proofs.accessing_calls.Rows.{no_kind, implementing, not_implementing}
use Rattle.next_accesses.proofs.accessing_calls.interface_accessing.Goals as goal

pub returns-in_default : goal.returns-in_default
returns-in_default c program heap shows receiver there m at =
    absurd (no_kind c.args.tables.now.linked.now c.args.program.now c.args.heap.now.objects c.args.object heap shows receiver there c.in_default.ensures)

pub returns-then-is_subclass_or_implements : goal.returns-then-is_subclass_or_implements
returns-then-is_subclass_or_implements c program heap shows receiver there m at =
    let files = c.args.tables.now.linked.now in
    let interface = c.args.interface.now in
    let same = c.hierarchy-hierarchy.ensures.same in
    let name : c.name_at.result.now ≡ name_at files c.class_of_kind-class.result = c.name_at.ensures ∙ ap (λ f. name_at f c.class_of_kind-class.result) (c.set.ensures ∙ same) in
    let is : c.is_subclass_or_implements.result ≡ is_subclass_or_implements files (name_at files c.class_of_kind-class.result) interface =
    c.is_subclass_or_implements.ensures
    ∙ (ap (λ f. is_subclass_or_implements f c.name_at.result.now interface) same ∙ ap (λ n. is_subclass_or_implements files n interface) name)
    in
    implementing files c.args.program.now c.args.heap.now.objects c.args.object heap shows receiver there
    c.in-Some.kind c.in-Some.ensures c.class_of_kind-class.result c.class_of_kind-class.ensures interface (sym is ∙ c.if-is_subclass_or_implements.true)
    c.args.callee c.chosen.result c.chosen.ensures c.accessing_at.result c.accessing_at.ensures program m at

pub returns-else-is_subclass_or_implements : goal.returns-else-is_subclass_or_implements
returns-else-is_subclass_or_implements c program heap shows receiver there m at =
    let files = c.args.tables.now.linked.now in
    let interface = c.args.interface.now in
    let same = c.hierarchy-hierarchy.ensures.same in
    let name : c.name_at.result.now ≡ name_at files c.class_of_kind-class.result = c.name_at.ensures ∙ ap (λ f. name_at f c.class_of_kind-class.result) (c.set.ensures ∙ same) in
    let is : c.is_subclass_or_implements.result ≡ is_subclass_or_implements files (name_at files c.class_of_kind-class.result) interface =
    c.is_subclass_or_implements.ensures
    ∙ (ap (λ f. is_subclass_or_implements f c.name_at.result.now interface) same ∙ ap (λ n. is_subclass_or_implements files n interface) name)
    in
    not_implementing files c.args.program.now c.args.heap.now.objects c.args.object heap shows receiver there
    c.in-Some.kind c.in-Some.ensures c.class_of_kind-class.result c.class_of_kind-class.ensures interface (sym is ∙ c.if-is_subclass_or_implements.false) m
