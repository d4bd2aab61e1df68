use Rattle.std.proofs.Common.{[], sym, ap, subst, ◌∙◌}
use Rattle.std.specs.Prelude.{Some}
use Rattle.std.proofs.lemmas.Result.{on_ok_weaker}
use Rattle.next_accesses.specs.copied_variables.Copied.{TellsCopied, TellsFields}
use Rattle.next_accesses.specs.element_ranges.Ranges.{range_actions}
use Rattle.next_accesses.proofs.next_access.Adding.{adds_as, adds_none, adds_told}
use Rattle.next_accesses.proofs.copied_variables.Copies.{array_copied, fields_copied, no_object, none_copied}
use Rattle.next_accesses.proofs.copied_variables.push_copied.Goals as goal

pub returns-in_default : goal.returns-in_default
returns-in_default c =
    let trees = c.args.tables.now.linked.now in
    let objects = c.args.heap.now.objects in
    adds_none (TellsCopied trees c.args.program.now objects c.args.object) c.args.found.now.items
    (λ program heap shows receiver there. absurd (no_object trees c.args.program.now objects c.args.object program heap shows receiver there c.in_default.ensures))

pub returns-then-is_cloneable : goal.returns-then-is_cloneable
returns-then-is_cloneable c =
    let trees = c.args.tables.now.linked.now in
    let objects = c.args.heap.now.objects in
    on_ok_weaker c.push_fields.result
    (adds_as (TellsFields trees c.args.object c.in-Instance.class) (TellsCopied trees c.args.program.now objects c.args.object) c.args.found.now.items c.push_fields.new.found.items
    (λ told tells program heap shows receiver there.
    fields_copied trees c.args.program.now objects c.args.object program heap shows receiver there c.classes_are_read.ensures.holds c.in-Instance.class
    (ap Some (sym c.in-Instance.is) ∙ c.in-Some.ensures) (sym c.is_cloneable.ensures ∙ c.if-is_cloneable.true) told tells))
    c.push_fields.ensures

pub returns-else-is_cloneable : goal.returns-else-is_cloneable
returns-else-is_cloneable c =
    let trees = c.args.tables.now.linked.now in
    let objects = c.args.heap.now.objects in
    adds_none (TellsCopied trees c.args.program.now objects c.args.object) c.args.found.now.items
    (λ program heap shows receiver there.
    none_copied trees c.args.program.now objects c.args.object program heap shows receiver there c.classes_are_read.ensures.holds c.in-Instance.class
    (ap Some (sym c.in-Instance.is) ∙ c.in-Some.ensures) (sym c.is_cloneable.ensures ∙ c.if-is_cloneable.false))

pub returns-in_default-kind : goal.returns-in_default-kind
returns-in_default-kind c =
    let trees = c.args.tables.now.linked.now in
    let objects = c.args.heap.now.objects in
    on_ok_weaker c.push_elements.result
    (λ e. adds_told (TellsCopied trees c.args.program.now objects c.args.object) c.args.found.now.items c.push_elements.new.found.items (range_actions c.whole_array.result) e
    (λ program heap shows receiver there.
    rw c.whole_array.ensures
    (array_copied trees c.args.program.now objects c.args.object program heap shows receiver there c.in-Some.kind c.in-Some.ensures (λ number is. c.in_default-kind.not-Instance number is))))
    c.push_elements.ensures
