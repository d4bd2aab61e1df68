use Rattle.std.proofs.Common.{◌≡◌, ◌++◌, map, ap, ◌∙◌}
use Rattle.std.proofs.lemmas.Result.{on_ok_weaker}
use Rattle.next_accesses.specs.copied_variables.Copied.{TellsFields, field_read}
use Rattle.next_accesses.proofs.next_access.Adding.{adds_told}
use Rattle.next_accesses.proofs.copied_variables.Copies.{fields_told}
use Rattle.next_accesses.proofs.copied_variables.push_fields.Goals as goal

pub returns : goal.returns
returns c =
    let trees = c.args.tables.now.linked.now in
    let fields = c.in_ok-fields.fields.items in
    on_ok_weaker c.push_reads.result
    (λ e. adds_told (TellsFields trees c.args.object c.args.class) c.args.found.now.items c.push_reads.new.found.items (map (field_read c.args.object) fields)
    (e ∙ ap (λ l. c.args.found.now.items ++ map (field_read c.args.object) l) c.deref.ensures.value)
    (fields_told trees c.args.object c.args.class c.name_at-name.result.now (rw c.set.ensures.same at c.name_at-name.ensures) fields c.in_ok-fields.ensures))
    c.push_reads.ensures
