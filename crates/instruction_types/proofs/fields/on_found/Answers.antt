use Rattle.std.proofs.Common.{Some}
use Rattle.std.specs.List.{list_any}
use Rattle.std.proofs.lemmas.Bool.{or_left, or_right}
use Rattle.model.specs.Resolution.{is_missing, member_classes}
use Rattle.constant_pool.specs.View.{reference_of}
use Rattle.instruction_types.proofs.Missing.{field_lacks}
use Rattle.instruction_types.proofs.fields.on_found.Goals as goal

pub returns-in_default : goal.returns-in_default
returns-in_default c = λ site others.
    let files = c.args.set.now in
    let m = reference_of c.args.field in
    or_left (list_any (is_missing files) (member_classes (Some m))) others (or_right (is_missing files m.class) _ (field_lacks files m.descriptor c.in_default.ensures.value))
