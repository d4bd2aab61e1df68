use Rattle.std.proofs.Common.{rules, ◌≡◌, Some, true, false, Option, refl, ap, sym, ◌∙◌}
use Rattle.std.specs.Option.{option_map_or}
use Rattle.model.specs.Names.{Member}
use Rattle.model.specs.Pool.{field_at}
use Rattle.model.specs.Lookup.{find_field}
use Rattle.constant_pool.specs.View.{reference_of}
use Rattle.classfile.specs.View.{file_of}
use Rattle.link_conditions.specs.resolution.Operands.{fails_access}
use Rattle.link_conditions.proofs.resolution.Operands.{member_lacks_class, field_fails, field_asked}
use Rattle.link_conditions.proofs.resolution.operand.is_field_unresolved.Goals as goal

pub returns-in-Some-find_field : goal.returns-in-Some-find_field
returns-in-Some-find_field c =
    let files = c.args.hierarchy.now in
    let file = file_of c.args.file.now in
    let m = reference_of c.in-Some.field in
    let asked = field_asked files file c.args.index c.args.access in
    let named : field_at file.pool c.args.index ≡ Some m = search rules in
    let complete : member_lacks_class files m ≡ false = search rules in
    let fails : c.fails_access.result ≡ option_map_or (fails_access files c.args.access) (find_field files m) true = search rules in
    fails ∙ sym (asked ∙ ap (λ (o : Option Member). option_map_or (field_fails files c.args.access) o false) named ∙ rw complete refl)
