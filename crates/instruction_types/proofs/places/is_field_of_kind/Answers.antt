use Rattle.std.proofs.Common.{rules, ◌≡◌, Some, false, List, map, ap, sym, ◌∙◌}
use Rattle.std.specs.Prelude.{slice_get}
use Rattle.std.specs.Option.{option_map_or}
use Rattle.constant_pool.specs.View.{reference_of}
use Rattle.class_tree.specs.declared.tree.Field as declared_field
use Rattle.classfile.specs.View.{field_of, file_of}
use Rattle.hierarchy.specs.Places.{class_at}
use Rattle.instruction_types.specs.Places.{is_field_of_kind}
use Rattle.instruction_types.proofs.ClassesAndMembers.{read_at, field_kind}
use Rattle.instruction_types.proofs.places.is_field_of_kind.Goals as goal
use Rattle.hierarchy.proofs.Apart.{field_there}

pub returns-in-Some-get : goal.returns-in-Some-get
returns-in-Some-get c =
    let files = c.args.set.now in
    let file = file_of c.in-Some.class.now in
    let declared = field_of c.in-Some-get.declared.now in
    let kind = is_field_of_kind c.args.wants_static in
    let class : class_at files c.args.found.class ≡ Some file = search rules in
    let read = read_at field_of c.deref.result.now c.args.found.member c.in-Some-get.declared.now c.in-Some-get.ensures.lookup.0 c.in-Some-get.ensures.lookup.1 in
    let at : slice_get file.fields c.args.found.member ≡ Some declared = ap (λ (vs : List declared_field.Field). slice_get (map field_of vs) c.args.found.member) (sym c.deref.ensures.value) ∙ read in
    let there = field_there files (reference_of c.args.field) c.args.found file c.requires.differ class c.requires.there in
    field_kind c.args.wants_static declared c.is_static.result c.is_static.ensures ∙ ap (λ o. option_map_or kind o false) (sym at ∙ there)
