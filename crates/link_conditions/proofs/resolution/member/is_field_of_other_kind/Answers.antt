use Rattle.std.proofs.Common.{rules, ◌≡◌, Some, false, Option, List, map, ap, sym, ◌∙◌}
use Rattle.std.specs.Prelude.{slice_get}
use Rattle.std.specs.Option.{option_map_or}
use Rattle.model.specs.Tree.{FieldTree}
use Rattle.model.specs.AccessFlags.{is_static_field}
use Rattle.model.specs.Resolution.{differs}
use Rattle.constant_pool.specs.View.{reference_of}
use Rattle.class_tree.specs.declared.tree.Field as declared_field
use Rattle.classfile.specs.View.{field_of, file_of}
use Rattle.hierarchy.specs.Places.{class_at}
use Rattle.hierarchy.proofs.Apart.{field_there}
use Rattle.link_conditions.proofs.resolution.member.is_field_of_other_kind.Goals as goal
use Rattle.constant_pool.proofs.Passing.{read_at}

pub returns-in-Some-get : goal.returns-in-Some-get
returns-in-Some-get c =
    let files = c.args.set.now in
    let file = file_of c.in-Some.class.now in
    let declared = field_of c.in-Some-get.declared.now in
    let kind = λ (f : FieldTree). differs c.args.wants_static (is_static_field f) in
    let at : class_at files c.args.place.class ≡ Some file = search rules in
    let read = read_at field_of c.deref.result.now c.args.place.member c.in-Some-get.declared.now c.in-Some-get.ensures.lookup.3.0 c.in-Some-get.ensures.lookup.1 in
    let there : slice_get file.fields c.args.place.member ≡ Some declared = ap (λ (vs : List declared_field.Field). slice_get (map field_of vs) c.args.place.member) (sym c.deref.ensures.value) ∙ read in
    let so : c.differs.result ≡ kind declared = search rules in
    so ∙ ap (λ (o : Option FieldTree). option_map_or kind o false) (sym there ∙ field_there files (reference_of c.args.field) c.args.place file c.requires.differ at c.requires.at)
