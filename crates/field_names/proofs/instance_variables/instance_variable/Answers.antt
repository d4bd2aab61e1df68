use Rattle.std.proofs.Common.{◌≡◌, Some, List, map, ap, subst, sym, ◌∙◌}
use Rattle.std.specs.Prelude.{slice_get}
use Rattle.constant_pool.specs.View.{reference_of}
use Rattle.constant_pool.proofs.Passing.{read_at}
use Rattle.class_tree.specs.declared.tree.Field as declared_field
use Rattle.class_tree.specs.View.{field_of, file_of}
use Rattle.model.specs.Lookup.{find_field}
use Rattle.hierarchy.specs.Places.{class_at}
use Rattle.field_names.specs.instance_variables.Declared.{variable_at}
use Rattle.field_names.specs.named_fields.Fields.{IsFieldIf}
use Rattle.field_names.proofs.instance_variables.Own.{variable_told}
use Rattle.field_names.proofs.instance_variables.instance_variable.Goals as goal

pub returns : goal.returns
returns c =
    let files = c.args.linked.now in
    let file = file_of c.in-Some.file.now in
    let field = field_of c.in-Some-get.field.now in
    let at : class_at files c.args.class ≡ Some file = sym (c.in-Some.ensures ∙ ap (λ f. class_at f c.args.class) c.set.ensures.same) in
    let read = read_at field_of c.deref.result.now c.args.place c.in-Some-get.field.now c.in-Some-get.ensures.lookup.3.0 c.in-Some-get.ensures.lookup.1 in
    let there : slice_get file.fields c.args.place ≡ Some field = ap (λ (vs : List declared_field.Field). slice_get (map field_of vs) c.args.place) (sym c.deref.ensures.value) ∙ read in
    let one = c.named_field.result in
    let named = c.named_by-named.result in
    let told : IsFieldIf files (find_field files (reference_of named)) one =
    subst (λ f. IsFieldIf f (find_field f (reference_of named)) one) c.hierarchy.ensures.same c.named_field.ensures in
    subst (λ r. IsFieldIf files (variable_at files c.args.class c.args.place) r) (sym c.if_variable.ensures)
    (variable_told files c.set.ensures.linked c.args.class c.args.place file at field there (sym c.is_static.ensures ∙ c.if-is_static.false) one
    (subst (λ m. IsFieldIf files (find_field files m) one) c.named_by-named.ensures told))
