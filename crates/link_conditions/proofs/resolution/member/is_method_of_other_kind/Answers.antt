use Rattle.std.proofs.Common.{rules, ◌≡◌, Some, false, Option, List, map, ap, sym, ◌∙◌}
use Rattle.std.specs.Prelude.{slice_get}
use Rattle.std.specs.Option.{option_map_or}
use Rattle.model.specs.Tree.{MethodTree}
use Rattle.model.specs.AccessFlags.{is_static_method}
use Rattle.model.specs.Resolution.{differs}
use Rattle.constant_pool.specs.View.{reference_of}
use Rattle.class_tree.specs.declared.tree.Method as declared_method
use Rattle.classfile.specs.View.{method_of, file_of}
use Rattle.hierarchy.specs.Places.{class_at}
use Rattle.hierarchy.proofs.Apart.{method_there}
use Rattle.link_conditions.proofs.resolution.member.is_method_of_other_kind.Goals as goal
use Rattle.constant_pool.proofs.Passing.{read_at}

pub returns-in-Some-get : goal.returns-in-Some-get
returns-in-Some-get c =
    let files = c.args.set.now in
    let file = file_of c.in-Some.class.now in
    let declared = method_of c.in-Some-get.declared.now in
    let kind = λ (m : MethodTree). differs c.args.wants_static (is_static_method m) in
    let at : class_at files c.args.place.class ≡ Some file = search rules in
    let read = read_at method_of c.deref.result.now c.args.place.member c.in-Some-get.declared.now c.in-Some-get.ensures.lookup.3.0 c.in-Some-get.ensures.lookup.1 in
    let there : slice_get file.methods c.args.place.member ≡ Some declared = ap (λ (vs : List declared_method.Method). slice_get (map method_of vs) c.args.place.member) (sym c.deref.ensures.value) ∙ read in
    let so : c.differs.result ≡ kind declared = search rules in
    so ∙ ap (λ (o : Option MethodTree). option_map_or kind o false) (sym there ∙ method_there files (reference_of c.args.method) c.args.place file c.requires.differ at c.requires.at)
