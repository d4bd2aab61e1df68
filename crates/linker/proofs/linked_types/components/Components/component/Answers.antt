use Rattle.std.proofs.Common.{◌≡◌, ◌∙◌, ◌<◌, ◌^◌, None, Some, true, is_some, arith, sym, ap, subst}
use Rattle.std.specs.Prelude.{position}
use Rattle.std.proofs.lemmas.Bool.{false≢true}
use Rattle.std.proofs.lemmas.Option.{same_Some}
use Rattle.model.specs.Names.{Name, name_eq}
use Rattle.model.specs.Tree.{FileTree}
use Rattle.model.specs.Pool.{class_name_at}
use Rattle.classfile.specs.View.{file_of}
use Rattle.hierarchy.specs.Places.{class_at}
use Rattle.linker.specs.linked_types.Components.{is_among}
use Rattle.linker.proofs.linked_types.ComponentTypes.{numbered_any, number_fits, stands_at, type_at}
use Rattle.linker.proofs.linked_types.components.Components.component.Goals as goal

pub returns-in_err-number-clause-there : goal.returns-in_err-number-clause-there
returns-in_err-number-clause-there c other wanted at named found =
    let files = c.args.linked.now in
    let names = c.args.self.now.names in
    let tree = file_of c.in_ok-file.file.now in
    let name = c.in_ok-name.name.now in
    let there : class_at files c.args.class ≡ Some tree = ap (λ f. class_at f c.args.class) (sym c.set.ensures.same) ∙ sym c.in_ok-file.ensures in
    let same : tree ≡ other = same_Some tree other (sym there ∙ at) in
    let here : class_name_at other.pool c.args.index ≡ Some name = ap (λ (f : FileTree). class_name_at f.pool c.args.index) (sym same) ∙ sym c.in_ok-name.ensures in
    let is : wanted ≡ name = same_Some wanted name (sym named ∙ here) in
    let few : c.args.index < 2 ^ 16 = omega (arith, c.ranges.index.fits) in
    let among : is_among name names ≡ true = subst (λ (n : Name). is_among n names ≡ true) is (c.requires.components.named c.args.class c.args.index other few at wanted named found) in
    let none : position (name_eq name) names ≡ None = sym c.in_err-number.ensures in
    absurd (false≢true (sym (ap is_some none) ∙ numbered_any (name_eq name) names ∙ among))

pub overflow_cast-result : goal.overflow_cast-result
overflow_cast-result c = omega (arith, number_fits c.args.linked.now c.args.self.now c.requires.components c.in_ok-name.name.now c.in_ok-number.number (sym c.in_ok-number.ensures))

pub returns-clause-right : goal.returns-clause-right
returns-clause-right c other at =
    let files = c.args.linked.now in
    let components = c.args.self.now in
    let tree = file_of c.in_ok-file.file.now in
    let name = c.in_ok-name.name.now in
    let there : class_at files c.args.class ≡ Some tree = ap (λ f. class_at f c.args.class) (sym c.set.ensures.same) ∙ sym c.in_ok-file.ensures in
    let same : tree ≡ other = same_Some tree other (sym there ∙ at) in
    let here : class_name_at other.pool c.args.index ≡ Some name = ap (λ (f : FileTree). class_name_at f.pool c.args.index) (sym same) ∙ sym c.in_ok-name.ensures in
    record {
      name = name;
      named = here;
      numbered = type_at files components.names components.types.items c.in_ok-number.number name c.requires.components.types (stands_at components.names name c.in_ok-number.number (sym c.in_ok-number.ensures));
    }
