use Rattle.std.proofs.Common.{◌≡◌, ◌∙◌, None, refl, sym, ap, subst}
use Rattle.std.specs.Prelude.{option_map}
use Rattle.model.specs.Classes.{Program, interfaces_above}
use Rattle.model.specs.Lookup.{method_in_class, any_method, first_found}
use Rattle.hierarchy.specs.Places.{member_in}
use Rattle.hierarchy.specs.Numbers.{names_of}
use Rattle.hierarchy.proofs.Walks.{found_once}
use Rattle.hierarchy.proofs.NumberLaws.{interface_row}
use Rattle.hierarchy.proofs.PlaceLaws.{of_sought}
use Rattle.hierarchy.proofs.hierarchy.Hierarchy.method_in_interfaces_above.Goals as goal

pub returns-in-Some-clause-found : goal.returns-in-Some-clause-found
returns-in-Some-clause-found c =
    let inside = c.self.inside in
    let ref = c.args.sought.now.member in
    let found = method_in_class inside.set any_method ref in
    let class = c.args.class.now in
    subst (λ (files : Program). option_map (λ p. member_in files ref p) c.method_among.result ≡ first_found (method_in_class files any_method ref) (interfaces_above files class)) c.self.view_is
    (of_sought (λ f n. option_map (λ p. member_in f n p) c.method_among.result ≡ first_found (method_in_class f any_method n) (names_of inside.names c.in-Some.row.now)) c.args.sought.now inside.set ref (c.requires ∙ sym c.self.view_is) refl c.method_among.ensures.found
    ∙ ap (first_found found) (interface_row inside.set inside.names inside.interfaces.items c.deref.result.now c.in-Some.row.now class c.self.invariant.rows.by_interfaces c.deref.ensures.value c.in-Some.ensures)
    ∙ found_once found (interfaces_above inside.set class))

pub returns-in-None-clause-found : goal.returns-in-None-clause-found
returns-in-None-clause-found c =
    let inside = c.self.inside in
    let ref = c.args.sought.now.member in
    let found = method_in_class inside.set any_method ref in
    let class = c.args.class.now in
    subst (λ (files : Program). None ≡ first_found (method_in_class files any_method ref) (interfaces_above files class)) c.self.view_is
    (ap (first_found found) (interface_row inside.set inside.names inside.interfaces.items c.deref.result.now _ class c.self.invariant.rows.by_interfaces c.deref.ensures.value c.in-None.ensures)
    ∙ found_once found (interfaces_above inside.set class))
