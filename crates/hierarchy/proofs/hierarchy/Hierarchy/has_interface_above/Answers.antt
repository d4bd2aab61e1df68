use Rattle.std.proofs.Common.{◌≡◌, ◌∙◌, false, ap, subst}
use Rattle.std.specs.List.{list_any}
use Rattle.model.specs.Names.{name_eq}
use Rattle.model.specs.Classes.{Program, interfaces_above}
use Rattle.hierarchy.proofs.Walks.{any_once, any_flip}
use Rattle.hierarchy.proofs.NumberLaws.{interface_row}
use Rattle.hierarchy.proofs.hierarchy.Hierarchy.has_interface_above.Goals as goal

pub returns-in-Some : goal.returns-in-Some
returns-in-Some c =
    let inside = c.self.inside in
    let d = c.args.interface.now in
    let class = c.args.class.now in
    subst (λ (files : Program). c.is_among.result ≡ list_any (λ i. name_eq i d) (interfaces_above files class)) c.self.view_is
    (c.is_among.ensures
    ∙ ap (list_any (name_eq d)) (interface_row inside.set inside.names inside.interfaces.items c.deref.result.now c.in-Some.row.now class c.self.invariant.rows.by_interfaces c.deref.ensures.value c.in-Some.ensures)
    ∙ any_once (name_eq d) (interfaces_above inside.set class) ∙ any_flip d (interfaces_above inside.set class))

pub returns-in-None : goal.returns-in-None
returns-in-None c =
    let inside = c.self.inside in
    let d = c.args.interface.now in
    let class = c.args.class.now in
    subst (λ (files : Program). false ≡ list_any (λ i. name_eq i d) (interfaces_above files class)) c.self.view_is
    (ap (list_any (name_eq d)) (interface_row inside.set inside.names inside.interfaces.items c.deref.result.now _ class c.self.invariant.rows.by_interfaces c.deref.ensures.value c.in-None.ensures)
    ∙ any_once (name_eq d) (interfaces_above inside.set class) ∙ any_flip d (interfaces_above inside.set class))
