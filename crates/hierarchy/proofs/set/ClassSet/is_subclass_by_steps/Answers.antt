use Rattle.std.proofs.Common.{◌≡◌, ◌∙◌, Option, None, sym, ap}
use Rattle.std.specs.Option.{option_and_then}
use Rattle.model.specs.Tree.{FileTree}
use Rattle.model.specs.Classes.{super_name_of, superclass_of, is_subclass}
use Rattle.hierarchy.specs.Places.{name_at}
use Rattle.hierarchy.proofs.SetLaws.{no_class}
use Rattle.hierarchy.proofs.Climbing.{no_superclass}
use Rattle.hierarchy.proofs.LineageLaws.{named_at}
use Rattle.hierarchy.proofs.UpLaws.{stood_at}
use Rattle.hierarchy.proofs.set.ClassSet.is_subclass_by_steps.Goals as goal

pub returns-in_default : goal.returns-in_default
returns-in_default c =
    let files = c.args.self.now in
    let class = c.args.class.now in
    let none : superclass_of files class ≡ None = ap (λ (o : Option FileTree). option_and_then super_name_of o) (no_class files class (sym c.in_default.ensures.place)) in
    c.eq.ensures ∙ sym (no_superclass files class c.args.superclass.now none)

pub is_subclass_by_places-requires-clause-class : goal.is_subclass_by_places-requires-clause-class
is_subclass_by_places-requires-clause-class c = stood_at c.args.self.now c.args.class.now c.in-Some.place (sym c.in-Some.ensures.place)

pub is_subclass_by_places-requires-clause-superclass : goal.is_subclass_by_places-requires-clause-superclass
is_subclass_by_places-requires-clause-superclass c = stood_at c.args.self.now c.args.superclass.now c.in-Some-place_of.above (sym c.in-Some-place_of.ensures.place)

pub is_below_absent-requires-clause-class : goal.is_below_absent-requires-clause-class
is_below_absent-requires-clause-class c = stood_at c.args.self.now c.args.class.now c.in-Some.place (sym c.in-Some.ensures.place)

pub returns-in-Some-place_of : goal.returns-in-Some-place_of
returns-in-Some-place_of c =
    let files = c.args.self.now in
    let place = c.in-Some.place in
    let above = c.in-Some-place_of.above in
    c.is_subclass_by_places.ensures ∙ ap (λ n. is_subclass files n (name_at files above)) (named_at files c.args.class.now place (sym c.in-Some.ensures.place))
    ∙ ap (is_subclass files c.args.class.now) (named_at files c.args.superclass.now above (sym c.in-Some-place_of.ensures.place))

pub returns-in-None : goal.returns-in-None
returns-in-None c =
    let files = c.args.self.now in
    c.is_below_absent.ensures ∙ ap (λ n. is_subclass files n c.args.superclass.now) (named_at files c.args.class.now c.in-Some.place (sym c.in-Some.ensures.place))
