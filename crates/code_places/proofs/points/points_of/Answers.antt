use Rattle.std.proofs.Common.{◌≡◌, ◌<◌, ap, length, subst, take, ◌∙◌, arith}
use Rattle.std.proofs.lemmas.List.{take_all}
use Rattle.code_places.specs.Points.{offsets_of, points_from}
use Rattle.linked_code.specs.Numbers.{methods_of}
use Rattle.method_tables.specs.method_links.Numbers.{AreNumbersOf}
use Rattle.place_texts.specs.Places.{place_of}
use Rattle.code_places.proofs.MethodPlaces.{counted_methods}
use Rattle.code_places.proofs.Numbered.{adds_by, one_more}
use Rattle.code_places.proofs.points.points_of.Goals as goal

pub methods-preserved : goal.methods-preserved
methods-preserved c =
    let trees = c.args.linked.now in
    let place = place_of c.args.place.now in
    let count = counted_methods trees c.count-number-end.result (c.count-number-end.ensures.methods trees (subst (λ t. AreNumbersOf t c.in_ok-numbers.numbers) c.set.ensures.same c.in_ok-numbers.ensures)) in
    let less : c.methods.number < length (methods_of trees) = omega (arith, count, c.methods-test.true) in
    one_more trees place (methods_of trees) c.methods.number c.methods.points.items c.add_method.new.points.items less c.methods.invariant
    (adds_by (offsets_of trees place) (methods_of trees) c.in-Ok.id c.methods.number c.in-Ok.ensures.1 c.methods.points.items c.add_method.new.points.items c.in_ok-add_method.ensures)

pub returns : goal.returns
returns c =
    let trees = c.args.linked.now in
    let place = place_of c.args.place.now in
    let count = counted_methods trees c.count-number-end.result (c.count-number-end.ensures.methods trees (subst (λ t. AreNumbersOf t c.in_ok-numbers.numbers) c.set.ensures.same c.in_ok-numbers.ensures)) in
    let all : take c.methods.number (methods_of trees) ≡ methods_of trees = take_all c.methods.number (methods_of trees) (omega (arith, count, c.methods-test.false)) in
    c.methods.invariant ∙ ap (points_from trees place 0) all
