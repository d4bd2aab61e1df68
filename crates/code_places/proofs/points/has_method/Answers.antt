use Rattle.std.proofs.Common.{◌≡◌, ◌<◌, ap, length, sym, subst, take, ◌∙◌, arith}
use Rattle.std.specs.List.{list_any}
use Rattle.std.proofs.lemmas.List.{take_all}
use Rattle.linked_code.specs.Numbers.{methods_of}
use Rattle.method_tables.specs.method_links.Numbers.{AreNumbersOf}
use Rattle.place_texts.specs.Places.{place_of}
use Rattle.code_places.specs.Points.{has_code}
use Rattle.code_places.proofs.MethodPlaces.{counted_methods}
use Rattle.code_places.proofs.Numbered.{none_more, some_there}
use Rattle.code_places.proofs.points.has_method.Goals as goal

pub returns-then-is_method : goal.returns-then-is_method
returns-then-is_method c =
    let trees = c.args.linked.now in
    let count = counted_methods trees c.count-number-end.result (c.count-number-end.ensures.methods trees (subst (λ t. AreNumbersOf t c.in_ok-numbers.numbers) c.set.ensures.same c.in_ok-numbers.ensures)) in
    let less : c.methods.number < length (methods_of trees) = omega (arith, count, c.methods-test.true) in
    some_there (has_code trees (place_of c.args.place.now)) (methods_of trees) c.methods.number less (λ m at. sym c.if-is_method.true ∙ c.is_method.ensures m at)

pub methods-preserved : goal.methods-preserved
methods-preserved c =
    let trees = c.args.linked.now in
    let count = counted_methods trees c.count-number-end.result (c.count-number-end.ensures.methods trees (subst (λ t. AreNumbersOf t c.in_ok-numbers.numbers) c.set.ensures.same c.in_ok-numbers.ensures)) in
    let less : c.methods.number < length (methods_of trees) = omega (arith, count, c.methods-test.true) in
    none_more (has_code trees (place_of c.args.place.now)) (methods_of trees) c.methods.number less c.methods.invariant (λ m at. sym c.if-is_method.false ∙ c.is_method.ensures m at)

pub returns : goal.returns
returns c =
    let trees = c.args.linked.now in
    let count = counted_methods trees c.count-number-end.result (c.count-number-end.ensures.methods trees (subst (λ t. AreNumbersOf t c.in_ok-numbers.numbers) c.set.ensures.same c.in_ok-numbers.ensures)) in
    let all : take c.methods.number (methods_of trees) ≡ methods_of trees = take_all c.methods.number (methods_of trees) (omega (arith, count, c.methods-test.false)) in
    sym (ap (list_any (has_code trees (place_of c.args.place.now))) (sym all) ∙ c.methods.invariant)
