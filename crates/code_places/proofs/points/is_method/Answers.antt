use Rattle.std.proofs.Common.{None, Some, refl, sym, ◌∙◌}
use Rattle.place_texts.specs.Places.{place_of}
use Rattle.code_places.proofs.Numbered.{of_none, of_some}
use Rattle.code_places.proofs.points.is_method.Goals as goal

pub returns-in-Some : goal.returns-in-Some
returns-in-Some c = λ method. λ at.
    let says = of_some c.args.linked.now (place_of c.args.place.now) method (Some c.in-Some.method) c.in-Some.method refl (c.in-Some.ensures method at) in
    c.is_of.ensures ∙ sym says.its_code

pub returns-in-None : goal.returns-in-None
returns-in-None c = λ method. λ at.
    let says = of_none c.args.linked.now (place_of c.args.place.now) method None refl (c.in-None.ensures method at) in
    sym says.its_code
