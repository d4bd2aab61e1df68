use Rattle.std.proofs.Common.{◌≡◌, ◌++◌, None, Some, refl, ap, sym, subst, ◌∙◌}
use Rattle.std.specs.Prelude.{OnOk}
use Rattle.std.proofs.lemmas.List.{append-nil}
use Rattle.place_texts.specs.Places.{place_of}
use Rattle.code_places.specs.Points.{points_at}
use Rattle.code_places.proofs.Numbered.{of_none, of_some}
use Rattle.code_places.proofs.points.add_method.Goals as goal

pub returns-in-Some : goal.returns-in-Some
returns-in-Some c = λ method. λ at.
    let says = of_some c.args.linked.now (place_of c.args.place.now) method (Some c.in-Some.method) c.in-Some.method refl (c.in-Some.ensures method at) in
    subst (λ l. OnOk c.add_named.result (c.add_named.new.points.items ≡ c.args.points.now.items ++ points_at c.args.number l)) (sym says.its_offsets) c.add_named.ensures

pub returns-in-None : goal.returns-in-None
returns-in-None c = λ method. λ at.
    let says = of_none c.args.linked.now (place_of c.args.place.now) method None refl (c.in-None.ensures method at) in
    sym (ap (λ l. c.args.points.now.items ++ points_at c.args.number l) says.its_offsets ∙ append-nil c.args.points.now.items)
