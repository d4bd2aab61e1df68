use Rattle.std.proofs.Common.{None, ap, ◌∙◌}
use Rattle.types.specs.method_code.View.{shown_at}
use Rattle.code_places.proofs.MethodPlaces.{found_there, no_place}
use Rattle.code_places.proofs.points.method_of.Goals as goal

pub returns : goal.returns
returns c =
    found_there c.args.linked.now c.hierarchy.ensures.linked c.args.number c.in-Some.found (c.in-Some.ensures.method c.args.linked.now c.requires) c.new.result
    (c.new.ensures.value ∙ ap (λ files. shown_at files c.in-Some.found.class c.in-Some.found.member) c.hierarchy.ensures.same)

pub returns-in_default : goal.returns-in_default
returns-in_default c = no_place c.args.linked.now c.args.number (c.in_default.ensures.method c.args.linked.now c.requires) None
