use Rattle.std.proofs.Common.{ap, ◌∙◌}
use Rattle.types.specs.method_code.View.{shown_at}
use Rattle.traces.proofs.MethodPlaces.{body_found}
use Rattle.traces.proofs.names.ProgramNames.method.Goals as goal

pub returns : goal.returns
returns c =
    body_found c.args.self.now.linked.now c.hierarchy.ensures.linked c.args.number c.place-place.result c.place-place.ensures c.new.result
    (c.new.ensures.value ∙ ap (λ files. shown_at files c.place-place.result.class c.place-place.result.member) c.hierarchy.ensures.same)
