use Rattle.std.proofs.Common.{ap, ◌∙◌}
use Rattle.hierarchy.specs.Places.{name_at}
use Rattle.traces.specs.Methods.{name_in}
use Rattle.traces.proofs.MethodPlaces.{printed_told}
use Rattle.traces.proofs.names.ProgramNames.push_printed_method.Goals as goal

pub returns : goal.returns
returns c =
    let place = c.place-place.result in
    printed_told c.push_printed-3.result c.args.self.now.linked.now c.args.number place c.place-place.ensures c.args.text.now.items c.push_printed.new.text.items c.push_printed-2.new.text.items
    c.push_printed-3.new.text.items _ _ (c.name_at.ensures ∙ ap (λ files. name_at files place.class) c.set-set.ensures.same) (c.method_name.ensures ∙ ap (λ files. name_in files place) c.set-set.ensures.same)
    c.in_ok-push_printed.ensures c.in_ok-push_printed-2.ensures c.push_printed-3.ensures
