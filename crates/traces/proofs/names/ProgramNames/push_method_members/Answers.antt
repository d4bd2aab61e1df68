use Rattle.std.proofs.Common.{ap, ◌∙◌}
use Rattle.hierarchy.specs.Places.{name_at}
use Rattle.traces.specs.Methods.{name_in}
use Rattle.traces.proofs.MethodPlaces.{members_told}
use Rattle.traces.proofs.names.ProgramNames.push_method_members.Goals as goal

pub returns : goal.returns
returns c =
    let place = c.place-place.result in
    members_told c.push_text_member-2.result c.args.self.now.linked.now c.args.number place c.place-place.ensures c.args.text.now.items c.push_text_member.new.text.items c.push_text_member-2.new.text.items _ _
    (c.name_at.ensures ∙ ap (λ files. name_at files place.class) c.set-set.ensures.same) (c.method_name.ensures ∙ ap (λ files. name_in files place) c.set-set.ensures.same) c.in_ok-push_text_member.ensures
    c.push_text_member-2.ensures
