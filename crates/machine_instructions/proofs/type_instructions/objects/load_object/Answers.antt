use Rattle.std.proofs.Common.{[], ◌∷◌, sym, refl, ap, ◌∙◌}
use Rattle.model.specs.Objects.{object_meaning}
use Rattle.model.specs.Operands.{words}
use Rattle.model.specs.Outcomes.{Free, Goes}
use Rattle.thread_stacks.specs.Stacks.{shown_frame}
use Rattle.machine_instructions.proofs.leaving.Left.{placed}
use Rattle.machine_instructions.proofs.type_instructions.Events.{is_top, event_by, slots_after, goes_on, does_own}
use Rattle.machine_instructions.proofs.type_instructions.objects.load_object.Goals as goal

pub returns-in-Some : goal.returns-in-Some
returns-in-Some c = λ p t shared frames trees bounds inflated state frame rest code site meaning is.
    let load = is.stands.linked in
    let results = c.args.word ∷ [] in
    let out = c.leave.ensures (shown_frame c.in-Some._frame) c.in-Some.ensures in
    placed is frames c.leave.result _ c.leave.new.stack _ out.is
    (does_own is frames 0 results _ _ c.leave.result out.leaves (is_top is _ c.in-Some.ensures)
    (event_by is frames (object_meaning words site load.class load.reference) load.is refl (Goes Free state.world (slots_after is 0 results) site.next)
    (ap (λ w. Goes Free state.world (slots_after is 0 (w ∷ [])) site.next) (sym load.refers))
    ∙ goes_on is frames Free state.world 0 results load.to))
