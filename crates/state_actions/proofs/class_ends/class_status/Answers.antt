use Rattle.std.proofs.Common.{sym, ap, ◌∙◌}
use Rattle.machine_state.specs.Shown.{shown_status}
use Rattle.machine_state.proofs.class_initialisation.Looking.{known}
use Rattle.machine_state.proofs.class_initialisation.Setting.{initialised, file_status}
use Rattle.state_actions.proofs.class_ends.class_status.Goals as goal

pub returns-in-None : goal.returns-in-None
returns-in-None c = λ trees p bounds world program r class at.
    sym (initialised trees program.linkable.no_refusal world c.args.class c.in-None.ensures class at)

pub returns-in-Some : goal.returns-in-Some
returns-in-Some c = λ trees p bounds world program r class at.
    ap shown_status c.status_at.ensures ∙ known _ _ (file_status trees p bounds world program c.args.shared.now r c.args.class c.in-Some.file c.in-Some.ensures class at)
