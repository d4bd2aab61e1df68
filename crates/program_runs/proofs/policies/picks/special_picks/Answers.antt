use Rattle.std.proofs.Common.{◌+◌, suc, refl, sym, ap, ◌∙◌}
use Rattle.model.specs.Step.{is_enabled_by}
use Rattle.machine_state.specs.declared.answers.MachineException.TheVariants as exception
use Rattle.machine_state.specs.declared.answers.Effect.TheVariants as effect
use Rattle.machine_instructions.proofs.called_methods.Directs.{direct}
use Rattle.program_runs.proofs.policies.Picked.{not_raised}
use Rattle.program_runs.proofs.policies.Unpicked.{none_below}
use Rattle.program_runs.proofs.policies.picks.special_picks.Goals as goal

pub returns-in_default : goal.returns-in_default
returns-in_default c = λ trees bounds inflated state frame rest code site meaning frames is k.
    ap is_enabled_by ((direct trees c.args.program.now bounds inflated c.args.thread c.args.shared.now c.args.stack.now state frame rest code site meaning c.args.parameters c.args.method is).null c.in_default.ensures frames (suc k) effect.NotEnabled (not_raised exception.NullPointer k)).0
    ∙ sym (none_below k)

pub returns : goal.returns
returns c = λ trees bounds inflated state frame rest code site meaning frames is k.
    let d = direct trees c.args.program.now bounds inflated c.args.thread c.args.shared.now c.args.stack.now state frame rest code site meaning c.args.parameters c.args.method is in
    ap is_enabled_by (d.event c.in-Some._object c.in-Some.ensures (c.args.parameters + 1) refl frames (suc k))
    ∙ c.call_picks.ensures trees bounds inflated state frame rest site (d.chosen c.in-Some._object) c.in-Some._object (c.args.parameters + 1) frames (d.invokes c.in-Some._object c.in-Some.ensures (c.args.parameters + 1) refl) k
