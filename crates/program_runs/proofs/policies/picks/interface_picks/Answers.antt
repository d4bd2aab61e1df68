use Rattle.std.proofs.Common.{◌+◌, suc, refl, sym, ap, ◌∙◌}
use Rattle.model.specs.Step.{is_enabled_by}
use Rattle.machine_state.specs.declared.answers.MachineException.TheVariants as exception
use Rattle.machine_state.specs.declared.answers.Effect.TheVariants as effect
use Rattle.machine_instructions.proofs.called_methods.Receivers.{interface_null, interface_missing, interface_event, interface_invoking, chosen_interface}
use Rattle.program_runs.proofs.policies.Picked.{not_raised}
use Rattle.program_runs.proofs.policies.Unpicked.{none_below}
use Rattle.program_runs.proofs.policies.picks.interface_picks.Goals as goal

pub returns-in_default : goal.returns-in_default
returns-in_default c = λ trees bounds inflated state frame rest code site meaning frames is k.
    ap is_enabled_by (interface_null trees c.args.program.now bounds inflated c.args.thread c.args.shared.now c.args.stack.now state frame rest code site meaning c.args.parameters c.args.selector is c.in_default.ensures frames (suc k) effect.NotEnabled (not_raised exception.NullPointer k)).0
    ∙ sym (none_below k)

pub returns-in_default-interface_method : goal.returns-in_default-interface_method
returns-in_default-interface_method c = λ trees bounds inflated state frame rest code site meaning frames is k.
    ap is_enabled_by (interface_missing trees c.args.program.now bounds inflated c.args.thread c.args.shared.now c.args.stack.now state frame rest code site meaning c.args.parameters c.args.selector is c.in-Some.object c.in-Some.ensures c.in_default-interface_method.ensures frames (suc k) effect.NotEnabled (not_raised exception.IncompatibleClassChange k)).0
    ∙ sym (none_below k)

pub returns : goal.returns
returns c = λ trees bounds inflated state frame rest code site meaning frames is k.
    let p = c.args.program.now in
    let t = c.args.thread in
    let old = c.args.shared.now in
    let from = c.args.stack.now in
    ap is_enabled_by (interface_event trees p bounds inflated t old from state frame rest code site meaning c.args.parameters c.args.selector is c.in-Some.object c.in-Some.ensures (c.args.parameters + 1) refl frames (suc k))
    ∙ c.call_picks.ensures trees bounds inflated state frame rest site
    (chosen_interface trees p bounds inflated t old from state frame rest code site meaning c.args.parameters c.args.selector is c.in-Some.object) c.in-Some.object (c.args.parameters + 1) frames
    (interface_invoking trees p bounds inflated t old from state frame rest code site meaning c.args.parameters c.args.selector is c.in-Some.object c.in-Some.ensures c.in-Some-interface_method.method c.in-Some-interface_method.ensures (c.args.parameters + 1) refl) k
