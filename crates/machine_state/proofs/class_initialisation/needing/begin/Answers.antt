use Rattle.std.proofs.Common.{sym, ap, ◌∙◌}
use Rattle.machine_state.specs.class_initialisation.Constants.{with_constants}
use Rattle.machine_state.proofs.class_initialisation.Beginning.{begun, lacks_entry, no_row}
use Rattle.machine_state.proofs.class_initialisation.needing.begin.Goals as goal

pub returns-in_err-push_initialisation : goal.returns-in_err-push_initialisation
returns-in_err-push_initialisation c = λ trees bounds inflated world own program r s class at.
    lacks_entry trees c.args.program.now bounds inflated world own c.args.shared.now c.args.stack.now s class c.args.thread c.from_residual.result c.from_residual.ensures.1
    c.push_initialisation.new.self c.in_err-push_initialisation.ensures.err

pub returns-in-Some : goal.returns-in-Some
returns-in-Some c = λ trees bounds inflated world own program r s class at.
    begun c.classes_are_read.ensures.holds trees c.args.program.now bounds inflated world own program c.args.shared.now c.args.stack.now s class c.args.class c.args.thread at
    c.set_status.new.shared c.set_status.ensures.kept (c.set_status.ensures.set trees c.args.program.now bounds world program r class at) c.set_constants.new.statics
    c.in-Some.row.now (sym c.in-Some.ensures) (c.set_constants.ensures ∙ ap (λ l. with_constants l c.set_status.new.shared.statics.items) c.deref.ensures.value) c.push_initialisation.new.self c.in_ok-push_initialisation.ensures.ok

pub returns-in_default : goal.returns-in_default
returns-in_default c = λ trees bounds inflated world own program r s class at.
    absurd (no_row c.classes_are_read.ensures.holds trees c.args.program.now bounds inflated world own program c.args.shared.now c.args.stack.now s class c.args.class c.args.thread at
    c.set_status.new.shared c.set_status.ensures.kept (c.set_status.ensures.set trees c.args.program.now bounds world program r class at) c.set_status.new.shared.statics
    (sym c.in_default.ensures))
