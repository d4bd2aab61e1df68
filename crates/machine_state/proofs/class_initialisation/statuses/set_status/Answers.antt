use Rattle.machine_state.proofs.class_initialisation.Setting.{nothing_set, set_shown}
use Rattle.machine_state.proofs.class_initialisation.statuses.set_status.Goals as goal
use Rattle.std.proofs.Common.{refl, ap, ◌∙◌, slice_set}

-- src/statuses.rt:85:1
pub returns-in-Some-clause-set : goal.returns-in-Some-clause-set
returns-in-Some-clause-set c = λ trees p bounds world program r class at.
    set_shown trees p bounds world program c.args.shared.now r class c.args.status c.args.class c.in-Some.file c.in-Some.ensures at
    (record c.args.shared.now { statuses = c.put_status.new.statuses; ready = c.put_flag.new.flags }) refl c.put_status.ensures
    (c.put_flag.ensures ∙ ap (slice_set c.args.shared.now.ready.items c.args.class) c.is_initialised.ensures)

-- src/statuses.rt:85:1
pub returns-in_default-clause-set : goal.returns-in_default-clause-set
returns-in_default-clause-set c = λ trees p bounds world program r class at.
    nothing_set trees p bounds world program c.args.shared.now r class c.args.status c.args.class c.in_default.ensures at
