use Rattle.std.proofs.Common.{◌≡◌, drop}
use Rattle.machine_state.specs.class_initialisation.Constants.{with_constants}
use Rattle.machine_state.proofs.class_initialisation.constants.set_constants.Given as goal

-- those that are left lead from what stands now to what all of them lead to
abbrev pub invariant-loop-constant : goal.invariant-loop-constant
invariant-loop-constant l =
    with_constants (drop l.constant-index l.constants) l.statics.items ≡ with_constants l.constants l.fn.statics.items
