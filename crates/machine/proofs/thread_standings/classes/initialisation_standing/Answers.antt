use Rattle.std.proofs.Common.{sym, subst}
use Rattle.thread_stacks.specs.declared.entry.Phase.{Phase}
use Rattle.machine.specs.thread_standings.Parts.{StandsInitialising}
use Rattle.machine.proofs.thread_standings.classes.initialisation_standing.Goals as goal

pub returns-in-Super : goal.returns-in-Super
returns-in-Super c =
    subst (λ (phase : Phase). StandsInitialising c.args.program.now c.args.shared.now c.args.thread c.args.class phase c.super_standing.result) (sym c.in-Super.is) c.super_standing.ensures
