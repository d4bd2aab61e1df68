use Rattle.std.proofs.Common.{◌∙◌, ap, subst, ℕ}
use Rattle.std.specs.Prelude.{IfOk}
use Rattle.std.specs.Arc.{arc_value}
use Rattle.model.specs.Schedule.{events_of}
use Rattle.shrinking.specs.Shrunk.{Has, IsShrunk, Lacks, TriesFor}
use Rattle.engines.proofs.commands.shrinks.shrunk_by.Goals as goal

pub returns : goal.returns
returns c =
    let with : ℕ → TriesFor = λ budget. record { trees = arc_value c.args.verified.now; limits = c.args.limits; budget = budget; want = c.args.wanted.now } in
    subst (λ (for : TriesFor). IfOk c.shrink.result (IsShrunk (Has for) (Lacks for) (events_of c.args.schedule.now)))
    (c.new-tries.ensures ∙ ap with c.budget.ensures) c.shrink.ensures
