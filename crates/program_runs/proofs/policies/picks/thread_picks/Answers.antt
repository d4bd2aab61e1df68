use Rattle.std.proofs.Common.{◌≡◌, suc, Option, None, Some, nat_lt, refl, subst, ◌∙◌}
use Rattle.std.specs.Prelude.{slice_get}
use Rattle.model.specs.Operands.{words}
use Rattle.model.specs.State.{StackOf}
use Rattle.run_laws.specs.word_reports.Reports.{is_enabled_of}
use Rattle.machine.specs.top_frames.Tops.{GoesOnIf}
use Rattle.program_runs.specs.policies.Picks.{picked}
use Rattle.program_runs.proofs.policies.Picked.{by_stack, goes_on_shown, lent_of, no_stack, none_there, rests_shown, runs_there}
use Rattle.program_runs.proofs.policies.picks.thread_picks.Goals as goal

pub returns-then-not-goes_on : goal.returns-then-not-goes_on
returns-then-not-goes_on c = λ trees bounds inflated state frames program shown k.
    by_stack trees frames c.args.thread k state
    (rests_shown trees c.args.program.now bounds inflated c.args.shared.now state shown c.args.thread
    (subst (λ b. GoesOnIf b c.args.shared.now.threads.threads c.args.thread) c.if-not-goes_on.true c.goes_on.ensures))

pub returns-in-Some : goal.returns-in-Some
returns-in-Some c = λ trees bounds inflated state frames program shown k.
    let own = lent_of trees c.args.program.now bounds inflated c.args.shared.now state shown c.args.thread _ c.in-Some.ensures in
    let g = goes_on_shown trees c.args.program.now bounds inflated c.args.shared.now state shown c.args.thread
    (subst (λ b. GoesOnIf b c.args.shared.now.threads.threads c.args.thread) c.if-not-goes_on.false c.goes_on.ensures) in
    runs_there trees frames c.args.thread k state own.0 own.1.is_own g.0 g.1
    ∙ c.stack_picks.ensures trees bounds inflated state own.0 frames program own.1 g.0 g.1 k

pub returns-in-None : goal.returns-in-None
returns-in-None c = λ trees bounds inflated state frames program shown k.
    none_there trees frames c.args.thread k state (no_stack trees c.args.program.now bounds inflated c.args.shared.now state shown c.args.thread c.in-None.ensures)
