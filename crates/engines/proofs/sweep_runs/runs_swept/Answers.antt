use Rattle.std.proofs.Common.{refl, subst, sym}
use Rattle.engines.specs.Sweeps.{SweepsBy}
use Rattle.engines.proofs.sweep_runs.runs_swept.Goals as goal

pub returns-then-sweep : goal.returns-then-sweep
returns-then-sweep g c =
    let sweep = c.args.sweep.now in
    let found = c.in_ok-found.found in
    subst (λ b. SweepsBy b c.args.runs.now (g.P.Watch.may_stop c.args.watch.now) c.args.wanted.now sweep.seeds.first sweep.seeds.last found.report found.races.lines.items) (sym c.if-sweep.true)
    (found, refl, refl, c.in_ok-found.ensures)

pub returns : goal.returns
returns g c =
    let sweep = c.args.sweep.now in
    subst (λ b. SweepsBy b c.args.runs.now (g.P.Watch.may_stop c.args.watch.now) c.args.wanted.now sweep.seeds.first sweep.seeds.last c.in_ok-report.report c.new-lines.result.items) (sym c.if-sweep.false)
    (c.in_ok-report.ensures, c.new-lines.ensures.items)
