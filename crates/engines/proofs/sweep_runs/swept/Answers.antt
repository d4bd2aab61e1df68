use Rattle.std.proofs.Common.{map, subst, sym, vec_items}
use Rattle.std.specs.Prelude.{IfOk}
use Rattle.std.specs.Arc.{arc_value}
use Rattle.model.specs.Classes.{Program}
use Rattle.machine.specs.Machines.{IsProgramOf}
use Rattle.engines.specs.Sweeps.{IsSwept}
use Rattle.engines.proofs.sweep_runs.swept.Goals as goal

pub swept_over-requires-clause-of : goal.swept_over-requires-clause-of
swept_over-requires-clause-of g c = λ κs bounds.
    subst (λ (t : Program). IsProgramOf t (arc_value c.in_ok-program.program)) (sym c.in_ok-verified.ensures.ok) c.in_ok-program.ensures

pub returns : goal.returns
returns g c =
    let task = c.args.task in
    subst (λ (t : Program). IfOk c.swept_over.result (λ told. IsSwept task.given (map vec_items c.args.files.now) t task.options.now task.sweep.now (g.P.Watch.may_stop c.args.watch.now) task.wanted.now
    told.text.items (map vec_items told.swept.schedules.items) told.swept.status)) c.in_ok-verified.ensures.ok c.swept_over.ensures
