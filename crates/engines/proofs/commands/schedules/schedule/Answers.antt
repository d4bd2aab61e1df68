use Rattle.engines.proofs.ScheduleLemmas.{write_leaves}
use Rattle.engines.proofs.commands.schedules.schedule.Goals as goal

pub returns-then-options-clause-done : goal.returns-then-options-clause-done
returns-then-options-clause-done g c = write_leaves (g.F.Folder.held c.args.folder.now) (g.F.Folder.held c.write_schedule.new.folder) (g.I.Source.remaining c.args.input.now) c.args.options.now (g.W.Sink.contents c.args.output.now) c.write_schedule.result c.if-options.true c.write_schedule.ensures.done
