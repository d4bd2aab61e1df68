use Rattle.std.proofs.Common.{sym, subst}
use Rattle.run_races.specs.told_races.Adding.{AddsRace}
use Rattle.run_races.proofs.told_races.Adding.{race_added}
use Rattle.run_races.proofs.told_races.ToldRaces.add.Goals as goal

pub returns-in-Ok : goal.returns-in-Ok
returns-in-Ok c = subst (AddsRace c.args.race _) (sym c.in-Ok.ensures.keys) (race_added c.args.race _)
