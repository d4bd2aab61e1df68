use Rattle.race_runs.proofs.race_lines.Naming.{no_place, placed}
use Rattle.race_runs.proofs.race_lines.RaceNames.place.Goals as goal

pub returns-in-Some : goal.returns-in-Some
returns-in-Some c = placed c.args.self.now.linked.now c.args.method c.in-Some.place (c.in-Some.ensures.method c.args.self.now.linked.now c.args.self.now.numbered)

pub returns-in-None : goal.returns-in-None
returns-in-None c = no_place c.args.self.now.linked.now c.args.method _ (c.in-None.ensures.method c.args.self.now.linked.now c.args.self.now.numbered)
