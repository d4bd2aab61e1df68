use Rattle.traces.proofs.MethodPlaces.{placed, no_place}
use Rattle.traces.proofs.names.ProgramNames.place.Goals as goal

pub returns-in-Some : goal.returns-in-Some
returns-in-Some c = placed c.args.self.now.linked.now c.args.number c.in-Some.found (c.in-Some.ensures.method c.args.self.now.linked.now c.args.self.now.numbered)

pub returns-in-None : goal.returns-in-None
returns-in-None c = no_place c.args.self.now.linked.now c.args.number _ (c.in-None.ensures.method c.args.self.now.linked.now c.args.self.now.numbered)
