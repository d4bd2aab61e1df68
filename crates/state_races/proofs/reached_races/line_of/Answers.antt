use Rattle.state_races.proofs.reached_races.Lines.{one_line}
use Rattle.state_races.proofs.reached_races.line_of.Goals as goal

pub returns : goal.returns
returns c = one_line c.args.linked.now c.args.race c.new-told.result.races.keys c.add.new.self.races.keys c.new-told.ensures c.in_ok-add.ensures c.in_ok-line.line.items c.in_ok-line.ensures
