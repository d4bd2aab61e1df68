use Rattle.std.proofs.lemmas.Result.{IfOk-weaker}
use Rattle.state_races.proofs.reached_races.Lines.{line_told, no_line}
use Rattle.state_races.proofs.reached_races.line_at.Goals as goal

pub returns-in-Some : goal.returns-in-Some
returns-in-Some c =
    IfOk-weaker c.line_of.result _ _
    (λ line. line_told c.args.linked.now c.args.machine.now c.in_ok-race_at.field-0 c.in_ok-race_at.ensures c.in-Some.race c.in-Some.is line.items)
    c.line_of.ensures

pub returns-in-None : goal.returns-in-None
returns-in-None c = no_line c.args.linked.now c.args.machine.now c.in_ok-race_at.field-0 c.in_ok-race_at.ensures c.in-None.is _
