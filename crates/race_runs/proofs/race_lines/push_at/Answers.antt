use Rattle.std.proofs.Common.{sym}
use Rattle.std.proofs.lemmas.Result.{on_ok_weaker}
use Rattle.race_runs.proofs.race_lines.Adding.{added_more, added_same}
use Rattle.race_runs.proofs.race_lines.push_at.Goals as goal

pub returns-in-Some : goal.returns-in-Some
returns-in-Some c =
    on_ok_weaker c.push_race.result (λ more before adds.
    added_more c.args.names.now.linked.now c.args.told.now.races.keys c.args.place c.in-Some.race (sym c.in-Some.ensures) before c.args.text.now.items c.push_race.new.text.items adds more)
    c.push_race.ensures

pub returns-in-None : goal.returns-in-None
returns-in-None c = λ before adds.
    added_same c.args.names.now.linked.now c.args.told.now.races.keys c.args.place (sym c.in-None.ensures) before c.args.text.now.items adds
