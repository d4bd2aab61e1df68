use Rattle.std.proofs.Common.{subst}
use Rattle.model.specs.Classes.{Program}
use Rattle.state_races.specs.next_races.Placed.{TellsSite}
use Rattle.state_races.proofs.next_races.placed_race.Goals as goal

pub returns : goal.returns
returns c =
    let m = c.args.machine.now in
    let first = subst (λ (trees : Program). TellsSite trees m c.args.race.thread c.in_ok-first.first) c.in_ok-tables.ensures c.in_ok-first.ensures in
    let second = subst (λ (trees : Program). TellsSite trees m c.args.race.other c.in_ok-second.second) c.in_ok-tables.ensures c.in_ok-second.ensures in
    (c.in_ok-first.first, c.in_ok-second.second, first, second, c.with_places.ensures)
