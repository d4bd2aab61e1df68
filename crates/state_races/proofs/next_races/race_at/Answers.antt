use Rattle.std.proofs.Common.{subst}
use Rattle.std.proofs.lemmas.Result.{IfOk-weaker}
use Rattle.model.specs.Classes.{Program}
use Rattle.next_accesses.specs.racy_states.Racy.{TellsRace}
use Rattle.state_races.proofs.next_races.Standing.{none_told, race_told}
use Rattle.state_races.proofs.next_races.race_at.Goals as goal

pub returns-in-None : goal.returns-in-None
returns-in-None c =
    let m = c.args.machine.now in
    let told = subst (λ (trees : Program). TellsRace trees m c.in_ok-racing.field-0) c.in_ok-accesses.ensures c.in_ok-racing.ensures in
    none_told c.args.linked.now m c.in_ok-racing.field-0 told c.in-None.is

pub returns : goal.returns
returns c =
    let m = c.args.machine.now in
    let told = subst (λ (trees : Program). TellsRace trees m c.in_ok-racing.field-0) c.in_ok-accesses.ensures c.in_ok-racing.ensures in
    IfOk-weaker c.placed_race.result _ _
    (λ placed is. race_told c.args.linked.now c.names_are_apart.ensures m c.in_ok-racing.field-0 told c.in-Some.race c.in-Some.is is.0 is.1 is.2 is.3 placed is.4)
    c.placed_race.ensures
