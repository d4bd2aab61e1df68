use Rattle.std.proofs.Common.{subst, vec_items}
use Rattle.model.specs.Schedule.{events_of}
use Rattle.search.specs.RacyStates.{IsRaceShown}
use Rattle.engines.proofs.SearchLemmas.{leads_to_race, race_reached, race_untold}
use Rattle.engines.proofs.searching.shown_race.Goals as goal

pub race_line-requires : goal.race_line-requires
race_line-requires c =
    leads_to_race c.args.verified.now c.args.limits c.args.is_told c.in-Some.schedule (subst (IsRaceShown c.args.verified.now c.args.limits c.args.is_told) c.in-Some.is c.requires)

pub returns-in-Some : goal.returns-in-Some
returns-in-Some c = race_reached c.args.verified.now c.args.limits.frames c.args.is_told (events_of c.in-Some.schedule) vec_items c.race_line.result c.race_line.ensures

pub returns-in-None : goal.returns-in-None
returns-in-None c = race_untold c.args.verified.now c.args.limits c.args.is_told c.args.race.now c.requires c.in-None.is vec_items c.race_word.result
