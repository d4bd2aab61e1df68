use Rattle.std.proofs.Common.{subst, vec_items}
use Rattle.search.specs.search_reports.Answers.{TellsRaceOf}
use Rattle.engines.proofs.SearchLemmas.{race_told}
use Rattle.engines.proofs.searching.told_race.Goals as goal

pub shown_race-requires : goal.shown_race-requires
shown_race-requires c = subst (λ a. TellsRaceOf c.args.verified.now c.args.limits a c.args.searched.now.race) c.in-Complete.is c.requires

pub returns-in-Complete : goal.returns-in-Complete
returns-in-Complete c =
    race_told c.args.verified.now c.args.limits c.args.searched.now.answer _ c.in-Complete.kinds c.in-Complete.is vec_items c.shown_race.result c.shown_race.ensures
