use Rattle.search.proofs.search_reports.Reported.{found_race, race_kept, told_if}
use Rattle.search.proofs.search_reports.searching.answer_to.Goals as goal

pub returns-in-Found-clause-answers : goal.returns-in-Found-clause-answers
returns-in-Found-clause-answers c = told_if c.args.classes.now c.args.limits c.args.verdict c.in-Found.schedule c.in-Found.is c.found.result c.found.ensures

pub returns-in-Found-clause-race : goal.returns-in-Found-clause-race
returns-in-Found-clause-race c = found_race c.args.classes.now c.args.limits c.args.verdict c.in-Found.schedule c.found.result c.found.ensures

pub returns-in-Complete-clause-race : goal.returns-in-Complete-clause-race
returns-in-Complete-clause-race c =
    race_kept c.args.classes.now c.args.limits c.args.verdict c.in-Complete.outcomes c.in-Complete.kinds c.in-Complete.is
