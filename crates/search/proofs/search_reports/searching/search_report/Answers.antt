use Rattle.std.proofs.Common.{subst}
use Rattle.search.specs.search_reports.Answers.{IsAnswerTo, IsRaceKept}
use Rattle.search.proofs.search_reports.searching.search_report.Goals as goal

pub returns-clause-answers : goal.returns-clause-answers
returns-clause-answers g c =
    let answers = subst (λ trees. IsAnswerTo trees c.args.limits c.in_ok-searched.searched.verdict c.in_ok-answer.answer) c.set.ensures.same c.in_ok-answer.ensures.answers in
    answers c.args.goal.now (g.P.Progress.may_stop c.args.progress.now) c.args.most c.in_ok-searched.searched.states c.in_ok-searched.ensures.says

pub returns-clause-race : goal.returns-clause-race
returns-clause-race g c =
    let kept = subst (λ trees. IsRaceKept trees c.args.limits c.in_ok-searched.searched.verdict c.in_ok-answer.answer) c.set.ensures.same c.in_ok-answer.ensures.race in
    kept c.in_ok-searched.searched.race c.in_ok-searched.ensures.race
