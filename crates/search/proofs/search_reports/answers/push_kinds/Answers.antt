use Rattle.search.proofs.search_reports.Appended.{four_times}
use Rattle.search.proofs.search_reports.answers.push_kinds.Goals as goal

pub returns : goal.returns
returns c = four_times _ _ _ _ _ _ _ _ _ c.in_ok-push_race.ensures c.in_ok-push_kind.ensures c.in_ok-push_kind-2.ensures c.in_ok-push_kind-3.ensures
