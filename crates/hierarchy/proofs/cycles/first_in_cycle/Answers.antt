use Rattle.std.proofs.Common.{sym, subst}
use Rattle.std.specs.Prelude.{OnSome}
use Rattle.model.specs.Hierarchy.{in_cycle}
use Rattle.hierarchy.specs.Ranks.{HasRanks}
use Rattle.hierarchy.proofs.Finding.{position_absent}
use Rattle.hierarchy.proofs.RankLaws.{acyclic}
use Rattle.hierarchy.proofs.cycles.first_in_cycle.Goals as goal

pub returns-in-Some : goal.returns-in-Some
returns-in-Some c =
    let files = c.args.set.now in
    sym (position_absent (in_cycle files) files (acyclic files files (subst (λ o. OnSome o (HasRanks files)) c.in-Some.is c.in_ok-_order.ensures)))
