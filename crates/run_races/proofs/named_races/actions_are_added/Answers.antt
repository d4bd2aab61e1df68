use Rattle.run_races.proofs.named_races.Adding.{more_of_run}
use Rattle.run_races.proofs.named_races.actions_are_added.Goals as goal

pub returns : goal.returns
returns c =
    record {
      holds = λ trees frames events state reached event next steps told are label actions of.
          more_of_run trees frames events state reached event next steps label told are actions of;
    }
