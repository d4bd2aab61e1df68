use Rattle.std.proofs.Common.{refl}
use Rattle.run_laws.proofs.examples.plain_monitors.Goals as goal

pub returns : goal.returns
returns c =
    record {
      holds = record {
        notified_answers = refl;
        notified_after = refl;
        waits = refl;
        other_answers = refl;
        count_again = refl;
        exits = refl;
        unlocked_again = refl;
      };
    }
