use Rattle.std.proofs.Common.{subst}
use Rattle.std.specs.Arc.{arc_value}
use Rattle.machine.specs.machine_replay.Replays.{IsReplay}
use Rattle.model.specs.Classes.{Program}
use Rattle.model.specs.Schedule.{events_of}
use Rattle.engines.proofs.TheoremLemmas.{replay_is}
use Rattle.engines.proofs.replaying.replay_of.Goals as goal

pub returns : goal.returns
returns g c = λ bytes options opened.
    let given = c.args.opened.now in
    let ran = c.in_ok-report in
    record {
      trees = arc_value given.verified;
      events = events_of given.schedule;
      limits = given.limits;
      gives_up = given.gives_up;
      opened = opened;
      report = ran.report;
      end = ran.end;
      replayed =
          replay_is (arc_value given.verified) (events_of given.schedule) given.limits ran.report ran.end
          (subst (λ (t : Program). IsReplay t (events_of given.schedule) given.limits ran.report ran.end) c.deref.ensures ran.ensures);
      told = c.in_ok-text.ensures.text;
      ended = c.in_ok-text.ensures.status;
    }
