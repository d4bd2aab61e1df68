use Rattle.std.proofs.Common.{refl, sym, subst}
use Rattle.race_places.specs.action_detector.Watched.{ActionDetectorOf, WatchesActions, IsActionTold}
use Rattle.race_places.proofs.action_detector.Watching.{watched_by, not_numbered}
use Rattle.race_places.proofs.action_detector.ActionDetector.watch.Goals as goal

pub returns-in-Ok : goal.returns-in-Ok
returns-in-Ok c =
    record {
      watched = λ run w.
          subst (λ r. IsActionTold r run c.args.action (record { numbering = c.step.new.self; detector = c.watch-answer.new.self })) (sym c.with_step.ensures)
          (watched_by c.args.action (record { numbering = c.self.inside.numbering; detector = c.self.inside.detector })
          (record { numbering = c.step.new.self; detector = c.watch-answer.new.self }) c.step.result c.in-Ok.step c.watch-answer.result c.in-Ok.is c.step.ensures.numbering
          c.watch-answer.ensures.watched run (subst (λ (d : ActionDetectorOf). WatchesActions run d) (sym c.self.view_is) w));
    }

pub returns-in-Err : goal.returns-in-Err
returns-in-Err c =
    record {
      watched = λ run w.
          not_numbered c.args.action (record { numbering = c.self.inside.numbering; detector = c.self.inside.detector })
          (record { numbering = c.step.new.self; detector = c.self.inside.detector }) c.step.result c.in-Err.fault c.in-Err.is c.step.ensures.numbering refl run
          (subst (λ (d : ActionDetectorOf). WatchesActions run d) (sym c.self.view_is) w);
    }
