use Rattle.std.specs.Arc.{arc_value}
use Rattle.place_texts.specs.Places.{deeds_of}
use Rattle.place_runs.proofs.Words.{stand}
use Rattle.place_runs.proofs.placing.stand_for.Goals as goal

pub returns-in-Whole : goal.returns-in-Whole
returns-in-Whole c =
    λ same. stand (arc_value c.args.verified) c.args.limits 4294967295 (deeds_of c.args.deeds.now) c.in_ok-run.run' c.args.schedule.now
    c.in_ok-run.ensures c.in-Whole.is (c.are_same.ensures same)
