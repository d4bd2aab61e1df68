use Rattle.std.proofs.Common.{rules, refl, subst, sym}
use Rattle.std.specs.Arc.{arc_value}
use Rattle.model.specs.Schedule.{events_of}
use Rattle.engines.specs.Runs.{IsToldBefore}
use Rattle.engines.proofs.RacedRunLemmas.{no_races}
use Rattle.engines.proofs.racing_runs.behind_races.Goals as goal

pub returns-then-not-is_asked : goal.returns-then-not-is_asked
returns-then-not-is_asked c = no_races c.args.is_asked c.if-not-is_asked.true c.args.recorded.now c.args.outcome

pub returns : goal.returns
returns c =
    let r = c.args.recorded.now in
    let told = c.in_ok-told.told in
    record {
      lines = told.lines.items;
      has_race = told.has_race;
      raced = subst (λ asked. IsToldBefore asked (arc_value r.verified) r.limits.frames (events_of r.schedule) told.lines.items told.has_race)
          (sym c.if-not-is_asked.false) c.in_ok-told.ensures;
      text = search (rules, c.in_ok-extend_from_slice.ensures, c.as_slice.ensures);
      status = c.raced_status.ensures;
      file = refl;
    }
