use Rattle.std.proofs.Common.{refl}
use Rattle.program_runs.proofs.worlds.Recording.{is_record_of}
use Rattle.program_runs.proofs.worlds.world.World.told.Goals as goal

pub returns : goal.returns
returns c =
    is_record_of c.reports_of_words.ensures.holds c.no_event_is_wrong.ensures.holds _ c.args.self c.self.view_is c.self.invariant c.args.end c.requires _ refl c.limits.ensures
    c.into_schedule.ensures.events c.into_schedule.ensures.joined c.in_ok-report.ensures refl
