use Rattle.std.proofs.Common.{refl, subst, sym}
use Rattle.search.specs.States.{IsSchedule}
use Rattle.search.proofs.searching.found_endless.Goals as goal

pub returns : goal.returns
returns c = (
  c.in_ok-joined.joined,
  refl,
  subst (IsSchedule c.args.states.now c.args.number) (sym c.in_ok-joined.ensures.same) c.in_ok-schedule.ensures,
  c.in_ok-joined.ensures.joined,
)
