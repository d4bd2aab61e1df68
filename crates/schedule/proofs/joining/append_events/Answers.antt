use Rattle.std.proofs.Common.{arith, subst, sym}
use Rattle.schedule.specs.Joined.{AreRuns}
use Rattle.schedule.proofs.JoinedEntries.{runs_push}
use Rattle.schedule.proofs.joining.append_events.Goals as goal

pub returns-then-left-gt0-clause-runs : goal.returns-then-left-gt0-clause-runs
returns-then-left-gt0-clause-runs c =
    subst AreRuns (sym c.push_reserved.ensures.items)
    (runs_push c.lengthen-left.new.entries.items (record { event = c.args.event; repeat = c.lengthen-left.result }) c.lengthen-left.ensures.runs
    (record {
      thread = omega arith;
      pick = omega arith;
      repeat = (omega (arith, c.if-left-gt0.true), omega (arith, c.lengthen-left.ensures.few, c.ranges.count.fits));
      alone = λ more. c.requires.alone (omega (arith, more, c.lengthen-left.ensures.few));
    })
    (c.lengthen-left.ensures.apart c.if-left-gt0.true))
