use Rattle.std.proofs.Common.{◌≡◌, ℕ, Some, arith}
use Rattle.schedule.proofs.schedule_text.LengthLaws.{same_number}
use Rattle.schedule.proofs.schedule_text.LimitLaws.{are_made}
use Rattle.schedule.proofs.schedule_text.recordings.limits.Goals as goal

pub returns-clause-only : goal.returns-clause-only
returns-clause-only c = λ l. λ rest. λ small. λ is.
    let objects = c.in_ok-objects.ensures.only l.objects _ (omega (arith, l.objects_fit)) is in
    let cells = c.in_ok-cells.ensures.only l.cells _ small objects.1 in
    let monitors = c.in_ok-monitors.ensures.only l.monitors _ (omega (arith, l.monitors_fit)) cells.1 in
    let threads = c.in_ok-threads.ensures.only l.threads _ (omega (arith, l.threads_fit.1)) monitors.1 in
    let frames = c.in_ok-frames.ensures.only l.frames _ (omega (arith, l.frames_fit.1)) threads.1 in
    let same : (k n : ℕ) → Some k ≡ Some n → k ≡ n = same_number in (
      are_made c.new.result c.in_ok-objects.objects c.in_ok-cells.cells c.in_ok-monitors.monitors c.in_ok-threads.threads c.in_ok-frames.frames l c.new.ensures.in_range c.new.ensures.kept
          (same _ _ objects.0) (same _ _ cells.0) (same _ _ monitors.0) (same _ _ threads.0) (same _ _ frames.0),
      frames.1,
    )
