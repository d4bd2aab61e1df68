use Rattle.std.proofs.Common.{◌∙◌, ◌++◌, take}
use Rattle.engines.proofs.DeviceLemmas.{front_on, tail_cut}
use Rattle.engines.proofs.device.CountedSink.write_all.Goals as goal

pub rest-preserved : goal.rest-preserved
rest-preserved g c =
    let rest = c.rest.rest.now in
    let written = c.in_ok-written.written in
    let front = c.rest.invariant.0 in
    let on = front_on _ _ _ _ front _ written c.rest.invariant.1 c.rest.invariant.2 c.in_ok-written.ensures.written in
    rw (tail_cut written rest) (front ++ take written rest, on.0, on.1, c.in_ok-written.ensures.counted ∙ c.rest.invariant.3)
