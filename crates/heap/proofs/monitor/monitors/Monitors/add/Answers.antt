use Rattle.std.proofs.Common.{ap}
use Rattle.heap.specs.lock_word.Words.{Word}
use Rattle.heap.proofs.monitor.Sound.{sound_pushed}
use Rattle.heap.proofs.monitor.monitors.Monitors.add.Goals as goal

pub invariant_of-self-2 : goal.invariant_of-self-2
invariant_of-self-2 c =
    rw c.in_ok-push.ensures.items (sound_pushed _ _ _ c.unlocked.result c.self.invariant
    (ap (λ (w : Word). w.lock) c.unlocked.ensures))
