-- Wait sets: how many threads there are stays as it was, and what becomes of a thread that waits.
use Rattle.std.proofs.Common.{◌≡◌, ℕ, List, [], ◌∷◌, length, Option, Some, None, refl, ◌∙◌}
use Rattle.std.proofs.lemmas.List.{length-set}
use Rattle.model.specs.State.{Waiter, WakeCause, ThreadStatus, Running, Waiting, Relock, Ended, WorldOf}
use Rattle.model.specs.Worlds.{woken, all_woken}
use Rattle.model.specs.BuiltInMethods.{notified_one, waiting, interrupted_in}

-- so many threads
abbrev pub count : WorldOf ℕ → ℕ
count world = length world.threads

pub one_woken : (object : ℕ) (world : WorldOf ℕ) (waiter : Option Waiter) → count (notified_one world object waiter) ≡ count world
one_woken object world None = refl
one_woken object world (Some waiter) = length-set world.threads waiter.thread _

pub all_are_woken : (object : ℕ) (cause : WakeCause) (waiters : List Waiter) (world : WorldOf ℕ)
    → count (all_woken object cause world waiters) ≡ count world
all_are_woken object cause [] world = refl
all_are_woken object cause (waiter ∷ waiters) world = all_are_woken object cause waiters (woken object cause world waiter) ∙ length-set world.threads waiter.thread _

pub one_waits : (world : WorldOf ℕ) (t object : ℕ) → count (waiting world t object) ≡ count world
one_waits world t object = length-set world.threads t _

pub one_interrupted : (world : WorldOf ℕ) (t : ℕ) (status : ThreadStatus) → count (interrupted_in world t status) ≡ count world
one_interrupted world t Running = length-set world.threads t _
one_interrupted world t (Waiting object count) = length-set _ t _ ∙ length-set world.threads t _
one_interrupted world t (Relock object count cause) = length-set world.threads t _
one_interrupted world t (Ended exception) = refl
