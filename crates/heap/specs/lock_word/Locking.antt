-- Entering and leaving by the lock alone (JLS 17.1); what a fat lock makes of it is its monitor's.
use Rattle.std.specs.Prelude.{ℕ, ◌+◌, ◌-◌, ◌==◌, ◌&&◌, nat_lt, Option, Some, None, if◌then◌else◌}
use Rattle.heap.specs.declared.lock_word.lock.Lock.{Lock}
use Rattle.heap.specs.declared.lock_word.lock.Lock.TheVariants.{Unlocked, Thin, Fat}
use Rattle.heap.specs.declared.lock_word.lock.TryEnter.{TryEnter}
use Rattle.heap.specs.declared.lock_word.lock.TryEnter.TheVariants as enter
use Rattle.heap.specs.declared.lock_word.lock.TryExit.{TryExit}
use Rattle.heap.specs.declared.lock_word.lock.TryExit.TheVariants as exit

-- the owner that the lock names
abbrev pub owner_of : Lock → Option ℕ
owner_of (Thin owner entries) = Some owner
owner_of _ = None

-- how many entries of its owner the lock counts
abbrev pub entries_of : Lock → ℕ
entries_of (Thin owner entries) = entries
entries_of _ = 0

-- the most entries that a thin lock counts (own)
abbrev pub most_entries : ℕ
most_entries = 256

-- a thread that owns nothing or this lock enters, as long as the lock can count it
abbrev pub entering : ℕ → Lock → TryEnter
entering thread Unlocked = enter.Entered
entering thread (Thin owner entries) =
    if owner == thread then (if nat_lt entries most_entries then enter.Entered else enter.Full) else enter.Held
entering thread (Fat monitor) = enter.Fat monitor

abbrev pub lock_entered : ℕ → Lock → Lock
lock_entered thread Unlocked = Thin thread 1
lock_entered thread (Thin owner entries) =
    if (owner == thread) && nat_lt entries most_entries then Thin owner (entries + 1) else Thin owner entries
lock_entered thread (Fat monitor) = Fat monitor

-- the owner leaves
abbrev pub leaving : ℕ → Lock → TryExit
leaving thread Unlocked = exit.NotOwner
leaving thread (Thin owner entries) = if owner == thread then exit.Left else exit.NotOwner
leaving thread (Fat monitor) = exit.Fat monitor

abbrev pub lock_left : ℕ → Lock → Lock
lock_left thread Unlocked = Unlocked
lock_left thread (Thin owner entries) =
    if owner == thread then (if nat_lt 1 entries then Thin owner (entries - 1) else Unlocked) else Thin owner entries
lock_left thread (Fat monitor) = Fat monitor
