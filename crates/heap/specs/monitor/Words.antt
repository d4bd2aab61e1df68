-- How lock words and the records of fat locks show monitors. No public clause cites this module.
use Rattle.std.specs.Prelude.{◌≡◌, ℕ, ◌<◌, ◌≤◌, List, length, [], map, Some, Bool, true, false, slice_index_or}
use Rattle.std.specs.Prelude.{count_by}
use Rattle.heap.specs.declared.lock_word.lock.Lock.{Lock}
use Rattle.heap.specs.declared.lock_word.lock.Lock.TheVariants.{Unlocked, Thin, Fat}
use Rattle.heap.specs.lock_word.Words.{Word}
use Rattle.model.specs.State.{Monitor}
use Rattle.model.specs.Monitors.{unlocked, monitor_at}
use Rattle.heap.specs.monitor.Locks.{Locks}

-- a thin lock is the monitor of an object without waiters; that of a fat one stands in the table
abbrev pub monitor_of : List Monitor → Lock → Monitor
monitor_of table Unlocked = unlocked
monitor_of table (Thin owner entries) = record { owner = Some owner; count = entries; waiters = [] }
monitor_of table (Fat index) = monitor_at table index

abbrev pub is_fat_lock : Lock → Bool
is_fat_lock (Fat index) = true
is_fat_lock lock = false

abbrev pub is_fat_word : Word → Bool
is_fat_word word = is_fat_lock word.lock

abbrev pub monitors_of : List Monitor → List Word → List Monitor
monitors_of table words = map (λ (word : Word). monitor_of table word.lock) words

-- the lock of an object
abbrev pub lock_at : List Word → ℕ → Lock
lock_at words object = (slice_index_or words object (record { lock = Unlocked; low_byte = 0 })).lock

-- each fat lock has a record of its own in the table, which has no others, and no more than the limit says
pub record AreSound (table : List Monitor) (words : List Word) (limit : ℕ) : Type 0 where
  pub there : (object index : ℕ) → lock_at words object ≡ Fat index → index < length table
  pub once : (object other index : ℕ) → lock_at words object ≡ Fat index → lock_at words other ≡ Fat index
      → object ≡ other
  pub counted : count_by is_fat_word words ≡ length table
  pub limited : length table ≤ limit
  pub limit_fits : limit ≤ 8388608

-- what the words and the table show
abbrev pub locks_of : List Monitor → List Word → ℕ → Locks
locks_of table words limit = record { monitors = monitors_of table words; fat = map is_fat_word words; limit = limit }
