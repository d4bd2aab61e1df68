-- How 32 bits spell a lock (own): bit 31 is the shape. Of shape 0, bits 30 to 16 are the owner's number plus one, or
-- 0 where there is none, and bits 15 to 8 the entries less one; of shape 1, bits 30 to 8 are the number of the monitor.
-- Bits 7 to 0 are no part of the lock.
use Rattle.std.specs.Prelude.{ℕ, ◌+◌, ◌-◌, ◌*◌, ◌/◌, ◌%◌, ◌^◌, ◌<◌, ◌≤◌, ◌==◌, nat_lt, if◌then◌else◌}
use Rattle.model.specs.BuiltInNumbers.{most_threads}
use Rattle.heap.specs.declared.lock_word.lock.Lock.{Lock}
use Rattle.heap.specs.declared.lock_word.lock.Lock.TheVariants.{Unlocked, Thin, Fat}

-- a lock and the byte that stands beside it
pub record Word : Type 0 where
  pub lock : Lock
  pub low_byte : ℕ

abbrev pub thin_lock : (owner_field entries_field : ℕ) → Lock
thin_lock owner_field entries_field = if owner_field == 0 then Unlocked else Thin (owner_field - 1) (entries_field + 1)

abbrev pub lock_spelled : ℕ → Lock
lock_spelled bits =
    if nat_lt bits (2 ^ 31) then thin_lock (bits / 2 ^ 16) (bits / 2 ^ 8 % 2 ^ 8) else Fat (bits / 2 ^ 8 - 2 ^ 23)

abbrev pub word_spelled : ℕ → Word
word_spelled bits = record { lock = lock_spelled bits; low_byte = bits % 2 ^ 8 }

-- without an owner there are no entries
abbrev pub SpellsWord : ℕ → Type 0
SpellsWord bits = 2 ^ 8 ≤ bits → 2 ^ 16 ≤ bits

-- the lock's part of the bits
abbrev pub lock_bits : Lock → ℕ
lock_bits Unlocked = 0
lock_bits (Thin owner entries) = (owner + 1) * 2 ^ 16 + (entries - 1) * 2 ^ 8
lock_bits (Fat monitor) = (2 ^ 23 + monitor) * 2 ^ 8

abbrev pub bits_of : Word → ℕ
bits_of word = lock_bits word.lock + word.low_byte

-- a word has room for the lock: the owner is below 32,767 and entered 1 to 256 times, the monitor is below 8,388,608
abbrev pub HasRoomFor : Lock → Type 0
HasRoomFor Unlocked = Unit {0}
HasRoomFor (Thin owner entries) = (owner < most_threads) × (0 < entries) × (entries ≤ 256)
HasRoomFor (Fat monitor) = monitor < 2 ^ 23
