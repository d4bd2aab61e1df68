-- Accesses by where they stand, each as one number.
use Rattle.std.specs.Prelude.{ℕ, ◌+◌, ◌*◌, ◌/◌, ◌%◌, Bool, ◌==◌, if◌then◌else◌}
use Rattle.run_races.specs.declared.told_races.RaceAccess.{RaceAccess}

-- that of a read or a write at an offset of the method of a number
abbrev pub label_of : (method offset : ℕ) → (is_write : Bool) → ℕ
label_of method offset is_write = (method * 65536 + offset) * 2 + (if is_write then 1 else 0)

-- the access of a thread of which this is the number
abbrev pub access_of : (thread label : ℕ) → RaceAccess
access_of thread label = record { thread = thread; is_write = label % 2 == 1; method = label / 2 / 65536; offset = label / 2 % 65536 }
