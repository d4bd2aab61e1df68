-- Whether the byte at an offset is an opcode of the table, by its mnemonic.
use Rattle.std.specs.Prelude.{ℕ, ◌+◌, List, Option, Some, None, Bool, true, ◌==◌, is_some, slice_get, if◌then◌else◌}
use Rattle.std.specs.Option.{option_map_or}
use Rattle.model.specs.OpcodeTable.{mnemonic_of}
use Rattle.model.specs.Profile.{is_widened}

-- an opcode, by the byte behind it too where it is `wide`; what is cut off may be any
abbrev pub is_known : Option ℕ → Option ℕ → Bool
is_known None behind = true
is_known (Some opcode) behind = if opcode == 0xc4 then option_map_or is_widened behind true else is_some (mnemonic_of opcode)

abbrev pub is_known_at : List ℕ → ℕ → Bool
is_known_at code pc = is_known (slice_get code pc) (slice_get code (pc + 1))
