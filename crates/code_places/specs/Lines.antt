-- The offsets of a method's code at which a line of the source begins (JVMS 4.7.12), where an instruction begins there, too.
use Rattle.std.specs.Prelude.{ℕ, ◌+◌, ◌*◌, ◌-◌, List, [], ◌∷◌, Option, Bool, false, ◌==◌, ◌&&◌, if◌then◌else◌, nat_lt, min, codes, get_or, length, slice_index_or}
use Rattle.std.specs.List.{flat_map}
use Rattle.model.specs.Names.{spells}
use Rattle.model.specs.Pool.{utf8_at}
use Rattle.model.specs.Rows.{counting}
use Rattle.model.specs.Tree.{Entry, SkippedTree}
use Rattle.std.specs.Prelude.{◌/◌}

-- an attribute of code is a LineNumberTable
abbrev pub is_line_table : List Entry → SkippedTree → Bool
is_line_table pool attribute = spells (utf8_at pool attribute.name) (codes "LineNumberTable")

-- the two bytes from an offset on as a number
abbrev pub number_at : List ℕ → ℕ → ℕ
number_at bytes at = get_or bytes at 0 * 256 + get_or bytes (at + 1) 0

-- how many whole entries the bytes of a table have, of as many as it says
abbrev pub line_count : List ℕ → ℕ
line_count table = if nat_lt (length table) 2 then 0 else min (number_at table 0) ((length table - 2) / 4)

-- an entry, which has an offset and a line, is of this line, and an instruction begins at the offset
abbrev pub begins_line : (starts : List Bool) (table : List ℕ) (line entry : ℕ) → Bool
begins_line starts table line entry = (number_at table (4 * entry + 4) == line) && slice_index_or starts (number_at table (4 * entry + 2)) false

-- its offset, where that is so
abbrev pub start_of : (starts : List Bool) (table : List ℕ) (line entry : ℕ) → List ℕ
start_of starts table line entry = if begins_line starts table line entry then number_at table (4 * entry + 2) ∷ [] else []

abbrev pub line_offsets : (starts : List Bool) (table : List ℕ) (line : ℕ) → List ℕ
line_offsets starts table line = flat_map (start_of starts table line) (counting 0 (line_count table))

-- those of all tables among attributes of code
abbrev pub offsets_of_line : (starts : List Bool) → List Entry → List SkippedTree → (line : ℕ) → List ℕ
offsets_of_line starts pool attributes line =
    flat_map (λ (a : SkippedTree). if is_line_table pool a then line_offsets starts a.bytes line else []) attributes
