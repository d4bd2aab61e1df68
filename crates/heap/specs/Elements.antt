-- What an array keeps of an int that is stored in it (JVMS 6.5, bastore, castore, iastore, sastore; 2.3.4).
use Rattle.std.specs.Prelude.{ℕ, ◌%◌}
use Rattle.model.specs.declared.instr.Conversion.TheVariants.{ToByte, ToChar, ToShort}
use Rattle.model.specs.Ints.{converted}
use Rattle.heap.specs.declared.kind.NarrowKind.{NarrowKind}
use Rattle.heap.specs.declared.kind.NarrowKind.TheVariants.{Boolean, Char, Byte, Short}
use Rattle.heap.specs.declared.kind.ObjectKind.{ObjectKind}
use Rattle.heap.specs.declared.kind.ObjectKind.TheVariants.{Instance, Ints, References, Narrow}

-- what is loaded again, by its 32 bits: of a boolean the lowest bit (own); the low 8 or 16 bits, for a byte and a short
-- with their sign and for a char without one
abbrev pub kept : NarrowKind → ℕ → ℕ
kept Boolean word = word % 2
kept Char word = converted ToChar word
kept Byte word = converted ToByte word
kept Short word = converted ToShort word

-- the other elements, and fields, keep the whole word
abbrev pub stored : ObjectKind → ℕ → ℕ
stored (Instance class) word = word
stored Ints word = word
stored (References of) word = word
stored (Narrow kind) word = kept kind word
