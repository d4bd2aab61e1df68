use Rattle.std.proofs.Common.{◌≡◌, ◌++◌, drop, map}
use Rattle.hierarchy.specs.Places.{place_of}
use Rattle.hierarchy.proofs.name_table.NameTable.places.Given as goal

abbrev pub invariant-loop-number : goal.invariant-loop-number
invariant-loop-number l = l.places.items ++ map (place_of l.set) (drop l.number l.self) ≡ map (place_of l.set) l.self
