use Rattle.std.proofs.Common.{◌≡◌, ◌++◌, take}
use Rattle.std.specs.List.{flat_map}
use Rattle.listings.specs.printed_names.Printed.{printed_byte}
use Rattle.listings.proofs.printed_names.printed.push_printed.Given as goal

abbrev pub invariant-bytes : goal.invariant-bytes
invariant-bytes l = l.text.items ≡ l.fn.text.items ++ flat_map printed_byte (take l.byte-index l.name)
