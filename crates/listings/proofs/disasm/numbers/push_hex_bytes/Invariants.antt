use Rattle.std.proofs.Common.{◌≡◌, ◌++◌, take}
use Rattle.std.specs.List.{flat_map}
use Rattle.model.specs.Listing.{hex_byte}
use Rattle.listings.proofs.disasm.numbers.push_hex_bytes.Given as goal

abbrev pub invariant-bytes : goal.invariant-bytes
invariant-bytes l = l.text.items ≡ l.fn.text.items ++ flat_map hex_byte (take l.byte-index l.bytes)
