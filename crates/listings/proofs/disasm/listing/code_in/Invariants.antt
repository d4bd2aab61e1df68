use Rattle.std.proofs.Common.{◌≡◌, length, map}
use Rattle.model.specs.Classes.{code_in}
use Rattle.classfile.specs.View.{method_part_of}
use Rattle.listings.proofs.disasm.listing.code_in.Given as goal

abbrev pub invariant-attributes : goal.invariant-attributes
invariant-attributes l = code_in (map method_part_of l.rest) ≡ code_in (map method_part_of l.fn.method.attributes.items)

abbrev pub decreases-attributes : goal.decreases-attributes
decreases-attributes l = length l.rest
