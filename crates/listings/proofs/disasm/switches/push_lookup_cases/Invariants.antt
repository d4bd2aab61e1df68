use Rattle.std.proofs.Common.{◌≡◌, ◌++◌}
use Rattle.model.specs.Listing.{each_below, lookup_case}
use Rattle.listings.proofs.disasm.switches.push_lookup_cases.Given as goal

abbrev pub invariant-cases : goal.invariant-cases
invariant-cases l = l.text.items ≡ l.fn.text.items ++ each_below (lookup_case l.code l.pc l.at) l.k
