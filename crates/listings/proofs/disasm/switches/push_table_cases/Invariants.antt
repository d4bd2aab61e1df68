use Rattle.std.proofs.Common.{◌≡◌, ◌++◌}
use Rattle.model.specs.Listing.{each_below, table_case}
use Rattle.listings.proofs.disasm.switches.push_table_cases.Given as goal

abbrev pub invariant-cases : goal.invariant-cases
invariant-cases l = l.text.items ≡ l.fn.text.items ++ each_below (table_case l.code l.pc l.low l.at) l.k
