use Rattle.std.proofs.Common.{◌≡◌, ℕ, ◌<◌, length, get_or, None}
use Rattle.method_tables.specs.method_links.Methods.{Names}
use Rattle.method_tables.specs.method_links.Named.{named_in}
use Rattle.method_tables.proofs.method_links.named.row_of.Given as goal

abbrev pub invariant-loop-index : goal.invariant-loop-index
invariant-loop-index l = record {
  count : length l.row.items ≡ l.index;
  said : (k : ℕ) → k < l.index → Names l.hierarchy (get_or l.row.items k None) (named_in l.hierarchy l.file.pool k);
}
