use Rattle.std.proofs.Common.{◌≡◌, length}
use Rattle.method_tables.proofs.method_links.Telling.{Told}
use Rattle.method_tables.proofs.method_links.call_table.MethodCalls.new.Given as goal

abbrev pub invariant-loop-number : goal.invariant-loop-number
invariant-loop-number l = record {
  count : length l.calls.items ≡ l.number;
  said : Told l.set l.calls.items l.number;
}
