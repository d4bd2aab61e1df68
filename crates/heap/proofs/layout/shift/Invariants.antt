use Rattle.std.proofs.Common.{◌≡◌, ◌++◌, ◌-◌, length, take, drop, map}
use Rattle.heap.specs.Layout.{later}
use Rattle.heap.proofs.layout.shift.Given as goal

-- those from here on are as they were, and moving them leads to what is wanted
abbrev pub invariant-entries : goal.invariant-entries
invariant-entries l = record {
  left : drop l.place l.table ≡ drop l.place l.fn.table;
  leads : take l.place l.table ++ map (later l.count) (drop l.place l.table) ≡ take l.first l.fn.table ++ map (later l.count) (drop l.first l.fn.table);
}

abbrev pub decreases-entries : goal.decreases-entries
decreases-entries l = length l.table - l.place
