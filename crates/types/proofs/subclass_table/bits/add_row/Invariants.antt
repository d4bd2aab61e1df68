use Rattle.std.proofs.Common.{◌≡◌, ℕ, ◌<◌, ◌≤◌, length, get_or, bit_or}
use Rattle.types.proofs.subclass_table.bits.add_row.Given as goal

abbrev pub invariant-loop-place : goal.invariant-loop-place
invariant-loop-place l = record {
  wide : length l.row.items ≡ length l.initial.row.items;
  done : (k : ℕ) → k < l.place → get_or l.row.items k 0 ≡ bit_or (get_or l.initial.row.items k 0) (get_or l.other k 0);
  rest : (k : ℕ) → l.place ≤ k → get_or l.row.items k 0 ≡ get_or l.initial.row.items k 0;
}
