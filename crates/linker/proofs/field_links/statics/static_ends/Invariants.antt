use Rattle.std.proofs.Common.{◌≡◌, ◌+◌, ◌++◌, drop, length, flat_map}
use Rattle.model.specs.Opening.{static_fields_in, static_fields}
use Rattle.linker.specs.field_links.Slots.{static_ends}
use Rattle.linker.proofs.field_links.statics.static_ends.Given as goal

abbrev pub invariant-loop-number : goal.invariant-loop-number
invariant-loop-number l = record {
  ends : l.ends.items ++ static_ends l.end (drop l.number l.set) ≡ static_ends 0 l.set;
  total : l.end + length (flat_map static_fields_in (drop l.number l.set)) ≡ length (static_fields l.set);
}
