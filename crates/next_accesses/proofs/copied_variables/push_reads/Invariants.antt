use Rattle.std.proofs.Common.{◌≡◌, ◌++◌, map, take}
use Rattle.next_accesses.specs.copied_variables.Copied.{field_read}
use Rattle.next_accesses.proofs.copied_variables.push_reads.Given as goal

-- those so far
abbrev pub invariant-fields : goal.invariant-fields
invariant-fields l = l.found.items ≡ l.initial.found.items ++ map (field_read l.object) (take l.at l.fields)
