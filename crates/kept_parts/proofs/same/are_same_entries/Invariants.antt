use Rattle.std.proofs.Common.{◌≡◌, take}
use Rattle.kept_parts.proofs.same.are_same_entries.Given as goal

abbrev pub invariant-entries : goal.invariant-entries
invariant-entries l = take l.place l.one ≡ take l.place l.other
