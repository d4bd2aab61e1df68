use Rattle.std.proofs.Common.{◌≡◌, take}
use Rattle.place_runs.proofs.placing.are_same.Given as goal

-- the entries so far are the same
abbrev pub invariant-entries : goal.invariant-entries
invariant-entries l = take l.at l.one ≡ take l.at l.other
