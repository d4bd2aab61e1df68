use Rattle.std.proofs.Common.{◌≡◌, drop}
use Rattle.library_files.specs.Offers.{is_among}
use Rattle.library_files.proofs.adding.is_among.Given as goal

abbrev pub invariant-loop-other : goal.invariant-loop-other
invariant-loop-other l = is_among l.places l.place ≡ is_among (drop l.other-index l.places) l.place
