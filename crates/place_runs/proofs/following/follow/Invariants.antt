use Rattle.std.proofs.Common.{take}
use Rattle.place_texts.specs.Places.{deeds_of}
use Rattle.place_runs.proofs.Words.{Passed}
use Rattle.place_runs.proofs.following.follow.Given as goal

-- the words so far were done whole
abbrev pub invariant-deeds : goal.invariant-deeds
invariant-deeds l = Passed (deeds_of (take l.placed-index l.deeds)) l.budget l.fn.world l.world
