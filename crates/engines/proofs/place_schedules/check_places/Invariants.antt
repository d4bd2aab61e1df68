use Rattle.std.proofs.Common.{take}
use Rattle.place_texts.specs.Places.{deeds_of}
use Rattle.engines.specs.GivenPlaces.{AreThere}
use Rattle.engines.proofs.place_schedules.check_places.Given as goal

-- the places so far are there
abbrev pub invariant-deeds : goal.invariant-deeds
invariant-deeds l = AreThere l.linked (deeds_of (take l.placed-index l.deeds))
