use Rattle.std.proofs.Common.{◌≡◌, take}
use Rattle.linked_code.specs.Numbers.{methods_of}
use Rattle.place_texts.specs.Places.{place_of}
use Rattle.code_places.specs.Points.{points_from}
use Rattle.code_places.proofs.points.points_of.Given as goal

-- those of the methods so far
abbrev pub invariant-methods : goal.invariant-methods
invariant-methods l = l.points.items ≡ points_from l.linked (place_of l.place) 0 (take l.number (methods_of l.linked))
