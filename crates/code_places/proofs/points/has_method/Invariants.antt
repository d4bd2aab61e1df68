use Rattle.std.proofs.Common.{◌≡◌, false, take}
use Rattle.std.specs.List.{list_any}
use Rattle.linked_code.specs.Numbers.{methods_of}
use Rattle.place_texts.specs.Places.{place_of}
use Rattle.code_places.specs.Points.{has_code}
use Rattle.code_places.proofs.points.has_method.Given as goal

-- none of the methods so far
abbrev pub invariant-methods : goal.invariant-methods
invariant-methods l = list_any (has_code l.linked (place_of l.place)) (take l.number (methods_of l.linked)) ≡ false
