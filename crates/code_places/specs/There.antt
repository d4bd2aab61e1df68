-- What of a place isn't there (own).
use Rattle.std.specs.Prelude.{◌≡◌, ℕ, List, [], Option, Some, None, false, codes}
use Rattle.std.specs.List.{list_any}
use Rattle.model.specs.Classes.{Program, class_of}
use Rattle.linked_code.specs.Numbers.{methods_of}
use Rattle.place_texts.specs.declared.place.Position.{Position}
use Rattle.place_texts.specs.declared.place.Position.TheVariants as position
use Rattle.place_texts.specs.Places.{PlaceOf}
use Rattle.code_places.specs.declared.there.PlaceFault.{PlaceFault}
use Rattle.code_places.specs.declared.there.PlaceFault.TheVariants as faults
use Rattle.code_places.specs.Points.{all_points, has_code}

abbrev pub place_fault_name : PlaceFault → List ℕ
place_fault_name faults.Class = codes "Class"
place_fault_name faults.Method = codes "Method"
place_fault_name faults.Line = codes "Line"
place_fault_name faults.Offset = codes "Offset"

abbrev pub IsLine : Position → Type 0
IsLine (position.Line n) = Unit {0}
IsLine (position.Offset n) = ⊥

abbrev pub IsOffset : Position → Type 0
IsOffset (position.Line n) = ⊥
IsOffset (position.Offset n) = Unit {0}

-- it stands for a point; or there is no such class, or no such method with code in any class, or no point
abbrev pub Misses : Program → PlaceOf → Option PlaceFault → Type 0
Misses trees place None = all_points trees place ≡ [] → ⊥
Misses trees place (Some faults.Class) = class_of trees place.class ≡ None
Misses trees place (Some faults.Method) = list_any (has_code trees place) (methods_of trees) ≡ false
Misses trees place (Some faults.Line) = (all_points trees place ≡ []) × IsLine place.position
Misses trees place (Some faults.Offset) = (all_points trees place ≡ []) × IsOffset place.position
