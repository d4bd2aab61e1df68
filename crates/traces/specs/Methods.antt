-- Methods by their numbers.
use Rattle.std.specs.Prelude.{◌≡◌, ℕ, List, [], Option, Some}
use Rattle.std.specs.Option.{option_map, option_map_or}
use Rattle.model.specs.Classes.{Program}
use Rattle.model.specs.Classes as classes
use Rattle.model.specs.Names.{Member}
use Rattle.hierarchy.specs.declared.place.MemberPlace.{MemberPlace}
use Rattle.linked_code.specs.Numbers.{IsMethodAt}
use Rattle.types.specs.declared.method_code.declaration.MethodCode.{MethodCode}
use Rattle.types.specs.method_code.View.{body_of}
use Rattle.method_tables.specs.method_links.Methods.{member_at}

-- the method of a number stands at this place
abbrev pub IsPlaceOf : Program → ℕ → MemberPlace → Type 0
IsPlaceOf trees number place = (method : Member) → IsMethodAt trees number method → member_at trees place ≡ Some method

-- the name of the method at a place
abbrev pub name_in : Program → MemberPlace → List ℕ
name_in trees place = option_map_or (λ (m : Member). m.name) (member_at trees place) []

-- this is the body of the method of a number, if it has code
abbrev pub IsBodyOf : Program → ℕ → Option MethodCode → Type 0
IsBodyOf trees number found = (method : Member) → IsMethodAt trees number method → classes.body_of trees method ≡ option_map body_of found
