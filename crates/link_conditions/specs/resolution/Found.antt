-- What is found, by its place in a set of classes.
use Rattle.std.specs.Prelude.{◌≡◌, Option, Some, None, option_map, IfSome}
use Rattle.model.specs.Names.{Member}
use Rattle.model.specs.Classes.{Program}
use Rattle.hierarchy.specs.declared.place.MemberPlace.{MemberPlace}
use Rattle.hierarchy.specs.Places.{member_in, IsFieldAt, IsMethodAt}

-- A field is named, or none; the one that is found of its name and descriptor stands at the place.
abbrev pub FindsField : Program → Option Member → Option Member → Option MemberPlace → Type 0
FindsField files None found place = place ≡ None
FindsField files (Some m) found place = (option_map (member_in files m) place ≡ found) × IfSome place (IsFieldAt files m)

-- the same of a method
abbrev pub FindsMethod : Program → Option Member → Option Member → Option MemberPlace → Type 0
FindsMethod files None found place = place ≡ None
FindsMethod files (Some m) found place = (option_map (member_in files m) place ≡ found) × IfSome place (IsMethodAt files m)
