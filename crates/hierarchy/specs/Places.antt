-- The classes and members that places stand for. Classes are counted from the built-in ones on, then the files in their order;
-- members from the first that their class declares.
use Rattle.std.specs.Prelude.{◌≡◌, ℕ, [], Option, Some, slice_get, position}
use Rattle.std.specs.Option.{option_and_then, option_map_or}
use Rattle.model.specs.Tree.{FileTree}
use Rattle.model.specs.Names.{Name, Member}
use Rattle.model.specs.Classes.{Program, name_of, classes_of, is_named, is_method}
use Rattle.model.specs.Lookup.{is_field, in_class}
use Rattle.hierarchy.specs.declared.place.MemberPlace.{MemberPlace}

abbrev pub class_at : Program → ℕ → Option FileTree
class_at files place = slice_get (classes_of files) place

-- the place of the class of a name
abbrev pub place_of : Program → Name → Option ℕ
place_of files name = position (is_named name) (classes_of files)

abbrev pub name_at : Program → ℕ → Name
name_at files place = option_map_or name_of (class_at files place) []

-- the member of this name and descriptor in the class at a place
abbrev pub member_in : Program → Member → MemberPlace → Member
member_in files m place = in_class (name_at files place.class) m

-- the field of this name and descriptor stands there
abbrev pub IsFieldAt : Program → Member → MemberPlace → Type 0
IsFieldAt files m place = option_and_then (λ (file : FileTree). position (is_field file.pool m.name m.descriptor) file.fields) (class_at files place.class) ≡ Some place.member

-- the method of this name and descriptor stands there
abbrev pub IsMethodAt : Program → Member → MemberPlace → Type 0
IsMethodAt files m place = option_and_then (λ (file : FileTree). position (is_method file.pool m.name m.descriptor) file.methods) (class_at files place.class) ≡ Some place.member
