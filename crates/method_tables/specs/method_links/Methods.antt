-- The methods of a program by their numbers: class by class, those of the built-in classes first, in the order in which each
-- class declares them.
use Rattle.std.specs.Prelude.{◌≡◌, ℕ, List, Option, Some, map, option_map, slice_get}
use Rattle.std.specs.Option.{option_and_then}
use Rattle.std.specs.List.{flat_map}
use Rattle.model.specs.Names.{Member}
use Rattle.model.specs.Tree.{FileTree, MethodTree}
use Rattle.model.specs.Conditions.{text_at}
use Rattle.model.specs.Classes.{Program, name_of, classes_of}
use Rattle.hierarchy.specs.Places.{class_at}
use Rattle.hierarchy.specs.declared.place.MemberPlace.{MemberPlace}

-- a method by the class that declares it
abbrev pub member_of : FileTree → MethodTree → Member
member_of file m = record { class = name_of file; name = text_at file.pool m.name; descriptor = text_at file.pool m.descriptor }

abbrev pub members_of : FileTree → List Member
members_of file = map (member_of file) file.methods

-- the method of number n stands at place n
unfoldable pub methods_of : Program → List Member
methods_of files = flat_map members_of (classes_of files)

-- a number is that of a method, or there is neither
abbrev pub Names : Program → Option ℕ → Option Member → Type 0
Names files number method = option_map (slice_get (methods_of files)) number ≡ option_map (λ m. Some m) method

-- the method at a place
abbrev pub member_at : Program → MemberPlace → Option Member
member_at files place = option_and_then (λ (file : FileTree). option_map (member_of file) (slice_get file.methods place.member)) (class_at files place.class)
