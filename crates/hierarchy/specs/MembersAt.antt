-- Look-ups of members by the places of classes.
use Rattle.std.specs.Prelude.{◌≡◌, ◌∷◌, ℕ, List, Option, Some, None, Bool, true, false, slice_get, position}
use Rattle.std.specs.Option.{option_and_then, option_map, option_map_or}
use Rattle.model.specs.Names.{Name, Member}
use Rattle.model.specs.Tree.{FileTree, MethodTree}
use Rattle.model.specs.Classes.{Program, super_name_of, is_method, interfaces_above}
use Rattle.model.specs.Lookup.{is_field, first_found}
use Rattle.hierarchy.specs.Places.{class_at, place_of}
use Rattle.hierarchy.specs.declared.place.MemberPlace.{MemberPlace}
use Rattle.hierarchy.specs.declared.member_keys.MemberKey.{MemberKey}
use Rattle.hierarchy.specs.declared.member_keys.ClassKeys.{ClassKeys}
use Rattle.hierarchy.specs.MemberKeys.{key_sought, HasMemberKeys}

-- a member that is sought in a program
pub record SoughtIn : Type 0 where
  pub files : Program
  pub member : Member

abbrev pub sought_in : Program → Member → SoughtIn
sought_in files m = record { files = files; member = m }

-- ---- members that the class at a place declares

abbrev pub member_at : ℕ → ℕ → MemberPlace
member_at class member = record { class = class; member = member }

-- the place among its methods
abbrev pub method_place : Program → Member → ℕ → Option ℕ
method_place files m place = option_and_then (λ (file : FileTree). position (is_method file.pool m.name m.descriptor) file.methods) (class_at files place)

-- the place among its fields
abbrev pub field_place : Program → Member → ℕ → Option ℕ
field_place files m place = option_and_then (λ (file : FileTree). position (is_field file.pool m.name m.descriptor) file.fields) (class_at files place)

abbrev pub field_at : Program → Member → ℕ → Option MemberPlace
field_at files m place = option_map (member_at place) (field_place files m place)

abbrev pub where_wanted : Bool → MemberPlace → Option MemberPlace
where_wanted true place = Some place
where_wanted false place = None

-- the method of this name and descriptor, as is wanted, that a class declares, which stands at a place
abbrev pub method_here : (MethodTree → Bool) → Member → ℕ → FileTree → Option MemberPlace
method_here wanted m place file =
    option_and_then (λ i. where_wanted (option_map_or wanted (slice_get file.methods i) false) (member_at place i))
    (position (is_method file.pool m.name m.descriptor) file.methods)

abbrev pub method_at : Program → (MethodTree → Bool) → Member → ℕ → Option MemberPlace
method_at files wanted m place = option_and_then (method_here wanted m place) (class_at files place)

-- ---- the direct superclass

-- the place of the direct superclass of the class at a place; none where there is none, or it isn't found
abbrev pub superclass_place : Program → ℕ → Option ℕ
superclass_place files place = option_and_then (place_of files) (option_and_then super_name_of (class_at files place))

-- ---- a class with its superinterfaces, without those of its superclasses

abbrev pub first_near : (Name → Option Member) → Program → Name → Option Member
first_near found files class = first_found found (class ∷ interfaces_above files class)

-- ---- what is sought, by its key

pub record IsSought (files : Program) (texts : List Name) (classes : List ClassKeys) (m : Member) (key : MemberKey) : Type 0 where
  pub keyed : HasMemberKeys files texts classes
  pub numbered : key ≡ key_sought texts m
