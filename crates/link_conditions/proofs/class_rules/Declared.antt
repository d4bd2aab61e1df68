-- The method that a class declares, by its place.
use Rattle.std.proofs.Common.{◌≡◌, Bool, true, false, refl, ap, ◌∙◌, Option, Some, None}
use Rattle.std.specs.Prelude.{slice_get}
use Rattle.std.specs.Option.{option_map_or}
use Rattle.model.specs.Names.{Member}
use Rattle.model.specs.Tree.{FileTree, MethodTree}
use Rattle.model.specs.Classes.{Program}
use Rattle.model.specs.Lookup.{method_of, method_in_class, any_method, where_so}
use Rattle.model.specs.Linkable.{stands, DuplicateClass}
use Rattle.hierarchy.specs.declared.place.MemberPlace.{MemberPlace}
use Rattle.hierarchy.specs.Places.{class_at, member_in, IsMethodAt}
use Rattle.hierarchy.proofs.Apart.{method_there}

-- ---- methods

pub none_declared : (files : Program) (m : Member) → method_in_class files any_method m m.class ≡ None → method_of files m ≡ None
none_declared files m h = by (method_of files m) h
  where
    by : (o : Option MethodTree) → where_so (option_map_or any_method o false) m ≡ None → o ≡ None
    by None h = refl
    by (Some x) h = absurd cc

declared_by : (files : Program) (m found : Member) → method_in_class files any_method m m.class ≡ Some found → found ≡ m
declared_by files m found h = by (option_map_or any_method (method_of files m) false) h
  where
    by : (b : Bool) → where_so b m ≡ Some found → found ≡ m
    by true h = cc
    by false h = absurd cc

-- the method at the place is the one that the class declares
pub declared_at : (files : Program) (m : Member) (p : MemberPlace) (file : FileTree) → stands files DuplicateClass ≡ false
    → method_in_class files any_method m m.class ≡ Some (member_in files m p) → IsMethodAt files m p → class_at files p.class ≡ Some file
    → slice_get file.methods p.member ≡ method_of files m
declared_at files m p file differ declared at class =
    method_there files m p file differ class at ∙ ap (method_of files) (declared_by files m (member_in files m p) declared)
