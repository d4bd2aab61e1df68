-- The initialiser of a class, where the class declares one that has code.
use Rattle.std.proofs.Common.{◌≡◌, ℕ, [], Bool, true, false, refl, sym, ap, ◌∙◌, Option, Some, None}
use Rattle.std.specs.Prelude.{slice_get, position, is_some, option_map, IsSomeAnd}
use Rattle.std.specs.Option.{option_and_then, option_map_or}
use Rattle.std.proofs.lemmas.Bool.{true≢false}
use Rattle.model.specs.Names.{Member, initialiser_of}
use Rattle.model.specs.Tree.{FileTree, MethodTree, CodeTree}
use Rattle.model.specs.Classes.{Program, Body, name_of, class_of, declared_in, code_in, is_method, with_pool, body_in, body_of}
use Rattle.model.specs.Lookup.{method_of, any_method, in_class, where_so, method_in_class}
use Rattle.linker.specs.Linking.{IsLinked}
use Rattle.hierarchy.specs.declared.place.MemberPlace.{MemberPlace}
use Rattle.hierarchy.specs.Places as places
use Rattle.hierarchy.specs.Places.{class_at, name_at, member_in}
use Rattle.hierarchy.proofs.Finding.{find_by_position}
use Rattle.linker.proofs.field_links.OwnNames.{class_is}
use Rattle.method_tables.specs.method_links.Methods.{member_at}
use Rattle.method_tables.proofs.method_links.Found.{place_names}
use Rattle.linked_code.specs.Numbers.{IsMethodAt}
use Rattle.linked_code.specs.ClassRows.{IsInitialiser}

module _ (files : Program) (linked : IsLinked files) (class : ℕ) (file : FileTree) (at : class_at files class ≡ Some file) where
  abbrev named : Member
  named = initialiser_of (name_of file)

  its_class : class_of files (name_of file) ≡ Some file
  its_class = class_is files linked class file at

  body_by : (o : Option MethodTree) → declared_in file named.name named.descriptor ≡ o
      → body_of files named ≡ option_map (with_pool file.pool) (option_and_then (λ (m : MethodTree). code_in m.parts) o)
  body_by o d =
      ap (option_and_then (body_in named.name named.descriptor)) its_class
      ∙ ap (λ o. option_map (with_pool file.pool) (option_and_then (λ (m : MethodTree). code_in m.parts) o)) d

  -- it isn't declared
  pub none_declared : None ≡ method_in_class files any_method named (name_of file) → body_of files named ≡ None
  none_declared e = by (declared_in file named.name named.descriptor) refl
    where
      by : (o : Option MethodTree) → declared_in file named.name named.descriptor ≡ o → body_of files named ≡ None
      by None d = body_by None d
      by (Some tree) d =
          let found : method_of files named ≡ Some tree = ap (option_and_then (λ (f : FileTree). declared_in f named.name named.descriptor)) its_class ∙ d in
          absurd (let q : None ≡ Some named = e ∙ ap (λ (o : Option MethodTree). where_so (option_map_or any_method o false) named) found in cc)

  -- ---- it is declared at a place

  module _ (place : MemberPlace) (found : Some (member_in files named place) ≡ method_in_class files any_method named (name_of file)) (stands : places.IsMethodAt files named place) where
    is_named : member_in files named place ≡ named
    is_named = by (option_map_or any_method (method_of files named) false) found
      where
        by : (b : Bool) → Some (member_in files named place) ≡ where_so b named → member_in files named place ≡ named
        by true e = cc
        by false e = absurd cc

    pub member_is : member_at files place ≡ Some named
    member_is = place_names files named place stands ∙ ap (λ (m : Member). Some m) is_named

    class_is_its : class_at files place.class ≡ Some file
    class_is_its = by (class_at files place.class) refl stands is_named
      where
        by : (o : Option FileTree) → class_at files place.class ≡ o
            → option_and_then (λ (f : FileTree). position (is_method f.pool named.name named.descriptor) f.methods) o ≡ Some place.member
            → in_class (option_map_or name_of o []) named ≡ named → class_at files place.class ≡ Some file
        by None c p n = absurd cc
        by (Some f) c p n =
            let same : name_of f ≡ name_of file = ap (λ (m : Member). m.class) n in
            c ∙ sym (class_is files linked place.class f c) ∙ ap (class_of files) same ∙ its_class

    position_is : position (is_method file.pool named.name named.descriptor) file.methods ≡ Some place.member
    position_is = ap (option_and_then (λ (f : FileTree). position (is_method f.pool named.name named.descriptor) f.methods)) (sym class_is_its) ∙ stands

    body_is : body_of files named ≡ option_map (with_pool file.pool)
        (option_and_then (λ (m : MethodTree). code_in m.parts) (slice_get file.methods place.member))
    body_is = body_by (slice_get file.methods place.member) (find_by_position (is_method file.pool named.name named.descriptor) file.methods ∙ ap (option_and_then (slice_get file.methods)) position_is)

    abbrev coded : Option MethodTree → Bool
    coded o = option_map_or (λ (m : MethodTree). is_some (code_in m.parts)) o false

    same_code : (o : Option MethodTree) → is_some
        (option_map (with_pool file.pool) (option_and_then (λ (m : MethodTree). code_in m.parts) o)) ≡ coded o
    same_code None = refl
    same_code (Some m) = by (code_in m.parts)
      where
        by : (c : Option CodeTree) → is_some (option_map (with_pool file.pool) c) ≡ is_some c
        by None = refl
        by (Some c) = refl

    pub has_body : is_some (body_of files named) ≡ coded (slice_get file.methods place.member)
    has_body = ap (λ o. is_some o) body_is ∙ same_code (slice_get file.methods place.member)

    pub no_body : coded (slice_get file.methods place.member) ≡ false → body_of files named ≡ None
    no_body h = by (body_of files named) (has_body ∙ h)
      where
        by : (o : Option Body) → is_some o ≡ false → o ≡ None
        by None e = refl
        by (Some b) e = absurd (true≢false e)

    pub initialised : (number : Option ℕ) → IsSomeAnd number (λ n. IsMethodAt files n named)
        → coded (slice_get file.methods place.member) ≡ true → IsInitialiser files (name_of file) number
    initialised None n h = absurd n
    initialised (Some number) n h = (has_body ∙ h, n)
