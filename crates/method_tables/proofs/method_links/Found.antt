-- What look-ups by name find stands at a place, and is the method there.
use Rattle.std.proofs.Common.{◌≡◌, ℕ, ◌<◌, ◌≤◌, true, List, [], length, refl, ap, ◌∙◌, subst, arith, Option, Some, None}
use Rattle.std.specs.Prelude.{slice_get, position, find}
use Rattle.std.specs.Option.{option_and_then, option_map, option_map_or}
use Rattle.std.proofs.lemmas.Bool.{and_parts}
use Rattle.model.specs.Names.{Name, spells, Member}
use Rattle.model.specs.Tree.{Entry, FileTree, MethodTree}
use Rattle.model.specs.Spelling.{entry_at}
use Rattle.model.specs.Pool.{utf8_of}
use Rattle.model.specs.Conditions.{text_at}
use Rattle.model.specs.Classes.{Program, name_of, is_method}
use Rattle.model.specs.Lookup.{in_class}
use Rattle.hierarchy.specs.Places.{class_at, member_in, IsMethodAt}
use Rattle.hierarchy.specs.declared.place.MemberPlace.{MemberPlace}
use Rattle.hierarchy.proofs.Finding.{find_by_position, position_within, find_passes}
use Rattle.method_tables.specs.method_links.Methods.{member_of, member_at, Names}
use Rattle.method_tables.proofs.method_links.Lists.{get_within}
use Rattle.run_laws.proofs.laws.Homes.{spelled}

text_is : (pool : List Entry) (index : ℕ) (name : Name) → spells (utf8_of (entry_at pool index)) name ≡ true → text_at pool index ≡ name
text_is pool index name h = spelled (entry_at pool index) name h

-- a method of this name and descriptor is this member of its class
pub same_member : (file : FileTree) (m : Member) (tree : MethodTree) → is_method file.pool m.name m.descriptor tree ≡ true
    → member_of file tree ≡ in_class (name_of file) m
same_member file m tree h =
    let parts = and_parts (spells (utf8_of (entry_at file.pool tree.name)) m.name) _ h in
    rw (text_is file.pool tree.name m.name parts.0, text_is file.pool tree.descriptor m.descriptor parts.1) refl

at_position : (file : FileTree) (m : Member) (k : ℕ) (o : Option MethodTree)
    → position (is_method file.pool m.name m.descriptor) file.methods ≡ Some k → slice_get file.methods k ≡ o
    → option_map (member_of file) o ≡ Some (in_class (name_of file) m)
at_position file m k None p s =
    let lt = position_within (is_method file.pool m.name m.descriptor) file.methods k p in
    let le = get_within file.methods k s in
    absurd (no (length file.methods) lt le)
  where
    no : (n : ℕ) → k < n → n ≤ k → ⊥
    no n lt le = omega (arith, lt, le)
at_position file m k (Some tree) p s =
    let test = is_method file.pool m.name m.descriptor in
    let found : find test file.methods ≡ Some tree = find_by_position test file.methods ∙ ap (option_and_then (slice_get file.methods)) p ∙ s in
    ap (λ x. Some x) (same_member file m tree (find_passes test file.methods tree found))

pub place_names : (files : Program) (m : Member) (place : MemberPlace) → IsMethodAt files m place
    → member_at files place ≡ Some (member_in files m place)
place_names files m place h = by (class_at files place.class) refl h
  where
    by : (o : Option FileTree) → class_at files place.class ≡ o
        → option_and_then (λ (file : FileTree). position (is_method file.pool m.name m.descriptor) file.methods) o ≡ Some place.member
        → option_and_then (λ (file : FileTree). option_map (member_of file) (slice_get file.methods place.member)) o
        ≡ Some (in_class (option_map_or name_of o []) m)
    by None e h = absurd cc
    by (Some file) e h = at_position file m place.member (slice_get file.methods place.member) h refl

-- the number of the place where a look-up found a method
pub found_named : (files : Program) (m : Member) (place : MemberPlace) (number : Option ℕ) (found : Option Member)
    → Some (member_in files m place) ≡ found → IsMethodAt files m place → Names files number (member_at files place)
    → Names files number found
found_named files m place number found is at named = subst (Names files number) (place_names files m place at ∙ is) named
