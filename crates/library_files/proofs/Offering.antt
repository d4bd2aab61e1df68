-- What a library offers, and the places of what is needed.
use Rattle.std.proofs.Common.{◌≡◌, ◌⊎◌, ◌∙◌, ℕ, zero, suc, ◌+◌, ◌<◌, ◌≤◌, List, [], ◌∷◌, ◌++◌, length, get_or, ltb, map, take, Bool, true, false, cond, ◌||◌, not, Option, Some, None, refl, sym, ap, subst, inl, inr, ⊎_elim, arith, append_assoc}
use Rattle.std.specs.Prelude.{find, is_some, nat_eq, position, slice_get}
use Rattle.std.specs.Option.{option_and_then, option_map, is_none}
use Rattle.std.specs.List.{Contains, list_any, flat_map}
use Rattle.std.proofs.lemmas.Bool.{eqb-true}
use Rattle.std.proofs.lemmas.List.{append-nil, map_more, take-map}
use Rattle.std.proofs.lemmas.Grind.{flat_map-append}
use Rattle.class_tree.specs.declared.tree.ClassFile.{ClassFile}
use Rattle.class_tree.specs.View.{file_of}
use Rattle.std.proofs.lemmas.List.Folds.{list_any-append}
use Rattle.std.proofs.lemmas.List.Elements.{Contains-append_left, Contains-append_right, Contains-append_cases, Contains-push, Contains-push_cases}
use Rattle.std.proofs.lemmas.Option.{slice_get-get_or, slice_get_past, slice_get_within, get_or_from_slice_get, slice_get-map}
use borrow.Author.Tests.{ltb-false}
use Rattle.model.specs.Names.{Name, name_eq}
use Rattle.model.specs.Tree.{FileTree}
use Rattle.model.specs.BuiltIn.{built_in_classes}
use Rattle.model.specs.Classes.{Program, is_named}
use Rattle.model.specs.Resolution.{is_missing}
use Rattle.hierarchy.proofs.Names.{found_any}
use Rattle.hierarchy.proofs.Finding.{find_by_position, position_first, position_within, passes_at, find_passes, nowhere}
use Rattle.hierarchy.proofs.SetLaws.{same_name}
use Rattle.library_files.specs.declared.library_class.LibraryClass.{LibraryClass}
use Rattle.library_files.specs.Adding.{LibraryFile, library_file, IsOffered, in_library}
use Rattle.library_files.specs.Needs.{needed_classes, AreNeeded}
use Rattle.library_files.specs.Offers.{offers_of, has_name, library_place, IsOfferedAt, FindsOffered, HasPlace, IsNeededPlace, IsClosed, AddsPlace, AddsPlaces, AddsPlacesBy}

-- ---- what is missing

none_some : {A : Type 0} (o : Option A) → is_none o ≡ not (is_some o)
none_some None = refl
none_some (Some x) = refl

missing_by : (files : Program) (name : Name) → is_missing files name ≡ not (list_any (is_named name) built_in_classes || list_any (is_named name) files)
missing_by files name =
    none_some (find (is_named name) (built_in_classes ++ files))
    ∙ ap not (found_any (is_named name) (built_in_classes ++ files) ∙ list_any-append (is_named name) built_in_classes files)

pub built_in_there : (files : Program) (name : Name) (built : List FileTree) (a : Bool) → built ≡ built_in_classes → a ≡ list_any (is_named name) built → a ≡ true
    → false ≡ is_missing files name
built_in_there files name built a are is so =
    let there : list_any (is_named name) built_in_classes ≡ true = ap (list_any (is_named name)) (sym are) ∙ sym is ∙ so in
    sym (missing_by files name ∙ ap (λ (b : Bool). not (b || list_any (is_named name) files)) there)

pub by_files : (files : Program) (name : Name) (built : List FileTree) (a b : Bool) → built ≡ built_in_classes → a ≡ list_any (is_named name) built → a ≡ false
    → b ≡ list_any (is_named name) files → not b ≡ is_missing files name
by_files files name built a b are is not_so is_so =
    let absent : list_any (is_named name) built_in_classes ≡ false = ap (list_any (is_named name)) (sym are) ∙ sym is ∙ not_so in
    sym (missing_by files name ∙ ap (λ (c : Bool). not (c || list_any (is_named name) files)) absent ∙ ap not (sym is_so))

-- ---- a class in a list of them

pub first_named : (name : Name) (classes : List LibraryClass) (i : ℕ) (d : LibraryClass) → i < length classes
    → has_name name (library_file (get_or classes i d)) ≡ true → list_any (has_name name) (map library_file (take i classes)) ≡ false
    → Some i ≡ library_place (map library_file classes) name
first_named name classes i d below here before =
    let at : slice_get (map library_file classes) i ≡ Some (library_file (get_or classes i d)) =
    slice_get-map library_file classes i ∙ ap (option_map library_file) (slice_get-get_or classes i d below) in
    sym (position_first (has_name name) (map library_file classes) i (library_file (get_or classes i d)) at here (ap (list_any (has_name name)) (take-map library_file i classes) ∙ before))

pub same_class : (library : List LibraryFile) (place : ℕ) (a b : LibraryFile) → slice_get library place ≡ Some a → slice_get library place ≡ Some b → a ≡ b
same_class library place a b e f = cc

pub nothing_past : (classes : List LibraryClass) (place : ℕ) (class : LibraryFile) → ltb place (length classes) ≡ false
    → slice_get (map library_file classes) place ≡ Some class → ⊥
nothing_past classes place class past at =
    let none : slice_get classes place ≡ None = slice_get_past classes place (ltb-false _ _ past) in
    let is : slice_get (map library_file classes) place ≡ None = slice_get-map library_file classes place ∙ ap (option_map library_file) none in
    absurd cc

-- ---- the class of a name

module _ (library : List LibraryFile) where
  abbrev no_class : LibraryFile
  no_class = record { name = []; bytes = [] }

  class_there : (name : Name) (place : ℕ) → library_place library name ≡ Some place
      → (class : LibraryFile) × (slice_get library place ≡ Some class) × (in_library library name ≡ Some class) × (class.name ≡ name)
  class_there name place e =
      let stands : slice_get library place ≡ Some (get_or library place no_class) = slice_get-get_or library place no_class (position_within (has_name name) library place e) in
      let found = passes_at (has_name name) library place (get_or library place no_class) e stands in
      (get_or library place no_class, stands, found, same_name _ _ (find_passes (has_name name) library (get_or library place no_class) found))

  offered_is : (files : Program) (offers : List Bool) (place : ℕ) (class : LibraryFile) → offers ≡ offers_of files library → slice_get library place ≡ Some class
      → get_or offers place false ≡ is_missing files class.name
  offered_is files offers place class are stands =
      get_or_from_slice_get offers place (is_missing files class.name) false
      (ap (λ (l : List Bool). slice_get l place) are ∙ slice_get-map (λ (c : LibraryFile). is_missing files c.name) library place
      ∙ ap (option_map (λ (c : LibraryFile). is_missing files c.name)) stands)

  -- none has the name
  pub nothing_there : (files : Program) (name : Name) → library_place library name ≡ None → FindsOffered library files name None
  nothing_there files name e = λ class h. let none = nowhere (has_name name) library e in let some = h.there in absurd cc

  pub offered_there : (files : Program) (offers : List Bool) (name : Name) (place : ℕ) → offers ≡ offers_of files library → library_place library name ≡ Some place
      → get_or offers place false ≡ true → FindsOffered library files name (Some place)
  offered_there files offers name place are e so =
      let class = class_there name place e in
      record {
        class = class.0;
        stands = class.1;
        offered = record { missing = ap (is_missing files) (sym class.3) ∙ sym (offered_is files offers place class.0 are class.1) ∙ so; there = class.2 };
      }

  pub not_offered : (files : Program) (offers : List Bool) (name : Name) (place : ℕ) → offers ≡ offers_of files library → library_place library name ≡ Some place
      → get_or offers place false ≡ false → FindsOffered library files name None
  not_offered files offers name place are e not_so =
      let class = class_there name place e in
      let here : is_missing files name ≡ false = ap (is_missing files) (sym class.3) ∙ sym (offered_is files offers place class.0 are class.1) ∙ not_so in
      λ other h. let missing = h.missing in absurd cc

  -- ---- places

  module _ (files : Program) where
    has_more : (old more : List ℕ) (class : LibraryFile) → HasPlace library old class → HasPlace library (old ++ more) class
    has_more old more class h = record { place = h.place; among = Contains-append_left old more h.place h.among; stands = h.stands }

    pub adds_none : (old : List ℕ) → AddsPlaces library files old old []
    adds_none old = record {
      more = [];
      behind = sym (append-nil old);
      closed = λ name class h offered. absurd (omega (arith, h.1));
      only = λ place h. inl h;
    }

    pub adds_both : (a b c : List ℕ) (xs ys : List Name) → AddsPlaces library files a b xs → AddsPlaces library files b c ys → AddsPlaces library files a c (xs ++ ys)
    adds_both a b c xs ys first second = record {
      more = first.more ++ second.more;
      behind = second.behind ∙ ap (λ (l : List ℕ). l ++ second.more) first.behind ∙ append_assoc a first.more second.more;
      closed = λ name class h offered. ⊎_elim
          (λ l. subst (λ (places : List ℕ). HasPlace library places class) (sym second.behind) (has_more b second.more class (first.closed name class l offered)))
          (λ r. second.closed name class r offered)
          (Contains-append_cases xs ys name h);
      only = λ place h. ⊎_elim
          (λ l. ⊎_elim (λ m. inl m) (λ n. inr (record { name = n.name; among = Contains-append_left xs ys n.name n.among; offered = n.offered })) (first.only place l))
          (λ r. inr (record { name = r.name; among = Contains-append_right xs ys r.name r.among; offered = r.offered }))
          (second.only place h);
    }

    pub adds_same : (a b : List ℕ) (xs ys : List Name) → xs ≡ ys → AddsPlaces library files a b xs → AddsPlaces library files a b ys
    adds_same a b xs ys e h = subst (λ (names : List Name). AddsPlaces library files a b names) e h

    only_one : (text name : Name) → Contains (text ∷ []) name → text ≡ name
    only_one text name (zero, lt, e) = e
    only_one text name (suc k, lt, e) = absurd (omega (arith, lt))

    pub adds_nothing : (old : List ℕ) (name : Name) → FindsOffered library files name None → AddsPlaces library files old old (name ∷ [])
    adds_nothing old name none = record {
      more = [];
      behind = sym (append-nil old);
      closed = λ other class h offered. absurd (none class (subst (λ (n : Name). IsOffered library files n class) (sym (only_one name other h)) offered));
      only = λ place h. inl h;
    }

    any_among : (places : List ℕ) (place : ℕ) → list_any (nat_eq place) places ≡ true → Contains places place
    any_among [] place h = absurd cc
    any_among (p ∷ places) place h = by (nat_eq place p) refl (any_among places place) h
      where
        by : (b : Bool) → nat_eq place p ≡ b → (list_any (nat_eq place) places ≡ true → Contains places place) → (b || list_any (nat_eq place) places) ≡ true
            → Contains (p ∷ places) place
        by true e later h = (zero, omega arith, sym (eqb-true place p e))
        by false e later h = let rest = later h in (suc rest.0, omega (arith, rest.1), rest.2)

    closed_at : (new : List ℕ) (name : Name) (place : ℕ) → IsOfferedAt library files name place → Contains new place → IsClosed library files new (name ∷ [])
    closed_at new name place at among = λ other class h offered.
        let same : other ≡ name = sym (only_one name other h) in
        let there : in_library library name ≡ Some class = ap (in_library library) (sym same) ∙ offered.there in
        let is : at.class ≡ class = cc (at.offered.there, there) in
        record { place = place; among = among; stands = at.stands ∙ ap Some is }

    pub adds_place : (old new : List ℕ) (name : Name) (place : ℕ) → AddsPlace old new place → IsOfferedAt library files name place → AddsPlaces library files old new (name ∷ [])
    adds_place old new name place adds at = by (list_any (nat_eq place) old) refl adds
      where
        needed : IsNeededPlace library files (name ∷ []) place
        needed = record { name = name; among = (zero, omega arith, refl); offered = at }

        by : (b : Bool) → list_any (nat_eq place) old ≡ b → new ≡ cond b old (old ++ place ∷ []) → AddsPlaces library files old new (name ∷ [])
        by true e is = record {
          more = [];
          behind = is ∙ sym (append-nil old);
          closed = closed_at new name place at (subst (λ (l : List ℕ). Contains l place) (sym is) (any_among old place e));
          only = λ p h. inl (subst (λ (l : List ℕ). Contains l p) is h);
        }
        by false e is = record {
          more = place ∷ [];
          behind = is;
          closed = closed_at new name place at (subst (λ (l : List ℕ). Contains l place) (sym is) (Contains-push old place));
          only = λ p h. ⊎_elim (λ l. inl l) (λ r. inr (subst (λ (q : ℕ). IsNeededPlace library files (name ∷ []) q) r needed)) (Contains-push_cases old place p (subst (λ (l : List ℕ). Contains l p) is h));
        }

    -- those of a class file, by names in some order
    pub adds_needed : (old new : List ℕ) (file : FileTree) (names : List Name) → AreNeeded file names → AddsPlaces library files old new names
        → AddsPlaces library files old new (needed_classes file)
    adds_needed old new file names are h = record {
      more = h.more;
      behind = h.behind;
      closed = λ name class among offered. h.closed name class (are.all name among) offered;
      only = λ place p. ⊎_elim (λ l. inl l) (λ r. inr (record { name = r.name; among = are.only r.name r.among; offered = r.offered })) (h.only place p);
    }

    pub adds_file : (a b c : List ℕ) (classes : List ClassFile) (i : ℕ) (class : ClassFile) → i < length classes → class ≡ get_or classes i class
        → AddsPlaces library files a b (flat_map needed_classes (map file_of (take i classes))) → AddsPlaces library files b c (needed_classes (file_of class))
        → AddsPlaces library files a c (flat_map needed_classes (map file_of (take (i + 1) classes)))
    adds_file a b c classes i class below is before one =
        let more : map file_of (take (i + 1) classes) ≡ map file_of (take i classes) ++ file_of class ∷ [] =
        map_more file_of classes i class below ∙ ap (λ (x : ClassFile). map file_of (take i classes) ++ file_of x ∷ []) (sym is) in
        let list : flat_map needed_classes (map file_of (take i classes)) ++ needed_classes (file_of class) ≡ flat_map needed_classes (map file_of (take (i + 1) classes)) =
        ap (λ (l : List Name). flat_map needed_classes (map file_of (take i classes)) ++ l) (sym (append-nil (needed_classes (file_of class))))
        ∙ sym (flat_map-append needed_classes (map file_of (take i classes)) (file_of class ∷ [])) ∙ ap (flat_map needed_classes) (sym more) in
        adds_same a c _ _ list (adds_both a b c _ _ before one)

    -- ---- of trees

    pub adds_by_tree : (old new : List ℕ) (IsTree : FileTree → Type 0) (tree : FileTree) → IsTree tree → ((other : FileTree) → IsTree other → other ≡ tree)
        → AddsPlaces library files old new (needed_classes tree) → AddsPlacesBy library files old new IsTree
    adds_by_tree old new IsTree tree is only_tree h = record {
      more = h.more;
      behind = h.behind;
      closed = λ other so. subst (λ (t : FileTree). IsClosed library files new (needed_classes t)) (sym (only_tree other so)) h.closed;
      only = λ place p. ⊎_elim (λ l. inl l) (λ r. inr (tree, is, r)) (h.only place p);
    }

    pub adds_by_none : (old : List ℕ) (IsTree : FileTree → Type 0) → ((tree : FileTree) → IsTree tree → ⊥) → AddsPlacesBy library files old old IsTree
    adds_by_none old IsTree none = record {
      more = [];
      behind = sym (append-nil old);
      closed = λ tree so. absurd (none tree so);
      only = λ place h. inl h;
    }

    pub adds_by : (old new : List ℕ) (One Other : FileTree → Type 0) → ((tree : FileTree) → One tree → Other tree) → ((tree : FileTree) → Other tree → One tree)
        → AddsPlacesBy library files old new One → AddsPlacesBy library files old new Other
    adds_by old new One Other to from h = record {
      more = h.more;
      behind = h.behind;
      closed = λ tree so. h.closed tree (from tree so);
      only = λ place p. ⊎_elim (λ l. inl l) (λ r. inr (r.0, to r.0 r.1, r.2)) (h.only place p);
    }
