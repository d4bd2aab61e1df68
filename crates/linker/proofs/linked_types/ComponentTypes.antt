-- Component types by numbers: what is added to them, and what stands at a number.
use Rattle.std.proofs.Common.{◌≡◌, ◌∙◌, ℕ, zero, suc, ◌+◌, ◌*◌, ◌<◌, ◌≤◌, ◌^◌, List, [], ◌∷◌, ◌++◌, length, Bool, true, false, ◌||◌, cond, Option, Some, None, is_some, refl, sym, ap, subst, arith, length-append, ⊎_elim, inl, inr}
use Rattle.std.specs.Prelude.{position, slice_get}
use Rattle.std.specs.List.{list_any}
use Rattle.std.proofs.lemmas.Bool.{false≢true, or_left, or_right, or_cases, or_from, or_parts, cases_lt}
use Rattle.std.proofs.lemmas.List.Folds.{list_any-append}
use Rattle.std.proofs.lemmas.List.{get_or_past}
use Rattle.std.proofs.lemmas.Option.{slice_get_within}
use Rattle.model.specs.Names.{Name, name_eq, java_lang_string}
use Rattle.model.specs.Tree.{Entry, FileTree, Unusable}
use Rattle.model.specs.Spelling.{entry_at}
use Rattle.model.specs.Pool.{class_name_at, class_name_of}
use Rattle.model.specs.BuiltIn.{built_in_classes}
use Rattle.model.specs.Classes.{Program, classes_of}
use Rattle.model.specs.ReferenceTypes.{ReferenceType}
use Rattle.model.specs.DescribedTypes.{type_named}
use Rattle.hierarchy.specs.Places.{class_at}
use Rattle.hierarchy.proofs.Names.{found_any, name_eq_sym}
use Rattle.hierarchy.proofs.Finding.{find_passes, nowhere, passes_at, position_absent, position_within}
use Rattle.hierarchy.proofs.RowLaws.{name_eq_refl}
use Rattle.hierarchy.proofs.SetLaws.{no_item, same_name}
use Rattle.link_conditions.specs.limits_of_linking.Texts.{with_text}
use Rattle.linker.specs.Linking.{IsLinked}
use Rattle.types.specs.described_types.Described.{type_missing}
use Rattle.linked_code.specs.declared.types.LinkedType.{LinkedType}
use Rattle.linked_code.specs.Numbers.{IsType, IsTypeAt}
use Rattle.linker.specs.declared.linked_types.components.Components.{Components}
use Rattle.linker.specs.linked_types.Components.{is_among, AreOnce, AreTypesOf, AddsOnly, Grows, HasNamed, IsInProgram, AreComponents}
use Rattle.linker.proofs.linked_types.Types.{few_classes}

-- ---- names by numbers

pub numbered_any : (p : Name → Bool) (names : List Name) → is_some (position p names) ≡ list_any p names
numbered_any p names = by (position p names) (list_any p names) refl refl
  where
    by : (o : Option ℕ) (b : Bool) → position p names ≡ o → list_any p names ≡ b → is_some (position p names) ≡ list_any p names
    by None false e h = ap is_some e ∙ sym h
    by (Some k) true e h = ap is_some e ∙ sym h
    by None true e h = absurd (false≢true (sym (ap is_some (nowhere p names e)) ∙ found_any p names ∙ h))
    by (Some k) false e h = absurd (false≢true (sym (ap is_some (position_absent p names h)) ∙ ap is_some e))

pub stands_at : (names : List Name) (name : Name) (k : ℕ) → position (name_eq name) names ≡ Some k → slice_get names k ≡ Some name
stands_at names name k e = by (slice_get names k) refl
  where
    by : (o : Option Name) → slice_get names k ≡ o → slice_get names k ≡ Some name
    by None at = absurd (no_item names k (position_within (name_eq name) names k e) at)
    by (Some y) at = at ∙ ap (λ (n : Name). Some n) (sym (same_name name y (find_passes (name_eq name) names y (passes_at (name_eq name) names k y e at))))

first_stays : (names : List Name) (last name : Name) → slice_get names 0 ≡ Some name → slice_get (names ++ last ∷ []) 0 ≡ Some name
first_stays [] last name e = absurd cc
first_stays (n ∷ names) last name e = e

-- the only one
only_one : (names : List Name) (name : Name) → length names ≤ 1 → is_among name names ≡ true → slice_get names 0 ≡ Some name
only_one [] name few h = absurd (false≢true h)
only_one (n ∷ []) name few h = ⊎_elim (λ here. ap (λ (n : Name). Some n) (sym (same_name name n here))) (λ later. absurd (false≢true later)) (or_cases (name_eq name n) false h)
only_one (n ∷ m ∷ names) name few h = absurd (omega (arith, few))

no_entry : (pool : List Entry) (k : ℕ) → length pool + 1 ≤ k → entry_at pool k ≡ Unusable
no_entry pool k past = get_or_past (Unusable ∷ pool) k Unusable (omega (arith, past))

once_pushed : (names : List Name) (last : Name) → AreOnce names → is_among last names ≡ false → AreOnce (names ++ last ∷ [])
once_pushed [] last h absent = (refl, tt)
once_pushed (n ∷ names) last h absent =
    let parts = or_parts (name_eq last n) (is_among last names) absent in (
      list_any-append (name_eq n) names (last ∷ []) ∙ or_from (is_among n names) (name_eq n last || false) h.0 (or_from (name_eq n last) false (name_eq_sym n last ∙ parts.0) refl),
      once_pushed names last h.1 parts.1,
    )

-- ---- which names are added

pub only_same : (components : Components) (Is : Name → Type 0) → AddsOnly components components Is
only_same components Is name h = inl h

pub only_then : (old middle new : Components) (First Then Is : Name → Type 0) → AddsOnly old middle First → AddsOnly middle new Then
    → ((name : Name) → First name → Is name) → ((name : Name) → Then name → Is name) → AddsOnly old new Is
only_then old middle new First Then Is before after first then name h =
    ⊎_elim (λ there. ⊎_elim (λ older. inl older) (λ is. inr (first name is)) (before name there)) (λ is. inr (then name is)) (after name h)

module _ (files : Program) where
  -- ---- types of names

  types_pushed : (names : List Name) (types : List LinkedType) (name : Name) (t : LinkedType) → AreTypesOf files names types
      → IsType files t (type_named name) → AreTypesOf files (names ++ name ∷ []) (types ++ t ∷ [])
  types_pushed [] [] name t h is = (is, tt)
  types_pushed [] (x ∷ types) name t h is = absurd h
  types_pushed (n ∷ names) [] name t h is = absurd h
  types_pushed (n ∷ names) (x ∷ types) name t h is = (h.0, types_pushed names types name t h.1 is)

  same_count : (names : List Name) (types : List LinkedType) → AreTypesOf files names types → length names ≡ length types
  same_count [] [] h = refl
  same_count [] (x ∷ types) h = absurd h
  same_count (n ∷ names) [] h = absurd h
  same_count (n ∷ names) (x ∷ types) h = ap suc (same_count names types h.1)

  pub type_at : (names : List Name) (types : List LinkedType) (k : ℕ) (name : Name) → AreTypesOf files names types
      → slice_get names k ≡ Some name → IsTypeAt files types k (type_named name)
  type_at [] types k name h e = absurd cc
  type_at (n ∷ names) [] k name h e = absurd h
  type_at (n ∷ names) (t ∷ types) zero name h e = let same : n ≡ name = cc in (t, refl, subst (λ (x : Name). IsType files t (type_named x)) same h.0)
  type_at (n ∷ names) (t ∷ types) (suc k) name h e = type_at names types k name h.1 e

  pub each_type : (names : List Name) (types : List LinkedType) (k : ℕ) (t : LinkedType) → AreTypesOf files names types
      → slice_get types k ≡ Some t → (type : ReferenceType) × IsType files t type
  each_type names [] k t h e = absurd cc
  each_type [] (x ∷ types) k t h e = absurd h
  each_type (n ∷ names) (x ∷ types) zero t h e = let same : x ≡ t = cc in (type_named n, subst (λ (y : LinkedType). IsType files y (type_named n)) same h.0)
  each_type (n ∷ names) (x ∷ types) (suc k) t h e = each_type names types k t h.1 e

  pub number_fits : (components : Components) → AreComponents files components → (name : Name) (k : ℕ)
      → position (name_eq name) components.names ≡ Some k → k < 2 ^ 32
  number_fits components are name k e =
      omega (arith, are.few, same_count components.names components.types.items are.types, position_within (name_eq name) components.names k e)

  -- ---- what is added

  pub grows_same : (components : Components) (most : ℕ) → Grows files components components most
  grows_same components most = record { types = λ h. h; once = λ h. h; kept = λ name h. h; first = λ name h. h; few = omega arith }

  module _ (old new : Components) where
    pub grows_more : (most more : ℕ) → most ≤ more → Grows files old new most → Grows files old new more
    grows_more most more l g = record { types = g.types; once = g.once; kept = g.kept; first = g.first; few = omega (arith, l, g.few) }

    pub grows_then : (middle : Components) (most more : ℕ) → Grows files old middle most → Grows files middle new more
        → Grows files old new (most + more)
    grows_then middle most more g then = record {
      types = λ h. then.types (g.types h);
      once = λ h. then.once (g.once h);
      kept = λ name h. then.kept name (g.kept name h);
      first = λ name h. then.first name (g.first name h);
      few = omega (arith, g.few, then.few);
    }

    module _ (name : Name) (absent : list_any (name_eq name) old.names ≡ false) (named : new.names ≡ with_text old.names name) where
      added : new.names ≡ old.names ++ name ∷ []
      added = named ∙ ap (λ b. cond b old.names (old.names ++ name ∷ [])) absent

      pub pushed_there : is_among name new.names ≡ true
      pushed_there = ap (is_among name) added ∙ list_any-append (name_eq name) old.names (name ∷ []) ∙ or_right (list_any (name_eq name) old.names) _ (or_left _ _ (name_eq_refl name))

      pub pushed_only : AddsOnly old new (λ n. n ≡ name)
      pushed_only n h =
          ⊎_elim
          (λ older. inl older)
          (λ last. ⊎_elim (λ is. inr (same_name n name is)) (λ none. absurd (false≢true none)) (or_cases (name_eq n name) false last))
          (or_cases (is_among n old.names) (name_eq n name || false) (sym (list_any-append (name_eq n) old.names (name ∷ [])) ∙ sym (ap (is_among n) added) ∙ h))

      pub grows_pushed : (t : LinkedType) → IsType files t (type_named name) → new.types.items ≡ old.types.items ++ t ∷ []
          → Grows files old new 1
      grows_pushed t is typed = record {
        types = λ h. subst (λ (names : List Name). AreTypesOf files names new.types.items) (sym added)
            (subst (λ (types : List LinkedType). AreTypesOf files (old.names ++ name ∷ []) types) (sym typed) (types_pushed old.names old.types.items name t h is));
        once = λ h. subst AreOnce (sym added) (once_pushed old.names name h absent);
        kept = λ n h. ap (is_among n) added ∙ list_any-append (name_eq n) old.names (name ∷ []) ∙ or_left _ _ h;
        first = λ n h. ap (λ (names : List Name). slice_get names 0) added ∙ first_stays old.names name n h;
        few = omega (arith, ap length typed, length-append old.types.items (t ∷ []));
      }

  -- ---- what the constant pool of a class names

  abbrev pub NamedBefore : FileTree → ℕ → Components → Type 0
  NamedBefore file count components = (index : ℕ) → index < count → HasNamed files file index components

  pub named_kept : (file : FileTree) (index : ℕ) (old new : Components) (most : ℕ) → Grows files old new most
      → HasNamed files file index old → HasNamed files file index new
  named_kept file index old new most g h name named found = g.kept name (h name named found)

  pub named_more : (file : FileTree) (count : ℕ) (old new : Components) (most : ℕ) → Grows files old new most → NamedBefore file count old
      → HasNamed files file count new → NamedBefore file (count + 1) new
  named_more file count old new most g before here index l =
      ⊎_elim
      (λ less. named_kept file index old new most g (before index less))
      (λ past. let same : count ≡ index = omega (arith, past, l) in subst (λ (k : ℕ). HasNamed files file k new) same here)
      (cases_lt index count)

  pub named_all : (file : FileTree) (count : ℕ) (components : Components) → NamedBefore file count components
      → ((index : ℕ) → count ≤ index → index < 2 ^ 16 → length file.pool + 1 ≤ index)
      → (index : ℕ) → index < 2 ^ 16 → HasNamed files file index components
  named_all file count components before behind index l =
      ⊎_elim (λ less. before index less) (λ past. nothing (behind index past l)) (cases_lt index count)
    where
      nothing : length file.pool + 1 ≤ index → HasNamed files file index components
      nothing past name named found =
          let none : class_name_at file.pool index ≡ None = ap (class_name_of file.pool) (no_entry file.pool index past) in
          absurd (false≢true (sym (ap is_some none) ∙ ap is_some named))

  -- ---- what those of all classes name

  abbrev pub AllBefore : ℕ → Components → Type 0
  AllBefore count components = (class index : ℕ) (file : FileTree) → class < count → index < 2 ^ 16 → class_at files class ≡ Some file → HasNamed files file index components

  pub all_more : (count : ℕ) (file : FileTree) (old new : Components) (most : ℕ) → class_at files count ≡ Some file
      → Grows files old new most → AllBefore count old → NamedBefore file 0x10000 new → AllBefore (count + 1) new
  all_more count file old new most at g before here class index other l few there =
      ⊎_elim
      (λ less. named_kept other index old new most g (before class index other less few there))
      (λ past.
      let same : count ≡ class = omega (arith, past, l) in
      let is : Some file ≡ Some other = sym at ∙ ap (class_at files) same ∙ there in
      let file_is : file ≡ other = cc in
      subst (λ (f : FileTree). HasNamed files f index new) file_is (here index (omega (arith, few))))
      (cases_lt class count)

  pub all_named : (count : ℕ) (components : Components) → length (classes_of files) ≤ count → AllBefore count components
      → (class index : ℕ) (file : FileTree) → index < 2 ^ 16 → class_at files class ≡ Some file → HasNamed files file index components
  all_named count components whole before class index file few at =
      before class index file (omega (arith, whole, slice_get_within (classes_of files) class file at)) few at

  -- ---- all of them

  pub are_components : IsLinked files → (empty first all : Components) → empty.names ≡ [] → empty.types.items ≡ []
      → Grows files empty first 1 → is_among java_lang_string first.names ≡ true
      → Grows files first all (length (classes_of files) * 0x10000)
      → ((class index : ℕ) (file : FileTree) → index < 2 ^ 16 → class_at files class ≡ Some file → HasNamed files file index all)
      → AddsOnly empty first (λ name. name ≡ java_lang_string) → AddsOnly first all (IsInProgram files) → AreComponents files all
  are_components linked empty first all names types one string more named only others =
      let none : AreTypesOf files empty.names empty.types.items = subst (λ (n : List Name). AreTypesOf files n empty.types.items) (sym names) (subst (λ (t : List LinkedType). AreTypesOf files [] t) (sym types) tt) in
      let single : length first.names ≤ 1 = omega (arith, same_count first.names first.types.items (one.types none), one.few, ap length types) in
      record {
        types = more.types (one.types none);
        named = named;
        once = more.once (one.once (subst AreOnce (sym names) tt));
        only = λ name h.
            ⊎_elim
            (λ there. ⊎_elim (λ none. absurd (false≢true (sym (ap (is_among name) names) ∙ none))) (λ is. inl is) (only name there))
            (λ other. inr other)
            (others name h);
        string = more.first java_lang_string (only_one first.names java_lang_string single string);
        few = omega (arith, more.few, one.few, ap length types, few_classes files linked);
      }

  pub string_found : type_missing files (type_named java_lang_string) ≡ false
  unfolding built_in_classes
  string_found = refl
