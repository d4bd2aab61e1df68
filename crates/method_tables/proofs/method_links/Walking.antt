-- The walk along superclasses by their places.
use Rattle.std.proofs.Common.{◌≡◌, ℕ, zero, suc, ◌+◌, ◌-◌, ◌<◌, List, [], length, map, get_or, refl, sym, ap, ◌∙◌, subst, arith, Option, Some, None}
use Rattle.std.specs.Prelude.{slice_get}
use Rattle.std.specs.Option.{option_and_then, option_map_or, option_or}
use Rattle.std.proofs.lemmas.List.{length-map}
use Rattle.std.proofs.lemmas.Option.{get_or_from_slice_get}
use Rattle.model.specs.Names.{Name, Member}
use Rattle.model.specs.Tree.{FileTree}
use Rattle.model.specs.Classes.{Program, name_of, class_of, classes_of, is_named, superclass_of, super_name_of, lineage_of}
use Rattle.model.specs.Lookup.{method_in_class, is_selectable, first_found, select}
use Rattle.hierarchy.specs.Places.{class_at, place_of}
use Rattle.hierarchy.proofs.Chains.{lineage_step, next_step}
use Rattle.hierarchy.proofs.Finding.{position_within}
use Rattle.hierarchy.proofs.SetLaws.{no_class, name_at_place, method_of_none, no_item}
use Rattle.method_tables.specs.method_links.Methods.{methods_of, Names}
use Rattle.method_tables.specs.method_links.Selected.{SelectionTable, AreSelectionsOf, declared_number, superclass_place, superclass_places}
use Rattle.run_laws.proofs.laws.Lists.{get_map}

-- what is answered for a class and a method is what the model selects
abbrev pub Selects : SelectionTable → ℕ → ℕ → Option ℕ → Type 0
Selects table class number result =
    (files : Program) → AreSelectionsOf files table → (file : FileTree) → class_at files class ≡ Some file → (m : Member) → slice_get (methods_of files) number ≡ Some m → Names files result (select files (name_of file) m)

module _ (files : Program) (f : Name → Option Member) where
  abbrev above : ℕ → FileTree → Option Member
  above n file = first_found f (lineage_of files n (name_of file))

  -- what the class declares is found first
  named_here : (n i j : ℕ) (file : FileTree) → i < n → Names files (Some j) (f (name_of file)) → Names files (Some j) (above (n - i) file)
  named_here n i j file lt h = by (f (name_of file)) refl h
    where
      by : (o : Option Member) → f (name_of file) ≡ o → Names files (Some j) o → Names files (Some j) (above (n - i) file)
      by None e h = absurd cc
      by (Some m) e h =
          let rest = option_map_or (λ s. lineage_of files (n - (i + 1)) s) (superclass_of files (name_of file)) [] in
          let found : above (n - i) file ≡ Some m = ap (first_found f) (lineage_step files n i (name_of file) lt) ∙ ap (λ o. option_or o (first_found f rest)) e in
          subst (Names files (Some j)) (sym found) h

  pub none_here : (file : FileTree) → Names files None (f (name_of file)) → f (name_of file) ≡ None
  none_here file h = by (f (name_of file)) h
    where
      by : (o : Option Member) → Names files None o → o ≡ None
      by None h = refl
      by (Some m) h = absurd cc

  -- no class of a name has no superclass and declares nothing
  nothing_above : ((name : Name) → class_of files name ≡ None → f name ≡ None) → (n : ℕ) (name : Name) → class_of files name ≡ None
      → first_found f (lineage_of files n name) ≡ None
  nothing_above none zero name e = refl
  nothing_above none (suc n) name e =
      let over : superclass_of files name ≡ None = ap (option_and_then super_name_of) e in
      rw (over, none name e) refl

  last_class : (n i : ℕ) (file : FileTree) → i < n → f (name_of file) ≡ None → superclass_of files (name_of file) ≡ None
      → above (n - i) file ≡ None
  last_class n i file lt e over = rw (lineage_step files n i (name_of file) lt, over, e) refl

  lost_above : ((name : Name) → class_of files name ≡ None → f name ≡ None) → (n i : ℕ) (file : FileTree) → i < n → f (name_of file) ≡ None
      → superclass_place files file ≡ None → above (n - i) file ≡ None
  lost_above none n i file lt e over = by (superclass_of files (name_of file)) refl over
    where
      by : (o : Option Name) → superclass_of files (name_of file) ≡ o → option_and_then (place_of files) o ≡ None
          → above (n - i) file ≡ None
      by None is over = last_class n i file lt e is
      by (Some s) is over = next_step files n i (name_of file) s f lt e is ∙ nothing_above none (n - (i + 1)) s (no_class files s over)

-- the class at the place of a superclass
module _ (files : Program) (file : FileTree) (next : ℕ) where
  abbrev pub Above : Type 0
  Above = (super : FileTree) × (class_at files next ≡ Some super) × (superclass_of files (name_of file) ≡ Some (name_of super))

  pub above_at : superclass_place files file ≡ Some next → Above
  above_at h = by (superclass_of files (name_of file)) refl h
    where
      there : (s : Name) → superclass_of files (name_of file) ≡ Some s → place_of files s ≡ Some next → (o : Option FileTree)
          → class_at files next ≡ o → Above
      there s is p None at = absurd (no_item (classes_of files) next (position_within (is_named s) (classes_of files) next p) at)
      there s is p (Some super) at = (super, at, is ∙ ap (λ n. Some n) (sym (name_at_place files s next super p at)))

      by : (o : Option Name) → superclass_of files (name_of file) ≡ o → option_and_then (place_of files) o ≡ Some next → Above
      by None is h = absurd cc
      by (Some s) is h = there s is h (class_at files next) refl

-- ---- the walk

module _ (table : SelectionTable) (first number : ℕ) where
  -- after some steps a class is reached from which on the same is found
  abbrev pub Walked : ℕ → ℕ → Type 0
  Walked class step =
      (files : Program) → AreSelectionsOf files table → (file : FileTree) → class_at files first ≡ Some file → (m : Member) → slice_get (methods_of files) number ≡ Some m
      → (now : FileTree) × (class_at files class ≡ Some now)
      × (first_found (method_in_class files is_selectable m) (lineage_of files (length table.superclasses - step) (name_of now))
      ≡ select files (name_of file) m)

  count_is : (files : Program) → table.superclasses ≡ superclass_places files → length table.superclasses ≡ length (classes_of files)
  unfolding superclass_places
  count_is files e = ap length e ∙ length-map (classes_of files) (superclass_place files)

  pub place_is : (files : Program) → table.superclasses ≡ superclass_places files → (class : ℕ) (file : FileTree)
      → class_at files class ≡ Some file → get_or table.superclasses class None ≡ superclass_place files file
  unfolding superclass_places
  place_is files e class file c =
      ap (λ (l : List (Option ℕ)). get_or l class None) e
      ∙ get_or_from_slice_get (map (superclass_place files) (classes_of files)) class (superclass_place files file) None (get_map (superclass_place files) (classes_of files) class file c)

  pub walk_begins : Walked first 0
  walk_begins files sel file c m e =
      let whole : length table.superclasses - 0 ≡ length (classes_of files) = omega (arith, count_is files sel.superclasses) in
      (file, c, ap (λ n. first_found (method_in_class files is_selectable m) (lineage_of files n (name_of file))) whole)

  pub walk_finds : (class step j : ℕ) → Walked class step → step < length table.superclasses → declared_number table class number ≡ Some j
      → Selects table first number (Some j)
  walk_finds class step j walked lt h files sel file c m e =
      let now = walked files sel file c m e in
      let f = method_in_class files is_selectable m in
      let named : Names files (Some j) (f (name_of now.0)) = subst (λ o. Names files o (f (name_of now.0))) h (sel.declared class number now.0 m now.1 e) in
      subst (Names files (Some j)) now.2 (named_here files f (length table.superclasses) step j now.0 lt named)

  pub walk_ends : (class step : ℕ) → Walked class step → step < length table.superclasses → declared_number table class number ≡ None
      → get_or table.superclasses class None ≡ None → Selects table first number None
  walk_ends class step walked lt h over files sel file c m e =
      let now = walked files sel file c m e in
      let f = method_in_class files is_selectable m in
      let none = none_here files f now.0 (subst (λ o. Names files o (f (name_of now.0))) h (sel.declared class number now.0 m now.1 e)) in
      let lost = lost_above files f (λ name no. method_of_none files is_selectable m name no) (length table.superclasses) step now.0 lt none (sym (place_is files sel.superclasses class now.0 now.1) ∙ over) in
      subst (Names files None) (sym lost ∙ now.2) refl

  pub walk_past : (class step : ℕ) → Walked class step → length table.superclasses ≡ step → Selects table first number None
  walk_past class step walked past files sel file c m e =
      let now = walked files sel file c m e in
      let f = method_in_class files is_selectable m in
      let nothing_left : length table.superclasses - step ≡ 0 = omega (arith, past) in
      let none : first_found f (lineage_of files (length table.superclasses - step) (name_of now.0)) ≡ None = ap (λ n. first_found f (lineage_of files n (name_of now.0))) nothing_left in
      subst (Names files None) (sym none ∙ now.2) refl

  pub walk_goes_on : (class step next : ℕ) → Walked class step → step < length table.superclasses
      → declared_number table class number ≡ None → get_or table.superclasses class None ≡ Some next → Walked next (step + 1)
  walk_goes_on class step next walked lt h over files sel file c m e =
      let now = walked files sel file c m e in
      let f = method_in_class files is_selectable m in
      let none = none_here files f now.0 (subst (λ o. Names files o (f (name_of now.0))) h (sel.declared class number now.0 m now.1 e)) in
      let up = above_at files now.0 next (sym (place_is files sel.superclasses class now.0 now.1) ∙ over) in
      (up.0, up.1, sym (next_step files (length table.superclasses) step (name_of now.0) (name_of up.0) f lt none up.2) ∙ now.2)
