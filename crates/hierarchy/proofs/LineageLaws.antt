-- What follows from a table of lineages.
use Rattle.std.proofs.Common.{◌≡◌, ◌∙◌, ℕ, zero, suc, ◌-◌, ◌<◌, ◌≤◌, length, Bool, true, false, List, [], Option, Some, None, refl, sym, ap, subst, arith, ⊎_elim}
use Rattle.std.specs.Prelude.{◌==◌}
use Rattle.std.specs.Option.{option_and_then, option_map_or}
use Rattle.std.proofs.lemmas.Bool.{and_parts, or_cases, eqb-true, ltb-true}
use Rattle.model.specs.Names.{Name, name_eq}
use Rattle.model.specs.Tree.{FileTree}
use Rattle.model.specs.Classes.{Program, name_of, super_name_of, classes_of, superclass_of, is_named}
use Rattle.hierarchy.specs.Places.{class_at, place_of, name_at}
use Rattle.hierarchy.specs.declared.lineage.Lineage.{Lineage}
use Rattle.hierarchy.specs.Lineages.{depth_in, superclass_in, skip_in, stands_at, is_root, is_skip, is_directly_below, has_lineage, HasLineages, class_above}
use Rattle.hierarchy.proofs.Finding.{position_within}
use Rattle.hierarchy.proofs.SetLaws.{same_name, class_at_place, name_at_place, no_item}
use Rattle.hierarchy.proofs.Climbing.{HasDepth, above_next, above_more}

module _ {A : Type 0} where
  the_same : (o : Option A) (x y : A) → o ≡ Some x → o ≡ Some y → x ≡ y
  the_same o x y e f = cc

module _ (files : Program) where
  -- the place that a name stands at
  stands : (place : ℕ) (name : Name) → stands_at files place name ≡ true → place_of files name ≡ Some place
  stands place name e = by (place_of files name) refl e
    where
      by : (o : Option ℕ) → place_of files name ≡ o → option_map_or (λ p. p == place) o false ≡ true → place_of files name ≡ Some place
      by None q e = absurd cc
      by (Some p) q e = q ∙ ap Some (eqb-true p place e)

  -- the name at the place of a name
  pub named_at : (name : Name) (place : ℕ) → place_of files name ≡ Some place → name_at files place ≡ name
  named_at name place e = by (class_at files place) refl
    where
      by : (o : Option FileTree) → class_at files place ≡ o → name_at files place ≡ name
      by None q = absurd (no_item (classes_of files) place (position_within (is_named name) (classes_of files) place e) q)
      by (Some file) q = ap (λ (o : Option FileTree). option_map_or name_of o []) q ∙ name_at_place files name place file e q

  -- what a table says of the direct superclass of the class at a place
  abbrev IsUp : List Lineage → ℕ → Option Name → Type 0
  IsUp table place None = (depth_in table place ≡ 0) × (skip_in table place ≡ place)
  IsUp table place (Some s) =
      (name_at files (superclass_in table place) ≡ s) × (superclass_in table place < length table)
      × (depth_in table place ≡ suc (depth_in table (superclass_in table place)))
      × (is_skip table place (superclass_in table place) ≡ true)

  pub record Told (table : List Lineage) (place : ℕ) : Type 0 where
    pub named : place_of files (name_at files place) ≡ Some place
    pub few : depth_in table place < length (classes_of files)
    pub up : IsUp table place (superclass_of files (name_at files place))

module _ (files : Program) (table : List Lineage) where
  -- ---- what was checked

  told_by : (place : ℕ) (file : FileTree) → class_at files place ≡ Some file → has_lineage files table place file ≡ true
      → Told files table place
  told_by place file at e =
      let one = and_parts _ _ e in
      let two = and_parts _ _ one.1 in
      let is_name : name_at files place ≡ name_of file = ap (λ (o : Option FileTree). option_map_or name_of o []) at in
      let stood : place_of files (name_of file) ≡ Some place = stands files place (name_of file) one.0 in
      let above : superclass_of files (name_at files place) ≡ super_name_of file =
      ap (superclass_of files) is_name ∙ ap (λ (o : Option FileTree). option_and_then super_name_of o) (class_at_place files (name_of file) place stood ∙ at) in
      record {
        named = ap (place_of files) is_name ∙ stood;
        few = ltb-true _ _ two.0;
        up = subst (IsUp files table place) (sym above) (up_by (super_name_of file) two.1);
      }
    where
      up_by : (o : Option Name) → option_map_or (is_directly_below files table place) o (is_root table place) ≡ true
          → IsUp files table place o
      up_by None e = let two = and_parts _ _ e in (eqb-true _ _ two.0, eqb-true _ _ two.1)
      up_by (Some s) e =
          let one = and_parts _ _ e in
          let two = and_parts _ _ one.1 in
          let three = and_parts _ _ two.1 in
          (named_at files s (superclass_in table place) (stands files (superclass_in table place) s one.0), ltb-true _ _ two.0, eqb-true _ _ three.0, three.1)

module _ (files : Program) (table : List Lineage) (all_told : HasLineages files table) where
  pub told : (place : ℕ) → place < length table → Told files table place
  told place l = by (class_at files place) refl (all_told place l)
    where
      by : (o : Option FileTree) → class_at files place ≡ o → option_map_or (has_lineage files table place) o false ≡ true
          → Told files table place
      by None q e = absurd cc
      by (Some file) q e = told_by files table place file q e

  -- two names at places of the table are one only where the places are
  pub differ : (a b : ℕ) → a < length table → b < length table → (a ≡ b → ⊥) → name_eq (name_at files a) (name_at files b) ≡ false
  differ a b la lb ne = by (name_eq (name_at files a) (name_at files b)) refl
    where
      by : (t : Bool) → name_eq (name_at files a) (name_at files b) ≡ t → t ≡ false
      by false e = refl
      by true e =
          let same : place_of files (name_at files b) ≡ Some a = ap (place_of files) (sym (same_name _ _ e)) ∙ (told a la).named in
          absurd (ne (the_same _ a b same (told b lb).named))

  -- ---- depths

  has_depth_by : (n place : ℕ) → depth_in table place < n → place < length table
      → HasDepth files (depth_in table place) (name_at files place)
  has_depth_by zero place d l = absurd (omega (arith, d))
  has_depth_by (suc n) place d l = by (superclass_of files (name_at files place)) refl (told place l).up (λ up. has_depth_by n up)
    where
      by : (o : Option Name) → superclass_of files (name_at files place) ≡ o → IsUp files table place o
          → ((up : ℕ) → depth_in table up < n → up < length table → HasDepth files (depth_in table up) (name_at files up))
          → HasDepth files (depth_in table place) (name_at files place)
      by None q u before = subst (λ k. HasDepth files k (name_at files place)) (sym u.0) q
      by (Some s) q u before =
          let up = superclass_in table place in
          let below : HasDepth files (depth_in table up) (name_at files up) = before up (omega (arith, d, u.2)) u.1 in
          subst (λ k. HasDepth files k (name_at files place)) (sym u.2) (s, (q, subst (HasDepth files (depth_in table up)) u.0 below))

  pub has_depth : (place : ℕ) → place < length table → HasDepth files (depth_in table place) (name_at files place)
  has_depth place l = has_depth_by (suc (depth_in table place)) place (omega arith) l

  -- the direct superclass, where there is one
  pub record Above (place : ℕ) : Type 0 where
    pub within : superclass_in table place < length table
    pub deeper : depth_in table place ≡ suc (depth_in table (superclass_in table place))
    pub above : superclass_of files (name_at files place) ≡ Some (name_at files (superclass_in table place))

  pub directly_above : (place : ℕ) → place < length table → (depth_in table place ≡ 0 → ⊥) → Above place
  directly_above place l ne = by (superclass_of files (name_at files place)) refl (told place l).up
    where
      by : (o : Option Name) → superclass_of files (name_at files place) ≡ o → IsUp files table place o → Above place
      by None q u = absurd (ne u.0)
      by (Some s) q u = record { within = u.1; deeper = u.2; above = q ∙ ap Some (sym u.0) }

  -- ---- skips

  pub record Skipped (place : ℕ) : Type 0 where
    pub within : skip_in table place < length table
    pub less : depth_in table (skip_in table place) ≤ depth_in table place
    pub above : class_above files (depth_in table place - depth_in table (skip_in table place)) (name_at files place)
        ≡ Some (name_at files (skip_in table place))

  none_less : (k : ℕ) (c : Name) → class_above files (k - k) c ≡ Some c
  none_less k c = let z : k - k ≡ 0 = omega arith in ap (λ n. class_above files n c) z

  skipped_by : (n place : ℕ) → depth_in table place < n → place < length table → Skipped place
  skipped_by zero place d l = absurd (omega (arith, d))
  skipped_by (suc n) place d l = by (superclass_of files (name_at files place)) refl (told place l).up (λ up. skipped_by n up)
    where
      up : ℕ
      up = superclass_in table place

      to_itself : skip_in table place ≡ place → Skipped place
      to_itself e = record {
        within = subst (λ p. p < length table) (sym e) l;
        less = subst (λ p. depth_in table p ≤ depth_in table place) (sym e) (omega arith);
        above = subst (λ p. class_above files (depth_in table place - depth_in table p) (name_at files place) ≡ Some (name_at files p)) (sym e) (none_less (depth_in table place) (name_at files place));
      }

      -- a class above the superclass
      further : (s : Name) (p k : ℕ) → superclass_of files (name_at files place) ≡ Some s → name_at files up ≡ s
          → depth_in table place ≡ suc (depth_in table up) → skip_in table place ≡ p → p < length table
          → depth_in table p ≤ depth_in table up
          → k ≡ depth_in table up - depth_in table p → class_above files k (name_at files up) ≡ Some (name_at files p) → Skipped place
      further s p k q named deep e lp less is h =
          let steps : depth_in table place - depth_in table p ≡ suc k = omega (arith, deep, less, is) in
          record {
            within = subst (λ x. x < length table) (sym e) lp;
            less = subst (λ x. depth_in table x ≤ depth_in table place) (sym e) (omega (arith, less, deep));
            above = subst (λ x. class_above files (depth_in table place - depth_in table x) (name_at files place) ≡ Some (name_at files x)) (sym e)
                (ap (λ m. class_above files m (name_at files place)) steps ∙ above_next files k (name_at files place) s q ∙ ap (class_above files k) (sym named) ∙ h);
          }

      by : (o : Option Name) → superclass_of files (name_at files place) ≡ o → IsUp files table place o
          → ((p : ℕ) → depth_in table p < n → p < length table → Skipped p) → Skipped place
      by None q u before = to_itself u.1
      by (Some s) q u before =
          ⊎_elim
          (λ one. further s up 0 q u.0 u.2 (eqb-true _ _ one) u.1 (omega arith) (omega arith) refl)
          (λ two.
          let first = before up (omega (arith, d, u.2)) u.1 in
          let second = before (skip_in table up) (omega (arith, d, u.2, first.less)) first.within in
          let far = depth_in table up - depth_in table (skip_in table (skip_in table up)) in
          further s (skip_in table (skip_in table up)) far q u.0 u.2 (eqb-true _ _ two) second.within (omega (arith, first.less, second.less)) refl
          (above_more files (depth_in table up - depth_in table (skip_in table up)) (depth_in table (skip_in table up) - depth_in table (skip_in table (skip_in table up))) far (name_at files up) (name_at files (skip_in table up))
          (omega (arith, first.less, second.less)) first.above ∙ second.above))
          (or_cases _ _ u.3)

  pub skipped : (place : ℕ) → place < length table → Skipped place
  skipped place l = skipped_by (suc (depth_in table place)) place (omega arith) l
