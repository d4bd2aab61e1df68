-- Walks upwards by a table of lineages.
use Rattle.std.proofs.Common.{◌≡◌, ◌∙◌, ℕ, suc, ◌-◌, ◌<◌, ◌≤◌, length, true, false, List, Some, sym, ap, subst, arith, ◌⊎◌, ⊎_elim}
use Rattle.std.specs.Prelude.{◌==◌}
use Rattle.std.proofs.lemmas.Bool.Decides.{eqb_tells}
use Rattle.model.specs.Names.{name_eq}
use Rattle.model.specs.Classes.{Program, classes_of, is_subclass}
use Rattle.model.specs.TypeJoin.{class_join}
use Rattle.hierarchy.specs.Places.{name_at}
use Rattle.hierarchy.specs.declared.lineage.Lineage.{Lineage}
use Rattle.hierarchy.specs.Lineages.{depth_in, superclass_in, skip_in, HasLineages, class_above, IsRaised}
use Rattle.hierarchy.proofs.Climbing.{HasDepth, one_depth, above_next, above_more, depth_above, subclass_raised, no_subclass, join_second, join_first, join_next, join_skip}
use Rattle.hierarchy.proofs.RowLaws.{name_eq_refl}
use Rattle.hierarchy.proofs.LineageLaws.{told, differ, has_depth, directly_above, skipped}

module _ (files : Program) (table : List Lineage) (all_told : HasLineages files table) where
  -- ---- to a depth

  pub raised_here : (place depth : ℕ) → depth_in table place ≤ depth
      → class_above files (depth_in table place - depth) (name_at files place) ≡ Some (name_at files place)
  raised_here place depth l = let z : depth_in table place - depth ≡ 0 = omega (arith, l) in ap (λ n. class_above files n (name_at files place)) z

  pub raised_by_skip : (place depth : ℕ) → place < length table → depth ≤ depth_in table (skip_in table place)
      → class_above files (depth_in table place - depth) (name_at files place)
      ≡ class_above files (depth_in table (skip_in table place) - depth) (name_at files (skip_in table place))
  raised_by_skip place depth l h =
      let skip = skipped files table all_told place l in
      let middle = depth_in table (skip_in table place) in
      above_more files (depth_in table place - middle) (middle - depth) (depth_in table place - depth) (name_at files place) (name_at files (skip_in table place)) (omega (arith, h, skip.less)) skip.above

  pub raised_by_one : (place depth : ℕ) → place < length table → depth < depth_in table place
      → (superclass_in table place < length table)
      × (class_above files (depth_in table place - depth) (name_at files place) ≡ class_above files (depth_in table (superclass_in table place) - depth) (name_at files (superclass_in table place)))
  raised_by_one place depth l h =
      let up = directly_above files table all_told place l (λ z. omega (arith, h, z)) in
      let steps : depth_in table place - depth ≡ suc (depth_in table (superclass_in table place) - depth) = omega (arith, h, up.deeper) in
      (up.within, ap (λ n. class_above files n (name_at files place)) steps ∙ above_next files (depth_in table (superclass_in table place) - depth) (name_at files place) (name_at files (superclass_in table place)) up.above)

  -- the class that it is raised to has just so many superclasses
  pub raised_depth : (depth place p : ℕ) → place < length table → depth ≤ depth_in table place → IsRaised files table depth place p
      → depth_in table p ≡ depth
  raised_depth depth place p l h r =
      one_depth files (depth_in table p) depth (name_at files p) (has_depth files table all_told p r.within)
      (depth_above files (depth_in table place - depth) depth (depth_in table place) (name_at files place) (name_at files p) (omega (arith, h)) (has_depth files table all_told place l) r.above)

  -- ---- subclasses

  pub not_below : (c d : ℕ) → c < length table → d < length table → depth_in table c < depth_in table d
      → false ≡ is_subclass files (name_at files c) (name_at files d)
  not_below c d lc ld h = sym (no_subclass files (depth_in table c) (depth_in table d) (name_at files c) (name_at files d) (has_depth files table all_told c lc) (has_depth files table all_told d ld) h)

  pub below_raised : (c d p : ℕ) → c < length table → d < length table → depth_in table d ≤ depth_in table c
      → IsRaised files table (depth_in table d) c p → (p == d) ≡ is_subclass files (name_at files c) (name_at files d)
  below_raised c d p lc ld h r =
      same (eqb_tells p d)
      ∙ sym (subclass_raised files (depth_in table c - depth_in table d) (depth_in table d) (depth_in table c) (name_at files c) (name_at files d) (name_at files p) (has_depth files table all_told c lc) (has_depth files table all_told d ld)
      (omega (arith, h)) (told files table all_told c lc).few r.above)
    where
      same : (((p == d) ≡ true) × (p ≡ d)) ⊎ (((p == d) ≡ false) × (p ≡ d → ⊥)) → (p == d) ≡ name_eq (name_at files p) (name_at files d)
      same t =
          ⊎_elim
          (λ e. e.0 ∙ sym (subst (λ n. name_eq (name_at files p) (name_at files n) ≡ true) e.1 (name_eq_refl (name_at files p))))
          (λ e. e.0 ∙ sym (differ files table all_told p d r.within ld e.1))
          t

  -- ---- joins

  pub join_of_first_raised : (c d p : ℕ) → c < length table → d < length table → depth_in table d ≤ depth_in table c
      → IsRaised files table (depth_in table d) c p
      → class_join files (name_at files c) (name_at files d) ≡ class_join files (name_at files p) (name_at files d)
  join_of_first_raised c d p lc ld h r =
      join_first files (depth_in table c - depth_in table d) (depth_in table c) (depth_in table d) (name_at files c) (name_at files d) (name_at files p) (has_depth files table all_told c lc) (has_depth files table all_told d ld)
      (omega (arith, h)) (told files table all_told c lc).few r.above

  pub join_of_second_raised : (c d p : ℕ) → c < length table → d < length table → depth_in table c < depth_in table d
      → IsRaised files table (depth_in table c) d p
      → class_join files (name_at files c) (name_at files d) ≡ class_join files (name_at files c) (name_at files p)
  join_of_second_raised c d p lc ld h r =
      join_second files (depth_in table d - depth_in table c) (depth_in table c) (depth_in table d) (name_at files c) (name_at files d) (name_at files p) (has_depth files table all_told c lc) (has_depth files table all_told d ld)
      (omega (arith, h)) (told files table all_told d ld).few r.above

  pub met_by_skip : (a b : ℕ) → a < length table → b < length table → depth_in table a ≡ depth_in table b
      → (skip_in table a ≡ skip_in table b → ⊥) → depth_in table (skip_in table a) ≡ depth_in table (skip_in table b)
      → class_join files (name_at files a) (name_at files b)
      ≡ class_join files (name_at files (skip_in table a)) (name_at files (skip_in table b))
  met_by_skip a b la lb level ne deep =
      let of_a = skipped files table all_told a la in
      let of_b = skipped files table all_told b lb in
      let steps : depth_in table b - depth_in table (skip_in table b) ≡ depth_in table a - depth_in table (skip_in table a) = omega (arith, level, deep) in
      join_skip files (depth_in table a - depth_in table (skip_in table a)) (depth_in table a) (name_at files a) (name_at files b) (name_at files (skip_in table a)) (name_at files (skip_in table b))
      (has_depth files table all_told a la) (subst (λ k. HasDepth files k (name_at files b)) (sym level) (has_depth files table all_told b lb)) (omega arith) (told files table all_told a la).few
      of_a.above (subst (λ k. class_above files k (name_at files b) ≡ Some (name_at files (skip_in table b))) steps of_b.above)
      (differ files table all_told (skip_in table a) (skip_in table b) of_a.within of_b.within ne)

  pub record MetByOne (a b : ℕ) : Type 0 where
    pub of_a : superclass_in table a < length table
    pub of_b : superclass_in table b < length table
    pub level : depth_in table (superclass_in table a) ≡ depth_in table (superclass_in table b)
    pub join : class_join files (name_at files a) (name_at files b)
        ≡ class_join files (name_at files (superclass_in table a)) (name_at files (superclass_in table b))

  pub met_by_one : (a b : ℕ) → a < length table → b < length table → depth_in table a ≡ depth_in table b → (a ≡ b → ⊥)
      → (depth_in table a ≡ 0 → ⊥) → MetByOne a b
  met_by_one a b la lb level ne deep =
      let up_a = directly_above files table all_told a la deep in
      let up_b = directly_above files table all_told b lb (λ z. deep (level ∙ z)) in
      let k = depth_in table (superclass_in table a) in
      let same : depth_in table b ≡ suc k = sym level ∙ up_a.deeper in
      record {
        of_a = up_a.within;
        of_b = up_b.within;
        level = omega (arith, level, up_a.deeper, up_b.deeper);
        join =
            join_next files k (name_at files a) (name_at files b) (name_at files (superclass_in table a)) (name_at files (superclass_in table b))
            (subst (λ n. HasDepth files n (name_at files a)) up_a.deeper (has_depth files table all_told a la)) (subst (λ n. HasDepth files n (name_at files b)) same (has_depth files table all_told b lb))
            up_a.above up_b.above (subst (λ n. n < length (classes_of files)) up_a.deeper (told files table all_told a la).few) (differ files table all_told a b la lb ne);
      }
