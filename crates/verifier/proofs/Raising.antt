-- A frame type that differs from one that is below what is there, in some local variables: their joins are its join.
use Rattle.std.proofs.Common.{◌≡◌, ℕ, zero, suc, List, [], ◌∷◌, length, map, Bool, true, false, ◌&&◌, Some, refl, sym, ap, ◌∙◌, subst, arith}
use Rattle.std.specs.Prelude.{slice_get, slice_index_or}
use Rattle.std.specs.List.{list_all}
use Rattle.std.proofs.lemmas.Bool.{false≢true}
use Rattle.std.proofs.lemmas.Option.{slice_get-map}
use Rattle.model.specs.Classes.{Program}
use Rattle.model.specs.Types as model
use Rattle.model.specs.TypeOrder.{FrameType, is_stack_below, is_local_below, is_mark_below, is_frame_below}
use Rattle.model.specs.TypeJoin.{local_join, stack_join, in_front, join_pairwise, frame_of_slots, frame_join}
use Rattle.types.specs.View.{type_in}
use Rattle.types.specs.declared.verification_type.VerificationType.TheVariants as type
use Rattle.run_laws.proofs.laws.Lists.{Pairwise, pair_length, pair_get}
use Rattle.run_laws.proofs.typing_search.Orders.{Below, below_parts, from_parts}
use Rattle.verifier.specs.Packed.{Parts, parts_in}
use Rattle.verifier.specs.Agreeing.{is_among, AgreeAt, DifferIn}
use Rattle.verifier.specs.Changes.{fits, PartsDiffer, IsJoined}
use Rattle.verifier.proofs.Agreeing.{but_map, map_index, index_map, item_of, index_alike, pair_at, pairs_from, all_at, all_among}
use Rattle.verifier.proofs.Kept.{kept_local, kept_stacks}

-- frame types by their parts
pub differ_in : (files : Program) (ks : List ℕ) (a b : Parts) → PartsDiffer ks a b → DifferIn ks (parts_in files a) (parts_in files b)
differ_in files ks a b d =
    record {
      locals = but_map (type_in files) ks a.locals b.locals d.locals;
      stack = ap (λ l. (parts_in files (record { locals = a.locals; stack = l; constructed = a.constructed })).slots.stack) d.stack;
      constructed = d.constructed;
    }

module _ (files : Program) where
  zip_joined : (xs ys zs : List model.VerificationType) → length ys ≡ length xs → length zs ≡ length xs
      → ((k : ℕ) (x y : model.VerificationType) → slice_get xs k ≡ Some x → slice_get ys k ≡ Some y → slice_get zs k ≡ Some (local_join files x y))
      → join_pairwise (λ s t. Some (local_join files s t)) xs ys ≡ Some zs
  zip_joined [] [] [] l m h = refl
  zip_joined [] [] (z ∷ zs) l m h = absurd cc
  zip_joined [] (y ∷ ys) zs l m h = absurd cc
  zip_joined (x ∷ xs) [] zs l m h = absurd cc
  zip_joined (x ∷ xs) (y ∷ ys) [] l m h = absurd cc
  zip_joined (x ∷ xs) (y ∷ ys) (z ∷ zs) l m h =
      let n : length ys ≡ length xs = omega (arith, l) in
      let o : length zs ≡ length xs = omega (arith, m) in
      let head : z ≡ local_join files x y = one (h zero x y refl refl) in
      ap (in_front (Some (local_join files x y))) (zip_joined xs ys zs n o (λ k. h (suc k))) ∙ ap (λ v. Some (v ∷ zs)) (sym head)
    where
      one : Some z ≡ Some (local_join files x y) → z ≡ local_join files x y
      one e = cc

  -- ---- a mark

  kept_mark : (there t : Bool) → is_mark_below t there ≡ true → (there && t) ≡ there
  kept_mark true true e = refl
  kept_mark true false e = absurd (false≢true e)
  kept_mark false t e = refl

  module _ (ks : List ℕ) (old new there : FrameType) (below : is_frame_below files old there ≡ true) (d : DifferIn ks old new) where
    parts : Below files old there
    parts = below_parts files old there below

    long : length new.slots.locals ≡ length there.slots.locals
    long = sym d.locals.long ∙ pair_length (is_local_below files) old.slots.locals there.slots.locals parts.locals

    -- a local variable that didn't change
    unchanged : (k : ℕ) (x y : model.VerificationType) → is_among ks k ≡ false → slice_get there.slots.locals k ≡ Some x
        → slice_get new.slots.locals k ≡ Some y → is_local_below files y x ≡ true
    unchanged k x y n e f = pair_at (is_local_below files) old.slots.locals there.slots.locals parts.locals k y x (d.locals.same k n ∙ f) e

    either : (k : ℕ) (x y : model.VerificationType) (P : Type 0) → (is_among ks k ≡ true → P) → (is_among ks k ≡ false → P) → P
    either k x y P f g = by (is_among ks k) refl
      where
        by : (b : Bool) → is_among ks k ≡ b → P
        by true e = f e
        by false e = g e

    -- where all that changed is below, all is
    pub still_below : ((k : ℕ) (x y : model.VerificationType) → is_among ks k ≡ true → slice_get there.slots.locals k ≡ Some x
        → slice_get new.slots.locals k ≡ Some y → is_local_below files y x ≡ true) → is_frame_below files new there ≡ true
    still_below h =
        from_parts files new there (record {
          locals =
              pairs_from (is_local_below files) new.slots.locals there.slots.locals long
              (λ k y x f e. either k x y (is_local_below files y x ≡ true) (λ m. h k x y m e f) (λ n. unchanged k x y n e f));
          stack = subst (λ l. Pairwise (is_stack_below files) l there.slots.stack) d.stack parts.stack;
          mark = subst (λ m. is_mark_below m there.constructed ≡ true) d.constructed parts.mark;
        })

    -- what is there, with the joins in place of what changed, is the join
    pub joined_is : (join : FrameType) → DifferIn ks there join
        → ((k : ℕ) (x y : model.VerificationType) → is_among ks k ≡ true → slice_get there.slots.locals k ≡ Some x
        → slice_get new.slots.locals k ≡ Some y → slice_get join.slots.locals k ≡ Some (local_join files x y))
        → frame_join files there new ≡ Some join
    joined_is join dj h =
        let kept = λ (k : ℕ) (x y : model.VerificationType) (n : is_among ks k ≡ false) (e : slice_get there.slots.locals k ≡ Some x) (f : slice_get new.slots.locals k ≡ Some y).
        sym (dj.locals.same k n) ∙ (e ∙ ap (λ t. Some t) (sym (kept_local files x y (unchanged k x y n e f)))) in
        let locals : join_pairwise (λ s t. Some (local_join files s t)) there.slots.locals new.slots.locals ≡ Some join.slots.locals =
        zip_joined there.slots.locals new.slots.locals join.slots.locals long (sym dj.locals.long)
        (λ k x y e f. either k x y (slice_get join.slots.locals k ≡ Some (local_join files x y)) (λ m. h k x y m e f) (λ n. kept k x y n e f)) in
        let stack : join_pairwise (stack_join files) there.slots.stack new.slots.stack ≡ Some there.slots.stack =
        kept_stacks files there.slots.stack new.slots.stack (subst (λ l. Pairwise (is_stack_below files) l there.slots.stack) d.stack parts.stack) in
        let mark : (there.constructed && new.constructed) ≡ there.constructed =
        kept_mark there.constructed new.constructed (subst (λ m. is_mark_below m there.constructed ≡ true) d.constructed parts.mark) in
        ap (λ o. frame_of_slots (there.constructed && new.constructed) o (join_pairwise (stack_join files) there.slots.stack new.slots.stack)) locals
        ∙ (ap (λ o. frame_of_slots (there.constructed && new.constructed) (Some join.slots.locals) o) stack
        ∙ (ap (λ m. frame_of_slots m (Some join.slots.locals) (Some there.slots.stack)) mark
        ∙ (ap (λ l. frame_of_slots there.constructed (Some join.slots.locals) (Some l)) dj.stack
        ∙ ap (λ m. frame_of_slots m (Some join.slots.locals) (Some join.slots.stack)) dj.constructed)))

  -- ---- by parts

  module _ (ks : List ℕ) (there frame : Parts) (new : FrameType) (at : AgreeAt ks new.slots.locals (map (type_in files) frame.locals)) where
    read_new : (k : ℕ) (y : model.VerificationType) → is_among ks k ≡ true → slice_get new.slots.locals k ≡ Some y
        → type_in files (slice_index_or frame.locals k type.Unusable) ≡ y
    read_new k y m f = map_index (type_in files) frame.locals k type.Unusable y (sym (at k m) ∙ f)

    pub each_fits : list_all (fits files there frame) ks ≡ true → (k : ℕ) (x y : model.VerificationType) → is_among ks k ≡ true
        → slice_get (map (type_in files) there.locals) k ≡ Some x → slice_get new.slots.locals k ≡ Some y → is_local_below files y x ≡ true
    each_fits all k x y m e f =
        subst (λ t. is_local_below files y t ≡ true) (map_index (type_in files) there.locals k type.Unusable x e)
        (subst (λ t. is_local_below files t (type_in files (slice_index_or there.locals k type.Unusable)) ≡ true) (read_new k y m f) (all_at (fits files there frame) ks k all m))

    -- where the new frame type is below, all that changed is
    fit_below : is_frame_below files new (parts_in files there) ≡ true → (k : ℕ) → is_among ks k ≡ true → fits files there frame k ≡ true
    fit_below below k m =
        let p = below_parts files new (parts_in files there) below in
        let here = pair_get (is_local_below files) new.slots.locals (map (type_in files) there.locals) model.Unusable model.Unusable p.locals refl k in
        let left : slice_index_or new.slots.locals k model.Unusable ≡ type_in files (slice_index_or frame.locals k type.Unusable) =
        index_alike new.slots.locals (map (type_in files) frame.locals) k model.Unusable (at k m) ∙ index_map (type_in files) frame.locals k type.Unusable in
        let right : slice_index_or (map (type_in files) there.locals) k model.Unusable ≡ type_in files (slice_index_or there.locals k type.Unusable) =
        index_map (type_in files) there.locals k type.Unusable in
        subst (λ t. is_local_below files (type_in files (slice_index_or frame.locals k type.Unusable)) t ≡ true) right
        (subst (λ t. is_local_below files t (slice_index_or (map (type_in files) there.locals) k model.Unusable) ≡ true) left here)

    pub not_below : list_all (fits files there frame) ks ≡ false → is_frame_below files new (parts_in files there) ≡ true → ⊥
    not_below some below = false≢true (sym some ∙ all_among (fits files there frame) ks (fit_below below))

    pub joins_at : (join : Parts) → IsJoined files ks there frame join → (k : ℕ) (x y : model.VerificationType) → is_among ks k ≡ true
        → slice_get (map (type_in files) there.locals) k ≡ Some x → slice_get new.slots.locals k ≡ Some y
        → slice_get (map (type_in files) join.locals) k ≡ Some (local_join files x y)
    joins_at join is k x y m e f =
        let a = item_of (type_in files) there.locals k x e in
        let b = item_of (type_in files) frame.locals k y (sym (at k m) ∙ f) in
        slice_get-map (type_in files) join.locals k
        ∙ (is.joins k m a.0 b.0 a.1.0 b.1.0 ∙ (ap (λ t. Some (local_join files t (type_in files b.0))) a.1.1 ∙ ap (λ t. Some (local_join files x t)) b.1.1))
