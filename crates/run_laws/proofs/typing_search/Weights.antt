-- A type that is raised is less high; so what a search merges in lessens its work.
use Rattle.std.proofs.Common.{◌≡◌, ℕ, zero, suc, ◌+◌, ◌*◌, ◌<◌, ◌≤◌, ◌⊎◌, List, [], ◌∷◌, length, Bool, true, false, eqb, ◌&&◌, Option, Some, None, refl, sym, ap, ◌∙◌, subst, inl, inr, ⊎_elim, arith}
use Rattle.std.specs.Prelude.{slice_get, slice_set}
use Rattle.std.specs.Option.{option_map_or}
use Rattle.std.specs.List.{AllByRecursion}
use Rattle.std.proofs.lemmas.Bool.{false≢true, or_cases}
use Rattle.std.proofs.Math.Nat.{suc-mul, add-mul}
use Rattle.std.proofs.lemmas.Nat.{mul-le}
use Rattle.std.proofs.lemmas.Option.{same_Some}
use Rattle.model.specs.Names.{Name, name_eq, java_lang_object}
use Rattle.model.specs.Classes.{Program, Body, classes_of, superclass_of, is_within}
use Rattle.model.specs.ReferenceTypes.{Primitive, Boolean, Char, Byte, Short, Int, primitive_number, ReferenceType, ClassType, PrimitiveArray, ReferenceArray, is_assignable}
use Rattle.model.specs.Types.{VerificationType, Unusable, IntType, NullType, OfType, Uninitialised, UninitialisedThis, is_of}
use Rattle.model.specs.TypeOrder.{FrameType, is_mark_below, is_stack_below, is_local_below, is_frame_below}
use Rattle.model.specs.TypeJoin.{IsJoin, stack_join, local_join, in_front, join_pairwise, frame_of_slots, frame_join}
use Rattle.model.specs.Typing.{IsSized}
use Rattle.run_laws.specs.laws.Steps.{ends, Rooted}
use Rattle.run_laws.proofs.laws.Lists.{Pairwise, pair_weaken}
use Rattle.run_laws.proofs.laws.Classes.{names_same, object_is_top}
use Rattle.run_laws.specs.typing_search.Tables.{waits, found_at, waiting_at}
use Rattle.run_laws.specs.typing_search.Weights.{classes_above, rank, dimensions, height, IsLow, IsLowFrame, heights, mark_weight, frame_weight, entry_weight, table_weight, marks_weight, work, places}
use Rattle.run_laws.proofs.typing_search.Orders.{int_same, null_same, new_same, this_same, stack_local, below_parts}
use Rattle.run_laws.proofs.typing_search.Joins.{stack_is, local_is, frame_is}

-- ---- classes

pub none_above : (files : Program) (n : ℕ) → classes_above files n java_lang_object ≡ 0
none_above files zero = refl
none_above files (suc n) = ap (λ o. option_map_or (λ s. suc (classes_above files n s)) o 0) (object_is_top files)

on_some : {A B : Type 0} (f : A → B) (d : B) (o : Option A) (x : A) → o ≡ Some x → option_map_or f o d ≡ f x
on_some f d o x e = ap (λ p. option_map_or f p d) e

-- ---- marks

marks_set : (marks : List Bool) (to : ℕ) → marks_weight (waiting_at marks to) ≤ marks_weight marks + 1
marks_set [] to = omega arith
marks_set (true ∷ bs) zero = omega arith
marks_set (false ∷ bs) zero = omega arith
marks_set (b ∷ bs) (suc to) = let r = marks_set bs to in omega (arith, r)

marks_off : (marks : List Bool) (offset : ℕ) → waits marks offset ≡ true → marks_weight (slice_set marks offset false) < marks_weight marks
marks_off [] offset e = absurd (false≢true e)
marks_off (true ∷ bs) zero e = omega arith
marks_off (false ∷ bs) zero e = absurd (false≢true e)
marks_off (b ∷ bs) (suc offset) e = let r = marks_off bs offset e in omega (arith, r)

module _ (files : Program) where
  -- where the superclasses end, more steps count no more
  counted : (n : ℕ) (c : Name) → ends files (suc n) c ≡ true → classes_above files (suc n) c ≡ classes_above files n c
  counted zero c e = go (superclass_of files c) e
    where
      go : (o : Option Name) → option_map_or (λ s. ends files 0 s) o true ≡ true
          → option_map_or (λ s. suc (classes_above files 0 s)) o 0 ≡ 0
      go None e = refl
      go (Some s) e = absurd (false≢true e)
  counted (suc n) c e = go (λ s x. counted n s x) (superclass_of files c) e
    where
      go : ((s : Name) → ends files (suc n) s ≡ true → classes_above files (suc n) s ≡ classes_above files n s) → (o : Option Name)
          → option_map_or (λ s. ends files (suc n) s) o true ≡ true
          → option_map_or (λ s. suc (classes_above files (suc n) s)) o 0 ≡ option_map_or (λ s. suc (classes_above files n s)) o 0
      go rec None e = refl
      go rec (Some s) e = ap suc (rec s e)

  pub above_bounded : (n : ℕ) (c : Name) → classes_above files n c ≤ n
  above_bounded zero c = omega arith
  above_bounded (suc n) c = go (λ s. above_bounded n s) (superclass_of files c)
    where
      go : ((s : Name) → classes_above files n s ≤ n) → (o : Option Name) → option_map_or (λ s. suc (classes_above files n s)) o 0 ≤ suc n
      go rec None = omega arith
      go rec (Some s) = let r = rec s in omega (arith, r)

  pub rank_bounded : (t : ReferenceType) → rank files t ≤ dimensions t + length (classes_of files)
  rank_bounded (ClassType c) = let r = above_bounded (length (classes_of files)) c in omega (arith, r)
  rank_bounded (PrimitiveArray of) = omega arith
  rank_bounded (ReferenceArray of) = let r = rank_bounded of in omega (arith, r)

  module _ (rooted : Rooted files) where
    -- one class more is above a class than above its superclass
    super_counted : (n : ℕ) (c s : Name) → ends files (suc n) c ≡ true → superclass_of files c ≡ Some s
        → classes_above files n c ≡ suc (classes_above files n s)
    super_counted zero c s e q = absurd (false≢true (subst (λ o. option_map_or (λ s. ends files 0 s) o true ≡ true) q e))
    super_counted (suc n) c s e q =
        let w : ends files (suc n) s ≡ true = subst (λ o. option_map_or (λ s. ends files (suc n) s) o true ≡ true) q e in
        on_some (λ s. suc (classes_above files n s)) 0 (superclass_of files c) s q ∙ ap suc (sym (counted n s w))

    abbrev above : Name → ℕ
    above c = classes_above files (length (classes_of files)) c

    within_lower : (n : ℕ) (c d : Name) → is_within files n c d ≡ true → (c ≡ d) ⊎ (above d < above c)
    within_lower zero c d w = inl (names_same c d w)
    within_lower (suc n) c d w =
        ⊎_elim (λ e. inl (names_same c d e)) (λ e. go (λ s x. within_lower n s d x) (superclass_of files c) refl e)
        (or_cases (name_eq c d) _ w)
      where
        go : ((s : Name) → is_within files n s d ≡ true → (s ≡ d) ⊎ (above d < above s)) → (o : Option Name) → superclass_of files c ≡ o
            → option_map_or (λ s. is_within files n s d) o false ≡ true → (c ≡ d) ⊎ (above d < above c)
        go rec None q e = absurd (false≢true e)
        go rec (Some s) q e =
            let more = super_counted (length (classes_of files)) c s (rooted c) q in
            inr (⊎_elim (λ x. let z = ap above x in omega (arith, more, z)) (λ l. omega (arith, more, l)) (rec s e))

    -- ---- reference types

    same_primitive : (a b : Primitive) → eqb (primitive_number a) (primitive_number b) ≡ true → a ≡ b
    same_primitive Boolean Boolean e = refl
    same_primitive Char Char e = refl
    same_primitive Byte Byte e = refl
    same_primitive Short Short e = refl
    same_primitive Int Int e = refl
    same_primitive a b e = absurd (false≢true e)

    object_counted : (d : Name) → name_eq d java_lang_object ≡ true → rank files (ClassType d) ≡ 0
    object_counted d e = ap (λ c. classes_above files (length (classes_of files)) c) (names_same d java_lang_object e) ∙ none_above files (length (classes_of files))

    rank_lower : (s t : ReferenceType) → is_assignable files s t ≡ true → (s ≡ t) ⊎ (rank files t < rank files s)
    rank_lower (ClassType c) (ClassType d) p = ⊎_elim (λ e. inl (ap (λ x. ClassType x) e)) (λ l. inr l) (within_lower (length (classes_of files)) c d p)
    rank_lower (ClassType c) (PrimitiveArray b) p = absurd (false≢true p)
    rank_lower (ClassType c) (ReferenceArray b) p = absurd (false≢true p)
    rank_lower (PrimitiveArray a) (ClassType d) p = let z = object_counted d p in inr (omega (arith, z))
    rank_lower (PrimitiveArray a) (PrimitiveArray b) p = inl (ap (λ x. PrimitiveArray x) (same_primitive a b p))
    rank_lower (PrimitiveArray a) (ReferenceArray b) p = absurd (false≢true p)
    rank_lower (ReferenceArray a) (ClassType d) p = let z = object_counted d p in inr (omega (arith, z))
    rank_lower (ReferenceArray a) (PrimitiveArray b) p = absurd (false≢true p)
    rank_lower (ReferenceArray a) (ReferenceArray b) p =
        ⊎_elim (λ e. inl (ap (λ x. ReferenceArray x) e)) (λ l. inr (omega (arith, l))) (rank_lower a b p)

    module _ (limit : ℕ) where
      -- ---- types

      abbrev Lower : VerificationType → VerificationType → Type 0
      Lower s t = (s ≡ t) ⊎ (height files limit t < height files limit s)

      lower_unusable : (s : VerificationType) → Lower s Unusable
      lower_unusable Unusable = inl refl
      lower_unusable IntType = inr (omega arith)
      lower_unusable NullType = inr (omega arith)
      lower_unusable (OfType r) = inr (omega arith)
      lower_unusable (Uninitialised at c) = inr (omega arith)
      lower_unusable (UninitialisedThis c) = inr (omega arith)

      lower_of : (s : VerificationType) (t : ReferenceType) → rank files t < limit → is_stack_below files s (OfType t) ≡ true
          → Lower s (OfType t)
      lower_of Unusable t l p = absurd (false≢true p)
      lower_of IntType t l p = absurd (false≢true p)
      lower_of NullType t l p = inr (omega (arith, l))
      lower_of (OfType r) t l p = ⊎_elim (λ e. inl (ap (λ x. OfType x) e)) (λ w. inr (omega (arith, w))) (rank_lower r t p)
      lower_of (Uninitialised at c) t l p = absurd (false≢true p)
      lower_of (UninitialisedThis c) t l p = absurd (false≢true p)

      pub local_lower : (s t : VerificationType) → IsLow files limit t → is_local_below files s t ≡ true → Lower s t
      local_lower s Unusable l p = lower_unusable s
      local_lower s IntType l p = inl (int_same s p)
      local_lower s NullType l p = inl (null_same s p)
      local_lower s (OfType t) l p = lower_of s t l p
      local_lower s (Uninitialised at c) l p = inl (new_same at c s p)
      local_lower s (UninitialisedThis c) l p = inl (this_same c s p)

      -- places that are raised are the same, or less high in all
      all_lower : (xs ys : List VerificationType) → AllByRecursion (IsLow files limit) ys → Pairwise (is_local_below files) xs ys
          → (xs ≡ ys) ⊎ (heights files limit ys < heights files limit xs)
      all_lower [] [] l f = inl refl
      all_lower [] (y ∷ ys) l f = absurd f
      all_lower (x ∷ xs) [] l f = absurd f
      all_lower (x ∷ xs) (y ∷ ys) l f = both (local_lower x y l.0 f.0) (all_lower xs ys l.1 f.1)
        where
          both : (x ≡ y) ⊎ (height files limit y < height files limit x) → (xs ≡ ys) ⊎ (heights files limit ys < heights files limit xs)
              → (x ∷ xs ≡ y ∷ ys) ⊎ (heights files limit (y ∷ ys) < heights files limit (x ∷ xs))
          both (inl e) (inl q) = inl (ap (λ z. z ∷ xs) e ∙ ap (λ l. y ∷ l) q)
          both (inl e) (inr q) = let z = ap (height files limit) e in inr (omega (arith, z, q))
          both (inr e) (inl q) = let z = ap (heights files limit) q in inr (omega (arith, z, e))
          both (inr e) (inr q) = inr (omega (arith, e, q))

      mark_lower : (a b : Bool) → is_mark_below a b ≡ true → (a ≡ b) ⊎ (mark_weight b < mark_weight a)
      mark_lower true true p = inl refl
      mark_lower true false p = inr (omega arith)
      mark_lower false true p = absurd (false≢true p)
      mark_lower false false p = inl refl

      -- a frame type that is raised weighs less, or is the same
      frame_lower : (a b : FrameType) → IsLowFrame files limit b → is_frame_below files a b ≡ true
          → (a ≡ b) ⊎ (frame_weight files limit b < frame_weight files limit a)
      frame_lower a b l p =
          let f = below_parts files a b p in
          by (all_lower a.slots.locals b.slots.locals l.locals f.locals) (all_lower a.slots.stack b.slots.stack l.stack (pair_weaken (is_stack_below files) (is_local_below files) _ _ (λ x y q. stack_local files x y q) f.stack)) (mark_lower a.constructed b.constructed f.mark)
        where
          by : (a.slots.locals ≡ b.slots.locals) ⊎ (heights files limit b.slots.locals < heights files limit a.slots.locals)
              → (a.slots.stack ≡ b.slots.stack) ⊎ (heights files limit b.slots.stack < heights files limit a.slots.stack)
              → (a.constructed ≡ b.constructed) ⊎ (mark_weight b.constructed < mark_weight a.constructed)
              → (a ≡ b) ⊎ (frame_weight files limit b < frame_weight files limit a)
          by (inl e) (inl q) (inl r) =
              inl (ap (λ x. let s : FrameType = record { slots = record { locals = x; stack = a.slots.stack }; constructed = a.constructed } in s) e ∙ (ap (λ x. let s : FrameType = record { slots = record { locals = b.slots.locals; stack = x }; constructed = a.constructed } in s) q ∙ ap (λ x. let s : FrameType = record { slots = b.slots; constructed = x } in s) r))
          by (inl e) (inl q) (inr r) = let x = ap (heights files limit) e in let y = ap (heights files limit) q in inr (omega (arith, x, y, r))
          by (inl e) (inr q) (inl r) = let x = ap (heights files limit) e in let z = ap mark_weight r in inr (omega (arith, x, q, z))
          by (inl e) (inr q) (inr r) = let x = ap (heights files limit) e in inr (omega (arith, x, q, r))
          by (inr e) (inl q) (inl r) = let y = ap (heights files limit) q in let z = ap mark_weight r in inr (omega (arith, e, y, z))
          by (inr e) (inl q) (inr r) = let y = ap (heights files limit) q in inr (omega (arith, e, y, r))
          by (inr e) (inr q) (inl r) = let z = ap mark_weight r in inr (omega (arith, e, q, z))
          by (inr e) (inr q) (inr r) = inr (omega (arith, e, q, r))

      -- ---- a join of low types is low

      low_up : (s t : VerificationType) (r : ReferenceType) → is_of files r s ≡ true → is_of files r t ≡ true
          → (s ≡ NullType → t ≡ NullType → ⊥) → IsLow files limit s → IsLow files limit t → rank files r < limit
      low_up Unusable t r p q never x y = absurd (false≢true p)
      low_up IntType t r p q never x y = absurd (false≢true p)
      low_up (Uninitialised at c) t r p q never x y = absurd (false≢true p)
      low_up (UninitialisedThis c) t r p q never x y = absurd (false≢true p)
      low_up (OfType s) t r p q never x y = ⊎_elim (λ e. let z = ap (rank files) e in omega (arith, x, z)) (λ l. omega (arith, x, l)) (rank_lower s r p)
      low_up NullType Unusable r p q never x y = absurd (false≢true q)
      low_up NullType IntType r p q never x y = absurd (false≢true q)
      low_up NullType NullType r p q never x y = absurd (never refl refl)
      low_up NullType (OfType t) r p q never x y = ⊎_elim (λ e. let z = ap (rank files) e in omega (arith, y, z)) (λ l. omega (arith, y, l)) (rank_lower t r q)
      low_up NullType (Uninitialised at c) r p q never x y = absurd (false≢true q)
      low_up NullType (UninitialisedThis c) r p q never x y = absurd (false≢true q)

      stack_low : (s t u : VerificationType) → IsJoin (is_stack_below files) s t (Some u) → IsLow files limit s → IsLow files limit t
          → IsLow files limit u
      stack_low s t Unusable j x y = tt
      stack_low s t IntType j x y = tt
      stack_low s t NullType j x y = tt
      stack_low s t (OfType r) j x y =
          low_up s t r j.0 j.1 (λ e q. false≢true (j.2 NullType (ap (λ z. is_stack_below files z NullType) e) (ap (λ z. is_stack_below files z NullType) q))) x y
      stack_low s t (Uninitialised at c) j x y = tt
      stack_low s t (UninitialisedThis c) j x y = tt

      local_low : (s t u : VerificationType) → IsJoin (is_local_below files) s t (Some u) → IsLow files limit s → IsLow files limit t
          → IsLow files limit u
      local_low s t Unusable j x y = tt
      local_low s t IntType j x y = tt
      local_low s t NullType j x y = tt
      local_low s t (OfType r) j x y =
          low_up s t r j.0 j.1 (λ e q. false≢true (j.2 NullType (ap (λ z. is_local_below files z NullType) e) (ap (λ z. is_local_below files z NullType) q))) x y
      local_low s t (Uninitialised at c) j x y = tt
      local_low s t (UninitialisedThis c) j x y = tt

      module _ (join : VerificationType → VerificationType → Option VerificationType) (low : (s t u : VerificationType) → join s t ≡ Some u → IsLow files limit s → IsLow files limit t → IsLow files limit u) where
        front_low : (o : Option VerificationType) (os : Option (List VerificationType)) (us : List VerificationType)
            → in_front o os ≡ Some us → ((u : VerificationType) → o ≡ Some u → IsLow files limit u)
            → ((vs : List VerificationType) → os ≡ Some vs → AllByRecursion (IsLow files limit) vs) → AllByRecursion (IsLow files limit) us
        front_low None os us e f g = absurd cc
        front_low (Some u) None us e f g = absurd cc
        front_low (Some u) (Some vs) us e f g = subst (AllByRecursion (IsLow files limit)) (same_Some (u ∷ vs) us e) (f u refl, g vs refl)

        all_low : (xs ys us : List VerificationType) → join_pairwise join xs ys ≡ Some us → AllByRecursion (IsLow files limit) xs
            → AllByRecursion (IsLow files limit) ys → AllByRecursion (IsLow files limit) us
        all_low [] [] us e x y = subst (AllByRecursion (IsLow files limit)) (same_Some [] us e) tt
        all_low [] (t ∷ ts) us e x y = absurd cc
        all_low (s ∷ ss) [] us e x y = absurd cc
        all_low (s ∷ ss) (t ∷ ts) us e x y =
            front_low (join s t) (join_pairwise join ss ts) us e (λ u q. low s t u q x.0 y.0) (λ vs q. all_low ss ts vs q x.1 y.1)

      slots_joined : (mark : Bool) (ls ss : Option (List VerificationType)) (join : FrameType) → frame_of_slots mark ls ss ≡ Some join
          → (ls ≡ Some join.slots.locals) × (ss ≡ Some join.slots.stack)
      slots_joined mark None ss join e = absurd cc
      slots_joined mark (Some ls) None join e = absurd cc
      slots_joined mark (Some ls) (Some ss) join e =
          let q = same_Some _ join e in
          (ap (λ (x : FrameType). Some x.slots.locals) q, ap (λ (x : FrameType). Some x.slots.stack) q)

      pub low_join : (a b join : FrameType) → frame_join files a b ≡ Some join → IsLowFrame files limit a → IsLowFrame files limit b
          → IsLowFrame files limit join
      low_join a b join e x y =
          let q = slots_joined (a.constructed && b.constructed) _ _ join e in
          record {
            locals = all_low (λ s t. Some (local_join files s t)) (λ s t u d. local_low s t u (subst (IsJoin (is_local_below files) s t) d (local_is files rooted s t))) a.slots.locals b.slots.locals join.slots.locals q.0 x.locals y.locals;
            stack = all_low (stack_join files) (λ s t u d. stack_low s t u (subst (IsJoin (is_stack_below files) s t) d (stack_is files rooted s t))) a.slots.stack b.slots.stack join.slots.stack q.1 x.stack y.stack;
          }

      -- ---- weights

      low_height : (t : VerificationType) → IsLow files limit t → height files limit t ≤ suc limit
      low_height Unusable l = omega arith
      low_height IntType l = omega arith
      low_height NullType l = omega arith
      low_height (OfType t) l = omega (arith, l)
      low_height (Uninitialised at c) l = omega arith
      low_height (UninitialisedThis c) l = omega arith

      low_heights : (ts : List VerificationType) → AllByRecursion (IsLow files limit) ts → heights files limit ts ≤ length ts * suc limit
      low_heights [] l = omega arith
      low_heights (t ∷ ts) l =
          let a = low_height t l.0 in
          let b = low_heights ts l.1 in
          let c = suc-mul (length ts) (suc limit) in
          omega (arith, a, b, c)

      mark_small : (b : Bool) → mark_weight b ≤ 1
      mark_small true = omega arith
      mark_small false = omega arith

      -- ---- merging lessens the work

      pub raised_lighter : (there t join : FrameType) → frame_join files there t ≡ Some join → (is_frame_below files t there ≡ true → ⊥)
          → IsLowFrame files limit there → IsLowFrame files limit t
          → IsLowFrame files limit join × (frame_weight files limit join < frame_weight files limit there)
      raised_lighter there t join e misfit x y =
          let j = subst (IsJoin (is_frame_below files) there t) e (frame_is files rooted there t) in
          let l = low_join there t join e x y in
          (l, ⊎_elim (λ same. absurd (misfit (subst (λ z. is_frame_below files t z ≡ true) (sym same) j.1))) (λ w. w) (frame_lower there join l j.0))

      module _ (body : Body) where
        pub first_lighter : (t : FrameType) → IsSized body t → IsLowFrame files limit t
            → frame_weight files limit t < entry_weight files limit (places body) None
        first_lighter t z l =
            let a = low_heights t.slots.locals l.locals in
            let b = low_heights t.slots.stack l.stack in
            let c = ap (λ n. n * suc limit) z.locals in
            let d = mul-le (length t.slots.stack) (suc limit) body.code.max_stack (suc limit) z.stack (omega arith) in
            let e = add-mul body.code.max_locals body.code.max_stack (suc limit) in
            let m = mark_small t.constructed in
            omega (arith, a, b, c, d, e, m)

        table_set : (table : List (Option FrameType)) (to : ℕ) (there : Option FrameType) (t : FrameType) → slice_get table to ≡ Some there
            → frame_weight files limit t < entry_weight files limit (places body) there
            → table_weight files limit (places body) (found_at table to t) < table_weight files limit (places body) table
        table_set [] to there t e l = absurd cc
        table_set (o ∷ os) zero there t e l = let z = ap (entry_weight files limit (places body)) (same_Some o there e) in omega (arith, z, l)
        table_set (o ∷ os) (suc to) there t e l = let r = table_set os to there t e l in omega (arith, r)

        pub work_merged : (table : List (Option FrameType)) (waiting : List Bool) (to : ℕ) (there : Option FrameType) (t : FrameType)
            → slice_get table to ≡ Some there → frame_weight files limit t < entry_weight files limit (places body) there
            → work files limit (places body) (found_at table to t) (waiting_at waiting to) < work files limit (places body) table waiting
        work_merged table waiting to there t e l =
            let a = table_set table to there t e l in
            let b = marks_set waiting to in
            omega (arith, a, b)

        pub work_taken_off : (table : List (Option FrameType)) (waiting : List Bool) (offset : ℕ) → waits waiting offset ≡ true
            → work files limit (places body) table (slice_set waiting offset false) < work files limit (places body) table waiting
        work_taken_off table waiting offset e = let w = marks_off waiting offset e in omega (arith, w)
