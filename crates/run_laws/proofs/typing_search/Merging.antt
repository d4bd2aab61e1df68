-- One frame type merged into a table: done, or no typing has it.
use Rattle.std.proofs.Common.{◌≡◌, ℕ, zero, suc, ◌≤◌, ◌<◌, List, [], ◌∷◌, length, Bool, true, false, Option, Some, None, refl, sym, ap, ◌∙◌, subst, inl, inr, ⊎_elim, arith}
use Rattle.std.specs.Prelude.{replicate, slice_get, slice_set}
use Rattle.std.specs.Option.{option_map}
use Rattle.std.proofs.lemmas.Bool.{false≢true, cases_eq}
use Rattle.std.proofs.lemmas.Option.{same_Some, slice_get_within}
use Rattle.std.proofs.lemmas.List.{length-set}
use Rattle.model.specs.Names.{Member}
use Rattle.model.specs.Instruction.{Sized, sized_at}
use Rattle.model.proofs.InstructionLaws.{AreWithin, sized_fits}
use Rattle.model.specs.InstructionStarts.{is_start}
use Rattle.model.specs.Classes.{Program, Body}
use Rattle.model.specs.Sites.{site_with}
use Rattle.model.specs.TypeOrder.{FrameType, is_stack_below, is_local_below, is_frame_below}
use Rattle.model.specs.TypeJoin.{IsJoin, frame_join}
use Rattle.model.specs.Typing.{Typing, Reaches, IsSized, flow_at, flow}
use Rattle.run_laws.specs.laws.Steps.{Rooted}
use Rattle.run_laws.proofs.laws.Lists.{pair_length}
use Rattle.run_laws.specs.typing_search.Search.{Raised, Merged, Clashes, IsTakenOff}
use Rattle.run_laws.specs.typing_search.Tables.{entry_of, typing_of, waits, found_at, waiting_at, taken_off, AreTables}
use Rattle.run_laws.proofs.typing_search.Orders.{below_parts, frame_self}
use Rattle.run_laws.proofs.typing_search.Joins.{frame_is}
use Rattle.run_laws.proofs.typing_search.Searching.{raised_self}

-- ---- lists

pub get_set_here : {A : Type 0} (xs : List A) (k : ℕ) (x y : A) → slice_get xs k ≡ Some y → slice_get (slice_set xs k x) k ≡ Some x
get_set_here [] k x y e = absurd cc
get_set_here (z ∷ zs) zero x y e = refl
get_set_here (z ∷ zs) (suc k) x y e = get_set_here zs k x y e

pub get_set_other : {A : Type 0} (xs : List A) (k j : ℕ) (x : A) → (j ≡ k → ⊥) → slice_get (slice_set xs k x) j ≡ slice_get xs j
get_set_other [] k j x n = refl
get_set_other (z ∷ zs) zero zero x n = absurd (n refl)
get_set_other (z ∷ zs) zero (suc j) x n = refl
get_set_other (z ∷ zs) (suc k) zero x n = refl
get_set_other (z ∷ zs) (suc k) (suc j) x n = get_set_other zs k j x (λ e. n (ap suc e))

waits_here : (marks : List Bool) (k : ℕ) → k < length marks → waits (slice_set marks k true) k ≡ true
waits_here [] k l = absurd (omega arith)
waits_here (m ∷ ms) zero l = refl
waits_here (m ∷ ms) (suc k) l = waits_here ms k (omega arith)

pub waits_other : (marks : List Bool) (k j : ℕ) (mark : Bool) → (j ≡ k → ⊥) → waits (slice_set marks k mark) j ≡ waits marks j
waits_other [] k j mark n = refl
waits_other (m ∷ ms) zero zero mark n = absurd (n refl)
waits_other (m ∷ ms) zero (suc j) mark n = refl
waits_other (m ∷ ms) (suc k) zero mark n = refl
waits_other (m ∷ ms) (suc k) (suc j) mark n = waits_other ms k j mark (λ e. n (ap suc e))

pub blank : (n k : ℕ) → typing_of (replicate n None) k ≡ None
blank zero k = refl
blank (suc n) zero = refl
blank (suc n) (suc k) = blank n k

pub unmarked : (n k : ℕ) → waits (replicate n false) k ≡ false
unmarked zero k = refl
unmarked (suc n) zero = refl
unmarked (suc n) (suc k) = unmarked n k

pub off_here : (waiting : List Bool) (offset : ℕ) → IsTakenOff offset (waits waiting) (waits (taken_off waiting offset))
off_here waiting offset k = ⊎_elim (λ q. inl q) (λ n. inr (waits_other waiting offset k false n)) (cases_eq k offset)

pub are_tables : AreTables
are_tables =
    record {
      untyped = blank;
      none_waits = unmarked;
      off = off_here;
      found_length = λ table offset t. length-set table offset (Some t);
      waiting_length = λ waiting offset. length-set waiting offset true;
      off_length = λ waiting offset. length-set waiting offset false;
    }

-- ---- merging

module _ (files : Program) (body : Body) where
  -- one offset is raised to r, the least above what was there and t
  merged_at : (F G : Typing) (P Q : ℕ → Bool) (to : ℕ) (t r : FrameType) → ((k : ℕ) → (k ≡ to → ⊥) → (G k ≡ F k) × (Q k ≡ P k))
      → G to ≡ Some r → Q to ≡ true → (((u : FrameType) → F to ≡ Some u → is_start body.code.code to ≡ true)
      → is_start body.code.code to ≡ true) → (((u : FrameType) → F to ≡ Some u → IsSized body u) → IsSized body r)
      → ((u : FrameType) → F to ≡ Some u → is_frame_below files u r ≡ true) → is_frame_below files t r ≡ true
      → ((H : Typing) → Raised files F H → Reaches files H to t → Reaches files H to r) → Merged files body F P ((to, t) ∷ []) G Q
  merged_at F G P Q to t r only here wait start size above fits least =
      record {
        starts = λ z k u e. ⊎_elim (λ q. subst (λ i. is_start body.code.code i ≡ true) (sym q) (start (λ v. z to v))) (λ n. z k u (sym (only k n).0 ∙ e)) (cases_eq k to);
        sized = λ z k u e. ⊎_elim (λ q. subst (IsSized body) (there k u q e) (size (λ v. z to v))) (λ n. z k u (sym (only k n).0 ∙ e)) (cases_eq k to);
        raised = λ k u e. ⊎_elim (λ q. subst (λ i. Reaches files G i u) (sym q) (record { there = r; typed = here; above = above u (ap F (sym q) ∙ e) })) (λ n. record { there = u; typed = (only k n).0 ∙ e; above = frame_self files u }) (cases_eq k to);
        waiting = λ k u e f. ⊎_elim (λ q. absurd (false≢true (sym f ∙ (ap Q q ∙ wait)))) (λ n. (sym (only k n).0 ∙ e, sym (only k n).1 ∙ f)) (cases_eq k to);
        reached = (record { there = r; typed = here; above = fits }, tt);
        least = λ H h w k u e. ⊎_elim (λ q. subst (λ i. Reaches files H i u) (sym q) (subst (Reaches files H to) (there k u q e) (least H h w.0))) (λ n. h k u (sym (only k n).0 ∙ e)) (cases_eq k to);
      }
    where
      there : (k : ℕ) (u : FrameType) → k ≡ to → G k ≡ Some u → r ≡ u
      there k u q e = same_Some r u (sym here ∙ (ap G (sym q) ∙ e))

  -- it fits already
  pub merged_same : (F : Typing) (P : ℕ → Bool) (to : ℕ) (t there : FrameType) → F to ≡ Some there → is_frame_below files t there ≡ true
      → Merged files body F P ((to, t) ∷ []) F P
  merged_same F P to t there e f =
      record {
        starts = λ z. z;
        sized = λ z. z;
        raised = raised_self files F;
        waiting = λ k u a b. (a, b);
        reached = (record { there = there; typed = e; above = f }, tt);
        least = λ H h w. h;
      }

  -- what is below is of the same size
  pub same_size : (a b : FrameType) → is_frame_below files a b ≡ true → IsSized body a → IsSized body b
  same_size a b f z =
      let p = below_parts files a b f in
      record {
        locals = sym (pair_length (is_local_below files) _ _ p.locals) ∙ z.locals;
        stack = subst (λ n. n ≤ body.code.max_stack) (pair_length (is_stack_below files) _ _ p.stack) z.stack;
      }

  size_below : (a b : FrameType) → is_frame_below files a b ≡ true → IsSized body b → IsSized body a
  size_below a b f z =
      let p = below_parts files a b f in
      record {
        locals = pair_length (is_local_below files) _ _ p.locals ∙ z.locals;
        stack = subst (λ n. n ≤ body.code.max_stack) (sym (pair_length (is_stack_below files) _ _ p.stack)) z.stack;
      }

  module _ (table : List (Option FrameType)) (waiting : List Bool) (to : ℕ) (entry : Option FrameType) (both : length waiting ≡ length table) (at : slice_get table to ≡ Some entry) (next : FrameType) where
    there_now : typing_of (found_at table to next) to ≡ Some next
    there_now = ap entry_of (get_set_here table to (Some next) entry at)

    others : (k : ℕ) → (k ≡ to → ⊥) → (typing_of (found_at table to next) k ≡ typing_of table k)
        × (waits (waiting_at waiting to) k ≡ waits waiting k)
    others k n = (ap entry_of (get_set_other table to k (Some next) n), waits_other waiting to k true n)

    marked : waits (waiting_at waiting to) to ≡ true
    marked = waits_here waiting to (let l = slice_get_within table to entry at in omega (arith, l))

  pub merged_first : (table : List (Option FrameType)) (waiting : List Bool) (to : ℕ) (t : FrameType) → length waiting ≡ length table
      → slice_get table to ≡ Some None → is_start body.code.code to ≡ true → IsSized body t
      → Merged files body (typing_of table) (waits waiting) ((to, t) ∷ []) (typing_of (found_at table to t)) (waits (waiting_at waiting to))
  merged_first table waiting to t both at start size =
      merged_at _ _ _ _ to t t (others table waiting to None both at t) (there_now table waiting to None both at t) (marked table waiting to None both at t) (λ z. start) (λ z. size) (λ u q. absurd (none_there u (ap entry_of (sym at) ∙ q))) (frame_self files t) (λ H h w. w)
    where
      none_there : (u : FrameType) → None ≡ Some u → ⊥
      none_there u e = absurd cc

  module _ (rooted : Rooted files) where
    -- of what there is of a join
    joined_parts : (a b join : FrameType) → frame_join files a b ≡ Some join → IsJoin (is_frame_below files) a b (Some join)
    joined_parts a b join e = subst (IsJoin (is_frame_below files) a b) e (frame_is files rooted a b)

    pub merged_joined : (table : List (Option FrameType)) (waiting : List Bool) (to : ℕ) (t there join : FrameType)
        → length waiting ≡ length table → slice_get table to ≡ Some (Some there) → frame_join files there t ≡ Some join
        → Merged files body (typing_of table) (waits waiting) ((to, t)
        ∷ []) (typing_of (found_at table to join)) (waits (waiting_at waiting to))
    merged_joined table waiting to t there join both at e =
        merged_at _ _ _ _ to t join (others table waiting to (Some there) both at join) (there_now table waiting to (Some there) both at join) (marked table waiting to (Some there) both at join) (λ z. z there (ap entry_of at)) (λ z. same_size there join j.0 (z there (ap entry_of at))) (λ u q. subst (λ x. is_frame_below files x join ≡ true) (same_Some there u (ap entry_of (sym at) ∙ q)) j.0) j.1 under
      where
        j : IsJoin (is_frame_below files) there t (Some join)
        j = joined_parts there t join e

        under : (H : Typing) → Raised files (typing_of table) H → Reaches files H to t → Reaches files H to join
        under H h w =
            let q = h to there (ap entry_of at) in
            let same = same_Some q.there w.there (sym q.typed ∙ w.typed) in
            record { there = w.there; typed = w.typed; above = j.2 w.there (subst (λ x. is_frame_below files there x ≡ true) same q.above) w.above }

    -- ---- clashes

    module _ (method : Member) where
      pub clash_apart : (F : Typing) (to : ℕ) (t there : FrameType) → F to ≡ Some there → frame_join files there t ≡ None
          → Clashes files method body F ((to, t) ∷ [])
      clash_apart F to t there e n H h up w =
          let q = up to there e in
          let same = same_Some q.there w.0.there (sym q.typed ∙ w.0.typed) in
          let j = subst (IsJoin (is_frame_below files) there t) n (frame_is files rooted there t) in
          j w.0.there (subst (λ x. is_frame_below files there x ≡ true) same q.above) w.0.above

      pub clash_oversized : (F : Typing) (to : ℕ) (t : FrameType) → (IsSized body t → ⊥) → Clashes files method body F ((to, t) ∷ [])
      clash_oversized F to t never H h up w = never (size_below t w.0.there w.0.above (h.sized to w.0.there w.0.typed))

-- ---- off the instructions

no_site : (o : Option Sized) (method : Member) (body : Body) (offset : ℕ) → o ≡ None → option_map (site_with method body offset) o ≡ None
no_site o method body offset e = ap (option_map (site_with method body offset)) e

pub no_flow : (files : Program) (method : Member) (body : Body) (offset : ℕ) (t : FrameType) → sized_at body.code.code offset ≡ None
    → flow files method body offset t ≡ None
no_flow files method body offset t e = ap (flow_at files t) (no_site _ method body offset e)

-- an instruction begins within the code
pub nothing_past : (code : List ℕ) (offset : ℕ) → length code ≤ offset → sized_at code offset ≡ None
nothing_past code offset l = past code offset (sized_at code offset) l (sized_fits code offset)
  where
    past : (code : List ℕ) (offset : ℕ) (o : Option Sized) → length code ≤ offset → AreWithin code offset o → o ≡ None
    past code offset None l h = refl
    past code offset (Some s) l h = absurd (omega (arith, l, h.0, h.1))

pub clash_astray : (files : Program) (method : Member) (body : Body) (F : Typing) (to : ℕ) (t : FrameType)
    → is_start body.code.code to ≡ false → Clashes files method body F ((to, t) ∷ [])
clash_astray files method body F to t off H h up w = false≢true (sym off ∙ h.starts to w.0.there w.0.typed)
