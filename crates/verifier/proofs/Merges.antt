-- One frame type merged into tables; and merges that follow one another.
use Rattle.std.proofs.Common.{◌≡◌, ℕ, List, [], ◌∷◌, ◌++◌, length, true, Option, Some, None, refl, sym, ap, ◌∙◌, subst, ⊎_elim, arith}
use Rattle.std.specs.Prelude.{slice_get}
use Rattle.std.specs.List.{AllByRecursion}
use Rattle.std.proofs.lemmas.Bool.{cases_eq}
use Rattle.std.proofs.lemmas.List.{length-set}
use Rattle.std.proofs.lemmas.Option.{same_Some}
use Rattle.model.specs.Names.{Member}
use Rattle.model.specs.InstructionStarts.{is_start}
use Rattle.model.specs.Classes.{Program, Body}
use Rattle.model.specs.TypeOrder.{FrameType, is_frame_below}
use Rattle.model.specs.TypeJoin.{frame_join}
use Rattle.model.specs.Typing.{IsSized}
use Rattle.run_laws.specs.typing_search.Orders.{IsOrdered}
use Rattle.run_laws.specs.typing_search.Search.{Clashes}
use Rattle.run_laws.specs.typing_search.Tables.{entry_of, typing_of, waits, found_at, waiting_at}
use Rattle.run_laws.specs.typing_search.Weights.{IsLowFrame}
use Rattle.run_laws.proofs.typing_search.Searching.{merged_nothing, merged_then, clash_then}
use Rattle.run_laws.proofs.typing_search.Merging.{get_set_here, get_set_other, merged_same, merged_first, merged_joined}
use Rattle.run_laws.proofs.typing_search.Weights.{raised_lighter, first_lighter, work_merged}
use Rattle.verifier.specs.Found.{AreOver, AreLow, HasMerged}
use Rattle.verifier.specs.Worklist.{Tables}
use Rattle.verifier.proofs.Entries.{tables_same}
use Rattle.verifier.proofs.Worklists.{first_whole, joined_whole, fits_whole, whole_then}

pub low_parts : (files : Program) (limit : ℕ) (xs ys : List (ℕ × FrameType))
    → AllByRecursion (λ lead. IsLowFrame files limit lead.1) (xs ++ ys)
    → AllByRecursion (λ lead. IsLowFrame files limit lead.1) xs × AllByRecursion (λ lead. IsLowFrame files limit lead.1) ys
low_parts files limit [] ys l = (tt, l)
low_parts files limit (x ∷ xs) ys l = let q = low_parts files limit xs ys l.1 in ((l.0, q.0), q.1)

module _ (files : Program) (ordered : IsOrdered files) (body : Body) where
  -- ---- one frame type

  module _ (before : Tables) (over : AreOver body before) (to : ℕ) (t : FrameType) where
    both : length before.waiting ≡ length before.types
    both = over.waiting ∙ sym over.types

    -- the tables with a frame type found at the offset
    abbrev put_at : FrameType → Tables
    put_at next = record { types = found_at before.types to next; waiting = waiting_at before.waiting to }

    over_put : (next : FrameType) → AreOver body (put_at next)
    over_put next = record { types = length-set before.types to (Some next) ∙ over.types; waiting = length-set before.waiting to true ∙ over.waiting }

    low_put : (limit : ℕ) (entry : Option FrameType) (next : FrameType) → slice_get before.types to ≡ Some entry
        → AreLow files limit before → IsLowFrame files limit next → AreLow files limit (put_at next)
    low_put limit entry next at low l k u e =
        ⊎_elim (λ q. subst (IsLowFrame files limit)
        (same_Some next u (sym (ap entry_of (get_set_here before.types to (Some next) entry at))
        ∙ subst (λ j. typing_of (found_at before.types to next) j
        ≡ Some u) q e)) l) (λ n. low k u (sym (ap entry_of (get_set_other before.types to k (Some next) n)) ∙ e)) (cases_eq k to)

    first_put : slice_get before.types to ≡ Some None → is_start body.code.code to ≡ true → IsSized body t
        → HasMerged files body before ((to, t) ∷ []) (put_at t)
    first_put at start size =
        record {
          over = over_put t;
          whole = first_whole files body before to t at start size;
          merged = merged_first files body before.types before.waiting to t both at start size;
          no_heavier = λ limit low l. let w = work_merged files ordered.rooted limit body before.types before.waiting to None t at (first_lighter files ordered.rooted limit body t size l.0) in record { low = low_put limit None t at low l.0; lighter = omega (arith, w) };
        }

    joined_put : (there join : FrameType) → slice_get before.types to ≡ Some (Some there) → (is_frame_below files t there ≡ true → ⊥)
        → frame_join files there t ≡ Some join → HasMerged files body before ((to, t) ∷ []) (put_at join)
    joined_put there join at misfit e =
        record {
          over = over_put join;
          whole = joined_whole files body before to t there join at misfit e;
          merged = merged_joined files body ordered.rooted before.types before.waiting to t there join both at e;
          no_heavier = λ limit low l. let r = raised_lighter files ordered.rooted limit there t join e misfit (low to there (ap entry_of at)) l.0 in let w = work_merged files ordered.rooted limit body before.types before.waiting to (Some there) join at r.1 in record { low = low_put limit (Some there) join at low r.0; lighter = omega (arith, w) };
        }

    pub fits : (there : FrameType) → slice_get before.types to ≡ Some (Some there) → is_frame_below files t there ≡ true
        → HasMerged files body before ((to, t) ∷ []) before
    fits there at f =
        record {
          over = over;
          whole = fits_whole files body before to t there at f;
          merged = merged_same files body (typing_of before.types) (waits before.waiting) to t there (ap entry_of at) f;
          no_heavier = λ limit low l. record { low = low; lighter = omega arith };
        }

    module _ (after : Tables) where
      pub first : slice_get before.types to ≡ Some None → is_start body.code.code to ≡ true → IsSized body t
          → after.types ≡ found_at before.types to t → after.waiting ≡ waiting_at before.waiting to
          → HasMerged files body before ((to, t) ∷ []) after
      first at start size e f =
          subst (HasMerged files body before ((to, t) ∷ [])) (sym (tables_same after (put_at t) e f)) (first_put at start size)

      pub joined : (there join : FrameType) → slice_get before.types to ≡ Some (Some there) → (is_frame_below files t there ≡ true → ⊥)
          → frame_join files there t ≡ Some join → after.types ≡ found_at before.types to join
          → after.waiting ≡ waiting_at before.waiting to → HasMerged files body before ((to, t) ∷ []) after
      joined there join at misfit j e f =
          subst (HasMerged files body before ((to, t) ∷ [])) (sym (tables_same after (put_at join) e f)) (joined_put there join at misfit j)

  -- ---- one after another

  pub nothing : (tables : Tables) → AreOver body tables → HasMerged files body tables [] tables
  nothing tables over =
      record {
        over = over;
        whole = refl;
        merged = merged_nothing files ordered.rooted body (typing_of tables.types) (waits tables.waiting);
        no_heavier = λ limit low l. record { low = low; lighter = omega arith };
      }

  pub follows : (a b c : Tables) (xs ys : List (ℕ × FrameType)) → HasMerged files body a xs b → HasMerged files body b ys c
      → HasMerged files body a (xs ++ ys) c
  follows a b c xs ys p q =
      record {
        over = q.over;
        whole = whole_then files body a b xs ys p.whole ∙ q.whole;
        merged = merged_then files ordered.rooted body _ _ _ _ _ _ xs ys p.merged q.merged;
        no_heavier = λ limit low l. let parts = low_parts files limit xs ys l in let r = p.no_heavier limit low parts.0 in let s = q.no_heavier limit r.low parts.1 in let m = r.lighter in let n = s.lighter in record { low = s.low; lighter = omega (arith, m, n) };
      }

  pub clashes : (method : Member) (a b : Tables) (xs ys zs : List (ℕ × FrameType)) → HasMerged files body a xs b
      → Clashes files method body (typing_of b.types) ys → Clashes files method body (typing_of a.types) (xs ++ (ys ++ zs))
  clashes method a b xs ys zs p c = clash_then files ordered.rooted body method (typing_of a.types) (typing_of b.types) (waits a.waiting) (waits b.waiting) xs ys zs p.merged c
