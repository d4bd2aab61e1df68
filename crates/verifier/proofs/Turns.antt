-- A search begins, takes its turns, and ends.
use Rattle.std.proofs.Common.{◌≡◌, ℕ, ◌≤◌, ◌<◌, List, [], ◌∷◌, length, Bool, true, false, Some, None, refl, sym, ap, ◌∙◌, subst, inl, inr, ⊎_elim, arith}
use Rattle.std.specs.Prelude.{replicate}
use Rattle.std.proofs.lemmas.Bool.{cases_eq}
use Rattle.std.proofs.lemmas.List.{length-set}
use Rattle.model.specs.Names.{Member}
use Rattle.model.specs.Classes.{Program, Body}
use Rattle.model.specs.TypeOrder.{FrameType}
use Rattle.model.specs.Typing.{HasTyping, entry_type, flow}
use Rattle.run_laws.specs.typing_search.Orders.{IsOrdered}
use Rattle.run_laws.specs.typing_search.Search.{Clashes, HasNoTyping, IsTakenOff}
use Rattle.run_laws.specs.typing_search.Tables.{typing_of, waits, waiting_at, taken_off}
use Rattle.run_laws.specs.typing_search.Decided.{IsBounded}
use Rattle.run_laws.proofs.typing_search.Searching.{search_begins, beginning_refused, search_ends, search_turn, refused_rule, refused_merge}
use Rattle.run_laws.proofs.typing_search.Merging.{waits_other, blank}
use Rattle.run_laws.proofs.typing_search.Weights.{work_taken_off}
use Rattle.verifier.proofs.Entries.{tables_same, marked_again}
use Rattle.verifier.proofs.Counting.{work_at_first}
use Rattle.verifier.specs.Steps.{most_turns}
use Rattle.verifier.specs.Found.{AreOver, work_left, HasMerged, IsSearch, waiting_again, HasTurned}
use Rattle.verifier.specs.Worklist.{Tables}

none_some : {A : Type 0} (x : A) → None ≡ Some x → ⊥
none_some x e = absurd cc

module _ (files : Program) (ordered : IsOrdered files) (method : Member) (body : Body) where
  -- ---- the beginning

  module _ (before : Tables) (empty : before.types ≡ replicate (length body.code.code) None) where
    untyped : (k : ℕ) → typing_of before.types k ≡ None
    untyped k = subst (λ l. typing_of l k ≡ None) (sym empty) (blank (length body.code.code) k)

    pub begins : (after : Tables) → HasMerged files body before ((0, entry_type files method body) ∷ []) after
        → IsSearch files method body after
    begins after w =
        record {
          over = w.over;
          searches = search_begins files ordered.rooted body method (typing_of before.types) (waits before.waiting) (typing_of after.types) (waits after.waiting) untyped w.merged;
          low = λ limit bounded. (w.no_heavier limit (λ k t e. absurd (none_some t (sym (untyped k) ∙ e))) (bounded.begins, tt)).low;
        }

    -- the work that is left is no more than that of tables with nothing in them
    pub begins_light : before.waiting ≡ replicate (length body.code.code) false → (after : Tables)
        → HasMerged files body before ((0, entry_type files method body) ∷ []) after → (limit : ℕ) → IsBounded files method body limit
        → work_left files body limit after ≤ most_turns body limit
    begins_light waiting after w limit bounded =
        let l = (w.no_heavier limit (λ k t e. absurd (none_some t (sym (untyped k) ∙ e))) (bounded.begins, tt)).lighter in
        omega (arith, l, work_at_first files body limit before empty waiting)

    pub refused : Clashes files method body (typing_of before.types) ((0, entry_type files method body) ∷ [])
        → HasNoTyping files method body
    refused c = beginning_refused files ordered.rooted body method (typing_of before.types) untyped c

  -- ---- a turn

  module _ (before : Tables) (offset : ℕ) (s : IsSearch files method body (waiting_again before offset)) where
    off : IsTakenOff offset (waits (waiting_at before.waiting offset)) (waits before.waiting)
    off k = ⊎_elim (λ q. inl q) (λ n. inr (sym (waits_other before.waiting offset k true n))) (cases_eq k offset)

    pub over_off : AreOver body before
    over_off = record { types = s.over.types; waiting = sym (length-set before.waiting offset true) ∙ s.over.waiting }

    pub turns : (t : FrameType) (leads : List (ℕ × FrameType)) (after : Tables) → typing_of before.types offset ≡ Some t
        → flow files method body offset t ≡ Some leads → HasMerged files body before leads after → HasTurned files method body before after
    turns t leads after e q w =
        record {
          search = record {
            over = w.over;
            searches = search_turn files ordered method body (typing_of before.types) (waits (waiting_at before.waiting offset)) (waits before.waiting) offset t leads (typing_of after.types) (waits after.waiting) s.searches e q off w.merged;
            low = λ limit bounded. (w.no_heavier limit (s.low limit bounded) (bounded.leads offset t leads q (s.low limit bounded offset t e))).low;
          };
          lighter = λ limit bounded. (w.no_heavier limit (s.low limit bounded) (bounded.leads offset t leads q (s.low limit bounded offset t e))).lighter;
        }

    -- an offset that is not typed need not wait
    pub passes : typing_of before.types offset ≡ None → HasTurned files method body before before
    passes n =
        record {
          search = record {
            over = over_off;
            searches = record {
              starts = s.searches.starts;
              sized = s.searches.sized;
              begins = s.searches.begins;
              agrees = λ k t e f. ⊎_elim (λ q. absurd (none_some t (sym n ∙ (ap (typing_of before.types) (sym q) ∙ e)))) (λ q. s.searches.agrees k t e (sym q ∙ f)) (off k);
              least = s.searches.least;
            };
            low = s.low;
          };
          lighter = λ limit bounded. omega arith;
        }

    pub breaks : (t : FrameType) → typing_of before.types offset ≡ Some t → flow files method body offset t ≡ None
        → HasNoTyping files method body
    breaks t e n = refused_rule files ordered method body (typing_of before.types) (waits (waiting_at before.waiting offset)) offset t s.searches e n

    pub clashes : (t : FrameType) (leads : List (ℕ × FrameType)) → typing_of before.types offset ≡ Some t
        → flow files method body offset t ≡ Some leads → Clashes files method body (typing_of before.types) leads
        → HasNoTyping files method body
    clashes t leads e q c = refused_merge files ordered method body (typing_of before.types) (waits (waiting_at before.waiting offset)) offset t leads s.searches e q c

  -- ---- the end

  pub ends : (tables : Tables) → IsSearch files method body tables → ((k : ℕ) → waits tables.waiting k ≡ false)
      → HasTyping files method body
  ends tables s none =
      record {
        typing = typing_of tables.types;
        holds = search_ends files ordered.rooted body method (typing_of tables.types) (waits tables.waiting) s.searches none;
      }

  -- ---- an offset that waits, taken off

  abbrev with_waiting : Tables → List Bool → Tables
  with_waiting tables waiting = record { types = tables.types; waiting = waiting }

  module _ (tables : Tables) (waiting : List Bool) (offset : ℕ) (w : waits tables.waiting offset ≡ true) (off : waiting ≡ taken_off tables.waiting offset) where
    pub again : IsSearch files method body tables → IsSearch files method body (waiting_again (with_waiting tables waiting) offset)
    again s =
        subst (IsSearch files method body) (tables_same tables (waiting_again (with_waiting tables waiting) offset) refl (sym (marked_again tables.waiting offset w) ∙ ap (λ l. waiting_at l offset) (sym off))) s

    pub less : (limit : ℕ) (after : Tables) → work_left files body limit after ≤ work_left files body limit (with_waiting tables waiting)
        → work_left files body limit after < work_left files body limit tables
    less limit after l =
        let m = work_taken_off files ordered.rooted limit body tables.types tables.waiting offset w in
        let n = ap (λ marks. work_left files body limit (with_waiting tables marks)) off in
        omega (arith, l, m, n)
