-- A search over tables ends, whichever offset that waits is taken next: each turn lessens its work.
use Rattle.std.proofs.Common.{◌≡◌, ◌⊎◌, ℕ, zero, suc, ◌<◌, ◌≤◌, List, [], ◌∷◌, length, Bool, true, false, Option, Some, None, refl, sym, ap, ◌∙◌, subst, inl, inr, ⊎_elim, arith}
use Rattle.std.specs.Prelude.{replicate, slice_get, slice_index_or}
use Rattle.std.specs.List.{AllByRecursion}
use Rattle.std.proofs.lemmas.Bool.{false≢true, cases_eq, cases_lt}
use Rattle.std.proofs.lemmas.List.{length-replicate, length-set}
use Rattle.std.proofs.lemmas.Option.{same_Some}
use Rattle.model.specs.Names.{Member}
use Rattle.model.specs.InstructionStarts.{starts, is_start}
use Rattle.model.specs.Classes.{Program, Body}
use Rattle.model.specs.TypeOrder.{FrameType, is_frame_below}
use Rattle.model.specs.TypeJoin.{frame_join}
use Rattle.model.specs.Typing.{Typing, IsSized, entry_type, flow}
use Rattle.run_laws.specs.typing_search.Orders.{IsOrdered}
use Rattle.run_laws.specs.typing_search.Search.{Search, Merged, Clashes, IsTakenOff}
use Rattle.run_laws.specs.typing_search.Tables.{entry_of, typing_of, waits, found_at, waiting_at, taken_off}
use Rattle.run_laws.specs.typing_search.Weights.{IsLowFrame, work, places}
use Rattle.run_laws.specs.typing_search.Decided.{IsBounded, IsDecided}
use Rattle.run_laws.proofs.typing_search.Searching.{merged_nothing, merged_then, search_begins, beginning_refused, search_ends, search_turn, refused_rule, refused_merge}
use Rattle.run_laws.proofs.typing_search.Merging.{get_set_here, get_set_other, blank, off_here, merged_same, merged_first, merged_joined, clash_apart, clash_oversized, clash_astray}
use Rattle.run_laws.proofs.typing_search.Weights.{raised_lighter, first_lighter, work_merged, work_taken_off}
use Rattle.model.proofs.StartLaws.{length-starts_from}

none_within : {A : Type 0} (xs : List A) (k : ℕ) → slice_get xs k ≡ None → length xs ≤ k
none_within [] k e = omega arith
none_within (x ∷ xs) zero e = absurd cc
none_within (x ∷ xs) (suc k) e = let r = none_within xs k e in omega (arith, r)

-- past the end of a list of marks none is set
past_marks : (marks : List Bool) (k : ℕ) → length marks ≤ k → slice_index_or marks k false ≡ false
past_marks [] k l = refl
past_marks (m ∷ ms) zero l = absurd (omega (arith, l))
past_marks (m ∷ ms) (suc k) l = past_marks ms k (omega (arith, l))

-- past the end of the code no instruction begins
none_starts : (code : List ℕ) (to : ℕ) → length code ≤ to → is_start code to ≡ false
none_starts code to l = past_marks (starts code) to (subst (λ n. n ≤ to) (sym (length-starts_from code (length code) 0 0)) l)

-- an offset that waits, if one does
next_waiting : (marks : List Bool) → ((k : ℕ) → waits marks k ≡ false) ⊎ ((k : ℕ) × (waits marks k ≡ true))
next_waiting [] = inl (λ k. refl)
next_waiting (true ∷ ms) = inr (0, refl)
next_waiting (false ∷ ms) = by (next_waiting ms)
  where
    by : ((k : ℕ) → waits ms k ≡ false) ⊎ ((k : ℕ) × (waits ms k ≡ true)) → ((k : ℕ) → waits (false ∷ ms) k ≡ false) ⊎ ((k : ℕ) × (waits (false ∷ ms) k ≡ true))
    by (inl none) = inl off
      where
        off : (k : ℕ) → waits (false ∷ ms) k ≡ false
        off zero = refl
        off (suc k) = none k
    by (inr one) = inr (suc one.0, one.1)

is_sized_or : (body : Body) (t : FrameType) → IsSized body t ⊎ (IsSized body t → ⊥)
is_sized_or body t = by (cases_eq (length t.slots.locals) body.code.max_locals) (cases_lt body.code.max_stack (length t.slots.stack))
  where
    by : (length t.slots.locals ≡ body.code.max_locals) ⊎ (length t.slots.locals ≡ body.code.max_locals → ⊥) → (body.code.max_stack < length t.slots.stack) ⊎ (length t.slots.stack ≤ body.code.max_stack) → IsSized body t ⊎ (IsSized body t → ⊥)
    by (inr n) s = inr (λ z. n z.locals)
    by (inl e) (inl l) = inr (λ z. let s = z.stack in absurd (omega (arith, l, s)))
    by (inl e) (inr l) = inl (record { locals = e; stack = l })

module _ (files : Program) (ordered : IsOrdered files) (method : Member) (body : Body) (limit : ℕ) where
  abbrev still : List (Option FrameType) → List Bool → ℕ
  still table waiting = work files limit (places body) table waiting

  -- what tables keep in a search
  pub record Kept (table : List (Option FrameType)) (waiting : List Bool) : Type 0 where
    pub long : length table ≡ length body.code.code
    pub both : length waiting ≡ length table
    pub low : (k : ℕ) (t : FrameType) → typing_of table k ≡ Some t → IsLowFrame files limit t

  pub record Done (table : List (Option FrameType)) (waiting : List Bool) (leads : List (ℕ × FrameType)) : Type 0 where
    pub after : List (Option FrameType)
    pub marks : List Bool
    pub kept : Kept after marks
    pub merged : Merged files body (typing_of table) (waits waiting) leads (typing_of after) (waits marks)
    pub less : still after marks ≤ still table waiting

  kept_set : (table : List (Option FrameType)) (waiting : List Bool) (to : ℕ) (entry : Option FrameType) (t : FrameType) → Kept table waiting → slice_get table to ≡ Some entry → IsLowFrame files limit t → Kept (found_at table to t) (waiting_at waiting to)
  kept_set table waiting to entry t k at l =
      record {
        long = length-set table to (Some t) ∙ k.long;
        both = length-set waiting to true ∙ (k.both ∙ sym (length-set table to (Some t)));
        low = λ i u e. ⊎_elim (λ q. subst (IsLowFrame files limit) (same_Some t u (sym (ap entry_of (get_set_here table to (Some t) entry at)) ∙ subst (λ j. typing_of (found_at table to t) j ≡ Some u) q e)) l) (λ n. k.low i u (sym (ap entry_of (get_set_other table to i (Some t) n)) ∙ e)) (cases_eq i to);
      }

  -- ---- one frame type

  Merges : List (Option FrameType) → List Bool → List (ℕ × FrameType) → Type 0
  Merges table waiting leads = Done table waiting leads ⊎ Clashes files method body (typing_of table) leads

  module _ (table : List (Option FrameType)) (waiting : List Bool) (k : Kept table waiting) (to : ℕ) (t : FrameType) (l : IsLowFrame files limit t) where
    put_first : slice_get table to ≡ Some None → is_start body.code.code to ≡ true → IsSized body t → Done table waiting ((to, t) ∷ [])
    put_first at start z =
        let w = work_merged files ordered.rooted limit body table waiting to None t at (first_lighter files ordered.rooted limit body t z l) in
        record {
          after = found_at table to t;
          marks = waiting_at waiting to;
          kept = kept_set table waiting to None t k at l;
          merged = merged_first files body table waiting to t k.both at start z;
          less = omega (arith, w);
        }

    put_joined : (there join : FrameType) → slice_get table to ≡ Some (Some there) → (is_frame_below files t there ≡ true → ⊥) → frame_join files there t ≡ Some join → Done table waiting ((to, t) ∷ [])
    put_joined there join at misfit e =
        let r = raised_lighter files ordered.rooted limit there t join e misfit (k.low to there (ap entry_of at)) l in
        let w = work_merged files ordered.rooted limit body table waiting to (Some there) join at r.1 in
        record {
          after = found_at table to join;
          marks = waiting_at waiting to;
          kept = kept_set table waiting to (Some there) join k at r.0;
          merged = merged_joined files body ordered.rooted table waiting to t there join k.both at e;
          less = omega (arith, w);
        }

    put_same : (there : FrameType) → slice_get table to ≡ Some (Some there) → is_frame_below files t there ≡ true → Done table waiting ((to, t) ∷ [])
    put_same there at f =
        record { after = table; marks = waiting; kept = k; merged = merged_same files body (typing_of table) (waits waiting) to t there (ap entry_of at) f; less = omega arith }

    by_join : (there : FrameType) → slice_get table to ≡ Some (Some there) → (is_frame_below files t there ≡ true → ⊥) → (o : Option FrameType) → frame_join files there t ≡ o → Merges table waiting ((to, t) ∷ [])
    unfolding Merges
    by_join there at misfit None e = inr (clash_apart files body ordered.rooted method (typing_of table) to t there (ap entry_of at) e)
    by_join there at misfit (Some join) e = inl (put_joined there join at misfit e)

    by_fit : (there : FrameType) → slice_get table to ≡ Some (Some there) → (b : Bool) → is_frame_below files t there ≡ b → Merges table waiting ((to, t) ∷ [])
    unfolding Merges
    by_fit there at true e = inl (put_same there at e)
    by_fit there at false e = by_join there at (λ q. false≢true (sym e ∙ q)) (frame_join files there t) refl

    by_start : slice_get table to ≡ Some None → (b : Bool) → is_start body.code.code to ≡ b → Merges table waiting ((to, t) ∷ [])
    unfolding Merges
    by_start e false off = inr (clash_astray files method body (typing_of table) to t off)
    by_start e true start =
        ⊎_elim (λ z. inl (put_first e start z)) (λ never. inr (clash_oversized files body ordered.rooted method (typing_of table) to t never)) (is_sized_or body t)

    by_entry : (o : Option (Option FrameType)) → slice_get table to ≡ o → Merges table waiting ((to, t) ∷ [])
    unfolding Merges
    by_entry None e =
        let n = none_within table to e in
        let m = k.long in
        inr (clash_astray files method body (typing_of table) to t (none_starts body.code.code to (omega (arith, n, m))))
    by_entry (Some None) e = by_start e (is_start body.code.code to) refl
    by_entry (Some (Some there)) e = by_fit there e (is_frame_below files t there) refl

    merge_one : Merges table waiting ((to, t) ∷ [])
    merge_one = by_entry (slice_get table to) refl

  -- ---- all to which an instruction leads

  merge_rest : (table : List (Option FrameType)) (waiting : List Bool) (lead : ℕ × FrameType) (leads : List (ℕ × FrameType)) (d : Done table waiting (lead ∷ [])) → Merges d.after d.marks leads → Merges table waiting (lead ∷ leads)
  unfolding Merges
  merge_rest table waiting lead leads d (inl r) =
      let a = d.less in
      let b = r.less in
      inl (record {
        after = r.after;
        marks = r.marks;
        kept = r.kept;
        merged = merged_then files ordered.rooted body _ _ _ _ _ _ (lead ∷ []) leads d.merged r.merged;
        less = omega (arith, a, b);
      })
  merge_rest table waiting lead leads d (inr c) = inr (λ H h up w. c H h (d.merged.least H up (w.0, tt)) w.1)

  merge_all : (leads : List (ℕ × FrameType)) → AllByRecursion (λ lead. IsLowFrame files limit lead.1) leads → (table : List (Option FrameType)) (waiting : List Bool) → Kept table waiting → Merges table waiting leads
  unfolding Merges
  merge_all [] l table waiting k =
      inl (record { after = table; marks = waiting; kept = k; merged = merged_nothing files ordered.rooted body (typing_of table) (waits waiting); less = omega arith })
  merge_all (lead ∷ leads) l table waiting k =
      ⊎_elim (λ d. merge_rest table waiting lead leads d (merge_all leads l.1 d.after d.marks d.kept)) (λ c. inr (λ H h up w. c H h up (w.0, tt))) (merge_one table waiting k lead.0 lead.1 l.0)

  -- ---- turns

  -- an offset that is not typed need not wait
  search_off : (F : Typing) (P P' : ℕ → Bool) (offset : ℕ) → Search files method body F P → F offset ≡ None → IsTakenOff offset P P' → Search files method body F P'
  search_off F P P' offset s n only =
      record {
        starts = s.starts;
        sized = s.sized;
        begins = s.begins;
        agrees = λ k t e f. ⊎_elim (λ q. absurd (none_some t (sym n ∙ (ap F (sym q) ∙ e)))) (λ q. s.agrees k t e (sym q ∙ f)) (only k);
        least = s.least;
      }
    where
      none_some : (x : FrameType) → None ≡ Some x → ⊥
      none_some x q = absurd cc

  kept_off : (table : List (Option FrameType)) (waiting : List Bool) (offset : ℕ) → Kept table waiting → Kept table (taken_off waiting offset)
  kept_off table waiting offset k = record { long = k.long; both = length-set waiting offset false ∙ k.both; low = k.low }

  abbrev Searches : ℕ → Type 0
  Searches n =
      (table : List (Option FrameType)) (waiting : List Bool) → Kept table waiting → Search files method body (typing_of table) (waits waiting) → still table waiting < n → IsDecided files method body

  module _ (bounded : IsBounded files method body limit) where
    module _ (n : ℕ) (rec : Searches n) (table : List (Option FrameType)) (waiting : List Bool) (k : Kept table waiting) (s : Search files method body (typing_of table) (waits waiting)) (l : still table waiting < suc n) (offset : ℕ) (w : waits waiting offset ≡ true) where
      lighter : still table (taken_off waiting offset) < still table waiting
      lighter = work_taken_off files ordered.rooted limit body table waiting offset w

      by_merge : (t : FrameType) → typing_of table offset ≡ Some t → (leads : List (ℕ × FrameType)) → flow files method body offset t ≡ Some leads → Merges table (taken_off waiting offset) leads → IsDecided files method body
      unfolding Merges
      by_merge t e leads q (inl d) =
          let a = d.less in
          let b = lighter in
          rec d.after d.marks d.kept (search_turn files ordered method body (typing_of table) (waits waiting) (waits (taken_off waiting offset)) offset t leads _ _ s e q (off_here waiting offset) d.merged) (omega (arith, a, b, l))
      by_merge t e leads q (inr c) = inr (refused_merge files ordered method body (typing_of table) (waits waiting) offset t leads s e q c)

      by_flow : (t : FrameType) → typing_of table offset ≡ Some t → (o : Option (List (ℕ × FrameType))) → flow files method body offset t ≡ o → IsDecided files method body
      by_flow t e None q = inr (refused_rule files ordered method body (typing_of table) (waits waiting) offset t s e q)
      by_flow t e (Some leads) q =
          by_merge t e leads q (merge_all leads (bounded.leads offset t leads q (k.low offset t e)) table (taken_off waiting offset) (kept_off table waiting offset k))

      by_type : (o : Option FrameType) → typing_of table offset ≡ o → IsDecided files method body
      by_type None e =
          let b = lighter in
          rec table (taken_off waiting offset) (kept_off table waiting offset k) (search_off (typing_of table) (waits waiting) (waits (taken_off waiting offset)) offset s e (off_here waiting offset)) (omega (arith, b, l))
      by_type (Some t) e = by_flow t e (flow files method body offset t) refl

    searches : (n : ℕ) → Searches n
    searches zero table waiting k s l = absurd (omega (arith, l))
    searches (suc n) table waiting k s l =
        ⊎_elim (λ none. inl (record { typing = typing_of table; holds = search_ends files ordered.rooted body method (typing_of table) (waits waiting) s none })) (λ one. by_type n (searches n) table waiting k s l one.0 one.1 (typing_of table one.0) refl) (next_waiting waiting)

    abbrev no_types : List (Option FrameType)
    no_types = replicate (length body.code.code) None

    abbrev no_marks : List Bool
    no_marks = replicate (length body.code.code) false

    kept_first : Kept no_types no_marks
    kept_first =
        record {
          long = length-replicate _ _;
          both = length-replicate _ _ ∙ sym (length-replicate _ _);
          low = λ k t e. absurd (none_some t (sym (blank (length body.code.code) k) ∙ e));
        }
      where
        none_some : (x : FrameType) → None ≡ Some x → ⊥
        none_some x q = absurd cc

    from_entry : Merges no_types no_marks ((0, entry_type files method body) ∷ []) → IsDecided files method body
    unfolding Merges
    from_entry (inl d) =
        searches (suc (still d.after d.marks)) d.after d.marks d.kept (search_begins files ordered.rooted body method (typing_of no_types) (waits no_marks) _ _ (blank (length body.code.code)) d.merged) (omega arith)
    from_entry (inr c) = inr (beginning_refused files ordered.rooted body method (typing_of no_types) (blank (length body.code.code)) c)

    pub decided : IsDecided files method body
    decided = from_entry (merge_one no_types no_marks kept_first 0 (entry_type files method body) bounded.begins)
