-- The searches of the definitions keep what a search is, and lessen the work that is left; so limits on their types limit what they take.
use Rattle.std.proofs.Common.{◌≡◌, ℕ, zero, suc, ◌+◌, ◌*◌, ◌<◌, ◌≤◌, List, [], ◌∷◌, length, get_or, Bool, true, false, ◌&&◌, Option, Some, None, cond, inl, inr, refl, sym, ap, ◌∙◌, subst, arith}
use Rattle.std.specs.Prelude.{replicate, slice_get, option_map, option_and_then}
use Rattle.std.specs.Option.{option_map_or}
use Rattle.std.proofs.Math.Nat.{suc-mul, min-le_right}
use Rattle.std.proofs.lemmas.Bool.{false≢true, and_parts, eqb-true, leb-true}
use Rattle.std.proofs.lemmas.List.{length-replicate}
use Rattle.std.proofs.lemmas.Nat.{mul-le}
use Rattle.std.proofs.lemmas.Option.{same_Some, slice_get-get_or}
use Rattle.model.specs.Names.{Member}
use Rattle.model.specs.Classes.{Program, Body}
use Rattle.model.specs.InstructionStarts.{starts, is_start}
use Rattle.model.specs.TypeOrder.{FrameType, is_frame_below}
use Rattle.model.specs.TypeJoin.{frame_join}
use Rattle.model.specs.Typing.{IsSized, entry_type, flow}
use Rattle.model.proofs.StartLaws.{length-starts}
use Rattle.opcodes.proofs.Marked.{mark_within}
use Rattle.run_laws.specs.typing_search.Decided.{IsBounded}
use Rattle.run_laws.specs.typing_search.Orders.{IsOrdered}
use Rattle.run_laws.specs.typing_search.Tables.{entry_of, typing_of, waits, taken_off}
use Rattle.link_conditions.specs.declared.refusal.why.Refusal.{Refusal}
use Rattle.link_conditions.specs.declared.refusal.why.RefusalKind.TheVariants as kinds
use Rattle.verifier.specs.Places.{Refuses, IsLimited}
use Rattle.verifier.specs.Found.{AreOver, work_left, HasMerged, IsSearch, waiting_again, HasTurned}
use Rattle.verifier.specs.Steps.{Limits, AreLimits, AreCosts, most_turns, limited_costs}
use Rattle.verifier.specs.Worklist.{Tables, Turn, no_types, is_sized, put, merged, merged_into, all_merged, turn_steps, most_a_turn, turn_by, turn_from, turn_at, lowest, off, next_turn, turns_steps, begun, search_steps}
use Rattle.verifier.proofs.Merges.{nothing, follows, fits, first, joined}
use Rattle.verifier.proofs.Turns.{begins, begins_light, over_off, again, turns, passes, less}

no_none : {A : Type 0} {x : A} {P : Type 0} → None ≡ Some x → P
no_none e = absurd cc

-- ---- merges

sized_from : (body : Body) (t : FrameType) → is_sized body t ≡ true → IsSized body t
sized_from body t e =
    let parts = and_parts _ _ e in
    record { locals = eqb-true _ _ parts.0; stack = leb-true _ _ parts.1 }

-- nothing is found yet at an offset where an instruction begins
none_there : (body : Body) (types : List (Option FrameType)) (to : ℕ) → length types ≡ length body.code.code
    → is_start body.code.code to ≡ true → typing_of types to ≡ None → slice_get types to ≡ Some None
none_there body types to long start e =
    let within = mark_within (starts body.code.code) to start in
    let marks = length-starts body.code.code in
    let at = slice_get-get_or types to None (omega (arith, within, marks, long)) in
    at ∙ ap (λ o. Some o) (sym (ap entry_of at) ∙ e)

some_there : (types : List (Option FrameType)) (to : ℕ) (there : FrameType) → typing_of types to ≡ Some there
    → slice_get types to ≡ Some (Some there)
some_there types to there e = by (slice_get types to) refl
  where
    by : (o : Option (Option FrameType)) → slice_get types to ≡ o → slice_get types to ≡ Some (Some there)
    by None q = no_none (sym (ap entry_of q) ∙ e)
    by (Some entry) q = q ∙ ap (λ o. Some o) (sym (ap entry_of q) ∙ e)

module _ (files : Program) (ordered : IsOrdered files) (body : Body) where
  module _ (tables : Tables) (over : AreOver body tables) (to : ℕ) (t : FrameType) (after : Tables) where
    abbrev Merges : Type 0
    Merges = HasMerged files body tables ((to, t) ∷ []) after

    one_first : typing_of tables.types to ≡ None → (b : Bool) → (is_start body.code.code to && is_sized body t) ≡ b
        → cond b (Some (put tables to t)) None ≡ Some after → Merges
    one_first e false q f = no_none f
    one_first e true q f =
        let parts = and_parts _ _ q in
        let same = same_Some (put tables to t) after f in
        first files ordered body tables over to t after (none_there body tables.types to over.types parts.0 e) parts.0 (sized_from body t parts.1) (ap (λ (ts : Tables). ts.types) (sym same)) (ap (λ (ts : Tables). ts.waiting) (sym same))

    one_joined : (there : FrameType) → typing_of tables.types to ≡ Some there → is_frame_below files t there ≡ false → (o : Option FrameType)
        → frame_join files there t ≡ o → option_map (put tables to) o ≡ Some after → Merges
    one_joined there e q None j f = no_none f
    one_joined there e q (Some join) j f =
        let same = same_Some (put tables to join) after f in
        joined files ordered body tables over to t after there join (some_there tables.types to there e) (λ below. false≢true (sym q ∙ below)) j (ap (λ (ts : Tables). ts.types) (sym same)) (ap (λ (ts : Tables). ts.waiting) (sym same))

    one_there : (there : FrameType) → typing_of tables.types to ≡ Some there → (b : Bool) → is_frame_below files t there ≡ b
        → cond b (Some tables) (option_map (put tables to) (frame_join files there t)) ≡ Some after → Merges
    one_there there e true q f =
        subst (HasMerged files body tables ((to, t) ∷ [])) (same_Some tables after f) (fits files ordered body tables over to t there (some_there tables.types to there e) q)
    one_there there e false q f = one_joined there e q (frame_join files there t) refl f

    one_by : (o : Option FrameType) → typing_of tables.types to ≡ o → merged_into files body tables to t o ≡ Some after → Merges
    one_by None e f = one_first e (is_start body.code.code to && is_sized body t) refl f
    one_by (Some there) e f = one_there there e (is_frame_below files t there) refl f

  merged_has : (tables : Tables) → AreOver body tables → (lead : ℕ × FrameType) (after : Tables) → merged files body tables lead ≡ Some after
      → HasMerged files body tables (lead ∷ []) after
  merged_has tables over lead after e = one_by tables over lead.0 lead.1 after (typing_of tables.types lead.0) refl e

  all_merged_has : (leads : List (ℕ × FrameType)) (tables : Tables) → AreOver body tables → (after : Tables)
      → all_merged files body tables leads ≡ Some after → HasMerged files body tables leads after
  all_merged_has [] tables over after e =
      subst (HasMerged files body tables []) (same_Some tables after e) (nothing files ordered body tables over)
  all_merged_has (lead ∷ leads) tables over after e =
      by (merged files body tables lead) refl (λ next over. all_merged_has leads next over after)
    where
      by : (o : Option Tables) → merged files body tables lead ≡ o
          → ((next : Tables) → AreOver body next → all_merged files body next leads ≡ Some after → HasMerged files body next leads after)
          → HasMerged files body tables (lead ∷ leads) after
      by None q rest = no_none (sym (ap (option_and_then (λ next. all_merged files body next leads)) q) ∙ e)
      by (Some next) q rest =
          let one = merged_has tables over lead next q in
          follows files ordered body tables next after (lead ∷ []) leads one
          (rest next one.over (sym (ap (option_and_then (λ next. all_merged files body next leads)) q) ∙ e))

  -- ---- turns

  lowest_waits : (marks : List Bool) (offset : ℕ) → lowest marks ≡ Some offset → waits marks offset ≡ true
  lowest_waits [] offset e = no_none e
  lowest_waits (true ∷ marks) offset e = subst (λ k. waits (true ∷ marks) k ≡ true) (same_Some 0 offset e) refl
  lowest_waits (false ∷ marks) offset e = by (lowest marks) refl (lowest_waits marks)
    where
      by : (o : Option ℕ) → lowest marks ≡ o → ((k : ℕ) → lowest marks ≡ Some k → waits marks k ≡ true)
          → waits (false ∷ marks) offset ≡ true
      by None q rest = no_none (sym (ap (option_map (λ k. suc k)) q) ∙ e)
      by (Some k) q rest =
          subst (λ n. waits (false ∷ marks) n ≡ true) (same_Some (suc k) offset (sym (ap (option_map (λ k. suc k)) q) ∙ e)) (rest k q)

  module _ (method : Member) where
    -- a search after a turn, which took no more than the most
    record IsTurned (tables : Tables) (turn : Turn) : Type 0 where
      turned : HasTurned files method body tables turn.tables
      few : turn.steps ≤ most_a_turn body

    module _ (tables : Tables) (offset : ℕ) (search : IsSearch files method body (waiting_again tables offset)) (turn : Turn) where
      by_merged : (t : FrameType) (leads : List (ℕ × FrameType)) → typing_of tables.types offset ≡ Some t
          → flow files method body offset t ≡ Some leads → (o : Option Tables) → all_merged files body tables leads ≡ o
          → option_map (λ after. record { steps = turn_steps body offset (length leads); tables = after }) o ≡ Some turn → IsTurned tables turn
      by_merged t leads e f None q g = no_none g
      by_merged t leads e f (Some after) q g =
          let merges = all_merged_has leads tables (over_off files ordered method body tables offset search) after q in
          subst (IsTurned tables) (same_Some _ turn g) (record {
            turned = turns files ordered method body tables offset search t leads after e f merges;
            few = min-le_right _ _;
          })

      by_flow : (t : FrameType) → typing_of tables.types offset ≡ Some t → (o : Option (List (ℕ × FrameType)))
          → flow files method body offset t ≡ o → turn_by files body tables offset o ≡ Some turn → IsTurned tables turn
      by_flow t e None f g = no_none g
      by_flow t e (Some leads) f g = by_merged t leads e f (all_merged files body tables leads) refl g

      by_type : (o : Option FrameType) → typing_of tables.types offset ≡ o → turn_from files method body tables offset o ≡ Some turn
          → IsTurned tables turn
      by_type None e g =
          subst (IsTurned tables) (same_Some _ turn g) (record { turned = passes files ordered method body tables offset search e; few = omega arith })
      by_type (Some t) e g = by_flow t e (flow files method body offset t) refl g

    -- a search goes on, and less is left to do
    record GoesOn (tables : Tables) (turn : Turn) : Type 0 where
      search : IsSearch files method body turn.tables
      lighter : (limit : ℕ) → IsBounded files method body limit
          → work_left files body limit turn.tables < work_left files body limit tables
      few : turn.steps ≤ most_a_turn body

    goes_on : (tables : Tables) → IsSearch files method body tables → (turn : Turn) → next_turn files method body tables ≡ Some turn
        → GoesOn tables turn
    goes_on tables search turn e = by (lowest tables.waiting) refl
      where
        by : (o : Option ℕ) → lowest tables.waiting ≡ o → GoesOn tables turn
        by None q =
            no_none (sym (ap (option_and_then (λ k. turn_at files method body (off tables k) k)) q) ∙ e)
        by (Some offset) q =
            let w = lowest_waits tables.waiting offset q in
            let taken = taken_off tables.waiting offset in
            let s = again files ordered method body tables taken offset w refl search in
            let t = by_type (off tables offset) offset s turn (typing_of tables.types offset) refl (sym (ap (option_and_then (λ k. turn_at files method body (off tables k) k)) q) ∙ e) in
            record {
              search = t.turned.search;
              lighter = λ limit bounded. less files ordered method body tables taken offset w refl limit turn.tables (t.turned.lighter limit bounded);
              few = t.few;
            }

    turns_limited : (limit : ℕ) → IsBounded files method body limit → (n : ℕ) (tables : Tables) → IsSearch files method body tables
        → turns_steps files method body n tables ≤ work_left files body limit tables * most_a_turn body
    turns_limited limit bounded zero tables search = omega arith
    turns_limited limit bounded (suc n) tables search =
        by (next_turn files method body tables) refl (turns_limited limit bounded n)
      where
        counted : Option Turn → ℕ
        counted o = option_map_or (λ (turn : Turn). turn.steps + turns_steps files method body n turn.tables) o 0

        by : (o : Option Turn) → next_turn files method body tables ≡ o
            → ((next : Tables) → IsSearch files method body next
            → turns_steps files method body n next ≤ work_left files body limit next * most_a_turn body)
            → turns_steps files method body (suc n) tables ≤ work_left files body limit tables * most_a_turn body
        by None q rest =
            let e : turns_steps files method body (suc n) tables ≡ 0 = ap counted q in
            omega (arith, e)
        by (Some turn) q rest =
            let e : turns_steps files method body (suc n) tables ≡ turn.steps + turns_steps files method body n turn.tables = ap counted q in
            let on = goes_on tables search turn q in
            let most = most_a_turn body in
            let work = work_left files body limit tables in
            let left = work_left files body limit turn.tables in
            let lighter = on.lighter limit bounded in
            let few = on.few in
            let more = rest turn.tables on.search in
            let m = mul-le (suc left) most work most (omega (arith, lighter)) (omega arith) in
            let s = suc-mul left most in
            omega (arith, e, few, more, m, s)

    search_limited : (limit : ℕ) → IsBounded files method body limit → (n : ℕ)
        → search_steps files method body n ≤ most_turns body limit * most_a_turn body
    search_limited limit bounded n = by (begun files method body) refl
      where
        long : AreOver body (no_types body)
        long = record { types = length-replicate _ _; waiting = length-replicate _ _ }

        by : (o : Option Tables) → begun files method body ≡ o → search_steps files method body n ≤ most_turns body limit * most_a_turn body
        by None q =
            let e : search_steps files method body n ≡ 0 = ap (λ o. option_map_or (turns_steps files method body n) o 0) q in
            omega (arith, e)
        by (Some tables) q =
            let e : search_steps files method body n ≡ turns_steps files method body n tables = ap (λ o. option_map_or (turns_steps files method body n) o 0) q in
            let merges = all_merged_has ((0, entry_type files method body) ∷ []) (no_types body) long tables q in
            let search = begins files ordered method body (no_types body) refl tables merges in
            let light = begins_light files ordered method body (no_types body) refl refl tables merges limit bounded in
            let most = most_a_turn body in
            let rest = turns_limited limit bounded n tables search in
            let m = mul-le (work_left files body limit tables) most (most_turns body limit) most light (omega arith) in
            omega (arith, e, rest, m)

pub limited_are_costs : (files : Program) → IsOrdered files → (limits : Limits) → AreLimits files limits → AreCosts files (limited_costs limits)
limited_are_costs files ordered limits are member body turns =
    search_limited files ordered body member (limits member body) (are member body) turns

pub refusal_limited : (files : Program) → IsOrdered files → (steps : ℕ) (refusal : Refusal) → Refuses files steps refusal
    → IsLimited files steps refusal
refusal_limited files ordered steps refusal (inl kind) e = let other : kinds.OutOfMemory ≡ kinds.TooLarge = sym kind ∙ e in absurd cc
refusal_limited files ordered steps refusal (inr (inl unverified)) e =
    let other : kinds.Unverified ≡ kinds.TooLarge = sym unverified.named.kind ∙ e in absurd cc
refusal_limited files ordered steps refusal (inr (inr long)) e = λ limits are. long.long (limited_costs limits) (limited_are_costs files ordered limits are)
