-- The worklist of the definitions, as the code follows it: merges, the lowest offset that waits, and turns.
use Rattle.std.proofs.Common.{◌≡◌, ℕ, zero, suc, ◌+◌, ◌<◌, ◌≤◌, List, [], ◌∷◌, ◌++◌, Bool, true, false, Option, Some, None, refl, sym, ap, ◌∙◌, subst, arith}
use Rattle.std.specs.Prelude.{slice_get, option_map, option_and_then}
use Rattle.std.specs.Option.{option_map_or}
use Rattle.std.proofs.lemmas.Bool.{false≢true, and_from, cond-true, cond-false, eq-eqb, le-leb, false_from_ne_true}
use Rattle.std.proofs.lemmas.Option.{same_Some}
use Rattle.model.specs.Names.{Member}
use Rattle.model.specs.Classes.{Program, Body}
use Rattle.model.specs.InstructionStarts.{is_start}
use Rattle.model.specs.TypeOrder.{FrameType, is_frame_below}
use Rattle.model.specs.TypeJoin.{frame_join}
use Rattle.model.specs.Typing.{IsSized}
use Rattle.run_laws.specs.typing_search.Tables.{entry_of, waits}
use Rattle.verifier.specs.Found.{DoesTurn}
use Rattle.verifier.specs.Waiting.{NoneWaitsBelow}
use Rattle.verifier.specs.Worklist.{Tables, Turn, is_sized, put, merged, merged_into, all_merged, turn_at, lowest, off, next_turn, turns_steps}

-- ---- merges

sized : (body : Body) (t : FrameType) → IsSized body t → is_sized body t ≡ true
sized body t s = and_from _ _ (eq-eqb _ _ s.locals) (le-leb _ _ s.stack)

module _ (files : Program) (body : Body) where
  module _ (before : Tables) (to : ℕ) (t : FrameType) where
    one : (next : Tables) → merged files body before (to, t) ≡ Some next → all_merged files body before ((to, t) ∷ []) ≡ Some next
    one next e = ap (option_and_then (λ tables. all_merged files body tables [])) e

    pub first_whole : slice_get before.types to ≡ Some None → is_start body.code.code to ≡ true → IsSized body t
        → all_merged files body before ((to, t) ∷ []) ≡ Some (put before to t)
    first_whole at start size =
        one (put before to t) (ap (merged_into files body before to t) (ap entry_of at) ∙ cond-true _ _ _ (and_from _ _ start (sized body t size)))

    pub joined_whole : (there join : FrameType) → slice_get before.types to ≡ Some (Some there)
        → (is_frame_below files t there ≡ true → ⊥) → frame_join files there t ≡ Some join
        → all_merged files body before ((to, t) ∷ []) ≡ Some (put before to join)
    joined_whole there join at misfit e =
        one (put before to join)
        (ap (merged_into files body before to t) (ap entry_of at) ∙ (cond-false _ _ _ (false_from_ne_true _ misfit) ∙ ap (option_map (put before to)) e))

    pub fits_whole : (there : FrameType) → slice_get before.types to ≡ Some (Some there) → is_frame_below files t there ≡ true
        → all_merged files body before ((to, t) ∷ []) ≡ Some before
    fits_whole there at f = one before (ap (merged_into files body before to t) (ap entry_of at) ∙ cond-true _ _ _ f)

  pub whole_then : (a b : Tables) (xs ys : List (ℕ × FrameType)) → all_merged files body a xs ≡ Some b
      → all_merged files body a (xs ++ ys) ≡ all_merged files body b ys
  whole_then a b [] ys e = ap (λ tables. all_merged files body tables ys) (same_Some a b e)
  whole_then a b (x ∷ xs) ys e = by (merged files body a x) refl (λ next. whole_then next b xs ys)
    where
      by : (o : Option Tables) → merged files body a x ≡ o
          → ((next : Tables) → all_merged files body next xs ≡ Some b → all_merged files body next (xs ++ ys) ≡ all_merged files body b ys)
          → all_merged files body a ((x ∷ xs) ++ ys) ≡ all_merged files body b ys
      by None q rest =
          let n : None ≡ Some b = sym (ap (option_and_then (λ next. all_merged files body next xs)) q) ∙ e in
          absurd cc
      by (Some next) q rest =
          ap (option_and_then (λ tables. all_merged files body tables (xs ++ ys))) q
          ∙ rest next (sym (ap (option_and_then (λ tables. all_merged files body tables xs)) q) ∙ e)

-- ---- the lowest offset that waits

pub lowest_is : (marks : List Bool) (offset : ℕ) → waits marks offset ≡ true → NoneWaitsBelow marks offset → lowest marks ≡ Some offset
lowest_is [] offset w none = absurd (false≢true w)
lowest_is (true ∷ marks) zero w none = refl
lowest_is (false ∷ marks) zero w none = absurd (false≢true w)
lowest_is (true ∷ marks) (suc offset) w none = absurd (false≢true (sym (none zero (omega arith))))
lowest_is (false ∷ marks) (suc offset) w none =
    ap (option_map (λ k. suc k)) (lowest_is marks offset w (λ k l. none (suc k) (omega (arith, l))))

-- ---- turns

module _ (files : Program) (method : Member) (body : Body) (tables after : Tables) (offset steps : ℕ) (low : lowest tables.waiting ≡ Some offset)
    (turned : DoesTurn (turn_at files method body (off tables offset) offset) steps after) where
  turns_more : (n : ℕ) → turns_steps files method body (suc n) tables ≡ turned.done.steps + turns_steps files method body n after
  turns_more n =
      let next : next_turn files method body tables ≡ Some turned.done =
      ap (option_and_then (λ k. turn_at files method body (off tables k) k)) low ∙ turned.is in
      ap (λ o. option_map_or (λ (turn : Turn). turn.steps + turns_steps files method body n turn.tables) o 0) next
      ∙ ap (λ next. turned.done.steps + turns_steps files method body n next) turned.tables

  module _ (start left all : ℕ) (h : (n : ℕ) → start + turns_steps files method body n tables ≤ left + all) where
    more : (n : ℕ) → start + (turned.done.steps + turns_steps files method body n after) ≤ left + all
    more n = subst (λ k. start + k ≤ left + all) (turns_more n) (h (suc n))

    -- what a turn takes is taken
    pub turn_taken : (now : ℕ) → now + steps ≡ left → (n : ℕ) → start + turns_steps files method body n after ≤ now + all
    turn_taken now e n = let l = more n in let w = turned.within in omega (arith, l, e, w)

    -- fewer are left than a turn takes
    pub turn_missing : left < steps → start < all
    turn_missing f = let l = more 0 in let w = turned.within in omega (arith, l, f, w)
