-- Operands of a frame type.
use Rattle.std.proofs.Common.{◌≡◌, ℕ, suc, ◌+◌, ◌-◌, ◌<◌, ◌≤◌, List, [], ◌∷◌, ◌++◌, Bool, true, false, ◌&&◌, length, map, take, drop, reverse, get_or, Option, Some, None, sym, ap, ◌∙◌, arith}
use Rattle.std.proofs.lemmas.List.{length-map, length-reverse}
use Rattle.std.proofs.Math.ListN.{drop_of_length-le, get_or-map}
use Rattle.std.proofs.Math.Seq.{drop-cons}
use Rattle.model.specs.Classes.{Program}
use Rattle.model.specs.Types as model
use Rattle.model.specs.Operands.{over_types, operands, pops_meet}
use Rattle.types.specs.declared.verification_type.VerificationType.{VerificationType}
use Rattle.types.specs.declared.verification_type.VerificationType.TheVariants as type
use Rattle.types.specs.declared.frame_type.FrameType.{FrameType}
use Rattle.types.specs.View.{type_in, frame_in}
use Rattle.instruction_types.specs.declared.operand_types.wants.Want.{Want}
use Rattle.instruction_types.specs.declared.operand_types.wants.LocalRead.{LocalRead}
use Rattle.instruction_types.specs.declared.operand_types.wants.Asked.{Asked}
use Rattle.instruction_types.specs.operand_types.View.{want_in, reads_in, asked_in}
use Rattle.instruction_types.proofs.operand_types.Lists.{map-reverse, place_reversed, behind_first}

module _ (files : Program) (a : Asked) (t : FrameType) where
  abbrev found : List model.VerificationType
  found = operands over_types (asked_in files a) (frame_in files t).slots

  abbrev popped : List model.VerificationType
  popped = take (length a.pops.now) (frame_in files t).slots.stack

  found_by : (o : Option LocalRead) → a.reads ≡ o
      → found ≡ map (λ r. get_or (map (type_in files) t.locals.items) r.0 model.Unusable) (reads_in files o) ++ popped
  found_by o e =
      ap (λ r. map (λ q. get_or (map (type_in files) t.locals.items) q.0 model.Unusable) (reads_in files r) ++ take (length (map (want_in files) a.pops.now)) (frame_in files t).slots.stack) e
      ∙ ap (λ n. map (λ q. get_or (map (type_in files) t.locals.items) q.0 model.Unusable) (reads_in files o) ++ take n (frame_in files t).slots.stack) (length-map a.pops.now (want_in files))

  popped_at : (k : ℕ) (r : VerificationType) → r ≡ get_or (take (length a.pops.now) (reverse t.stack.items)) k type.Unusable
      → type_in files r ≡ get_or popped k model.Unusable
  popped_at k r e = ap (type_in files) e ∙ place_reversed (type_in files) (length a.pops.now) k t.stack.items type.Unusable

  pub of_popped : (k : ℕ) (r : VerificationType) → a.reads ≡ None
      → r ≡ get_or (take (length a.pops.now) (reverse t.stack.items)) k type.Unusable → type_in files r ≡ get_or found k model.Unusable
  of_popped k r none e = popped_at k r e ∙ ap (λ l. get_or l k model.Unusable) (sym (found_by None none))

  pub of_popped_behind : (read : LocalRead) (k : ℕ) (r : VerificationType) → a.reads ≡ Some read → (k ≡ 0 → ⊥)
      → r ≡ get_or (take (length a.pops.now) (reverse t.stack.items)) (k - 1) type.Unusable
      → type_in files r ≡ get_or found k model.Unusable
  of_popped_behind read k r some ne e =
      popped_at (k - 1) r e ∙ sym (behind_first (get_or (map (type_in files) t.locals.items) read.local model.Unusable) popped k model.Unusable ne)
      ∙ ap (λ l. get_or l k model.Unusable) (sym (found_by (Some read) some))

-- a frame type by its parts
pub shown_by : (files : Program) (t : FrameType) (ls ts : List model.VerificationType) (mark : Bool)
    → map (type_in files) t.locals.items ≡ ls → reverse (map (type_in files) t.stack.items) ≡ ts → t.constructed ≡ mark
    → frame_in files t ≡ record { slots = record { locals = ls; stack = ts }; constructed = mark }
shown_by files t ls ts mark l s m =
    ap (λ xs. record { slots = record { locals = xs; stack = reverse (map (type_in files) t.stack.items) }; constructed = t.constructed }) l
    ∙ ap (λ xs. record { slots = record { locals = ls; stack = xs }; constructed = t.constructed }) s
    ∙ ap (λ b. record { slots = record { locals = ls; stack = ts }; constructed = b }) m

-- ---- pops, one after the other

module _ (files : Program) (ws : List Want) (ts : List VerificationType) where
  abbrev pub meets_from : ℕ → Bool
  meets_from i = pops_meet (model.type_meets files) (map (want_in files) (drop i ws)) (drop i (reverse (map (type_in files) ts)))

  more_wanted : (i : ℕ) (d : Want) → i < length ws
      → map (want_in files) (drop i ws) ≡ want_in files (get_or ws i d) ∷ map (want_in files) (drop (i + 1) ws)
  more_wanted i d l =
      let next : suc i ≡ i + 1 = omega arith in
      ap (map (want_in files)) (drop-cons ws i d l) ∙ ap (λ k. want_in files (get_or ws i d) ∷ map (want_in files) (drop k ws)) next

  -- where the stack has no more
  pub none_left : (i : ℕ) (d : Want) → i < length ws → length ts ≤ i → meets_from i ≡ false
  none_left i d l le =
      let past : length (reverse (map (type_in files) ts)) ≤ i = omega (arith, length-reverse (map (type_in files) ts), length-map ts (type_in files)) in
      let none : drop i (reverse (map (type_in files) ts)) ≡ [] = drop_of_length-le (reverse (map (type_in files) ts)) past in
      ap (λ xs. pops_meet (model.type_meets files) (map (want_in files) (drop i ws)) xs) none ∙ ap (λ l. pops_meet (model.type_meets files) l []) (more_wanted i d l)

  -- where it has one more
  pub one_popped : (i : ℕ) (d : Want) (t : VerificationType) (r : Bool) → i < length ws → i < length ts
      → t ≡ get_or (reverse ts) i type.Unusable
      → r ≡ model.type_meets files (want_in files (get_or ws i d)) (type_in files t) → meets_from i ≡ (r && meets_from (i + 1))
  one_popped i d t r l lt at e =
      let x : get_or (reverse (map (type_in files) ts)) i model.Unusable ≡ type_in files t =
      ap (λ l. get_or l i model.Unusable) (sym (map-reverse (type_in files) ts)) ∙ get_or-map (type_in files) (reverse ts) i type.Unusable ∙ ap (type_in files) (sym at) in
      let next : suc i ≡ i + 1 = omega arith in
      let more : drop i (reverse (map (type_in files) ts)) ≡ type_in files t ∷ drop (i + 1) (reverse (map (type_in files) ts)) =
      drop-cons (reverse (map (type_in files) ts)) i model.Unusable (omega (arith, length-reverse (map (type_in files) ts), length-map ts (type_in files)))
      ∙ ap (λ k. get_or (reverse (map (type_in files) ts)) i model.Unusable ∷ drop k (reverse (map (type_in files) ts))) next
      ∙ ap (λ y. y ∷ drop (i + 1) (reverse (map (type_in files) ts))) x in
      ap (λ xs. pops_meet (model.type_meets files) (map (want_in files) (drop i ws)) xs) more
      ∙ ap (λ vs. pops_meet (model.type_meets files) vs (type_in files t ∷ drop (i + 1) (reverse (map (type_in files) ts)))) (more_wanted i d l)
      ∙ ap (λ b. b && meets_from (i + 1)) (sym e)

  -- where all was wanted
  pub all_popped : (i : ℕ) → length ws ≤ i → meets_from i ≡ true
  all_popped i le = ap (λ vs. pops_meet (model.type_meets files) (map (want_in files) vs) (drop i (reverse (map (type_in files) ts)))) (drop_of_length-le ws le)
