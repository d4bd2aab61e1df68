-- Where an instruction leads, part by part.
use Rattle.std.proofs.Common.{◌≡◌, ℕ, zero, suc, ◌+◌, ◌≤◌, List, [], ◌∷◌, ◌++◌, Bool, true, false, ◌||◌, length, map, reverse, take, drop, get_or, refl, sym, ap, ◌∙◌, arith}
use Rattle.std.specs.List.{list_any}
use Rattle.std.proofs.lemmas.List.{length-map, length-take, map-append, reverse-append}
use Rattle.std.proofs.Math.ListN.{drop_of_length-le}
use Rattle.model.specs.declared.value.Value.{Value}
use Rattle.model.specs.Classes.{Program}
use Rattle.model.specs.Types as model
use Rattle.model.specs.TypeOrder as frames
use Rattle.model.specs.Operands.{Slots, over_types, operands, under}
use Rattle.model.specs.InitialisedTypes.{initialised}
use Rattle.model.specs.Sites.{MeaningOf, Site}
use Rattle.model.specs.Typing.{marked, constructs_this, successors}
use Rattle.types.specs.declared.frame_type.FrameType.{FrameType}
use Rattle.types.specs.declared.verification_type.VerificationType as Declared
use Rattle.types.specs.View.{type_in, frame_in}
use Rattle.instruction_types.specs.operand_types.View.{want_in, reads_in}
use Rattle.instruction_types.specs.declared.meaning.Meaning.{Meaning}
use Rattle.instruction_types.specs.Leads.{leads_in}
use Rattle.instruction_types.specs.Means.{Means}
use Rattle.instruction_types.specs.Successors.{found_by, left_by, with_slots, lead_after, followed}
use Rattle.instruction_types.specs.declared.leads.Leads.{Leads}
use Rattle.instruction_types.proofs.operand_types.Lists.{map-reverse}

-- ---- frame types by their parts

module _ (files : Program) (site : Site) (meaning : Meaning) (l : Leads) (old new : FrameType) (ls ts : List model.VerificationType) where
  pub next_after : meaning.leads ≡ l → frame_in files new ≡ with_slots (frame_in files old) ls ts
      → leads_in files site l (frame_in files old).slots (found_by files meaning.wants old) (left_by files meaning.wants old)
      ≡ (site.next, record { locals = ls; stack = ts }) ∷ []
      → lead_after true site.next (frame_in files new).slots ≡ followed files site meaning old
  next_after is shown led =
      ap (λ (t : frames.FrameType). (site.next, t.slots) ∷ []) shown ∙ sym led
      ∙ ap (λ k. leads_in files site k (frame_in files old).slots (found_by files meaning.wants old) (left_by files meaning.wants old)) (sym is)

pub mark_after : (files : Program) (old new : FrameType) (ls ts : List model.VerificationType)
    → frame_in files new ≡ with_slots (frame_in files old) ls ts → new.constructed ≡ old.constructed
mark_after files old new ls ts shown = ap (λ (t : frames.FrameType). t.constructed) shown

-- a list that another of its length was written over
taken_front : {A : Type 0} (ws zs : List A) → take (length ws) (ws ++ zs) ≡ ws
taken_front [] [] = refl
taken_front [] (z ∷ zs) = refl
taken_front (w ∷ ws) zs = ap (λ l. w ∷ l) (taken_front ws zs)

pub written_over : {A : Type 0} (n : ℕ) (xs ws : List A) → length ws ≡ n → take n (ws ++ drop (length ws) xs) ≡ ws
written_over n xs ws e = ap (λ k. take k (ws ++ drop (length ws) xs)) (sym e) ∙ taken_front ws (drop (length ws) xs)

-- one type more on a stack
pub pushed_on : (files : Program) (old new : List Declared.VerificationType) (t : Declared.VerificationType)
    (rest : List model.VerificationType) → new ≡ old ++ t ∷ [] → reverse (map (type_in files) old) ≡ rest
    → reverse (map (type_in files) new) ≡ type_in files t ∷ rest
pushed_on files old new t rest grown is =
    ap (λ l. reverse (map (type_in files) l)) grown ∙ ap reverse (map-append (type_in files) old (t ∷ [])) ∙ reverse-append (map (type_in files) old) (type_in files t ∷ []) ∙ ap (λ l. type_in files t ∷ l) is

-- ---- operands, one after the other

any_from : {A : Type 0} (P : A → Bool) (d : A) → P d ≡ false → (xs : List A) (i : ℕ)
    → list_any P (drop i xs) ≡ (P (get_or xs i d) || list_any P (drop (suc i) xs))
any_from P d none [] zero = sym (ap (λ b. b || false) none)
any_from P d none [] (suc i) = sym (ap (λ b. b || false) none)
any_from P d none (x ∷ xs) zero = refl
any_from P d none (x ∷ xs) (suc i) = any_from P d none xs i

pub any_next : {A : Type 0} (P : A → Bool) (d : A) (xs : List A) (i : ℕ) (b : Bool) → P d ≡ false → b ≡ P (get_or xs i d)
    → list_any P (drop i xs) ≡ (b || list_any P (drop (i + 1) xs))
any_next P d xs i b none is =
    let next : suc i ≡ i + 1 = omega arith in
    any_from P d none xs i ∙ ap (λ k. P (get_or xs i d) || list_any P (drop k xs)) next ∙ ap (λ c. c || list_any P (drop (i + 1) xs)) (sym is)

pub any_end : {A : Type 0} (P : A → Bool) (n i : ℕ) (xs : List A) → n ≤ i → list_any P (drop i (take n xs)) ≡ false
any_end P n i xs le =
    let past : length (take n xs) ≤ i = omega (arith, length-take n xs) in
    ap (list_any P) (drop_of_length-le (take n xs) past)

-- ---- the mark

marked_lead : (on : Bool) (next : ℕ) (slots : Slots model.VerificationType) (mark : Bool)
    → lead_after on next (record { slots = slots; constructed = mark }) ≡ map (marked mark) (lead_after on next slots)
marked_lead true next slots mark = refl
marked_lead false next slots mark = refl

module _ (files : Program) (site : Site) (meaning : Meaning) (M : MeaningOf Value) (old new : FrameType)
    (means : Means files site meaning M) where
  its_operands : found_by files meaning.wants old ≡ operands over_types M.wants (frame_in files old).slots
  its_operands =
      sym (ap (λ r. map (λ q. get_or (frame_in files old).slots.locals q.0 model.Unusable) (reads_in files r) ++ take (length (map (want_in files) meaning.wants.pops.items)) (frame_in files old).slots.stack) means.reads
      ∙ ap (λ n. take n (frame_in files old).slots.stack) (length-map meaning.wants.pops.items (want_in files)))
      ∙ ap (λ w. operands over_types w (frame_in files old).slots) means.wants

  what_is_under : left_by files meaning.wants old ≡ under M.wants (frame_in files old).slots
  what_is_under = ap (λ n. drop n (frame_in files old).slots.stack) (sym (length-map meaning.wants.pops.items (want_in files))) ∙ ap (λ w. under w (frame_in files old).slots) means.wants

  -- by where it leads but for the mark, and by the mark
  pub led_on : (on mark constructs : Bool) → lead_after on site.next (frame_in files new).slots ≡ followed files site meaning old
      → constructs ≡ constructs_this site (found_by files meaning.wants old) site.instr
      → mark ≡ (old.constructed || constructs)
      → lead_after on site.next (record (frame_in files new) { constructed = mark }) ≡ successors site M (frame_in files old)
  led_on on mark constructs leads constructed is =
      let slots = (frame_in files old).slots in
      let mark_of = λ (ops : List model.VerificationType). old.constructed || constructs_this site ops site.instr in
      ap (λ b. lead_after on site.next (record { slots = (frame_in files new).slots; constructed = b })) (is ∙ ap (λ b. old.constructed || b) constructed)
      ∙ marked_lead on site.next (frame_in files new).slots (mark_of (found_by files meaning.wants old))
      ∙ ap (map (marked (mark_of (found_by files meaning.wants old)))) (leads ∙ means.leads slots (found_by files meaning.wants old) (left_by files meaning.wants old))
      ∙ ap (λ ops. map (marked (mark_of ops)) (M.leads slots ops (left_by files meaning.wants old))) its_operands
      ∙ ap (λ rest. map (marked (mark_of (operands over_types M.wants slots))) (M.leads slots (operands over_types M.wants slots) rest)) what_is_under

-- what lies under the operands, initialised
pub initialised_under : (files : Program) (new old : List Declared.VerificationType) (t : Declared.VerificationType)
    (r : model.VerificationType) (rest : List model.VerificationType)
    → map (type_in files) new ≡ map (initialised (type_in files t)) (map (type_in files) old) → type_in files t ≡ r
    → reverse (map (type_in files) old) ≡ rest → reverse (map (type_in files) new) ≡ map (initialised r) rest
initialised_under files new old t r rest e is left =
    ap reverse (e ∙ ap (λ x. map (initialised x) (map (type_in files) old)) is) ∙ sym (map-reverse (initialised r) (map (type_in files) old)) ∙ ap (map (initialised r)) left
