-- Typings by their lists, by a test; and what every typing of a code has to say.
use Rattle.std.proofs.Common.{◌≡◌, refl, sym, ap, ◌∙◌, subst, ℕ, zero, suc, List, [], ◌∷◌, length, map, Option, Some, None, Bool, true, false, ◌&&◌, eqb, ◌==◌}
use Rattle.std.specs.Prelude.{if◌then◌else◌, nat_le, replicate}
use Rattle.std.specs.List.{list_all, AllByRecursion}
use Rattle.std.proofs.lemmas.Bool.{false≢true, and_parts, eqb-true, leb-true}
use Rattle.model.specs.Names.{Member}
use Rattle.model.specs.InstructionStarts.{is_start}
use Rattle.model.specs.Classes.{Program, Body}
use Rattle.model.specs.Types.{VerificationType, Unusable, IntType, NullType, OfType, Uninitialised, UninitialisedThis}
use Rattle.model.specs.Operands.{Slots}
use Rattle.model.specs.TypeOrder.{FrameType, pairwise, is_stack_below, is_local_below, is_mark_below, is_frame_below}
use Rattle.model.specs.Typing.{Typing, Reaches, IsSized, Rule, IsTyping, entry_type, flow}
use Rattle.run_laws.specs.examples.Typings.{typing_in}

-- ---- a test of a list of frame types

abbrev reaches_by : Program → FrameType → Option FrameType → Bool
reaches_by files t None = false
reaches_by files t (Some there) = is_frame_below files t there

abbrev reaches : Program → List (ℕ × FrameType) → ℕ × FrameType → Bool
reaches files types lead = reaches_by files lead.1 (typing_in types lead.0)

abbrev is_sized : Body → FrameType → Bool
is_sized body t = (length t.slots.locals == body.code.max_locals) && nat_le (length t.slots.stack) body.code.max_stack

abbrev agrees_by : Program → List (ℕ × FrameType) → Option (List (ℕ × FrameType)) → Bool
agrees_by files types None = false
agrees_by files types (Some leads) = list_all (reaches files types) leads

abbrev agrees : Program → Member → Body → List (ℕ × FrameType) → ℕ × FrameType → Bool
agrees files method body types entry =
    is_start body.code.code entry.0 && (is_sized body entry.1 && agrees_by files types (flow files method body entry.0 entry.1))

abbrev pub is_typing : Program → Member → Body → List (ℕ × FrameType) → Bool
is_typing files method body types =
    reaches files types (0, entry_type files method body) && list_all (agrees files method body types) types

all : {A : Type 0} (test : A → Bool) (P : A → Type 0) → ((x : A) → test x ≡ true → P x) → (xs : List A) → list_all test xs ≡ true
    → AllByRecursion P xs
all test P each [] h = tt
all test P each (x ∷ xs) h = let g = and_parts (test x) (list_all test xs) h in (each x g.0, all test P each xs g.1)

found : (P : ℕ → FrameType → Type 0) (entry : ℕ × FrameType) (entries : List (ℕ × FrameType)) (k : ℕ) (t : FrameType) (b : Bool)
    → eqb entry.0 k ≡ b → P entry.0 entry.1 → (typing_in entries k ≡ Some t → P k t)
    → (if b then Some entry.1 else typing_in entries k) ≡ Some t → P k t
found P entry entries k t true e here rest h =
    let q : entry.1 ≡ t = cc in subst (λ n. P n t) (eqb-true entry.0 k e) (subst (P entry.0) q here)
found P entry entries k t false e here rest h = rest h

each_in : (P : ℕ → FrameType → Type 0) (entries : List (ℕ × FrameType)) → AllByRecursion (λ e. P e.0 e.1) entries → (k : ℕ) (t : FrameType)
    → typing_in entries k ≡ Some t → P k t
each_in P [] h k t e = absurd cc
each_in P (entry ∷ entries) h k t e = found P entry entries k t (eqb entry.0 k) refl h.0 (λ g. each_in P entries h.1 k t g) e

module _ (files : Program) (method : Member) (body : Body) (types : List (ℕ × FrameType)) where
  reached_by : (k : ℕ) (t : FrameType) (o : Option FrameType) → typing_in types k ≡ o → reaches_by files t o ≡ true
      → Reaches files (typing_in types) k t
  reached_by k t None e h = absurd (false≢true h)
  reached_by k t (Some there) e h = record { there = there; typed = e; above = h }

  reached : (lead : ℕ × FrameType) → reaches files types lead ≡ true → Reaches files (typing_in types) lead.0 lead.1
  reached lead h = reached_by lead.0 lead.1 (typing_in types lead.0) refl h

  rule_by : (k : ℕ) (t : FrameType) (o : Option (List (ℕ × FrameType))) → flow files method body k t ≡ o → agrees_by files types o ≡ true
      → Rule files method body (typing_in types) k t
  rule_by k t None e h = absurd (false≢true h)
  rule_by k t (Some leads) e h = record { leads = leads; flows = e; reached = all (reaches files types) _ reached leads h }

  sized : (t : FrameType) → is_sized body t ≡ true → IsSized body t
  sized t h =
      let g = and_parts _ _ h in
      record { locals = eqb-true (length t.slots.locals) body.code.max_locals g.0; stack = leb-true (length t.slots.stack) body.code.max_stack g.1 }

  pub is_typed : is_typing files method body types ≡ true → IsTyping files method body (typing_in types)
  is_typed h =
      let g = and_parts _ _ h in
      record {
        begins = reached (0, entry_type files method body) g.0;
        starts = each_in (λ k t. is_start body.code.code k ≡ true) types (all (agrees files method body types) _ (λ e q. (and_parts _ _ q).0) types g.1);
        sized = each_in (λ k t. IsSized body t) types (all (agrees files method body types) _ (λ e q. sized e.1 (and_parts _ _ (and_parts _ _ q).1).0) types g.1);
        agrees = each_in (Rule files method body (typing_in types)) types (all (agrees files method body types) _ (λ e q. rule_by e.0 e.1 (flow files method body e.0 e.1) refl (and_parts _ _ (and_parts _ _ q).1).1) types g.1);
      }

-- ---- every typing

abbrev pub ints : ℕ → List VerificationType
ints n = replicate n IntType

abbrev pub frame : List VerificationType → ℕ → Bool → FrameType
frame locals n constructed = record { slots = record { locals = locals; stack = ints n }; constructed = constructed }

above_int : (files : Program) (t : VerificationType) → is_stack_below files IntType t ≡ true → t ≡ IntType
above_int files Unusable h = absurd (false≢true h)
above_int files IntType h = refl
above_int files NullType h = absurd (false≢true h)
above_int files (OfType t) h = absurd (false≢true h)
above_int files (Uninitialised at c) h = absurd (false≢true h)
above_int files (UninitialisedThis c) h = absurd (false≢true h)

above_ints : (files : Program) (n : ℕ) (ts : List VerificationType) → pairwise (is_stack_below files) (ints n) ts ≡ true → ts ≡ ints n
above_ints files zero [] h = refl
above_ints files zero (t ∷ ts) h = absurd (false≢true h)
above_ints files (suc n) [] h = absurd (false≢true h)
above_ints files (suc n) (t ∷ ts) h =
    let g = and_parts _ _ h in
    subst (λ s. s ∷ ts ≡ ints (suc n)) (sym (above_int files t g.0)) (ap (λ us. IntType ∷ us) (above_ints files n ts g.1))

above_unusable : (files : Program) (t : VerificationType) → is_local_below files Unusable t ≡ true → t ≡ Unusable
above_unusable files Unusable h = refl
above_unusable files IntType h = absurd (false≢true h)
above_unusable files NullType h = absurd (false≢true h)
above_unusable files (OfType t) h = absurd (false≢true h)
above_unusable files (Uninitialised at c) h = absurd (false≢true h)
above_unusable files (UninitialisedThis c) h = absurd (false≢true h)

second_unusable : (files : Program) (s : VerificationType) (ts : List VerificationType)
    → pairwise (is_local_below files) (s ∷ Unusable ∷ []) ts ≡ true → (t : VerificationType) × (ts ≡ t ∷ Unusable ∷ [])
second_unusable files s [] h = absurd (false≢true h)
second_unusable files s (t ∷ []) h = absurd (false≢true (and_parts _ _ h).1)
second_unusable files s (t ∷ u ∷ []) h =
    let g = and_parts _ _ (and_parts _ _ h).1 in (t, ap (λ v. t ∷ v ∷ []) (above_unusable files u g.0))
second_unusable files s (t ∷ u ∷ v ∷ ts) h =
    let g = and_parts _ _ (and_parts _ _ h).1 in absurd (false≢true g.1)

leads_of_if : (test : Bool) (xs leads : List (ℕ × FrameType)) → (if test then Some xs else None) ≡ Some leads → leads ≡ xs
leads_of_if true xs leads h = cc
leads_of_if false xs leads h = absurd cc

module _ (files : Program) (method : Member) (body : Body) (F : Typing) (holds : IsTyping files method body F) where
  -- an offset is typed, with so many ints on the stack
  pub record At (k n : ℕ) : Type 0 where
    pub type : FrameType
    pub typed : F k ≡ Some type
    pub stack : type.slots.stack ≡ ints n

  from_reaches : (k n : ℕ) (locals : List VerificationType) (c : Bool) → Reaches files F k (frame locals n c) → At k n
  from_reaches k n locals c r =
      let g = and_parts _ _ r.above in
      record { type = r.there; typed = r.typed; stack = above_ints files n r.there.slots.stack (and_parts _ _ g.1).0 }

  flow_known : (k n : ℕ) (at : At k n) (o : Option (List (ℕ × FrameType)))
      → ((locals : List VerificationType) (c : Bool) → flow files method body k (frame locals n c) ≡ o)
      → flow files method body k at.type ≡ o
  flow_known k n at o h =
      subst (λ s. flow files method body k (record { slots = record { locals = at.type.slots.locals; stack = s }; constructed = at.type.constructed }) ≡ o) (sym at.stack) (h at.type.slots.locals at.type.constructed)

  -- the instruction fails, whatever the local variables are
  pub fails : (k n : ℕ) → ((locals : List VerificationType) (c : Bool) → flow files method body k (frame locals n c) ≡ None) → At k n → ⊥
  fails k n h at =
      let rule = holds.agrees k at.type at.typed in
      let none = flow_known k n at None h in
      absurd cc

  each_at : (i : ℕ) (locals : List VerificationType) (d : Bool) (js : List ℕ)
      → AllByRecursion (λ (lead : ℕ × FrameType). Reaches files F lead.0 lead.1) (map (λ j. (j, frame locals i d)) js)
      → AllByRecursion (λ j. At j i) js
  each_at i locals d [] h = tt
  each_at i locals d (j ∷ js) h = (from_reaches j i locals d h.0, each_at i locals d js h.1)

  -- the instruction leads to these offsets, with so many ints on the stack, whatever the local variables are
  pub next : (k n i : ℕ) (js : List ℕ) → ((locals : List VerificationType) (c : Bool)
      → (d : Bool) × (flow files method body k (frame locals n c) ≡ Some (map (λ j. (j, frame locals i d)) js))) → At k n
      → AllByRecursion (λ j. At j i) js
  next k n i js h at =
      let rule = holds.agrees k at.type at.typed in
      let known = h at.type.slots.locals at.type.constructed in
      let flows : flow files method body k at.type ≡ Some (map (λ j. (j, frame at.type.slots.locals i known.0)) js) =
      subst (λ s. flow files method body k (record { slots = record { locals = at.type.slots.locals; stack = s }; constructed = at.type.constructed }) ≡ Some (map (λ j. (j, frame at.type.slots.locals i known.0)) js)) (sym at.stack) known.1 in
      let same : rule.leads ≡ map (λ j. (j, frame at.type.slots.locals i known.0)) js = some_same _ _ _ rule.flows flows in
      each_at i at.type.slots.locals known.0 js (subst (AllByRecursion (λ (lead : ℕ × FrameType). Reaches files F lead.0 lead.1)) same rule.reached)
    where
      some_same : (o : Option (List (ℕ × FrameType))) (xs ys : List (ℕ × FrameType)) → o ≡ Some xs → o ≡ Some ys → xs ≡ ys
      some_same o xs ys p q = cc

  -- the instruction leads to this offset, if it does not fail
  pub may_lead : (k n j : ℕ) → ((locals : List VerificationType) (c : Bool)
      → (test : Bool) × (t : FrameType) × (flow files method body k (frame locals n c) ≡ (if test then Some ((j, t) ∷ []) else None)))
      → At k n → (t : FrameType) × (F j ≡ Some t)
  may_lead k n j h at =
      let rule = holds.agrees k at.type at.typed in
      let known = h at.type.slots.locals at.type.constructed in
      let flows : flow files method body k at.type ≡ (if known.0 then Some ((j, known.1) ∷ []) else None) =
      subst (λ s. flow files method body k (record { slots = record { locals = at.type.slots.locals; stack = s }; constructed = at.type.constructed }) ≡ (if known.0 then Some ((j, known.1) ∷ []) else None)) (sym at.stack) known.2 in
      let same : rule.leads ≡ (j, known.1) ∷ [] = leads_of_if known.0 _ _ (sym flows ∙ rule.flows) in
      let r = subst (AllByRecursion (λ (lead : ℕ × FrameType). Reaches files F lead.0 lead.1)) same rule.reached in
      (r.0.there, r.0.typed)

  -- the instruction fails on every frame type
  pub always_fails : (k : ℕ) → ((t : FrameType) → flow files method body k t ≡ None) → (t : FrameType) → F k ≡ Some t → ⊥
  always_fails k h t e =
      let rule = holds.agrees k t e in
      let none = h t in
      absurd cc

  -- one offset does not have two depths
  pub unequal : (k : ℕ) → At k 0 → At k 1 → ⊥
  unequal k a b =
      let same : a.type ≡ b.type = types_same _ _ _ a.typed b.typed in
      empty_int (sym a.stack ∙ (ap (λ (t : FrameType). t.slots.stack) same ∙ b.stack))
    where
      types_same : (o : Option FrameType) (s t : FrameType) → o ≡ Some s → o ≡ Some t → s ≡ t
      types_same o s t p q = cc

      empty_int : ints 0 ≡ ints 1 → ⊥
      empty_int q = absurd cc

  -- a method whose second local variable is not usable, at its begin
  pub with_unusable : (s : VerificationType) (stack : List VerificationType) (c : Bool)
      → entry_type files method body ≡ record { slots = record { locals = s ∷ Unusable ∷ []; stack = stack }; constructed = c }
      → (t : FrameType) × (u : VerificationType) × (F 0 ≡ Some t) × (t.slots.locals ≡ u ∷ Unusable ∷ [])
  with_unusable s stack c e =
      let r = subst (Reaches files F 0) e holds.begins in
      let l = second_unusable files s r.there.slots.locals (and_parts _ _ r.above).0 in
      (r.there, l.0, r.typed, l.1)

  -- the begin of a method
  pub begins : (locals : List VerificationType) (c : Bool) → entry_type files method body ≡ frame locals 0 c → At 0 0
  begins locals c e = from_reaches 0 0 locals c (subst (λ t. Reaches files F 0 t) e holds.begins)

  -- the first instruction fails where no constructor was called on `this`
  pub unconstructed : (entry_type files method body).constructed ≡ false
      → ((slots : Slots VerificationType) → flow files method body 0 (record { slots = slots; constructed = false }) ≡ None) → ⊥
  unconstructed e h =
      let r = holds.begins in
      let mark : r.there.constructed ≡ false = mark_below _ _ e (and_parts _ _ (and_parts _ _ r.above).1).1 in
      let rule = holds.agrees 0 r.there r.typed in
      let none : flow files method body 0 r.there ≡ None = subst (λ c. flow files method body 0 (record { slots = r.there.slots; constructed = c }) ≡ None) (sym mark) (h r.there.slots) in
      absurd cc
    where
      mark_below : (a b : Bool) → a ≡ false → is_mark_below a b ≡ true → b ≡ false
      mark_below true b p q = absurd (false≢true (sym p))
      mark_below false true p q = absurd (false≢true q)
      mark_below false false p q = refl
