-- What the constructors of String do, and the methods that take its text apart.
use Rattle.std.proofs.Common.{◌≡◌, ◌<◌, ◌≤◌, ◌+◌, ◌-◌, ◌^◌, ℕ, zero, suc, List, [], ◌∷◌, Option, Some, None, Result, Ok, Err, Bool, true, false, if◌then◌else◌, ◌&&◌, length, map, take, drop, nat_le, nat_lt, refl, sym, ap, subst, arith, ◌∙◌}
use Rattle.std.specs.Result.{IsErrAnd}
use Rattle.std.specs.Prelude.{option_map, slice_get, slice_index_or}
use Rattle.std.proofs.Math.Nat.{mod-lt}
use Rattle.std.proofs.lemmas.Bool.{and_parts, leb-true}
use Rattle.std.proofs.lemmas.List.{length-map}
use Rattle.std.proofs.lemmas.List.Elements.{All-cons, All-nil, All-take, All-drop}
use Rattle.model.specs.StringMethods.{is_at_most}
use Rattle.model.specs.declared.text_method.TextMethod.{TextMethod}
use Rattle.model.specs.declared.text_method.TextMethod.TheVariants as asks
use Rattle.model.specs.Classes.{Program}
use Rattle.model.specs.LimitStands.{Bounds, opening_count}
use Rattle.model.specs.Opening.{string_references}
use Rattle.model.specs.Operands.{words, word_reference}
use Rattle.model.specs.ReferenceTypes.{Char}
use Rattle.model.specs.Sites.{int_operand, object_of}
use Rattle.model.specs.State as model
use Rattle.model.specs.State.{ObjectOf, Instance, Primitives, References, Characters, FrameOf, StackOf, WorldOf, StateOf}
use Rattle.model.specs.Step.{SteppedOf, PartOf, become}
use Rattle.model.specs.TextMethods.{TextAnswer, IsNull, IsOutside, IsOutsideArray, Becomes, Stores, StandsFor, if_there, string_operand, text_answer, text_of_part, units_operand, unit_in, writes}
use Rattle.model.specs.Texts.{Text}
use Rattle.model.specs.Worlds.{elements_of, kept, no_object, object_at}
use Rattle.heap.specs.declared.kind.ObjectKind.{ObjectKind}
use Rattle.heap.specs.declared.kind.ObjectKind.TheVariants as kind
use Rattle.heap.specs.Heap.{Object}
use Rattle.linked_code.specs.declared.method.BuiltInMethod.TheVariants as method
use Rattle.linked_code.specs.declared.program.LinkedProgram.{LinkedProgram}
use Rattle.linked_code.specs.declared.types.LinkedType.{LinkedType}
use Rattle.thread_stacks.specs.Stacks.{ShownEntry}
use Rattle.machine_state.specs.shown_objects.Shown.{AreUnits, cells_of, IsKindOf, ShowsObjects}
use Rattle.machine_state.specs.declared.answers.Effect.{Effect}
use Rattle.machine_state.specs.declared.answers.Effect.TheVariants as effect
use Rattle.machine_state.specs.declared.answers.MachineException.TheVariants as exception
use Rattle.machine_state.specs.declared.refusals.EventRefusal.{EventRefusal}
use Rattle.machine_state.specs.declared.refusals.EventRefusal.TheVariants as refusal
use Rattle.machine_state.specs.declared.state.Shared.{Shared}
use Rattle.machine_state.specs.Instructions.{Does}
use Rattle.machine_instructions.specs.thread_methods.Called.{IsCalling, text_operands}
use Rattle.machine_instructions.specs.thread_methods.Moves.{operand_of}
use Rattle.machine_instructions.specs.thread_methods.Texts.{text_by}
use Rattle.machine_instructions.specs.thread_methods.TextWrites.{array_words, becomes_text, elements_in, elements_by}
use Rattle.machine_instructions.proofs.thread_methods.Calls.{operand_is}
use Rattle.machine_instructions.proofs.thread_methods.FilledTexts.{lacks}
use Rattle.machine_instructions.proofs.thread_methods.ShownTexts.{text_is, units_are}
use Rattle.machine_instructions.proofs.thread_methods.StringCalls.{taken}
use Rattle.machine_instructions.proofs.thread_methods.TextAnswers.{AreUnitsOf}

-- ---- elements of the arrays of a heap are those of the objects that it shows

module _ (trees : Program) (components : List LinkedType) where
  elements_shown : (k : ObjectKind) (m : ObjectOf ℕ) (ws : List ℕ) → IsKindOf trees components k m → ws ≡ cells_of m → array_words k ws ≡ elements_of m
  elements_shown (kind.Instance number) (Instance class fields) ws is e = refl
  elements_shown (kind.Instance number) (Characters text) ws is e = refl
  elements_shown (kind.Instance number) (Primitives of elements) ws is e = absurd is
  elements_shown (kind.Instance number) (References of elements) ws is e = absurd is
  elements_shown kind.Ints (Primitives of elements) ws is e = e
  elements_shown kind.Ints (Instance class fields) ws is e = absurd is
  elements_shown kind.Ints (References of elements) ws is e = absurd is
  elements_shown kind.Ints (Characters text) ws is e = absurd is
  elements_shown (kind.Narrow narrow) (Primitives of elements) ws is e = e
  elements_shown (kind.Narrow narrow) (Instance class fields) ws is e = absurd is
  elements_shown (kind.Narrow narrow) (References of elements) ws is e = absurd is
  elements_shown (kind.Narrow narrow) (Characters text) ws is e = absurd is
  elements_shown (kind.References number) (References of elements) ws is e = e
  elements_shown (kind.References number) (Instance class fields) ws is e = absurd is
  elements_shown (kind.References number) (Primitives of elements) ws is e = absurd is
  elements_shown (kind.References number) (Characters text) ws is e = absurd is

  pub elements_at : (os : List Object) (ms : List (ObjectOf ℕ)) → ShowsObjects trees components os ms → (r : ℕ)
      → elements_in (slice_get os r) ≡ elements_of (slice_index_or ms r no_object)
  elements_at [] [] h r = refl
  elements_at [] (m ∷ ms) h r = absurd h
  elements_at (o ∷ os) [] h r = absurd h
  elements_at (o ∷ os) (m ∷ ms) h zero = elements_shown o.kind m o.words h.0.kind h.0.words
  elements_at (o ∷ os) (m ∷ ms) h (suc r) = elements_at os ms h.1 r

-- chars are units of 16 bits
pub chars_units : (ws : List ℕ) → AreUnits (map (kept Char) ws)
chars_units [] = All-nil (λ u. u < 2 ^ 16)
chars_units (w ∷ ws) = All-cons (λ u. u < 2 ^ 16) (kept Char w) (map (kept Char) ws) (mod-lt w (omega arith)) (chars_units ws)

-- chars of a part are a part of the chars
pub chars_part : (ws : List ℕ) (offset count : ℕ) → map (kept Char) (take count (drop offset ws)) ≡ take count (drop offset (map (kept Char) ws))
chars_part ws zero count = chars_first ws count
  where
    chars_first : (ws : List ℕ) (count : ℕ) → map (kept Char) (take count ws) ≡ take count (map (kept Char) ws)
    chars_first ws zero = refl
    chars_first [] (suc count) = refl
    chars_first (w ∷ ws) (suc count) = ap (λ l. kept Char w ∷ l) (chars_first ws count)
chars_part [] (suc offset) zero = refl
chars_part [] (suc offset) (suc count) = refl
chars_part (w ∷ ws) (suc offset) count = chars_part ws offset count

module _ (trees : Program) (p : LinkedProgram) (bounds : Bounds) (inflated : List ℕ) (t : ℕ) (old : Shared) (from : List ShownEntry)
    (state : StateOf ℕ) (frame : FrameOf ℕ) (rest : StackOf ℕ) (m : TextMethod) (count next offset : ℕ)
    (is : IsCalling trees p bounds inflated t old from state frame rest (method.StringWrites m) count next offset) (frames : ℕ) where
  abbrev world : WorldOf ℕ
  world = state.world

  abbrev pub ops : List ℕ
  ops = take count frame.place.slots.stack

  abbrev pub wanted : TextAnswer
  wanted = text_answer m (int_operand words ops) (string_operand words world ops) (units_operand words world ops)

  pub enough : text_operands m ≤ length ops
  enough = is.arguments

  pub read : (k : ℕ) → k < text_operands m → operand_of k from ≡ slice_index_or ops k 0
  read k h =
      operand_is trees p bounds inflated t old from state frame rest (method.StringWrites m) count next offset is k
      ∙ sym (taken count frame.place.slots.stack k (omega (arith, h, is.arguments)))

  pub text_read : (k : ℕ) → k < text_operands m → text_by old.heap.objects (operand_of k from) ≡ string_operand words world ops k
  text_read k h =
      ap (text_by old.heap.objects) (read k h)
      ∙ text_is is.program.files trees is.program.linkable p.components.items old.heap.objects world is.lent.represents.world_is.objects ops k

  pub text_units : (k : ℕ) → AreUnitsOf (string_operand words world ops k)
  text_units k = units_are is.program.files trees is.program.linkable p.components.items old.heap.objects world is.lent.represents.world_is.objects ops k

  elements_by_word : (word : ℕ) → option_map (map (kept Char)) (elements_by old.heap.objects word)
      ≡ option_map (λ r. map (unit_in words) (elements_of (object_at world r))) (word_reference word)
  elements_by_word zero = refl
  elements_by_word (suc r) =
      ap (λ l. Some (map (kept Char) l)) (elements_at trees p.components.items old.heap.objects world.heap is.lent.represents.world_is.objects r)

  pub elements_read : (k : ℕ) → k < text_operands m → option_map (map (kept Char)) (elements_by old.heap.objects (operand_of k from)) ≡ units_operand words world ops k
  elements_read k h = ap (λ w. option_map (map (kept Char)) (elements_by old.heap.objects w)) (read k h) ∙ elements_by_word (slice_index_or ops k 0)

  abbrev pub event : TextAnswer → SteppedOf (PartOf ℕ)
  event answer =
      become words trees frames t world frame rest
      (writes words (opening_count trees) (string_references trees) answer offset world frame.place.slots ops (drop count frame.place.slots.stack))

  abbrev pub DoesBy : TextAnswer → Result Effect EventRefusal → (new : Shared) → (to : List ShownEntry) → Type 0
  DoesBy answer result new to = Does trees p bounds inflated t world (model.Invocation frame ∷ rest) (event answer) result old new from to

  pub raises_null : wanted ≡ IsNull → DoesBy wanted (Ok (effect.Raises exception.NullPointer)) old from
  raises_null e = (ap event e, record { shared = refl; stack = refl })

  pub raises_outside : wanted ≡ IsOutside → DoesBy wanted (Ok (effect.Raises exception.StringIndexOutOfBounds)) old from
  raises_outside e = (ap event e, record { shared = refl; stack = refl })

  pub raises_outside_array : wanted ≡ IsOutsideArray → DoesBy wanted (Ok (effect.Raises exception.ArrayIndexOutOfBounds)) old from
  raises_outside_array e = (ap event e, record { shared = refl; stack = refl })

  -- ---- a String gets its text

  module _ (under : ℕ) (text : Text) (e : wanted ≡ Becomes under text) where
    pub becomes : (result : Result Effect EventRefusal) (new : Shared) (to : List ShownEntry)
        → Does trees p bounds inflated t world (model.Invocation frame ∷ rest) (become words trees frames t world frame rest (becomes_text trees world frame under text count offset)) result old new from to
        → DoesBy wanted result new to
    becomes result new to h = subst (λ answer. DoesBy answer result new to) (sym e) h

    pub lacks_units : AreUnits text → under < length ops → (result : Result Effect EventRefusal) → IsErrAnd result (λ told. told ≡ refusal.Memory) → DoesBy wanted result old from
    lacks_units units there result told =
        becomes result old from (lacks trees p bounds inflated t old from state frame rest (method.StringWrites m) count next offset is frames under text units there result told)

-- the units of a text that is there
pub units_of_some : (o : Option Text) (text : Text) → o ≡ Some text → AreUnitsOf o → AreUnits text
units_of_some o text e h = subst AreUnitsOf e h

-- ---- chars of an array become the text of a String

-- as many as a part has room for
pub has_so_many : (most bits : ℕ) → is_at_most most bits ≡ true → bits ≤ most
has_so_many most bits h = leb-true bits most (and_parts (nat_lt bits (2 ^ 31)) (nat_le bits most) h).1

module _ (trees : Program) (p : LinkedProgram) (bounds : Bounds) (inflated : List ℕ) (t : ℕ) (old : Shared) (from : List ShownEntry)
    (state : StateOf ℕ) (frame : FrameOf ℕ) (rest : StackOf ℕ) (count next offset : ℕ)
    (is : IsCalling trees p bounds inflated t old from state frame rest (method.StringWrites asks.ConstructOfChars) count next offset) (frames : ℕ)
    (word : ℕ) (word_is : word ≡ operand_of 2 from) (first : ℕ) (first_is : first ≡ operand_of 1 from) (many : ℕ) (many_is : many ≡ operand_of 0 from) where
  -- an operand as the definitions read it
  by : (k value : ℕ) → k < 4 → value ≡ operand_of k from → value ≡ slice_index_or (take count frame.place.slots.stack) k 0
  by k value h e = e ∙ read trees p bounds inflated t old from state frame rest asks.ConstructOfChars count next offset is frames k h

  array_is : (found : Option (List ℕ)) → found ≡ elements_by old.heap.objects word
      → units_operand words state.world (take count frame.place.slots.stack) 2 ≡ option_map (map (kept Char)) found
  array_is found e =
      sym (ap (λ o. option_map (map (kept Char)) o) (e ∙ ap (elements_by old.heap.objects) word_is)
      ∙ elements_read trees p bounds inflated t old from state frame rest asks.ConstructOfChars count next offset is frames 2 (omega arith))

  pub of_none : None ≡ elements_by old.heap.objects word
      → wanted trees p bounds inflated t old from state frame rest asks.ConstructOfChars count next offset is frames ≡ IsNull
  of_none e =
      ap (λ o. if_there o (λ elements. text_of_part elements (int_operand words (take count frame.place.slots.stack) 1) (int_operand words (take count frame.place.slots.stack) 0)))
      (array_is None e)

  pub of_some : (array : List ℕ) → Some array ≡ elements_by old.heap.objects word
      → wanted trees p bounds inflated t old from state frame rest asks.ConstructOfChars count next offset is frames ≡ text_of_part (map (kept Char) array) first many
  of_some array e =
      λ i. if_there (array_is (Some array) e i) (λ elements. text_of_part elements (sym (by 1 first (omega arith) first_is) i) (sym (by 0 many (omega arith) many_is) i))

  part_if : (array : List ℕ) → (b : Bool) → b ≡ (is_at_most (length array) many && is_at_most (length array - many) first)
      → text_of_part (map (kept Char) array) first many ≡ (if b then Becomes 3 (take many (drop first (map (kept Char) array))) else IsOutside)
  part_if array b e =
      ap (λ n. if is_at_most n many && is_at_most (n - many) first then Becomes 3 (take many (drop first (map (kept Char) array))) else IsOutside) (length-map array (kept Char))
      ∙ ap (λ h. if h then Becomes 3 (take many (drop first (map (kept Char) array))) else IsOutside) (sym e)

  pub of_too_many : (array : List ℕ) → Some array ≡ elements_by old.heap.objects word → (b : Bool)
      → b ≡ (is_at_most (length array) many && is_at_most (length array - many) first) → b ≡ false
      → wanted trees p bounds inflated t old from state frame rest asks.ConstructOfChars count next offset is frames ≡ IsOutside
  of_too_many array some b e says =
      of_some array some ∙ part_if array b e ∙ ap (λ h. if h then Becomes 3 (take many (drop first (map (kept Char) array))) else IsOutside) says

  pub of_part : (array : List ℕ) → Some array ≡ elements_by old.heap.objects word → (b : Bool)
      → b ≡ (is_at_most (length array) many && is_at_most (length array - many) first) → b ≡ true
      → wanted trees p bounds inflated t old from state frame rest asks.ConstructOfChars count next offset is frames ≡ Becomes 3 (map (kept Char) (take many (drop first array)))
  of_part array some b e says =
      of_some array some ∙ part_if array b e ∙ ap (λ h. if h then Becomes 3 (take many (drop first (map (kept Char) array))) else IsOutside) says
      ∙ ap (Becomes 3) (sym (chars_part array first many))

-- the part is in the array
pub part_within : (length first many : ℕ) (b : Bool) → b ≡ (is_at_most length many && is_at_most (length - many) first) → b ≡ true → first + many ≤ length
part_within length first many b e says =
    let both = and_parts (is_at_most length many) (is_at_most (length - many) first) (sym e ∙ says) in
    let some = has_so_many length many both.0 in
    let rest = has_so_many (length - many) first both.1 in
    omega (arith, some, rest)
