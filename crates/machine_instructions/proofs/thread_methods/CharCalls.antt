-- Units of a String that become elements of an array of chars: `getChars`.
use Rattle.std.proofs.Common.{◌≡◌, ◌<◌, ◌≤◌, ◌+◌, ◌-◌, ◌^◌, ◌&&◌, ◌==◌, ℕ, zero, suc, List, [], ◌∷◌, Option, Some, None, Ok, Bool, true, false, if◌then◌else◌, length, map, take, drop, nat_le, nat_lt, refl, sym, ap, subst, arith, ◌∙◌}
use Rattle.std.specs.Prelude.{option_map, slice_get, slice_index_or}
use Rattle.std.proofs.lemmas.Bool.{and_parts, leb-true, ltb-true, true≢false, false≢true}
use Rattle.std.proofs.lemmas.List.{length-drop, length-map, length-take-le}
use Rattle.std.proofs.lemmas.List.Elements.{All-take, All-drop}
use Rattle.model.specs.declared.text_method.TextMethod.TheVariants as asks
use Rattle.model.specs.Classes.{Program}
use Rattle.model.specs.LimitStands.{Bounds}
use Rattle.model.specs.Operands.{words, word_reference}
use Rattle.model.specs.ReferenceTypes.{Char}
use Rattle.model.specs.Sites.{object_of, pushing}
use Rattle.model.specs.State as model
use Rattle.model.specs.State.{ObjectOf, FrameOf, StackOf, WorldOf, StateOf}
use Rattle.model.specs.Step.{become}
use Rattle.model.specs.StringMethods.{is_at_most}
use Rattle.model.specs.TextMethods.{TextAnswer, IsNull, IsOutside, IsOutsideArray, Stores, if_there, if_room, stored_part, string_operand, unit_in, units_operand, with_units_at}
use Rattle.model.specs.Texts.{Text}
use Rattle.model.specs.Worlds.{elements_of, kept, no_object, object_at}
use Rattle.heap.specs.declared.kind.ObjectKind.{ObjectKind}
use Rattle.heap.specs.declared.kind.ObjectKind.TheVariants as kind
use Rattle.heap.specs.Heap.{Object, Heap, words_at, words_of}
use Rattle.linked_code.specs.declared.method.BuiltInMethod.TheVariants as method
use Rattle.linked_code.specs.declared.program.LinkedProgram.{LinkedProgram}
use Rattle.thread_stacks.specs.Stacks.{ShownEntry, on_top}
use Rattle.machine_state.specs.declared.answers.Effect.TheVariants as effect
use Rattle.machine_state.specs.declared.state.Shared.{Shared}
use Rattle.machine_state.specs.shown_objects.Shown.{AreUnits}
use Rattle.machine_state.specs.Instructions.{Does}
use Rattle.machine_instructions.specs.thread_methods.Called.{IsCalling}
use Rattle.machine_instructions.specs.thread_methods.Moves.{operand_of, went_on}
use Rattle.machine_instructions.specs.thread_methods.Texts.{is_string, text_in, text_by}
use Rattle.machine_instructions.specs.thread_methods.TextWrites.{array_words, elements_in, elements_by, with_units}
use Rattle.machine_instructions.proofs.thread_methods.Calls.{free}
use Rattle.machine_instructions.proofs.thread_methods.FilledTexts.{object_by}
use Rattle.machine_instructions.proofs.thread_methods.StoredUnits.{units_stored}
use Rattle.machine_instructions.proofs.thread_methods.TextWriteCalls.{DoesBy, elements_at, elements_read, event, read, text_read, text_units, units_of_some, wanted}

-- ---- a String and an array in a heap

-- the words of the String
text_words : (found : Option Object) (text : Text) → Some text ≡ text_in found → words_of found ≡ text
text_words None text e = absurd cc
text_words (Some object) text e = by (is_string object.kind) e
  where
    by : (b : Bool) → Some text ≡ (if b then Some object.words else None) → object.words ≡ text
    by true e = cc
    by false e = absurd cc

pub string_words : (objects : List Object) (word : ℕ) (text : Text) → Some text ≡ text_by objects word → words_at objects (word - 1) ≡ text
string_words objects zero text e = absurd cc
string_words objects (suc string) text e =
    let at : suc string - 1 ≡ string = omega arith in ap (words_at objects) at ∙ text_words (slice_get objects string) text e

-- an array with elements is no String
string_apart : (found : Option Object) (text array : Text) → Some text ≡ text_in found → array ≡ elements_in found → 0 < length array → ⊥
string_apart None text array is elements some = absurd cc
string_apart (Some object) text array is elements some = by object.kind is elements
  where
    by : (k : ObjectKind) → Some text ≡ (if is_string k then Some object.words else None) → array ≡ array_words k object.words → ⊥
    by (kind.Instance class) is elements = let none : length array ≡ 0 = ap length elements in absurd (omega (arith, none, some))
    by kind.Ints is elements = absurd cc
    by (kind.References of) is elements = absurd cc
    by (kind.Narrow narrow) is elements = absurd cc

pub array_apart : (objects : List Object) (word other : ℕ) (text array : Text) → Some text ≡ text_by objects word → Some array ≡ elements_by objects other
    → 0 < length array → word - 1 ≡ other - 1 → ⊥
array_apart objects zero other text array is elements some same = absurd cc
array_apart objects (suc string) zero text array is elements some same = absurd cc
array_apart objects (suc string) (suc reference) text array is elements some same =
    let one : string ≡ reference = omega (arith, same) in
    let are : array ≡ elements_in (slice_get objects reference) = cc in
    string_apart (slice_get objects reference) text array (is ∙ ap (λ r. text_in (slice_get objects r)) one) are some

-- ---- bounds

pub within_bounds : (count begin end : ℕ) → (is_at_most count end && is_at_most end begin) ≡ true → (begin ≤ end) × ((end ≤ count) × (end < 2 ^ 31))
within_bounds count begin end h =
    let both = and_parts (is_at_most count end) (is_at_most end begin) h in
    let last = and_parts (nat_lt end (2 ^ 31)) (nat_le end count) both.0 in
    let first = and_parts (nat_lt begin (2 ^ 31)) (nat_le begin end) both.1 in
    (leb-true begin end first.1, (leb-true end count last.1, ltb-true end (2 ^ 31) last.0))

pub within_room : (elements index count : ℕ) → (nat_le count elements && is_at_most (elements - count) index) ≡ true → (count ≤ elements) × (index < 2 ^ 31)
within_room elements index count h =
    let both = and_parts (nat_le count elements) (is_at_most (elements - count) index) h in
    let first = and_parts (nat_lt index (2 ^ 31)) (nat_le index (elements - count)) both.1 in
    (leb-true count elements both.0, ltb-true index (2 ^ 31) first.0)

module _ (trees : Program) (p : LinkedProgram) (bounds : Bounds) (inflated : List ℕ) (t : ℕ) (old : Shared) (from : List ShownEntry)
    (state : StateOf ℕ) (frame : FrameOf ℕ) (rest : StackOf ℕ) (count next offset : ℕ)
    (is : IsCalling trees p bounds inflated t old from state frame rest (method.StringWrites asks.GetChars) count next offset) (frames : ℕ) where
  abbrev world : WorldOf ℕ
  world = state.world

  abbrev ops : List ℕ
  ops = take count frame.place.slots.stack

  abbrev answer : TextAnswer
  answer = wanted trees p bounds inflated t old from state frame rest asks.GetChars count next offset is frames

  -- an operand as the definitions read it
  by : (k value : ℕ) → k < 5 → value ≡ operand_of k from → slice_index_or ops k 0 ≡ value
  by k value h e = sym (e ∙ read trees p bounds inflated t old from state frame rest asks.GetChars count next offset is frames k h)

  text_is : (found : Option Text) → found ≡ text_by old.heap.objects (operand_of 4 from) → string_operand words world ops 4 ≡ found
  text_is found e = sym (e ∙ text_read trees p bounds inflated t old from state frame rest asks.GetChars count next offset is frames 4 (omega arith))

  units_are : (found : Option (List ℕ)) (word : ℕ) → word ≡ operand_of 1 from → found ≡ elements_by old.heap.objects word
      → units_operand words world ops 1 ≡ option_map (map (kept Char)) found
  units_are found word word_is e =
      sym (ap (λ o. option_map (map (kept Char)) o) (e ∙ ap (elements_by old.heap.objects) word_is)
      ∙ elements_read trees p bounds inflated t old from state frame rest asks.GetChars count next offset is frames 1 (omega arith))

  abbrev by_text : Option Text → Option Text → (begin end index : ℕ) → TextAnswer
  by_text text array begin end index = if_there text (λ this. if_there array (λ elements. stored_part (length elements) this begin end index))

  pub no_string : None ≡ text_by old.heap.objects (operand_of 4 from) → answer ≡ IsNull
  no_string e = ap (λ o. by_text o (units_operand words world ops 1) (slice_index_or ops 3 0) (slice_index_or ops 2 0) (slice_index_or ops 0 0)) (text_is None e)

  module _ (text : Text) (text_there : Some text ≡ text_by old.heap.objects (operand_of 4 from)) (word : ℕ) (word_is : word ≡ operand_of 1 from) where
    pub no_array : None ≡ elements_by old.heap.objects word → answer ≡ IsNull
    no_array e =
        λ i. by_text (text_is (Some text) text_there i) (units_are None word word_is e i) (slice_index_or ops 3 0) (slice_index_or ops 2 0) (slice_index_or ops 0 0)

    module _ (array : List ℕ) (array_there : Some array ≡ elements_by old.heap.objects word) (begin : ℕ) (begin_is : begin ≡ operand_of 3 from)
        (end : ℕ) (end_is : end ≡ operand_of 2 from) (index : ℕ) (index_is : index ≡ operand_of 0 from) where
      abbrev units : Text
      units = take (end - begin) (drop begin text)

      both : answer ≡ stored_part (length array) text begin end index
      both =
          (λ i. by_text (text_is (Some text) text_there i) (units_are (Some array) word word_is array_there i)
          (by 3 begin (omega arith) begin_is i) (by 2 end (omega arith) end_is i) (by 0 index (omega arith) index_is i))
          ∙ ap (λ n. stored_part n text begin end index) (length-map array (kept Char))

      by_bounds : (b : Bool) → b ≡ (is_at_most (length text) end && is_at_most end begin) → answer ≡ (if b then if_room (length array) index units else IsOutside)
      by_bounds b e = both ∙ ap (λ h. if h then if_room (length array) index units else IsOutside) (sym e)

      pub outside : (b : Bool) → b ≡ (is_at_most (length text) end && is_at_most end begin) → b ≡ false → answer ≡ IsOutside
      outside b e says = by_bounds b e ∙ ap (λ h. if h then if_room (length array) index units else IsOutside) says

      module _ (b : Bool) (b_is : b ≡ (is_at_most (length text) end && is_at_most end begin)) (says : b ≡ true) where
        within : (begin ≤ end) × ((end ≤ length text) × (end < 2 ^ 31))
        within = within_bounds (length text) begin end (sym b_is ∙ says)

        as_many : length units ≡ end - begin
        as_many =
            let left = length-drop begin text in
            let h = within in
            length-take-le (end - begin) (drop begin text) (omega (arith, left, h.0, h.1.0))

        by_room : (room : Bool) → room ≡ (nat_le (end - begin) (length array) && is_at_most (length array - (end - begin)) index)
            → answer ≡ (if room then Stores 1 index units else IsOutsideArray)
        by_room room e =
            by_bounds b b_is ∙ ap (λ h. if h then if_room (length array) index units else IsOutside) says
            ∙ ap (λ n. if nat_le n (length array) && is_at_most (length array - n) index then Stores 1 index units else IsOutsideArray) as_many
            ∙ ap (λ h. if h then Stores 1 index units else IsOutsideArray) (sym e)

        pub no_room : (room : Bool) → room ≡ (nat_le (end - begin) (length array) && is_at_most (length array - (end - begin)) index) → room ≡ false
            → answer ≡ IsOutsideArray
        no_room room e told = by_room room e ∙ ap (λ h. if h then Stores 1 index units else IsOutsideArray) told

        module _ (room : Bool) (room_is : room ≡ (nat_le (end - begin) (length array) && is_at_most (length array - (end - begin)) index)) (told : room ≡ true) where
          stores : answer ≡ Stores 1 index units
          stores = by_room room room_is ∙ ap (λ h. if h then Stores 1 index units else IsOutsideArray) told

          are_units : AreUnits units
          are_units =
              All-take (λ u. u < 2 ^ 16) (end - begin) (drop begin text)
              (All-drop (λ u. u < 2 ^ 16) begin text
              (units_of_some (string_operand words world ops 4) text (text_is (Some text) text_there)
              (text_units trees p bounds inflated t old from state frame rest asks.GetChars count next offset is frames 4)))

          -- the array as the definitions and as the code read it
          reference_is : (reference : ℕ) → reference ≡ operand_of 1 from - 1 → reference ≡ object_of words ops 1
          reference_is reference e =
              e ∙ ap (λ w. w - 1) (read trees p bounds inflated t old from state frame rest asks.GetChars count next offset is frames 1 (omega arith))
              ∙ sym (object_by (slice_index_or ops 1 0))

          fits : (reference : ℕ) → reference ≡ operand_of 1 from - 1 → length units ≤ length (elements_of (object_at world reference))
          fits reference e =
              let as_long : length array ≡ length (elements_of (object_at world reference)) =
              ap length (array_at word array_there ∙ ap (λ r. elements_of (object_at world r)) (ap (λ w. w - 1) word_is ∙ sym e)) in
              let most = within_room (length array) index (end - begin) (sym room_is ∙ told) in
              omega (arith, as_many, as_long, most.0)
            where
              array_at : (w : ℕ) → Some array ≡ elements_by old.heap.objects w → array ≡ elements_of (object_at world (w - 1))
              array_at zero e = absurd cc
              array_at (suc r) e =
                  let at : suc r - 1 ≡ r = omega arith in
                  let here : array ≡ elements_in (slice_get old.heap.objects r) = cc in
                  here ∙ elements_at trees p.components.items old.heap.objects world.heap is.lent.represents.world_is.objects r
                  ∙ ap (λ k. elements_of (object_at world k)) (sym at)

          pub puts : (reference : ℕ) → reference ≡ operand_of 1 from - 1 → (found : Text) → found ≡ text → (heap : Heap)
              → heap ≡ record old.heap { objects = with_units old.heap.objects reference index (take (end - begin) (drop begin found)) }
              → (to : List ShownEntry) → to ≡ on_top (went_on count [] next) from
              → DoesBy trees p bounds inflated t old from state frame rest asks.GetChars count next offset is frames answer (Ok effect.Done) (record old { heap = heap }) to
          puts reference reference_at found found_is heap heap_is to is_to =
              let stored_is : heap ≡ record old.heap { objects = with_units old.heap.objects reference index units } =
              heap_is ∙ ap (λ l. record old.heap { objects = with_units old.heap.objects reference index (take (end - begin) (drop begin l)) }) found_is in
              let world_is : with_units_at words world reference index units ≡ with_units_at words world (object_of words ops 1) index units =
              ap (λ r. with_units_at words world r index units) (reference_is reference reference_at) in
              subst (λ (a : TextAnswer). DoesBy trees p bounds inflated t old from state frame rest asks.GetChars count next offset is frames a (Ok effect.Done) (record old { heap = heap }) to) (sym stores)
              (subst (λ (w : WorldOf ℕ). Does_at w heap to) world_is
              (subst (λ (h : Heap). Does_at (with_units_at words world reference index units) h to) (sym stored_is)
              (free trees p bounds inflated t old from state frame rest (method.StringWrites asks.GetChars) count next offset is
              (with_units_at words world reference index units) (record old { heap = record old.heap { objects = with_units old.heap.objects reference index units } })
              (units_stored trees p bounds world old is.lent.represents reference index units are_units (fits reference reference_at)) refl refl refl to [] is_to)))
            where
              Does_at : WorldOf ℕ → Heap → List ShownEntry → Type 0
              Does_at after h to =
                  Does trees p bounds inflated t world (model.Invocation frame ∷ rest)
                  (become words trees frames t world frame rest (pushing offset [] after frame.place.slots (drop count frame.place.slots.stack))) (Ok effect.Done) old (record old { heap = h }) from to
