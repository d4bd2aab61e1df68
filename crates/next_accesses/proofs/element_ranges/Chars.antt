-- The elements that are told of a constructor of String and of getChars are those of the definitions.
use Rattle.std.proofs.Common.{arith, ◌≡◌, ◌≤◌, ◌+◌, ◌-◌, refl, sym, ap, subst, ◌∙◌, ℕ, zero, suc, List, [], ◌∷◌, length, map, take, drop, Bool, true, false, Option, Some, None, if◌then◌else◌, ◌&&◌, nat_le, nat_lt, ◌^◌}
use Rattle.std.specs.Prelude.{◌<◌, slice_get, slice_index_or}
use Rattle.std.specs.Option.{option_and_then, option_map, option_map_or}
use Rattle.std.proofs.lemmas.Bool.{and_parts, false≢true, leb-true}
use Rattle.std.proofs.lemmas.List.{length-map}
use Rattle.model.specs.declared.text_method.TextMethod.{TextMethod}
use Rattle.model.specs.declared.text_method.TextMethod.TheVariants.{ConstructEmpty, ConstructOfString, ConstructOfChars, GetChars, Intern}
use Rattle.model.specs.declared.value.Value.{Value}
use Rattle.model.specs.BuiltInMethods.{StringWrites}
use Rattle.model.specs.Classes.{Program}
use Rattle.model.specs.Linkable.{IsLinkable}
use Rattle.model.specs.Opening.{opening_count, string_references}
use Rattle.model.specs.Operands.{Slots, values, word_of, word_reference}
use Rattle.model.specs.Outcomes.{OutcomeOf}
use Rattle.model.specs.Rows.{counting}
use Rattle.model.specs.Sites.{int_operand, object_of, referent}
use Rattle.model.specs.State.{ObjectOf, World}
use Rattle.model.specs.StringMethods.{is_at_most}
use Rattle.model.specs.TextMethods.{TextAnswer, IsNull, IsOutside, IsOutsideArray, Becomes, Stores, StandsFor, gives_standing, if_room, if_there, standing_for, stored_part, string_operand, string_writes, text_answer, text_of_part, unit_in, units_operand, writes}
use Rattle.model.specs.Texts.{Text}
use Rattle.model.specs.Words.{map_world}
use Rattle.model.specs.Worlds.{elements_of, no_object, object_at, string_text}
use Rattle.run_laws.proofs.word_runs.WordWorlds.{elements_words, object_at_words, object_words, string_text_words}
use Rattle.heap.specs.Heap.{Object}
use Rattle.linked_code.specs.declared.types.LinkedType.{LinkedType}
use Rattle.machine_state.specs.shown_objects.Shown.{ShowsObjects}
use Rattle.machine_instructions.specs.thread_methods.Called.{text_operands}
use Rattle.machine_instructions.specs.thread_methods.Texts.{text_in}
use Rattle.machine_instructions.specs.thread_methods.TextWrites.{elements_in}
use Rattle.race_places.specs.declared.run_actions.Action.{Action}
use Rattle.race_places.specs.named_actions.Names.{named_action}
use Rattle.data_races.specs.Actions as named
use Rattle.data_races.specs.EventActions.{element_accesses, elements_accessed, goes_on, only_if, string_accesses}
use Rattle.data_races.specs.Variables.{Element, Variable}
use Rattle.field_names.specs.named_fields.Fields.{names_of}
use Rattle.next_accesses.specs.accesses.Accesses.{object_under}
use Rattle.next_accesses.specs.declared.element_ranges.ElementRange.{ElementRange}
use Rattle.next_accesses.specs.element_ranges.Ranges.{access_of, actions_if, chars_accessed, chars_read, chars_written, element_action, part_of, range_actions, read_in, room_in, text_under, written_in, written_to}
use Rattle.next_accesses.specs.next_access.Next.{AreAllRight, AreNamed, names_given}
use Rattle.next_accesses.specs.read_operands.Reads.{IsInt, IsReference}
use Rattle.next_accesses.proofs.builder_texts.Accessed.{ReadsAll}
use Rattle.next_accesses.proofs.element_ranges.Shown.{elements_at, texts}
use Rattle.next_accesses.proofs.next_access.Right.{named_never, named_none, right_more, right_none}

-- ---- a range

abbrev pub how : Bool → (Variable → named.Action)
how true = named.Write
how false = named.Read

module _ (trees : Program) (is_written : Bool) (array : ℕ) where
  element_named : (index : ℕ) → named_action (names_of trees) (access_of is_written array index) ≡ how is_written (Element array index)
  element_named index = by is_written
    where
      by : (b : Bool) → named_action (names_of trees) (access_of b array index) ≡ how b (Element array index)
      by true = refl
      by false = refl

  all_named : (indices : List ℕ) → names_given trees (map (access_of is_written array) indices) ≡ map (λ k. how is_written (Element array k)) indices
  all_named [] = refl
  all_named (k ∷ ks) =
      ap (λ a. a ∷ names_given trees (map (access_of is_written array) ks)) (element_named k) ∙ ap (λ l. how is_written (Element array k) ∷ l) (all_named ks)

  all_right : (indices : List ℕ) → AreAllRight trees (map (access_of is_written array) indices)
  all_right [] = right_none trees
  all_right (k ∷ ks) = by is_written (all_right ks)
    where
      by : (b : Bool) → AreAllRight trees (map (access_of b array) ks) → AreAllRight trees (access_of b array k ∷ map (access_of b array) ks)
      by true rest = right_more trees (access_of true array k) (map (access_of true array) ks) refl rest
      by false rest = right_more trees (access_of false array k) (map (access_of false array) ks) refl rest

  counted : (first count : ℕ) → counting first (first + count - first) ≡ counting first count
  counted first count = ap (counting first) (omega arith)

  -- so many elements from an index on
  pub part_named : (first count : ℕ) → AreNamed trees (range_actions (part_of array first count is_written)) (elements_accessed (how is_written) array first count)
  part_named first count =
      record {
        are = ap (λ l. names_given trees (map (access_of is_written array) l)) (counted first count) ∙ all_named (counting first count);
        right = all_right (counting first (first + count - first));
      }

  -- where it has them
  pub part_if : (b : Bool) (first count : ℕ)
      → AreNamed trees (actions_if (if b then Some (part_of array first count is_written) else None)) (only_if b (elements_accessed (how is_written) array first count))
  part_if true first count = part_named first count
  part_if false first count = named_none trees

-- ---- how an answer goes on

abbrev pub goes_answer : TextAnswer → Bool
goes_answer IsNull = false
goes_answer IsOutside = false
goes_answer IsOutsideArray = false
goes_answer (Becomes receiver text) = true
goes_answer (Stores array index text) = true
goes_answer (StandsFor text) = true

module _ (opened : ℕ) (constants : List ℕ) (next : ℕ) (world : World) (slots : Slots Value) (ops rest : List Value) where
  stands_goes : (o : Option ℕ) → goes_on (gives_standing values o next world slots ops rest) ≡ true
  stands_goes None = refl
  stands_goes (Some string) = refl

  pub goes_is : (a : TextAnswer) → goes_on (writes values opened constants a next world slots ops rest) ≡ goes_answer a
  goes_is IsNull = refl
  goes_is IsOutside = refl
  goes_is IsOutsideArray = refl
  goes_is (Becomes receiver text) = refl
  goes_is (Stores array index text) = refl
  goes_is (StandsFor text) = stands_goes (standing_for constants world text)

either_goes : (b : Bool) (a : TextAnswer) → goes_answer a ≡ true → goes_answer (if b then a else IsOutside) ≡ b
either_goes true a e = e
either_goes false a e = refl

part_goes : (units : Text) (first count : ℕ)
    → goes_answer (text_of_part units first count) ≡ (is_at_most (length units) count && is_at_most (length units - count) first)
part_goes units first count =
    either_goes (is_at_most (length units) count && is_at_most (length units - count) first) (Becomes 3 (take count (drop first units))) refl

room_goes : (elements first : ℕ) (text : Text) → goes_answer (if_room elements first text) ≡ (nat_le (length text) elements && is_at_most (elements - length text) first)
room_goes elements first text = by (nat_le (length text) elements && is_at_most (elements - length text) first)
  where
    by : (b : Bool) → goes_answer (if b then Stores 1 first text else IsOutsideArray) ≡ b
    by true = refl
    by false = refl

-- ---- the units of a part

length_part : (text : Text) (begin count : ℕ) → begin + count ≤ length text → length (take count (drop begin text)) ≡ count
length_part text zero zero h = refl
length_part [] zero (suc count) h = absurd (omega (arith, h))
length_part (u ∷ text) zero (suc count) h = ap suc (length_part text zero count (omega (arith, h)))
length_part [] (suc begin) count h = absurd (omega (arith, h))
length_part (u ∷ text) (suc begin) count h = length_part text begin count (omega (arith, h))

at_most : (most bits : ℕ) → is_at_most most bits ≡ true → bits ≤ most
at_most most bits h = leb-true bits most (and_parts (nat_lt bits (2 ^ 31)) (nat_le bits most) h).1

units_between : (text : Text) (begin end : ℕ) → (is_at_most (length text) end && is_at_most end begin) ≡ true → length (take (end - begin) (drop begin text)) ≡ end - begin
units_between text begin end e =
    let both = and_parts (is_at_most (length text) end) (is_at_most end begin) e in
    length_part text begin (end - begin) (omega (arith, at_most (length text) end both.0, at_most end begin both.1))

-- ---- of the objects that are shown

module _ (bytes : List (List ℕ)) (trees : Program) (linkable : IsLinkable bytes trees) (components : List LinkedType) (objects : List Object) (world : World)
    (shows : ShowsObjects trees components objects (map_world word_of world).heap) where
  text_at : (r : ℕ) → text_in (slice_get objects r) ≡ string_text (object_at world r)
  text_at r =
      texts bytes trees linkable components objects (map_world word_of world).heap shows r
      ∙ (ap string_text (object_at_words world r) ∙ string_text_words (object_at world r))

  elements_there : (r : ℕ) → length (elements_in (slice_get objects r)) ≡ length (map (unit_in values) (elements_of (object_at world r)))
  elements_there r =
      ap length (elements_at trees components objects (map_world word_of world).heap shows r)
      ∙ (ap (λ (o : ObjectOf ℕ). length (elements_of o)) (object_at_words world r)
      ∙ (ap length (elements_words (object_at world r))
      ∙ (length-map (elements_of (object_at world r)) word_of ∙ sym (length-map (elements_of (object_at world r)) (unit_in values)))))

  module _ (operands : List ℕ) (ops : List Value) where
    abbrev word : ℕ → ℕ
    word k = slice_index_or operands k 0

    texts_same : (k : ℕ) → IsReference ops operands k → string_operand values world ops k ≡ text_under objects operands k
    texts_same k e = ap (option_and_then (λ r. string_text (object_at world r))) e ∙ by (object_under operands k)
      where
        by : (o : Option ℕ) → option_and_then (λ r. string_text (object_at world r)) o ≡ option_and_then (λ r. text_in (slice_get objects r)) o
        by None = refl
        by (Some r) = sym (text_at r)

    abbrev units_at : ℕ → Text
    units_at r = map (unit_in values) (elements_of (object_at world r))

    units_same : (k : ℕ) → IsReference ops operands k → units_operand values world ops k ≡ option_map units_at (object_under operands k)
    units_same k e = ap (option_map units_at) e

    -- ---- a constructor

    module _ (ints : (k : ℕ) → k < 4 → IsInt ops operands k) (e : IsReference ops operands 2) where
      read_if : (o : Option ℕ)
          → AreNamed trees (actions_if (option_and_then (λ r. read_in r (length (elements_in (slice_get objects r))) (word 1) (word 0)) o))
          (only_if (goes_answer (if_there (option_map units_at o) (λ elements. text_of_part elements (word 1) (word 0))))
          (option_map_or (λ array. elements_accessed named.Read array (word 1) (word 0)) o []))
      read_if None = named_none trees
      read_if (Some r) =
          let has : ℕ → Bool = λ n. is_at_most n (word 0) && is_at_most (n - word 0) (word 1) in
          subst (λ b. AreNamed trees (actions_if (read_in r (length (elements_in (slice_get objects r))) (word 1) (word 0))) (only_if b (elements_accessed named.Read r (word 1) (word 0))))
          (ap has (elements_there r) ∙ sym (part_goes (units_at r) (word 1) (word 0)))
          (part_if trees false r (has (length (elements_in (slice_get objects r)))) (word 1) (word 0))

      answer_read : text_answer ConstructOfChars (int_operand values ops) (string_operand values world ops) (units_operand values world ops)
          ≡ if_there (option_map units_at (object_under operands 2)) (λ elements. text_of_part elements (word 1) (word 0))
      answer_read =
          λ i. if_there (units_same 2 e i) (λ elements. text_of_part elements (ints 1 (omega arith) i) (ints 0 (omega arith) i))

      accesses_read : string_accesses ops ConstructOfChars ≡ option_map_or (λ array. elements_accessed named.Read array (word 1) (word 0)) (object_under operands 2) []
      accesses_read =
          λ i. option_map_or (λ array. elements_accessed named.Read array (ints 1 (omega arith) i) (ints 0 (omega arith) i)) (e i) []

      pub read_seen : AreNamed trees (actions_if (chars_read objects operands))
          (only_if (goes_answer (text_answer ConstructOfChars (int_operand values ops) (string_operand values world ops) (units_operand values world ops))) (string_accesses ops ConstructOfChars))
      read_seen =
          subst (λ x. AreNamed trees (actions_if (chars_read objects operands)) x)
          (sym (λ i. only_if (goes_answer (answer_read i)) (accesses_read i))) (read_if (object_under operands 2))

    -- ---- getChars

    module _ (ints : (k : ℕ) → k < 5 → IsInt ops operands k) (receiver : IsReference ops operands 4) (e : IsReference ops operands 1) where
      abbrev count : ℕ
      count = word 2 - word 3

      room_if : (text : Text) (r : ℕ) (b : Bool) → (is_at_most (length text) (word 2) && is_at_most (word 2) (word 3)) ≡ b
          → AreNamed trees (actions_if (if b then room_in r (length (elements_in (slice_get objects r))) (word 0) count else None))
          (only_if (goes_answer (if b then if_room (length (units_at r)) (word 0) (take count (drop (word 3) text)) else IsOutside)) (elements_accessed named.Write r (word 0) count))
      room_if text r false says = named_none trees
      room_if text r true says =
          let has : ℕ → ℕ → Bool = λ n c. nat_le c n && is_at_most (n - c) (word 0) in
          subst (λ b. AreNamed trees (actions_if (room_in r (length (elements_in (slice_get objects r))) (word 0) count)) (only_if b (elements_accessed named.Write r (word 0) count)))
          (ap (λ n. has n count) (elements_there r)
          ∙ (ap (has (length (units_at r))) (sym (units_between text (word 3) (word 2) says))
          ∙ sym (room_goes (length (units_at r)) (word 0) (take count (drop (word 3) text)))))
          (part_if trees true r (has (length (elements_in (slice_get objects r))) count) (word 0) count)

      written_if : (t : Option Text) (o : Option ℕ)
          → AreNamed trees (actions_if (option_and_then (λ text. option_and_then (written_to objects operands text) o) t))
          (only_if (goes_answer (if_there t (λ this. if_there (option_map units_at o) (λ elements. stored_part (length elements) this (word 3) (word 2) (word 0)))))
          (option_map_or (λ array. elements_accessed named.Write array (word 0) count) o []))
      written_if None o = named_none trees
      written_if (Some text) None = named_none trees
      written_if (Some text) (Some r) = room_if text r (is_at_most (length text) (word 2) && is_at_most (word 2) (word 3)) refl

      answer_written : text_answer GetChars (int_operand values ops) (string_operand values world ops) (units_operand values world ops)
          ≡ if_there (text_under objects operands 4)
          (λ this. if_there (option_map units_at (object_under operands 1)) (λ elements. stored_part (length elements) this (word 3) (word 2) (word 0)))
      answer_written =
          λ i. if_there (texts_same 4 receiver i)
          (λ this. if_there (units_same 1 e i)
          (λ elements. stored_part (length elements) this (ints 3 (omega arith) i) (ints 2 (omega arith) i) (ints 0 (omega arith) i)))

      accesses_written : string_accesses ops GetChars ≡ option_map_or (λ array. elements_accessed named.Write array (word 0) count) (object_under operands 1) []
      accesses_written =
          λ i. option_map_or (λ array. elements_accessed named.Write array (ints 0 (omega arith) i) (ints 2 (omega arith) i - ints 3 (omega arith) i)) (e i) []

      pub written_seen : AreNamed trees (actions_if (chars_written objects operands))
          (only_if (goes_answer (text_answer GetChars (int_operand values ops) (string_operand values world ops) (units_operand values world ops))) (string_accesses ops GetChars))
      written_seen =
          subst (λ x. AreNamed trees (actions_if (chars_written objects operands)) x)
          (sym (λ i. only_if (goes_answer (answer_written i)) (accesses_written i))) (written_if (text_under objects operands 4) (object_under operands 1))

    -- ---- of each method

    module _ (w : TextMethod) (next : ℕ) (slots : Slots Value) (rest : List Value) where
      abbrev Seen : TextMethod → Type 0
      Seen m =
          ((k : ℕ) → k < text_operands m → IsInt ops operands k) → ReadsAll operands ops (StringWrites m)
          → AreNamed trees (actions_if (chars_accessed objects operands m)) (only_if (goes_on (string_writes values trees m next world slots ops rest)) (string_accesses ops m))

      by_answer : (told : List Action) (a : TextAnswer) (accesses : List named.Action) → AreNamed trees told (only_if (goes_answer a) accesses)
          → AreNamed trees told (only_if (goes_on (writes values (opening_count trees) (string_references trees) a next world slots ops rest)) accesses)
      by_answer told a accesses h =
          subst (λ b. AreNamed trees told (only_if b accesses)) (sym (goes_is (opening_count trees) (string_references trees) next world slots ops rest a)) h

      abbrev goes : TextMethod → Bool
      goes m = goes_on (string_writes values trees m next world slots ops rest)

      abbrev answer : TextMethod → TextAnswer
      answer m = text_answer m (int_operand values ops) (string_operand values world ops) (units_operand values world ops)

      pub chars_seen : (m : TextMethod) → Seen m
      chars_seen ConstructEmpty ints reads = named_never trees (goes ConstructEmpty)
      chars_seen ConstructOfString ints reads = named_never trees (goes ConstructOfString)
      chars_seen ConstructOfChars ints reads =
          by_answer (actions_if (chars_read objects operands)) (answer ConstructOfChars) (string_accesses ops ConstructOfChars) (read_seen ints (reads 2 refl))
      chars_seen GetChars ints reads =
          by_answer (actions_if (chars_written objects operands)) (answer GetChars) (string_accesses ops GetChars) (written_seen ints (reads 4 refl) (reads 1 refl))
      chars_seen Intern ints reads = named_never trees (goes Intern)
