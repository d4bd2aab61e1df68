-- Methods without code that access variables: what they leave of the world, and that they do and access the same in a later one.
use Rattle.std.proofs.Common.{◌≡◌, refl, sym, ◌∙◌, ap, subst, ℕ, zero, suc, ◌≤◌, List, [], ◌++◌, map, drop, take, length, arith}
use Rattle.std.specs.Prelude.{Option, Some, None, Bool, true, false, if◌then◌else◌, ◌-◌, ◌&&◌, ◌==◌, nat_le, nat_lt, is_none, IsTrue}
use Rattle.std.specs.Option.{option_map, option_map_or, option_and_then}
use Rattle.std.proofs.lemmas.Bool.{false≢true, true≢false, and_parts, leb-true, eqb-true, eq-eqb}
use Rattle.std.proofs.lemmas.List.{length-map, length-drop, length-take-le}
use Rattle.std.proofs.lemmas.Option.{none-some, same_Some}
use Rattle.model.specs.declared.builder_method.BuilderMethod.{BuilderMethod}
use Rattle.model.specs.declared.builder_method.BuilderMethod.TheVariants.{ConstructEmpty, ConstructOfString, AppendString, AppendInt, AppendChar, AppendBuilder, ToString}
use Rattle.model.specs.declared.event.Event.{Event}
use Rattle.model.specs.declared.text_method.TextMethod.{TextMethod}
use Rattle.model.specs.declared.text_method.TextMethod.TheVariants as text_method
use Rattle.model.specs.declared.value.Value.{Value}
use Rattle.model.specs.declared.value.Value.TheVariants as value
use Rattle.model.specs.BuilderMethods.{BuilderAnswer, IsNull, KeepsEmpty, Keeps, Adds, GivesText, builds, builder_does, with_composed, built_text}
use Rattle.model.specs.BuiltInMethods.{BuiltInMethod, ObjectClone, StringWrites, StringBuilderBuilds, string_operand, built_in_does}
use Rattle.model.specs.Classes.{Program}
use Rattle.model.specs.Cloning.{is_cloneable, cloned}
use Rattle.model.specs.Names.{builder_text}
use Rattle.model.specs.Opening.{string_reference, string_references, opening_count}
use Rattle.model.specs.Operands.{Slots, values}
use Rattle.model.specs.Outcomes.{Cost, Goes, NullPointer, StringIndexOutOfBounds, ArrayIndexOutOfBounds, CloneNotSupported}
use Rattle.model.specs.ReferenceTypes.{ReferenceType, ClassType, PrimitiveArray, ReferenceArray}
use Rattle.model.specs.Sites.{operand, referent, int_operand, object_of}
use Rattle.model.specs.State.{ObjectOf, Instance, Primitives, References, Characters, type_of, World}
use Rattle.model.specs.StringMethods.{is_at_most}
use Rattle.model.specs.TextMethods as writing
use Rattle.model.specs.TextMethods.{TextAnswer, IsOutsideArray, Becomes, Stores, StandsFor, if_there, text_of_part, if_room, stored_part, text_answer, unit_in, char_value, units_operand, standing_for, gives_standing, with_interned, with_text_at, with_units_at, writes}
use Rattle.model.specs.Texts.{Text}
use Rattle.model.specs.Worlds.{allocated, object_at, elements_of, string_text, text_of}
use Rattle.data_races.specs.Actions.{Action, Read, Write}
use Rattle.data_races.specs.Variables.{Variable}
use Rattle.data_races.specs.EventActions.{elements_accessed, string_accesses, copy_accesses, clone_accesses, built_in_accesses, goes_on}
use Rattle.data_races.proofs.Decided.{In}
use Rattle.data_races.proofs.BuilderCalls.{accessing_method}
use Rattle.race_laws.proofs.racy_states.Accessing.{goes_to, not_raised}
use Rattle.race_laws.proofs.racy_states.Later.{KeepsArrays}
use Rattle.race_laws.proofs.racy_states.Shapes.{IsGrown, grown_itself, grown_both, grown_by_field, grown_by_new, grown_by_elements, grown_by_text, grown_by_interned}

some_suc : (n : ℕ) → (suc n == 0) ≡ false
some_suc n = by (suc n == 0) refl
  where
    by : (b : Bool) → (suc n == 0) ≡ b → b ≡ false
    by true q = let none : suc n ≡ 0 = eqb-true (suc n) 0 q in absurd (omega (arith, none))
    by false q = refl

-- elements that are accessed are some
some_accessed : (make : Variable → Action) (array index count : ℕ) (a : Action) → In a (elements_accessed make array index count) → (count == 0) ≡ false
some_accessed make array index zero a h = absurd h
some_accessed make array index (suc count) a h = some_suc count

-- ---- what they leave

module _ (files : Program) (next : ℕ) (slots : Slots Value) (ops rest : List Value) where
  answer_grows : (empty : ℕ) (world : World) (answer : BuilderAnswer) (cost : Cost) (after : World) (left : Slots Value) (to : ℕ)
      → builds values empty answer next world slots ops rest ≡ Goes cost after left to → IsGrown world after
  answer_grows empty world IsNull cost after left to e = not_raised NullPointer cost after left to e
  answer_grows empty world KeepsEmpty cost after left to e =
      goes_to world _ _ left cost _ to next (grown_by_field world (object_of values ops 0) builder_text (value.Reference empty)) after e
  answer_grows empty world Keeps cost after left to e = goes_to world _ _ left cost _ to next (grown_by_field world (object_of values ops 1) builder_text (operand values ops 0)) after e
  answer_grows empty world (Adds added) cost after left to e =
      let r = object_of values ops 1 in
      let text = built_text values world r ++ added in
      let made = allocated world (Characters text) in
      goes_to world (with_composed values world r text) _ left cost _ to next
      (grown_both world made (with_composed values world r text) (grown_by_new world (Characters text)) (grown_by_field made r builder_text (value.Reference (length world.heap)))) after e
  answer_grows empty world GivesText cost after left to e = goes_to world world _ left cost _ to next (grown_itself world) after e

  copy_grows : (world : World) (b : Bool) (object : ObjectOf Value) (cost : Cost) (after : World) (left : Slots Value) (to : ℕ)
      → cloned values b object next world slots rest ≡ Goes cost after left to → IsGrown world after
  copy_grows world true object cost after left to e = goes_to world (allocated world object) _ left cost _ to next (grown_by_new world object) after e
  copy_grows world false object cost after left to e = not_raised CloneNotSupported cost after left to e

  standing_grows : (world : World) (string : Option ℕ) (cost : Cost) (after : World) (left : Slots Value) (to : ℕ)
      → gives_standing values string next world slots ops rest ≡ Goes cost after left to → IsGrown world after
  standing_grows world None cost after left to e =
      goes_to world (with_interned world (object_of values ops 0)) _ left cost _ to next (grown_by_interned world (object_of values ops 0)) after e
  standing_grows world (Some string) cost after left to e = goes_to world world _ left cost _ to next (grown_itself world) after e

  writes_grow : (opened : ℕ) (constants : List ℕ) (world : World) (answer : TextAnswer) (cost : Cost) (after : World) (left : Slots Value) (to : ℕ)
      → writes values opened constants answer next world slots ops rest ≡ Goes cost after left to → IsGrown world after
  writes_grow opened constants world writing.IsNull cost after left to e = not_raised NullPointer cost after left to e
  writes_grow opened constants world writing.IsOutside cost after left to e = not_raised StringIndexOutOfBounds cost after left to e
  writes_grow opened constants world IsOutsideArray cost after left to e = not_raised ArrayIndexOutOfBounds cost after left to e
  writes_grow opened constants world (Becomes receiver text) cost after left to e =
      goes_to world (with_text_at opened world (object_of values ops receiver) text) _ left cost _ to next (grown_by_text world opened (object_of values ops receiver) text) after e
  writes_grow opened constants world (Stores array index text) cost after left to e =
      let r = object_of values ops array in
      goes_to world (with_units_at values world r index text) _ left cost _ to next (grown_by_elements world r index (map (char_value values) text)) after e
  writes_grow opened constants world (StandsFor text) cost after left to e = standing_grows world (standing_for constants world text) cost after left to e

  pub method_grows : (event : Event) (world : World) (b m : BuiltInMethod) → accessing_method b ≡ Some m → (cost : Cost) (after : World) (left : Slots Value) (to : ℕ)
      → built_in_does values files b next event world slots ops rest ≡ Goes cost after left to → IsGrown world after
  method_grows event world (StringBuilderBuilds method) m a cost after left to e = answer_grows (string_reference files []) world _ cost after left to e
  method_grows event world (StringWrites method) m a cost after left to e =
      writes_grow (opening_count files) (string_references files) world (text_answer method (int_operand values ops) (string_operand values world ops) (units_operand values world ops)) cost after left to e
  method_grows event world ObjectClone m a cost after left to e =
      copy_grows world (is_cloneable files (type_of (object_at world (object_of values ops 0)))) (object_at world (object_of values ops 0)) cost after left to e
  method_grows event world _ m a cost after left to e = absurd (none-some m a)

  -- ---- that they do it again

  string_again : (empty : ℕ) (b : Bool) (world later : World) → IsTrue (goes_on (builds values empty (if b then IsNull else Keeps) next world slots ops rest))
      → IsTrue (goes_on (builds values empty (if b then IsNull else Keeps) next later slots ops rest))
  string_again empty true world later h = h
  string_again empty false world later h = refl

  builder_again : (empty : ℕ) (b : BuilderMethod) (world later : World) → IsTrue (goes_on (builder_does values empty b next world slots ops rest))
      → IsTrue (goes_on (builder_does values empty b next later slots ops rest))
  builder_again empty ConstructEmpty world later h = refl
  builder_again empty ConstructOfString world later h = string_again empty (is_none (referent values ops 0)) world later h
  builder_again empty AppendString world later h = refl
  builder_again empty AppendInt world later h = refl
  builder_again empty AppendChar world later h = refl
  builder_again empty AppendBuilder world later h = refl
  builder_again empty ToString world later h = refl

  -- whether a method of String goes on is its answer's
  abbrev is_no_fault : TextAnswer → Bool
  is_no_fault (Becomes receiver text) = true
  is_no_fault (Stores array index text) = true
  is_no_fault (StandsFor text) = true
  is_no_fault _ = false

  standing_goes : (world : World) (string : Option ℕ) → goes_on (gives_standing values string next world slots ops rest) ≡ true
  standing_goes world None = refl
  standing_goes world (Some string) = refl

  writes_go : (opened : ℕ) (constants : List ℕ) (world : World) (answer : TextAnswer)
      → goes_on (writes values opened constants answer next world slots ops rest) ≡ is_no_fault answer
  writes_go opened constants world writing.IsNull = refl
  writes_go opened constants world writing.IsOutside = refl
  writes_go opened constants world IsOutsideArray = refl
  writes_go opened constants world (Becomes receiver text) = refl
  writes_go opened constants world (Stores array index text) = refl
  writes_go opened constants world (StandsFor text) = standing_goes world (standing_for constants world text)

  either_fault : (b : Bool) (x : TextAnswer) → is_no_fault x ≡ true → is_no_fault (if b then x else writing.IsOutside) ≡ b
  either_fault true x e = e
  either_fault false x e = refl

  either_room : (b : Bool) (x : TextAnswer) → is_no_fault x ≡ true → is_no_fault (if b then x else IsOutsideArray) ≡ b
  either_room true x e = e
  either_room false x e = refl

  both_faults : (b c : Bool) (x : TextAnswer) → is_no_fault x ≡ c → is_no_fault (if b then x else writing.IsOutside) ≡ (b && c)
  both_faults true c x e = e
  both_faults false c x e = refl

  -- an array of chars that a String is made of
  abbrev part_fits : ℕ → Bool
  part_fits count = is_at_most count (int_operand values ops 0) && is_at_most (count - int_operand values ops 0) (int_operand values ops 1)

  chars_fit : (world : World) (o : Option ℕ) → is_no_fault (if_there (option_map (λ r. map (unit_in values) (elements_of (object_at world r))) o) (λ elements. text_of_part elements (int_operand values ops 1) (int_operand values ops 0)))
      ≡ option_map_or (λ r. part_fits (length (elements_of (object_at world r)))) o false
  chars_fit world None = refl
  chars_fit world (Some r) =
      let units = map (unit_in values) (elements_of (object_at world r)) in
      either_fault (part_fits (length units)) (Becomes 3 (take (int_operand values ops 0) (drop (int_operand values ops 1) units))) refl
      ∙ ap part_fits (length-map (elements_of (object_at world r)) (unit_in values))

  -- the part of a text that getChars stores, in an array of so many elements
  abbrev stored_fits : Text → ℕ → Bool
  stored_fits text count =
      let begin = int_operand values ops 3 in
      let end = int_operand values ops 2 in
      let part = take (end - begin) (drop begin text) in
      (is_at_most (length text) end && is_at_most end begin) && (nat_le (length part) count && is_at_most (count - length part) (int_operand values ops 0))

  stored_is : (text : Text) (count : ℕ) → is_no_fault (stored_part count text (int_operand values ops 3) (int_operand values ops 2) (int_operand values ops 0)) ≡ stored_fits text count
  stored_is text count =
      let begin = int_operand values ops 3 in
      let end = int_operand values ops 2 in
      let part = take (end - begin) (drop begin text) in
      both_faults (is_at_most (length text) end && is_at_most end begin) (nat_le (length part) count && is_at_most (count - length part) (int_operand values ops 0)) (if_room count (int_operand values ops 0) part)
      (either_room (nat_le (length part) count && is_at_most (count - length part) (int_operand values ops 0)) (Stores 1 (int_operand values ops 0) part) refl)

  module _ (world later : World) (k : KeepsArrays files world later) (a : Action) where
    not_none : (n : ℕ) (count : ℕ) → nat_le count n ≡ true → (count == 0) ≡ false → (n == 0) ≡ false
    not_none n count h e = by (n == 0) refl
      where
        by : (b : Bool) → (n == 0) ≡ b → b ≡ false
        by true q =
            let low : count ≤ n = leb-true count n h in
            let none : n ≡ 0 = eqb-true n 0 q in
            let no : count ≡ 0 = omega (arith, low, none) in
            absurd (true≢false (sym (eq-eqb count 0 no) ∙ e))
        by false q = refl

    chars_again : (o : Option ℕ) → In a (option_map_or (λ array. elements_accessed (λ v. Read v) array (int_operand values ops 1) (int_operand values ops 0)) o [])
        → option_map_or (λ r. part_fits (length (elements_of (object_at world r)))) o false ≡ true
        → option_map_or (λ r. part_fits (length (elements_of (object_at later r)))) o false ≡ true
    chars_again None h e = absurd h
    chars_again (Some r) h e =
        let n = length (elements_of (object_at world r)) in
        let low = and_parts (is_at_most n (int_operand values ops 0)) (is_at_most (n - int_operand values ops 0) (int_operand values ops 1)) e in
        let some = not_none n (int_operand values ops 0) (and_parts (nat_lt (int_operand values ops 0) _) (nat_le (int_operand values ops 0) n) low.0).1 (some_accessed (λ v. Read v) r (int_operand values ops 1) (int_operand values ops 0) a h) in
        subst (λ m. part_fits m ≡ true) (sym (k.counts r some)) e

    -- ---- getChars

    abbrev end : ℕ
    end = int_operand values ops 2

    abbrev begin : ℕ
    begin = int_operand values ops 3

    abbrev index : ℕ
    index = int_operand values ops 0

    abbrev stores_in : World → Text → Option ℕ → TextAnswer
    stores_in w this o = if_there (option_map (λ r. map (unit_in values) (elements_of (object_at w r))) o) (λ elements. stored_part (length elements) this begin end index)

    abbrev gets : World → Option ℕ → Option ℕ → TextAnswer
    gets w s o = if_there (option_and_then (λ r. string_text (object_at w r)) s) (λ this. stores_in w this o)

    abbrev stored : Option ℕ → List Action
    stored o = option_map_or (λ array. elements_accessed (λ v. Write v) array index (end - begin)) o []

    -- a part that is not empty has units, and so has its text
    part_some : (text : Text) → (end - begin == 0) ≡ false → (is_at_most (length text) end && is_at_most end begin) ≡ true
        → (length (take (end - begin) (drop begin text)) == 0) ≡ false
    part_some text n h =
        let x = and_parts (is_at_most (length text) end) (is_at_most end begin) h in
        let low : end ≤ length text = leb-true end (length text) (and_parts (nat_lt end _) (nat_le end (length text)) x.0).1 in
        let behind : length (drop begin text) ≡ length text - begin = length-drop begin text in
        let room : end - begin ≤ length (drop begin text) = omega (arith, low, behind) in
        ap (λ m. m == 0) (length-take-le (end - begin) (drop begin text) room) ∙ n

    text_some : (text : Text) → (end - begin == 0) ≡ false → (is_at_most (length text) end && is_at_most end begin) ≡ true → (length text == 0) ≡ false
    text_some text n h =
        let x = and_parts (is_at_most (length text) end) (is_at_most end begin) h in
        not_none (length text) end (and_parts (nat_lt end _) (nat_le end (length text)) x.0).1 (first end begin n)
      where
        first : (n m : ℕ) → (n - m == 0) ≡ false → (n == 0) ≡ false
        first n m e = by (n == 0) refl
          where
            by : (b : Bool) → (n == 0) ≡ b → b ≡ false
            by true q =
                let none : n ≡ 0 = eqb-true n 0 q in
                let no : n - m ≡ 0 = omega (arith, none) in
                absurd (true≢false (sym (eq-eqb (n - m) 0 no) ∙ e))
            by false q = refl

    fits_world : (text : Text) (r : ℕ) → is_no_fault (stores_in world text (Some r)) ≡ true → stored_fits text (length (elements_of (object_at world r))) ≡ true
    fits_world text r e =
        subst (λ c. stored_fits text c ≡ true) (length-map (elements_of (object_at world r)) (unit_in values))
        (sym (stored_is text (length (map (unit_in values) (elements_of (object_at world r))))) ∙ e)

    bounds : (text : Text) (count : ℕ) → stored_fits text count ≡ true → (is_at_most (length text) end && is_at_most end begin) ≡ true
    bounds text count e = (and_parts (is_at_most (length text) end && is_at_most end begin) _ e).0

    stores_again : (text : Text) (o : Option ℕ) → In a (stored o) → is_no_fault (stores_in world text o) ≡ true → is_no_fault (stores_in later text o) ≡ true
    stores_again text None h e = absurd h
    stores_again text (Some r) h e =
        let n = length (elements_of (object_at world r)) in
        let part = take (end - begin) (drop begin text) in
        let was = fits_world text r e in
        let parts = and_parts (is_at_most (length text) end && is_at_most end begin) (nat_le (length part) n && is_at_most (n - length part) index) was in
        let room = and_parts (nat_le (length part) n) (is_at_most (n - length part) index) parts.1 in
        let some = not_none n (length part) room.0 (part_some text (some_accessed (λ v. Write v) r index (end - begin) a h) parts.0) in
        stored_is text (length (map (unit_in values) (elements_of (object_at later r))))
        ∙ (ap (stored_fits text) (length-map (elements_of (object_at later r)) (unit_in values) ∙ k.counts r some) ∙ was)

    text_is : (o : ObjectOf Value) (t : Text) → string_text o ≡ Some t → text_of o ≡ t
    text_is (Instance class fields) t e = absurd (none-some t e)
    text_is (Primitives of elements) t e = absurd (none-some t e)
    text_is (References of elements) t e = absurd (none-some t e)
    text_is (Characters text) t e = same_Some text t e

    -- the text that it reads is not empty
    this_some : (text : Text) (o : Option ℕ) → In a (stored o) → is_no_fault (stores_in world text o) ≡ true → (length text == 0) ≡ false
    this_some text None h e = absurd h
    this_some text (Some r) h e =
        text_some text (some_accessed (λ v. Write v) r index (end - begin) a h) (bounds text (length (elements_of (object_at world r))) (fits_world text r e))

    gets_again : (s o : Option ℕ) → In a (stored o) → is_no_fault (gets world s o) ≡ true → is_no_fault (gets later s o) ≡ true
    gets_again None o h e = e
    gets_again (Some s) o h e = by (string_text (object_at world s)) refl e
      where
        by : (t : Option Text) → string_text (object_at world s) ≡ t → is_no_fault (if_there t (λ this. stores_in world this o)) ≡ true
            → is_no_fault (gets later (Some s) o) ≡ true
        by None q g = absurd (false≢true g)
        by (Some text) q g =
            let same = k.texts s (ap (λ (x : Text). length x == 0) (text_is (object_at world s) text q) ∙ this_some text o h g) ∙ q in
            subst (λ t. is_no_fault (if_there t (λ this. stores_in later this o)) ≡ true) (sym same) (stores_again text o h g)

    -- ---- each method of String

    string_again_by : (method : TextMethod) → In a (string_accesses ops method)
        → is_no_fault (text_answer method (int_operand values ops) (string_operand values world ops) (units_operand values world ops)) ≡ true
        → is_no_fault (text_answer method (int_operand values ops) (string_operand values later ops) (units_operand values later ops)) ≡ true
    string_again_by text_method.ConstructEmpty h e = absurd h
    string_again_by text_method.ConstructOfString h e = absurd h
    string_again_by text_method.ConstructOfChars h e =
        chars_fit later (referent values ops 2) ∙ chars_again (referent values ops 2) h (sym (chars_fit world (referent values ops 2)) ∙ e)
    string_again_by text_method.GetChars h e = gets_again (referent values ops 4) (referent values ops 1) h e
    string_again_by text_method.Intern h e = absurd h

    -- ---- copies

    copy_again : (b c : Bool) (object other : ObjectOf Value) → c ≡ b → IsTrue (goes_on (cloned values b object next world slots rest))
        → IsTrue (goes_on (cloned values c other next later slots rest))
    copy_again true c object other e h = subst (λ x. IsTrue (goes_on (cloned values x other next later slots rest))) (sym e) refl
    copy_again false c object other e h = absurd (false≢true h)

    -- where the object of a clone keeps its type, all do what they did
    pub method_again : (event : Event) (b m : BuiltInMethod) → accessing_method b ≡ Some m
        → (b ≡ ObjectClone → type_of (object_at later (object_of values ops 0)) ≡ type_of (object_at world (object_of values ops 0)))
        → In a (built_in_accesses files world ops b) → IsTrue (goes_on (built_in_does values files b next event world slots ops rest))
        → IsTrue (goes_on (built_in_does values files b next event later slots ops rest))
    method_again event (StringBuilderBuilds method) m e type h g = builder_again (string_reference files []) method world later g
    method_again event (StringWrites method) m e type h g =
        let opened = opening_count files in
        let constants = string_references files in
        let before = text_answer method (int_operand values ops) (string_operand values world ops) (units_operand values world ops) in
        let after = text_answer method (int_operand values ops) (string_operand values later ops) (units_operand values later ops) in
        writes_go opened constants later after ∙ string_again_by method h (sym (writes_go opened constants world before) ∙ g)
    method_again event ObjectClone m e type h g =
        copy_again (is_cloneable files (type_of (object_at world (object_of values ops 0)))) (is_cloneable files (type_of (object_at later (object_of values ops 0))))
        (object_at world (object_of values ops 0)) (object_at later (object_of values ops 0)) (ap (is_cloneable files) (type refl)) g
    method_again event _ m e type h g = absurd (none-some m e)

    -- ---- that they access the same

    elements_again : (r n m : ℕ) → ((n == 0) ≡ false → m ≡ n) → In a (elements_accessed (λ v. Read v) r 0 n) → In a (elements_accessed (λ v. Read v) r 0 m)
    elements_again r n m same h = subst (λ c. In a (elements_accessed (λ v. Read v) r 0 c)) (sym (same (some_accessed (λ v. Read v) r 0 n a h))) h

    copies_again : (r : ℕ) (t : ReferenceType) → In a (copy_accesses files r t (length (elements_of (object_at world r))))
        → In a (copy_accesses files r t (length (elements_of (object_at later r))))
    copies_again r (ClassType class) h = h
    copies_again r (PrimitiveArray of) h = elements_again r (length (elements_of (object_at world r))) (length (elements_of (object_at later r))) (k.counts r) h
    copies_again r (ReferenceArray of) h = elements_again r (length (elements_of (object_at world r))) (length (elements_of (object_at later r))) (k.counts r) h

    clones_again : (o : Option ℕ) → ((r : ℕ) → o ≡ Some r → type_of (object_at later r) ≡ type_of (object_at world r))
        → In a (option_map_or (clone_accesses files world) o []) → In a (option_map_or (clone_accesses files later) o [])
    clones_again None type h = absurd h
    clones_again (Some r) type h =
        subst (λ t. In a (copy_accesses files r t (length (elements_of (object_at later r))))) (sym (type r refl)) (copies_again r (type_of (object_at world r)) h)

    pub accesses_again : (b : BuiltInMethod)
        → (b ≡ ObjectClone → (r : ℕ) → referent values ops 0 ≡ Some r → type_of (object_at later r) ≡ type_of (object_at world r))
        → In a (built_in_accesses files world ops b) → In a (built_in_accesses files later ops b)
    accesses_again (StringBuilderBuilds method) type h = h
    accesses_again (StringWrites method) type h = h
    accesses_again ObjectClone type h = clones_again (referent values ops 0) (type refl) h
    accesses_again _ type h = absurd h
