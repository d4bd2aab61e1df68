-- Strings that get their texts, and what is read of them, by words.
use Rattle.std.proofs.Common.{◌≡◌, ℕ, List, [], ◌∷◌, ◌++◌, ◌&&◌, map, length, find, take, drop, Bool, true, false, if◌then◌else◌, ◌-◌, ◌==◌, nat_le, Option, Some, None, option_map, refl, ap, ◌∙◌}
use Rattle.std.specs.Option.{option_and_then}
use Rattle.model.specs.declared.value.Value.{Value}
use Rattle.model.specs.declared.text_method.TextMethod.{TextMethod}
use Rattle.model.specs.declared.text_method.TextMethod.TheVariants.{ConstructEmpty, ConstructOfString, ConstructOfChars, GetChars, Intern}
use Rattle.model.specs.Operands.{Slots, words, values, word_of}
use Rattle.model.specs.State.{World}
use Rattle.model.specs.Texts.{Text}
use Rattle.model.specs.Outcomes.{OutcomeOf, Goes, Free, Fills}
use Rattle.model.specs.Worlds.{object_at, with_object, elements_of, with_elements, string_text, text_of, with_text}
use Rattle.model.specs.Sites.{operand, referent, int_operand, object_of}
use Rattle.model.specs.StringMethods.{is_at_most, is_same_text}
use Rattle.model.specs.TextMethods.{TextAnswer, IsNull, IsOutside, IsOutsideArray, Becomes, Stores, StandsFor, if_there, text_of_part, if_room, stored_part, text_answer, unit_in, char_value, units_operand, string_operand, is_string_of, standing_for, with_interned, gives_standing, is_blank, with_text_at, with_units_at, writes}
use Rattle.model.specs.Words.{map_slots}
use Rattle.run_laws.specs.word_runs.Words.{map_outcome}
use Rattle.run_laws.proofs.laws.StringAnswers.{is_place_of}
use Rattle.run_laws.proofs.word_runs.WordWorlds.{world_words, object_at_words, with_elements_words, elements_words, with_text_words, text_words, string_text_words}
use Rattle.run_laws.proofs.word_runs.WordMeanings.{operand_words, int_words, goes_words, becomes_words}
use Rattle.run_laws.proofs.word_runs.WordNames.{IsSameAt, same_object, change_words}

-- the operands that are read as objects
abbrev pub text_places : TextMethod → List ℕ
text_places ConstructEmpty = 0 ∷ []
text_places ConstructOfString = 1 ∷ 0 ∷ []
text_places ConstructOfChars = 3 ∷ 2 ∷ []
text_places GetChars = 4 ∷ 1 ∷ []
text_places Intern = 0 ∷ []

-- no other Strings and arrays are read
same_answer : (method : TextMethod) (int : ℕ → ℕ) (s t u v : ℕ → Option Text)
    → ((k : ℕ) → is_place_of (text_places method) k ≡ true → s k ≡ t k) → ((k : ℕ) → is_place_of (text_places method) k ≡ true → u k ≡ v k)
    → text_answer method int s u ≡ text_answer method int t v
same_answer ConstructEmpty int s t u v e f = refl
same_answer ConstructOfString int s t u v e f = ap (λ o. if_there o (Becomes 1)) (e 0 refl)
same_answer ConstructOfChars int s t u v e f = ap (λ o. if_there o (λ elements. text_of_part elements (int 1) (int 0))) (f 2 refl)
same_answer GetChars int s t u v e f =
    λ i. if_there (e 4 refl i) (λ this. if_there (f 1 refl i) (λ elements. stored_part (length elements) this (int 3) (int 2) (int 0)))
same_answer Intern int s t u v e f = ap (λ o. if_there o StandsFor) (e 0 refl)

units_of : (es : List Value) → map (unit_in words) (map word_of es) ≡ map (unit_in values) es
units_of [] = refl
units_of (v ∷ es) = ap (λ l. unit_in values v ∷ l) (units_of es)

chars_of : (text : Text) → map (char_value words) text ≡ map word_of (map (char_value values) text)
chars_of [] = refl
chars_of (unit ∷ text) = ap (λ l. char_value words unit ∷ l) (chars_of text)

module _ (world : World) where
  -- ---- what is read

  text_if : (o : Option ℕ) → option_and_then (λ r. string_text (object_at (world_words world) r)) o
      ≡ option_and_then (λ r. string_text (object_at world r)) o
  text_if None = refl
  text_if (Some r) = ap string_text (object_at_words world r) ∙ string_text_words (object_at world r)

  pub operand_text : (ops : List Value) (k : ℕ) → IsSameAt ops k
      → string_operand words (world_words world) (map word_of ops) k ≡ string_operand values world ops k
  operand_text ops k e = ap (option_and_then (λ r. string_text (object_at (world_words world) r))) e ∙ text_if (referent values ops k)

  units_at : (r : ℕ) → map (unit_in words) (elements_of (object_at (world_words world) r)) ≡ map (unit_in values) (elements_of (object_at world r))
  units_at r =
      ap (λ o. map (unit_in words) (elements_of o)) (object_at_words world r)
      ∙ (ap (map (unit_in words)) (elements_words (object_at world r)) ∙ units_of (elements_of (object_at world r)))

  units_if : (o : Option ℕ) → option_map (λ r. map (unit_in words) (elements_of (object_at (world_words world) r))) o
      ≡ option_map (λ r. map (unit_in values) (elements_of (object_at world r))) o
  units_if None = refl
  units_if (Some r) = ap (λ l. Some l) (units_at r)

  operand_units : (ops : List Value) (k : ℕ) → IsSameAt ops k
      → units_operand words (world_words world) (map word_of ops) k ≡ units_operand values world ops k
  operand_units ops k e =
      ap (option_map (λ r. map (unit_in words) (elements_of (object_at (world_words world) r)))) e ∙ units_if (referent values ops k)

  pub answer_words : (method : TextMethod) (ops : List Value) → ((k : ℕ) → is_place_of (text_places method) k ≡ true → IsSameAt ops k)
      → text_answer method (int_operand words (map word_of ops)) (string_operand words (world_words world) (map word_of ops)) (units_operand words (world_words world) (map word_of ops))
      ≡ text_answer method (int_operand values ops) (string_operand values world ops) (units_operand values world ops)
  answer_words method ops a =
      ap (λ int. text_answer method int (string_operand words (world_words world) (map word_of ops)) (units_operand words (world_words world) (map word_of ops))) (λ i k. int_words ops k i)
      ∙ same_answer method (int_operand values ops) (string_operand words (world_words world) (map word_of ops)) (string_operand values world ops)
      (units_operand words (world_words world) (map word_of ops)) (units_operand values world ops) (λ k p. operand_text ops k (a k p)) (λ k p. operand_units ops k (a k p))

  -- ---- what becomes of it

  string_is : (text : Text) (r : ℕ) → is_string_of (world_words world) text r ≡ is_string_of world text r
  string_is text r = ap (is_same_text text) (ap string_text (object_at_words world r) ∙ string_text_words (object_at world r))

  standing_is : (constants : List ℕ) (text : Text) → standing_for constants (world_words world) text ≡ standing_for constants world text
  standing_is constants text = λ i. find (λ r. string_is text r i) (constants ++ world.interned)

  blank_is : (opened r : ℕ) → is_blank opened (world_words world) r ≡ is_blank opened world r
  blank_is opened r =
      ap (λ (t : Text). nat_le opened r && length t == 0) (ap text_of (object_at_words world r) ∙ text_words (object_at world r))

  with_text_is : (opened r : ℕ) (text : Text) → with_text_at opened (world_words world) r text ≡ world_words (with_text_at opened world r text)
  with_text_is opened r text =
      ap (λ b. if b then with_object (world_words world) r (with_text text (object_at (world_words world) r)) else world_words world) (blank_is opened r)
      ∙ by (is_blank opened world r)
    where
      by : (b : Bool) → (if b then with_object (world_words world) r (with_text text (object_at (world_words world) r)) else world_words world)
          ≡ world_words (if b then with_object world r (with_text text (object_at world r)) else world)
      by true = change_words world r (with_text text) (with_text text) (with_text_words text (object_at world r))
      by false = refl

  with_units_is : (r index : ℕ) (text : Text) → with_units_at words (world_words world) r index text ≡ world_words (with_units_at values world r index text)
  with_units_is r index text =
      let units = map (char_value values) text in
      ap (λ l. with_object (world_words world) r (with_elements index l (object_at (world_words world) r))) (chars_of text)
      ∙ change_words world r (with_elements index (map word_of units)) (with_elements index units) (with_elements_words index units (object_at world r))

  module _ (next : ℕ) (slots : Slots Value) (rest : List Value) where
    standing_words : (string : Option ℕ) (ops : List Value) → IsSameAt ops 0
        → gives_standing words string next (world_words world) (map_slots word_of slots) (map word_of ops) (map word_of rest)
        ≡ map_outcome word_of (gives_standing values string next world slots ops rest)
    standing_words None ops e =
        ap (λ o. gives_with o (operand words (map word_of ops) 0)) (same_object ops 0 e) ∙ ap (gives_with (object_of values ops 0)) (operand_words ops 0)
      where
        gives_with : ℕ → ℕ → OutcomeOf ℕ
        gives_with o n = Goes Free (with_interned (world_words world) o) (record { locals = map word_of slots.locals; stack = n ∷ map word_of rest }) next
    standing_words (Some string) ops e = refl

    -- the operands that an answer changes are as they should be
    abbrev AnswerAgrees : TextAnswer → List Value → Type 0
    AnswerAgrees IsNull ops = Unit {0}
    AnswerAgrees IsOutside ops = Unit {0}
    AnswerAgrees IsOutsideArray ops = Unit {0}
    AnswerAgrees (Becomes receiver text) ops = IsSameAt ops receiver
    AnswerAgrees (Stores array index text) ops = IsSameAt ops array
    AnswerAgrees (StandsFor text) ops = IsSameAt ops 0

    where_there : (ops : List Value) (o : Option Text) (go : Text → TextAnswer) → ((text : Text) → AnswerAgrees (go text) ops)
        → AnswerAgrees (if_there o go) ops
    where_there ops None go h = tt
    where_there ops (Some text) go h = h text

    either_agrees : (ops : List Value) (b : Bool) (a c : TextAnswer) → AnswerAgrees a ops → AnswerAgrees c ops → AnswerAgrees (if b then a else c) ops
    either_agrees ops true a c h g = h
    either_agrees ops false a c h g = g

    agrees : (method : TextMethod) (ops : List Value) (int : ℕ → ℕ) (text units : ℕ → Option Text)
        → ((k : ℕ) → is_place_of (text_places method) k ≡ true → IsSameAt ops k) → AnswerAgrees (text_answer method int text units) ops
    agrees ConstructEmpty ops int text units a = a 0 refl
    agrees ConstructOfString ops int text units a = where_there ops (text 0) (Becomes 1) (λ other. a 1 refl)
    agrees ConstructOfChars ops int text units a =
        where_there ops (units 2) (λ elements. text_of_part elements (int 1) (int 0))
        (λ elements. either_agrees ops (is_at_most (length elements) (int 0) && is_at_most (length elements - int 0) (int 1)) (Becomes 3 (take (int 0) (drop (int 1) elements))) IsOutside (a 3 refl) tt)
    agrees GetChars ops int text units a =
        where_there ops (text 4) _
        (λ this. where_there ops (units 1) (λ elements. stored_part (length elements) this (int 3) (int 2) (int 0))
        (λ elements.
        let n = length elements in
        let part = take (int 2 - int 3) (drop (int 3) this) in
        either_agrees ops (is_at_most (length this) (int 2) && is_at_most (int 2) (int 3)) (if_room n (int 0) part) IsOutside
        (either_agrees ops (nat_le (length part) n && is_at_most (n - length part) (int 0)) (Stores 1 (int 0) part) IsOutsideArray (a 1 refl) tt) tt))
    agrees Intern ops int text units a = where_there ops (text 0) StandsFor (λ this. a 0 refl)

    writes_by : (opened : ℕ) (constants : List ℕ) (answer : TextAnswer) (ops : List Value) → AnswerAgrees answer ops
        → writes words opened constants answer next (world_words world) (map_slots word_of slots) (map word_of ops) (map word_of rest)
        ≡ map_outcome word_of (writes values opened constants answer next world slots ops rest)
    writes_by opened constants IsNull ops e = refl
    writes_by opened constants IsOutside ops e = refl
    writes_by opened constants IsOutsideArray ops e = refl
    writes_by opened constants (Becomes receiver text) ops e =
        let r = object_of values ops receiver in
        goes_words (Fills (length text)) (Fills (length text)) _ (with_text_at opened world r text) _ rest slots.locals next refl
        (ap (λ o. with_text_at opened (world_words world) o text) (same_object ops receiver e) ∙ with_text_is opened r text) refl
    writes_by opened constants (Stores array index text) ops e =
        let r = object_of values ops array in
        becomes_words _ (with_units_at values world r index text) rest slots.locals next
        (ap (λ o. with_units_at words (world_words world) o index text) (same_object ops array e) ∙ with_units_is r index text)
    writes_by opened constants (StandsFor text) ops e =
        ap (λ o. gives_standing words o next (world_words world) (map_slots word_of slots) (map word_of ops) (map word_of rest)) (standing_is constants text)
        ∙ standing_words (standing_for constants world text) ops e

    pub writes_words : (opened : ℕ) (constants : List ℕ) (method : TextMethod) (ops : List Value)
        → ((k : ℕ) → is_place_of (text_places method) k ≡ true → IsSameAt ops k)
        → writes words opened constants (text_answer method (int_operand words (map word_of ops)) (string_operand words (world_words world) (map word_of ops)) (units_operand words (world_words world) (map word_of ops))) next (world_words world) (map_slots word_of slots) (map word_of ops) (map word_of rest)
        ≡ map_outcome word_of (writes values opened constants (text_answer method (int_operand values ops) (string_operand values world ops) (units_operand values world ops)) next world slots ops rest)
    writes_words opened constants method ops a =
        ap (λ answer. writes words opened constants answer next (world_words world) (map_slots word_of slots) (map word_of ops) (map word_of rest)) (answer_words method ops a)
        ∙ writes_by opened constants (text_answer method (int_operand values ops) (string_operand values world ops) (units_operand values world ops)) ops
        (agrees method ops (int_operand values ops) (string_operand values world ops) (units_operand values world ops) a)
