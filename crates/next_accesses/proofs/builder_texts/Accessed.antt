-- What is told of texts are the accesses of the definitions.
use Rattle.std.proofs.Common.{arith, ◌≡◌, refl, sym, ap, subst, ◌∙◌, ℕ, zero, suc, List, [], ◌∷◌, ◌++◌, map, Bool, true, false, Option, Some, None, if◌then◌else◌, length, reverse}
use Rattle.std.specs.Prelude.{◌==◌, not, is_none, is_some, unwrap_or, slice_get, slice_index_or}
use Rattle.std.specs.Option.{option_map, option_map_or, option_to_list}
use Rattle.std.proofs.lemmas.Bool.{false≢true}
use Rattle.std.proofs.lemmas.Bool.Decides.{nat_tests}
use Rattle.std.proofs.lemmas.List.{append-nil, map-append}
use Rattle.model.specs.declared.builder_method.BuilderMethod.{BuilderMethod}
use Rattle.model.specs.declared.builder_method.BuilderMethod.TheVariants.{ConstructEmpty, ConstructOfString, AppendString, AppendInt, AppendChar, AppendBuilder, ToString}
use Rattle.model.specs.declared.value.Value.{Value}
use Rattle.model.specs.BuilderMethods.{IsNull, Keeps, builds, builder_does}
use Rattle.model.specs.BuiltIn.{built_in_classes}
use Rattle.model.specs.BuiltInMethods.{BuiltInMethod, StringBuilderBuilds}
use Rattle.model.specs.BuiltInNumbers.{string_builder_number}
use Rattle.model.specs.Classes.{Program}
use Rattle.model.specs.Names.{Member, builder_text}
use Rattle.model.specs.Operands.{Slots, values, word_reference}
use Rattle.model.specs.Sites.{referent}
use Rattle.model.specs.State.{World}
use Rattle.run_laws.proofs.laws.StringAnswers.{is_place_of}
use Rattle.run_laws.proofs.word_runs.WordBuiltIns.{object_places}
use Rattle.race_places.specs.declared.run_actions.Action.{Action}
use Rattle.race_places.specs.declared.run_actions.Variable.TheVariants as variable
use Rattle.race_places.specs.named_actions.Names.{named_action, IsOfField}
use Rattle.data_races.specs.Actions as named
use Rattle.data_races.specs.Variables.{InstanceField, declares_volatile}
use Rattle.data_races.specs.EventActions.{goes_on, only_if, text_access, builder_accesses}
use Rattle.field_names.specs.named_fields.Fields.{names_of, member_at, no_member}
use Rattle.next_accesses.specs.accesses.Accesses.{object_under, read_of, write_of, IsRightIf}
use Rattle.next_accesses.specs.builder_texts.Texts.{accesses_in, one_access, text_of, text_under, appending, texts_accessed, throws_on, texts_on}
use Rattle.next_accesses.specs.next_access.Next.{AreAllRight, AreNamed}
use Rattle.next_accesses.specs.read_operands.Reads.{IsReference}
use Rattle.next_accesses.proofs.next_access.Right.{named_none, right_both, right_if}

-- ---- the field of the text

text_there : (trees : Program) → member_at trees string_builder_number 0 ≡ Some builder_text
unfolding built_in_classes
text_there trees = refl

text_is_plain : (trees : Program) → declares_volatile trees builder_text ≡ false
unfolding built_in_classes
text_is_plain trees = refl

text_right : (trees : Program) (r : ℕ) → IsOfField (names_of trees) trees (variable.InstanceField r string_builder_number 0) false
text_right trees r = (
  ap is_some (text_there trees),
  sym (ap (λ o. declares_volatile trees (unwrap_or o no_member)) (text_there trees) ∙ text_is_plain trees),
)

-- each operand that a method takes as an object is read by its word
abbrev pub ReadsAll : List ℕ → List Value → BuiltInMethod → Type 0
ReadsAll operands ops m = (k : ℕ) → is_place_of (object_places m) k ≡ true → IsReference ops operands k

-- ---- one access

pub one_list : (o : Option Action) → accesses_in (one_access o) ≡ option_to_list o
one_list None = refl
one_list (Some a) = refl

module _ (trees : Program) where
  abbrev its_name : Action → named.Action
  its_name a = named_action (names_of trees) a

  read_named : (o : Option ℕ) → map its_name (option_to_list (read_of false (text_of o))) ≡ option_map_or (λ r. named.Read (InstanceField r builder_text) ∷ []) o []
  read_named None = refl
  read_named (Some r) = ap (λ f. named.Read (InstanceField r (unwrap_or f no_member)) ∷ []) (text_there trees)

  write_named : (o : Option ℕ) → map its_name (option_to_list (write_of false (text_of o))) ≡ option_map_or (λ r. named.Write (InstanceField r builder_text) ∷ []) o []
  write_named None = refl
  write_named (Some r) = ap (λ f. named.Write (InstanceField r (unwrap_or f no_member)) ∷ []) (text_there trees)

  read_right : (o : Option ℕ) → IsRightIf trees (read_of false (text_of o))
  read_right None = tt
  read_right (Some r) = text_right trees r

  write_right : (o : Option ℕ) → IsRightIf trees (write_of false (text_of o))
  write_right None = tt
  write_right (Some r) = text_right trees r

  -- ---- those of a method

  module _ (operands : List ℕ) (ops : List Value) where
    abbrev Reads : ℕ → Type 0
    Reads k = IsReference ops operands k

    read_at : (k : ℕ) → Reads k → map its_name (option_to_list (read_of false (text_under operands k))) ≡ text_access ops k named.Read
    read_at k e = read_named (object_under operands k) ∙ ap (λ o. option_map_or (λ r. named.Read (InstanceField r builder_text) ∷ []) o []) (sym e)

    write_at : (k : ℕ) → Reads k → map its_name (option_to_list (write_of false (text_under operands k))) ≡ text_access ops k named.Write
    write_at k e = write_named (object_under operands k) ∙ ap (λ o. option_map_or (λ r. named.Write (InstanceField r builder_text) ∷ []) o []) (sym e)

    one_read : (k : ℕ) → Reads k → map its_name (accesses_in (one_access (read_of false (text_under operands k)))) ≡ text_access ops k named.Read
    one_read k e = ap (map its_name) (one_list (read_of false (text_under operands k))) ∙ read_at k e

    one_write : (k : ℕ) → Reads k → map its_name (accesses_in (one_access (write_of false (text_under operands k)))) ≡ text_access ops k named.Write
    one_write k e = ap (map its_name) (one_list (write_of false (text_under operands k))) ∙ write_at k e

    appended : Reads 1 → map its_name (accesses_in (appending operands None)) ≡ text_access ops 1 named.Read ++ text_access ops 1 named.Write
    appended e =
        let first = option_to_list (read_of false (text_under operands 1)) in
        let last = option_to_list (write_of false (text_under operands 1)) in
        ap (λ l. map its_name (l ++ last)) (append-nil first)
        ∙ (map-append its_name first last
        ∙ (ap (λ l. l ++ map its_name last) (read_at 1 e) ∙ ap (λ l. text_access ops 1 named.Read ++ l) (write_at 1 e)))

    appended_one : Reads 1 → Reads 0
        → map its_name (accesses_in (appending operands (text_under operands 0)))
        ≡ text_access ops 1 named.Read ++ text_access ops 0 named.Read ++ text_access ops 1 named.Write
    appended_one e f =
        let first = option_to_list (read_of false (text_under operands 1)) in
        let added = option_to_list (read_of false (text_under operands 0)) in
        let last = option_to_list (write_of false (text_under operands 1)) in
        map-append its_name (first ++ added) last
        ∙ (ap (λ l. l ++ map its_name last) (map-append its_name first added)
        ∙ (ap (λ l. (l ++ map its_name added) ++ map its_name last) (read_at 1 e)
        ∙ (ap (λ l. (text_access ops 1 named.Read ++ l) ++ map its_name last) (read_at 0 f) ∙ ap (λ l. (text_access ops 1 named.Read ++ text_access ops 0 named.Read) ++ l) (write_at 1 e))))

    pub texts_named : (b : BuilderMethod) → ReadsAll operands ops (StringBuilderBuilds b) → map its_name (accesses_in (texts_accessed operands b)) ≡ builder_accesses ops b
    texts_named ConstructEmpty h = one_write 0 (h 0 refl)
    texts_named ConstructOfString h = one_write 1 (h 1 refl)
    texts_named AppendString h = appended (h 1 refl)
    texts_named AppendInt h = appended (h 1 refl)
    texts_named AppendChar h = appended (h 1 refl)
    texts_named AppendBuilder h = appended_one (h 1 refl) (h 0 refl)
    texts_named ToString h = one_read 0 (h 0 refl)

  three_right : (o p q : Option Action) → IsRightIf trees o → IsRightIf trees p → IsRightIf trees q
      → AreAllRight trees (option_to_list o ++ option_to_list p ++ option_to_list q)
  three_right o p q e f g =
      right_both trees (option_to_list o ++ option_to_list p) (option_to_list q)
      (right_both trees (option_to_list o) (option_to_list p) (right_if trees o e) (right_if trees p f)) (right_if trees q g)

  one_right : (o : Option Action) → IsRightIf trees o → AreAllRight trees (accesses_in (one_access o))
  one_right o h = three_right o None None h tt tt

  appending_right : (operands : List ℕ) (added : Option ℕ) → AreAllRight trees (accesses_in (appending operands (text_of added)))
  appending_right operands added =
      let text = object_under operands 1 in
      three_right (read_of false (text_of text)) (read_of false (text_of added)) (write_of false (text_of text)) (read_right text) (read_right added) (write_right text)

  texts_right : (operands : List ℕ) (b : BuilderMethod) → AreAllRight trees (accesses_in (texts_accessed operands b))
  texts_right operands ConstructEmpty = one_right _ (write_right (object_under operands 0))
  texts_right operands ConstructOfString = one_right _ (write_right (object_under operands 1))
  texts_right operands AppendString = appending_right operands None
  texts_right operands AppendInt = appending_right operands None
  texts_right operands AppendChar = appending_right operands None
  texts_right operands AppendBuilder = appending_right operands (object_under operands 0)
  texts_right operands ToString = one_right _ (read_right (object_under operands 0))

  -- those of the call
  pub texts_seen : (operands : List ℕ) (ops : List Value) (b : BuilderMethod) → ReadsAll operands ops (StringBuilderBuilds b)
      → AreNamed trees (accesses_in (texts_on operands b)) (only_if (not (throws_on operands b)) (builder_accesses ops b))
  texts_seen operands ops b h = by (throws_on operands b)
    where
      by : (x : Bool) → AreNamed trees (accesses_in (if x then one_access None else texts_accessed operands b)) (only_if (not x) (builder_accesses ops b))
      by true = named_none trees
      by false = record { are = texts_named operands ops b h; right = texts_right operands b }

-- ---- whether it throws

past_zero : (n : ℕ) → (suc n == 0) ≡ false
past_zero n = grind (arith, nat_tests)

word_null : (w : ℕ) → is_none (word_reference w) ≡ (w == 0)
word_null zero = refl
word_null (suc n) = sym (past_zero n)

module _ (empty next : ℕ) (world : World) (slots : Slots Value) (operands : List ℕ) (ops rest : List Value) where
  string_goes : (b : Bool) → goes_on (builds values empty (if b then IsNull else Keeps) next world slots ops rest) ≡ not b
  string_goes true = refl
  string_goes false = refl

  pub goes_unless : (b : BuilderMethod) → ReadsAll operands ops (StringBuilderBuilds b) → goes_on (builder_does values empty b next world slots ops rest) ≡ not (throws_on operands b)
  goes_unless ConstructEmpty h = refl
  goes_unless ConstructOfString h =
      string_goes (is_none (referent values ops 0)) ∙ ap not (ap is_none (h 0 refl) ∙ word_null (slice_index_or operands 0 0))
  goes_unless AppendString h = refl
  goes_unless AppendInt h = refl
  goes_unless AppendChar h = refl
  goes_unless AppendBuilder h = refl
  goes_unless ToString h = refl
