-- The operands of a method without code that accesses variables, by the words of a stack.
use Rattle.std.proofs.Common.{arith, ◌+◌, ◌<◌, ◌≤◌, if◌then◌else◌, ◌≡◌, refl, sym, ap, subst, ◌∙◌, ℕ, zero, suc, List, [], ◌∷◌, ◌++◌, map, length, reverse, take, Bool, true, false, Option, Some, None}
use Rattle.std.specs.Prelude.{slice_get, slice_index_or}
use Rattle.std.specs.Option.{option_map_or}
use Rattle.std.proofs.lemmas.Bool.{false≢true}
use Rattle.std.proofs.lemmas.List.{length-append, length-map, length-reverse}
use Rattle.model.specs.AccessFlags.{is_static_method}
use Rattle.model.specs.declared.text_method.TextMethod.{TextMethod}
use Rattle.model.specs.declared.value.Value.{Value}
use Rattle.model.specs.BuiltInMethods.{BuiltInMethod, StringWrites, built_in_method}
use Rattle.model.specs.Calls.{argument_wants, call_on, is_one, parameter_count}
use Rattle.model.specs.Classes.{Program}
use Rattle.model.specs.DescribedTypes.{declared_want, parameters_declared}
use Rattle.model.specs.Meanings.{meaning_of}
use Rattle.model.specs.Names.{Member}
use Rattle.model.specs.Objects.{any_object}
use Rattle.model.specs.Operands.{Slots, values, words, over_values, word_of, word_reference}
use Rattle.model.specs.ReferenceTypes.{ReferenceType}
use Rattle.model.specs.Sites.{MeaningOf, Site, operand, referent}
use Rattle.model.specs.State.{types_of, World}
use Rattle.model.specs.Step.{ops_of}
use Rattle.model.specs.Types.{Want, AReference, value_meets}
use Rattle.run_laws.proofs.laws.Lists.{Pairwise}
use Rattle.run_laws.proofs.laws.Rows.{ready_popped}
use Rattle.run_laws.proofs.laws.StringAnswers.{is_place_of}
use Rattle.run_laws.proofs.laws.WordLists.{is_object_want}
use Rattle.run_laws.proofs.word_runs.WordBuiltIns.{object_places, wants_object, wants_on, wanted, agrees_on}
use Rattle.run_laws.proofs.word_runs.WordMeanings.{operand_words}
use Rattle.data_races.proofs.BuilderCalls.{Builds, IsCallOn}
use Rattle.data_races.proofs.BuilderRuns.{DoesBuild, does_build}
use Rattle.machine_instructions.specs.thread_methods.Called.{text_operands}
use Rattle.machine_instructions.proofs.called_methods.BuiltIns.{operands_of, text_counted, writes_of}
use Rattle.next_accesses.specs.read_operands.Reads.{IsInt, IsReference}
use Rattle.next_accesses.proofs.builder_texts.Accessed.{ReadsAll}
use Rattle.next_accesses.proofs.read_operands.Reading.{word_is}

-- whatever object the receiver is wanted as
on_receiver : (ws : List Want) (v w : Want) (k : ℕ) → is_object_want w ≡ true → wants_object (ws ++ v ∷ []) k ≡ true → wants_object (ws ++ w ∷ []) k ≡ true
on_receiver [] v w zero o e = o
on_receiver [] v w (suc k) o e = absurd (false≢true e)
on_receiver (x ∷ ws) v w zero o e = e
on_receiver (x ∷ ws) v w (suc k) o e = on_receiver ws v w k o e

want_at : (ws : List Want) (k : ℕ) → wants_object ws k ≡ true → (w : Want) × (slice_get ws k ≡ Some w)
want_at ws k h = by (slice_get ws k) refl h
  where
    by : (o : Option Want) → slice_get ws k ≡ o → option_map_or is_object_want o false ≡ true → (w : Want) × (slice_get ws k ≡ Some w)
    by None e q = absurd (false≢true q)
    by (Some w) e q = (w, e)

module _ (trees : Program) (site : Site) (world : World) (max_stack : ℕ) (slots : Slots Value) where
  abbrev operands : List ℕ
  operands = map word_of slots.stack

  module _ (meaning : MeaningOf Value) (c : IsCallOn trees site meaning) (finds : values.finds trees (types_of world.heap) meaning.wants max_stack slots ≡ true)
      (m : Member) (described : m.descriptor ≡ c.method.descriptor) (b : BuiltInMethod) (is : built_in_method m ≡ b) where
    abbrev called : MeaningOf Value
    called = call_on values trees site c.method (c.receiver ∷ []) c.leads c.choose

    abbrev ops : List Value
    ops = ops_of values called slots

    finds_called : values.finds trees (types_of world.heap) called.wants max_stack slots ≡ true
    finds_called = subst (λ (y : MeaningOf Value). values.finds trees (types_of world.heap) y.wants max_stack slots ≡ true) c.is finds

    pairs : Pairwise (value_meets trees (types_of world.heap)) (wants_on trees m.descriptor c.receiver) ops
    pairs =
        subst (λ n. Pairwise (value_meets trees (types_of world.heap)) (wants_on trees n c.receiver) ops) (sym described)
        (ready_popped (value_meets trees (types_of world.heap)) over_values called.wants max_stack slots finds_called)

    at : (k : ℕ) → is_place_of (object_places (built_in_method m)) k ≡ true → (w : Want) × (slice_get called.wants.pops k ≡ Some w)
    at k p =
        want_at called.wants.pops k
        (subst (λ n. wants_object (wants_on trees n c.receiver) k ≡ true) described
        (on_receiver (reverse (map (declared_want trees) (parameters_declared m.descriptor))) (AReference any_object) c.receiver k c.object (wanted trees m k p).object))

    read : (k : ℕ) → is_place_of (object_places (built_in_method m)) k ≡ true → IsReference ops operands k
    read k p =
        let w = at k p in
        sym (agrees_on trees (types_of world.heap) m c.receiver ops c.object pairs k p)
        ∙ ap word_reference (operand_words ops k ∙ sym (word_is trees world max_stack slots called refl k w.0 w.1))

    pub reads_all : ReadsAll operands (ops_of values meaning slots) b
    reads_all k p =
        subst (λ (y : MeaningOf Value). IsReference (ops_of values y slots) operands k) (sym c.is)
        (read k (subst (λ x. is_place_of (object_places x) k ≡ true) (sym is) p))

    -- as many operands as it has parameters, and the receiver
    count_is : length called.wants.pops ≡ parameter_count m + 1
    count_is =
        let parameters = parameters_declared c.method.descriptor in
        let wants = map (declared_want trees) parameters in
        let same : parameter_count m ≡ length parameters = ap (λ d. length (parameters_declared d)) described in
        omega (arith, length-append (reverse wants) (c.receiver ∷ []), length-reverse wants, length-map parameters (declared_want trees), same)

    there_at : {A : Type 0} (l : List A) (k : ℕ) → k < length l → (x : A) × (slice_get l k ≡ Some x)
    there_at [] k h = absurd (omega (arith, h))
    there_at (y ∷ ys) zero h = (y, refl)
    there_at (y ∷ ys) (suc k) h = there_at ys k (omega (arith, h))

    pub reads_words : (k : ℕ) → k < parameter_count m + 1 → IsInt (ops_of values meaning slots) operands k
    reads_words k h =
        let w = there_at called.wants.pops k (omega (arith, h, count_is)) in
        subst (λ (y : MeaningOf Value). IsInt (ops_of values y slots) operands k) (sym c.is)
        (sym (word_is trees world max_stack slots called refl k w.0 w.1))

module _ (trees : Program) (site : Site) (world : World) (max_stack : ℕ) (slots : Slots Value) (meaning : MeaningOf Value)
    (means : meaning_of values trees site ≡ Some meaning) (finds : values.finds trees (types_of world.heap) meaning.wants max_stack slots ≡ true) (b : BuiltInMethod)
    (builds : Builds trees site world (ops_of values meaning slots) b) where
  abbrev built : DoesBuild trees site meaning means world (ops_of values meaning slots) b
  built = does_build trees site meaning means world (ops_of values meaning slots) b builds

  described : built.called.method.descriptor ≡ built.call.method.descriptor
  described = built.call.describes world built.called.object built.called.method built.called.chosen

  pub operands_named : ReadsAll (map word_of slots.stack) (ops_of values meaning slots) b
  operands_named = reads_all trees site world max_stack slots meaning built.call finds built.called.method described b built.called.is

  -- and the ints among them
  pub ints_named : (w : TextMethod) → b ≡ StringWrites w → (k : ℕ) → k < text_operands w → IsInt (ops_of values meaning slots) (map word_of slots.stack) k
  ints_named w e k h =
      let m = built.called.method in
      let counted : text_operands w ≡ operands_of trees m = text_counted trees m w (ap writes_of (built.called.is ∙ e)) in
      reads_words trees site world max_stack slots meaning built.call finds m described b built.called.is k (omega (arith, h, counted, at_most (is_one is_static_method trees m) (parameter_count m)))
    where
      at_most : (static : Bool) (n : ℕ) → n + (if static then 0 else 1) ≤ n + 1
      at_most true n = omega arith
      at_most false n = omega arith
