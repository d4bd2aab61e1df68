-- The conditions on the words of a machine are those of the instruction over values.
use Rattle.std.proofs.Common.{◌≡◌, ℕ, zero, suc, ◌+◌, List, [], ◌∷◌, length, take, map, Bool, true, false, nat_lt, Option, Some, None, if◌then◌else◌, refl, sym, ap, subst, ◌∙◌}
use Rattle.std.specs.Prelude.{IsTrue, ◌&&◌, ◌⊎◌, slice_get, slice_index_or}
use Rattle.std.specs.Option.{option_map, option_map_or, option_and_then}
use Rattle.std.proofs.Common.{inl, inr}
use Rattle.std.proofs.lemmas.Bool.{false≢true}
use Rattle.std.proofs.lemmas.List.{length-map}
use Rattle.std.proofs.lemmas.Option.{same_Some, get_or_from_slice_get}
use Rattle.model.specs.declared.value.Value.{Value}
use Rattle.model.specs.declared.instr.ArrayKind.{ArrayKind}
use Rattle.model.specs.declared.instr.ArrayKind.TheVariants as array_kind
use Rattle.model.specs.declared.instr.FieldAccess.{FieldAccess}
use Rattle.model.specs.declared.instr.FieldAccess.TheVariants as access
use Rattle.model.specs.declared.instr.Instr.{Instr}
use Rattle.model.specs.declared.instr.Instr.TheVariants as instr
use Rattle.model.specs.Names.{Name, Member, member_eq, java_lang_system, system_out, system_err}
use Rattle.model.specs.Opening.{print_stream_reference, error_stream_reference}
use Rattle.model.specs.Tree.{FieldTree, FileTree}
use Rattle.model.specs.Pool.{field_at}
use Rattle.model.specs.Instruction.{Sized}
use Rattle.model.specs.BuiltIn.{built_in_classes}
use Rattle.model.specs.Classes.{Program, Body, name_of}
use Rattle.model.specs.Lookup.{find_field, field_of, field_member, is_instance_field, is_static_field}
use Rattle.model.specs.LimitStands.{Bounds}
use Rattle.model.specs.ReferenceTypes.{PrimitiveArray, ReferenceArray, Char, Short, Int}
use Rattle.model.specs.Types.{VerificationType, Want, AReference, AByteArray, value_meets}
use Rattle.model.specs.Operands.{Slots, values, words, over_values, under, word_of, word_reference}
use Rattle.model.specs.State.{ObjectOf, Instance, Primitives, References, types_of, World, WorldOf, Characters}
use Rattle.model.specs.Outcomes.{Cost, OutcomeOf, Goes, not_null}
use Rattle.model.specs.ClassInitialisation.{look_at, look_by, status_of}
use Rattle.model.specs.Worlds.{object_at, elements_of, no_object}
use Rattle.model.specs.Sites.{MeaningOf, Site, site_with, operand, referent, int_operand}
use Rattle.model.specs.Objects.{any_object}
use Rattle.model.specs.Arrays.{in_range, at_index, load_meaning, load_of, may_stand_in, if_storable, store_int_meaning, store_reference_meaning, store_of}
use Rattle.model.specs.Meanings.{stream_of, get_static_by, system_stream_meaning, get_static_of, put_static_of, get_field_of, put_field_of, if_field, field_meaning, meaning_of}
use Rattle.model.specs.Step.{ops_of}
use Rattle.model.specs.Words.{map_world}
use Rattle.run_laws.specs.word_operands.Receivers.{Receiver, receiver, receiver_of, IsReceived, is_array_of, is_null_or}
use Rattle.run_laws.proofs.laws.Classes.{members_same}
use Rattle.run_laws.proofs.laws.Found.{some_from}
use Rattle.run_laws.proofs.laws.Lists.{Pairwise}
use Rattle.run_laws.proofs.laws.Rows.{ready_popped}
use Rattle.run_laws.proofs.word_runs.WordMeanings.{operand_words, instance_operand}
use Rattle.run_laws.proofs.word_runs.WordWorlds.{object_words, object_at_words, elements_words}
use Rattle.heap.specs.Heap.{words_at}
use Rattle.linked_code.specs.declared.program.LinkedProgram.{LinkedProgram}
use Rattle.linked_code.specs.Numbers.{IsClassAt}
use Rattle.hierarchy.specs.Places.{class_at}
use Rattle.machine_state.specs.declared.state.Shared.{Shared}
use Rattle.machine_state.specs.Shown.{IsProgram, Represents}
use Rattle.machine_state.specs.shown_objects.Laws.{is_array}
use Rattle.machine_state.proofs.shown_objects.Objects.{are_elements}
use Rattle.machine_instructions.specs.type_instructions.Words.{TestsStore}
use Rattle.data_races.specs.Variables.{InstanceField, StaticField, Element}
use Rattle.data_races.specs.Actions.{Action, Read, Write}
use Rattle.data_races.specs.EventActions.{only_if, is_ready, goes_on, is_variable, named_access, field_access, access_by}
use Rattle.field_names.specs.declared.named_fields.NamedField.{NamedField}
use Rattle.field_names.specs.named_fields.Fields.{IsField, IsFieldIf, member_at}
use Rattle.next_accesses.specs.read_operands.Reads.{ReadsAt}
use Rattle.next_accesses.specs.accesses.Accesses.{object_under, IsFieldOf}
use Rattle.next_accesses.specs.access_conditions.Conditions.{IsClassReady, has_element, MayStand, MayStore, FieldGoesOn, GoesOn}

-- ---- lists, tests and options

only_nothing : (b c : Bool) (xs : List Action) → xs ≡ [] → only_if b xs ≡ only_if c xs
only_nothing true true xs e = refl
only_nothing true false xs e = e
only_nothing false true xs e = sym e
only_nothing false false xs e = refl

of_if : {A : Type 0} (b : Bool) (x m : A) → (if b then Some x else None) ≡ Some m → (b ≡ true) × (x ≡ m)
of_if true x m e = (refl, same_Some x m e)
of_if false x m e = absurd cc

refers : (w r : ℕ) → word_reference w ≡ Some r → w ≡ suc r
refers zero r e = absurd cc
refers (suc n) r e = ap suc (same_Some n r e)

-- what stands where a test finds something
record Tested {A : Type 0} (test : A → Bool) (o : Option A) : Type 0 where
  item : A
  at : o ≡ Some item
  passes : test item ≡ true

tested : {A : Type 0} (test : A → Bool) (o : Option A) → option_map_or test o false ≡ true → Tested test o
tested test None e = absurd (false≢true e)
tested test (Some x) e = record { item = x; at = refl; passes = e }

true_is : (b : Bool) → IsTrue b → b ≡ true
true_is b h = h

array_is : (kind : ArrayKind) (o : ObjectOf ℕ) → is_array_of kind o ≡ true → is_array o ≡ true
array_is kind (Instance class fields) e = absurd (false≢true e)
array_is kind (Primitives of elements) e = refl
array_is kind (References of elements) e = refl
array_is kind (Characters text) e = absurd (false≢true e)

index_goes : (b : Bool) (cost : Cost) (after : World) (slots : Slots Value) (to : ℕ) → goes_on (at_index b (Goes cost after slots to)) ≡ b
index_goes true cost after slots to = refl
index_goes false cost after slots to = refl

storable_goes : (a b : Bool) (cost : Cost) (after : World) (slots : Slots Value) (to : ℕ) → goes_on (at_index a (if_storable b (Goes cost after slots to))) ≡ (a && b)
storable_goes true true cost after slots to = refl
storable_goes true false cost after slots to = refl
storable_goes false b cost after slots to = refl

-- System.out and System.err are found
out_found : (files : Program) → find_field files system_out ≡ Some system_out
unfolding built_in_classes
out_found files = refl

err_found : (files : Program) → find_field files system_err ≡ Some system_err
unfolding built_in_classes
err_found files = refl

stream_class : (files : Program) (named : Member) (stream : ℕ) (member : Member) → stream_of files named ≡ Some stream → find_field files named ≡ Some member
    → java_lang_system ≡ member.class
stream_class files named stream member q f = by (member_eq named system_out) (member_eq named system_err) refl refl q
  where
    by : (b c : Bool) → member_eq named system_out ≡ b → member_eq named system_err ≡ c
        → (if b then Some print_stream_reference else if c then Some (error_stream_reference files) else None) ≡ Some stream → java_lang_system ≡ member.class
    by true c e g h =
        ap (λ (o : Member). o.class) (same_Some system_out member (sym (out_found files) ∙ ap (find_field files) (sym (members_same named system_out e)) ∙ f))
    by false true e g h =
        ap (λ (o : Member). o.class) (same_Some system_err member (sym (err_found files) ∙ ap (find_field files) (sym (members_same named system_err g)) ∙ f))
    by false false e g h = absurd cc

class_of_field : (files : Program) (class field : ℕ) (member : Member) → member_at files class field ≡ Some member → IsClassAt files class member.class
class_of_field files class field member e =
    let found = some_from (λ (file : FileTree). option_map (field_member (name_of file) file.pool) (slice_get file.fields field)) (class_at files class) member e in
    by found.0 (slice_get found.0.fields field) found.1 found.2
  where
    by : (file : FileTree) (o : Option FieldTree) → class_at files class ≡ Some file → option_map (field_member (name_of file) file.pool) o ≡ Some member → IsClassAt files class member.class
    by file None at is = absurd cc
    by file (Some f) at is = (file, at, ap (λ (m : Member). m.class) (same_Some (field_member (name_of file) file.pool f) member is))

module _ (files : Program) (p : LinkedProgram) (bounds : Bounds) (shared : Shared) (world : World) (program : IsProgram files p)
    (represents : Represents files p bounds shared (map_world word_of world)) (t max_stack : ℕ) (slots : Slots Value) (field : Option NamedField) where
  abbrev operands : List ℕ
  operands = map word_of slots.stack

  abbrev words_world : WorldOf ℕ
  words_world = map_world word_of world

  abbrev Finds : MeaningOf Value → Type 0
  Finds m = values.finds files (types_of world.heap) m.wants max_stack slots ≡ true

  abbrev accesses : Site → MeaningOf Value → List Action
  accesses site m = access_by files site (ops_of values m slots) site.instr

  abbrev does_so : MeaningOf Value → Bool
  does_so m =
      is_ready (look_at t world m.looks)
      && goes_on (m.does (record { thread = t; pick = 0 }) world slots (ops_of values m slots) (under m.wants slots))

  -- it goes on where its conditions hold, and other threads don't matter
  pub record Passes (site : Site) (m : MeaningOf Value) (told : Bool) : Type 0 where
    pub is : only_if told (accesses site m) ≡ only_if (does_so m) (accesses site m)
    pub may : m.may (record { thread = t; pick = 0 }) world (ops_of values m slots) ≡ true

  -- or it names no variable
  abbrev pub PassesIf : Site → MeaningOf Value → Bool → Type 0
  PassesIf site m told = Passes site m told ⊎ (accesses site m ≡ [])

  -- what is known of it
  pub record Given (site : Site) (m : MeaningOf Value) (told : Bool) : Type 0 where
    pub goes : GoesOn p shared t operands site.instr field told
    pub reads : ReadsAt (ops_of values m slots) operands site.instr
    pub of_field : IsFieldOf files site site.instr field
    pub received : (of : Receiver) → receiver_of files site site.instr ≡ Some of → IsReceived words_world.heap operands of
    pub finds : Finds m

  abbrev pub Claim : Site → MeaningOf Value → Type 0
  Claim site m = (told : Bool) → Given site m told → PassesIf site m told

  module _ (method : Member) (code : Body) (offset size : ℕ) where
    abbrev site_of : Instr → Site
    site_of i = site_with method code offset (i, size)

    -- by what it means
    as_meant : (i : Instr) (x m : MeaningOf Value) → x ≡ m → Claim (site_of i) x → Claim (site_of i) m
    as_meant i x m is h = subst (Claim (site_of i)) is h

    -- ---- fields of objects

    not_null_goes : (o : Option ℕ) (go : ℕ → OutcomeOf Value) (f : ℕ → Action) → ((r : ℕ) → goes_on (go r) ≡ true)
        → option_map_or (λ r. f r ∷ []) o [] ≡ only_if (goes_on (not_null o go)) (option_map_or (λ r. f r ∷ []) o [])
    not_null_goes None go f h = refl
    not_null_goes (Some r) go f h = ap (λ b. only_if b (f r ∷ [])) (sym (h r))

    -- of a field that is no variable there is no access
    if_variable : (b c : Bool) (xs : List Action) → xs ≡ only_if c xs → only_if b xs ≡ only_if c (only_if b xs)
    if_variable true c xs e = e
    if_variable false c xs e = only_nothing true c [] refl

    of_object : (how : FieldAccess) (k : ℕ) (f : Member → ℕ → Action) (ops : List Value) (go : ℕ → OutcomeOf Value) → ((r : ℕ) → goes_on (go r) ≡ true)
        → ((member : Member) → named_access ops how member ≡ option_map_or (λ r. f member r ∷ []) (referent values ops k) []) → (o : Option Member)
        → option_map_or (field_access ops how) o [] ≡ only_if (goes_on (not_null (referent values ops k) go)) (option_map_or (field_access ops how) o [])
    of_object how k f ops go h is None = only_nothing true (goes_on (not_null (referent values ops k) go)) [] refl
    of_object how k f ops go h is (Some member) =
        if_variable (is_variable member) (goes_on (not_null (referent values ops k) go)) (named_access ops how member)
        (is member ∙ not_null_goes (referent values ops k) go (f member) h ∙ ap (only_if (goes_on (not_null (referent values ops k) go))) (sym (is member)))

    get_field : (index : ℕ) (m : MeaningOf Value) → meaning_of values files (site_of (instr.Field access.GetField index)) ≡ Some m → Claim (site_of (instr.Field access.GetField index)) m
    get_field index m means =
        let i = instr.Field access.GetField index in
        let next = (site_of i).next in
        let named = some_from (field_meaning values files next access.GetField) (field_at code.pool index) m means in
        let found = some_from (if_field is_instance_field files (get_field_of values files next named.0.class)) (find_field files named.0) m named.2 in
        let x = get_field_of values files next named.0.class found.0 in
        let is = of_if (option_map_or is_instance_field (field_of files found.0) false) x m found.2 in
        as_meant i x m is.1
        (λ told given. inl (
        record {
          is =
              ap (λ b. only_if b (accesses (site_of i) x)) given.goes
              ∙ of_object access.GetField 0 (λ member r. Read (InstanceField r member)) (ops_of values x slots) _ (λ r. refl) (λ member. refl)
              (option_and_then (find_field files) (field_at code.pool index));
          may = refl;
        }
        ))

    put_field : (index : ℕ) (m : MeaningOf Value) → meaning_of values files (site_of (instr.Field access.PutField index)) ≡ Some m → Claim (site_of (instr.Field access.PutField index)) m
    put_field index m means =
        let i = instr.Field access.PutField index in
        let next = (site_of i).next in
        let named = some_from (field_meaning values files next access.PutField) (field_at code.pool index) m means in
        let found = some_from (if_field is_instance_field files (put_field_of values files next named.0.class)) (find_field files named.0) m named.2 in
        let x = put_field_of values files next named.0.class found.0 in
        let is = of_if (option_map_or is_instance_field (field_of files found.0) false) x m found.2 in
        as_meant i x m is.1
        (λ told given. inl (
        record {
          is =
              ap (λ b. only_if b (accesses (site_of i) x)) given.goes
              ∙ of_object access.PutField 1 (λ member r. Write (InstanceField r member)) (ops_of values x slots) _ (λ r. refl) (λ member. refl)
              (option_and_then (find_field files) (field_at code.pool index));
          may = refl;
        }
        ))

    -- ---- static fields

    and_true : (b : Bool) → (b && true) ≡ b
    and_true true = refl
    and_true false = refl

    -- the class that it looks for is the one that declares the field
    static_goes : (how : FieldAccess) (index : ℕ) (m : MeaningOf Value) (told : Bool) (member : Member)
        → (f : NamedField) → IsField files member f → IsClassReady shared t f.class told → m.looks ≡ Some member.class
        → goes_on (m.does (record { thread = t; pick = 0 }) world slots (ops_of values m slots) (under m.wants slots)) ≡ true
        → m.may (record { thread = t; pick = 0 }) world (ops_of values m slots) ≡ true
        → PassesIf (site_of (instr.Field how index)) m told
    static_goes how index m told member f is ready looks goes may =
        let there : told ≡ is_ready (look_at t world m.looks) =
        ready files p bounds words_world program represents member.class (class_of_field files f.class f.field member is.at)
        ∙ ap (λ (o : Option Name). is_ready (look_at t world o)) (sym looks)
        in
        inl (
        record {
          is =
              ap (λ b. only_if b (accesses (site_of (instr.Field how index)) m))
              (there ∙ sym (and_true (is_ready (look_at t world m.looks))) ∙ ap (λ b. is_ready (look_at t world m.looks) && b) (sym goes));
          may = may;
        }
        )

    none_found : (how : FieldAccess) (index : ℕ) (m : MeaningOf Value) → option_and_then (find_field files) (field_at code.pool index) ≡ None → accesses (site_of (instr.Field how index)) m ≡ []
    none_found how index m e = ap (λ (o : Option Member). option_map_or (field_access (ops_of values m slots) how) o []) e

    module _ (how : FieldAccess) (index : ℕ) (named : Member) (names : field_at code.pool index ≡ Some named) (m : MeaningOf Value)
        (goes : goes_on (m.does (record { thread = t; pick = 0 }) world slots (ops_of values m slots) (under m.wants slots)) ≡ true)
        (may : m.may (record { thread = t; pick = 0 }) world (ops_of values m slots) ≡ true) where
      found_is : (o : Option Member) → find_field files named ≡ o → option_and_then (find_field files) (field_at code.pool index) ≡ o
      found_is o e = ap (option_and_then (find_field files)) names ∙ e

      static_by : (told : Bool) (o : Option Member) (f : Option NamedField) → find_field files named ≡ o → IsFieldIf files o f
          → ((member : Member) → o ≡ Some member → m.looks ≡ Some member.class) → ((g : NamedField) → f ≡ Some g → IsClassReady shared t g.class told)
          → PassesIf (site_of (instr.Field how index)) m told
      static_by told None f e is looks ready = inr (none_found how index m (found_is None e))
      static_by told (Some member) None e is looks ready = absurd is
      static_by told (Some member) (Some g) e is looks ready = static_goes how index m told member g is (ready g refl) (looks member refl) goes may

      static_told : ((member : Member) → find_field files named ≡ Some member → m.looks ≡ Some member.class)
          → IsFieldIf files (option_and_then (find_field files) (field_at code.pool index)) field
          → (told : Bool) → ((g : NamedField) → field ≡ Some g → IsClassReady shared t g.class told) → PassesIf (site_of (instr.Field how index)) m told
      static_told looks of told ready =
          static_by told (find_field files named) field refl
          (subst (λ (o : Option Member). IsFieldIf files (option_and_then (find_field files) o) field) names of) looks ready

    ready_for : (told : Bool) (f : Option NamedField) → FieldGoesOn shared t access.GetStatic f told → (g : NamedField) → f ≡ Some g → IsClassReady shared t g.class told
    ready_for told None h g e = absurd cc
    ready_for told (Some f) h g e = subst (λ (x : NamedField). IsClassReady shared t x.class told) (same_Some f g e) h

    get_static : (index : ℕ) (m : MeaningOf Value) → meaning_of values files (site_of (instr.Field access.GetStatic index)) ≡ Some m → Claim (site_of (instr.Field access.GetStatic index)) m
    get_static index m means =
        let named = some_from (field_meaning values files (site_of (instr.Field access.GetStatic index)).next access.GetStatic) (field_at code.pool index) m means in
        by named.0 named.1 (stream_of files named.0) refl named.2
      where
        by : (named : Member) → field_at code.pool index ≡ Some named → (o : Option ℕ) → stream_of files named ≡ o
            → get_static_by values files (offset + size) named o ≡ Some m → Claim (site_of (instr.Field access.GetStatic index)) m
        by named names (Some stream) q e =
            let x = system_stream_meaning values (offset + size) stream in
            as_meant (instr.Field access.GetStatic index) x m (same_Some x m e)
            (λ told given. static_told access.GetStatic index named names x refl refl
            (λ member found. ap (λ (c : Name). Some c) (stream_class files named stream member q found))
            given.of_field told (ready_for told field given.goes))
        by named names None other e =
            let found = some_from (if_field is_static_field files (get_static_of values files (offset + size))) (find_field files named) m e in
            let x = get_static_of values files (offset + size) found.0 in
            let is = of_if (option_map_or is_static_field (field_of files found.0) false) x m found.2 in
            as_meant (instr.Field access.GetStatic index) x m is.1
            (λ told given. static_told access.GetStatic index named names x refl refl
            (λ member same. ap (λ (o : Member). Some o.class) (same_Some found.0 member (sym found.1 ∙ same)))
            given.of_field told (ready_for told field given.goes))

    put_static : (index : ℕ) (m : MeaningOf Value) → meaning_of values files (site_of (instr.Field access.PutStatic index)) ≡ Some m → Claim (site_of (instr.Field access.PutStatic index)) m
    put_static index m means =
        let i = instr.Field access.PutStatic index in
        let next = (site_of i).next in
        let named = some_from (field_meaning values files next access.PutStatic) (field_at code.pool index) m means in
        let found = some_from (if_field is_static_field files (put_static_of values files next)) (find_field files named.0) m named.2 in
        let x = put_static_of values files next found.0 in
        let is = of_if (option_map_or is_static_field (field_of files found.0) false) x m found.2 in
        as_meant i x m is.1
        (λ told given. static_told access.PutStatic index named.0 named.1 x refl refl
        (λ member same. ap (λ (o : Member). Some o.class) (same_Some found.0 member (sym found.1 ∙ same)))
        given.of_field told (ready_for told field given.goes))

    -- ---- elements

    -- the array of an operand that is not null has as many elements as words
    module _ (kind : ArrayKind) (k r : ℕ) (received : IsReceived words_world.heap operands (receiver k (is_array_of kind))) (under_is : object_under operands k ≡ Some r) where
      array_there : Tested (is_array_of kind) (slice_get words_world.heap r)
      array_there =
          tested (is_array_of kind) (slice_get words_world.heap r)
          (subst (λ w. is_null_or words_world.heap (is_array_of kind) w ≡ true) (refers (slice_index_or operands k 0) r under_is)
          (true_is (is_null_or words_world.heap (is_array_of kind) (slice_index_or operands k 0)) received.fits))

      count_is : length (words_at shared.heap.objects r) ≡ length (elements_of (object_at world r))
      count_is =
          let a = array_there in
          let e = are_elements files p.components.items shared.heap.objects words_world.heap represents.world_is.objects r a.item a.at (array_is kind a.item a.passes) in
          ap length (sym e.are)
          ∙ ap (λ (o : ObjectOf ℕ). length (elements_of o)) (sym (get_or_from_slice_get words_world.heap r a.item no_object a.at))
          ∙ ap (λ (o : ObjectOf ℕ). length (elements_of o)) (object_at_words world r)
          ∙ ap length (elements_words (object_at world r))
          ∙ length-map (elements_of (object_at world r)) word_of

    -- whether it has the element
    has_it : (kind : ArrayKind) (place r : ℕ) (ops : List Value) → IsReceived words_world.heap operands (receiver (suc place) (is_array_of kind))
        → object_under operands (suc place) ≡ Some r → int_operand values ops place ≡ slice_index_or operands place 0
        → option_map_or (λ x. nat_lt (slice_index_or operands place 0) (length (words_at shared.heap.objects x))) (object_under operands (suc place)) false ≡ in_range world r (int_operand values ops place)
    has_it kind place r ops received under_is index =
        ap (λ (o : Option ℕ). option_map_or (λ x. nat_lt (slice_index_or operands place 0) (length (words_at shared.heap.objects x))) o false) under_is
        ∙ ap (λ n. nat_lt (slice_index_or operands place 0) n) (count_is kind (suc place) r received under_is)
        ∙ ap (λ n. nat_lt n (length (elements_of (object_at world r)))) (sym index)

    -- by the array, if there is one
    by_array : (o : Option ℕ) (told : Bool) (go : ℕ → OutcomeOf Value) (f : ℕ → Action) → ((r : ℕ) → o ≡ Some r → told ≡ goes_on (go r))
        → only_if told (option_map_or (λ r. f r ∷ []) o []) ≡ only_if (goes_on (not_null o go)) (option_map_or (λ r. f r ∷ []) o [])
    by_array None told go f h = only_nothing told false [] refl
    by_array (Some r) told go f h = ap (λ b. only_if b (f r ∷ [])) (h r refl)

    loads : (kind : ArrayKind) (want : Want) (first : Value) (type : List VerificationType → VerificationType)
        → Claim (site_of (instr.LoadElement kind)) (load_meaning values (site_of (instr.LoadElement kind)) want first type)
    loads kind want first type told given =
        let x = load_meaning values (site_of (instr.LoadElement kind)) want first type in
        let ops = ops_of values x slots in
        let index = int_operand values ops 0 in
        inl (
        record {
          is =
              by_array (referent values ops 1) told _ (λ r. Read (Element r index))
              (λ r e. given.goes ∙ has_it kind 0 r ops (given.received _ refl) (sym given.reads.0 ∙ e) given.reads.1 ∙ sym (index_goes (in_range world r index) _ _ _ _));
          may = refl;
        }
        )

    load : (kind : ArrayKind) (m : MeaningOf Value) → meaning_of values files (site_of (instr.LoadElement kind)) ≡ Some m → Claim (site_of (instr.LoadElement kind)) m
    load array_kind.Int m e = as_meant (instr.LoadElement array_kind.Int) _ m (same_Some _ m e) (loads array_kind.Int _ _ _)
    load array_kind.Reference m e = as_meant (instr.LoadElement array_kind.Reference) _ m (same_Some _ m e) (loads array_kind.Reference _ _ _)
    load array_kind.ByteOrBoolean m e = as_meant (instr.LoadElement array_kind.ByteOrBoolean) _ m (same_Some _ m e) (loads array_kind.ByteOrBoolean _ _ _)
    load array_kind.Char m e = as_meant (instr.LoadElement array_kind.Char) _ m (same_Some _ m e) (loads array_kind.Char _ _ _)
    load array_kind.Short m e = as_meant (instr.LoadElement array_kind.Short) _ m (same_Some _ m e) (loads array_kind.Short _ _ _)

    stores_int : (kind : ArrayKind) (want : Want) → ((stores : Bool) → MayStore p shared.heap.objects operands kind stores → stores ≡ true)
        → Claim (site_of (instr.StoreElement kind)) (store_int_meaning values (site_of (instr.StoreElement kind)) want)
    stores_int kind want always told given =
        let x = store_int_meaning values (site_of (instr.StoreElement kind)) want in
        let ops = ops_of values x slots in
        let index = int_operand values ops 1 in
        inl (
        record {
          is =
              by_array (referent values ops 2) told _ (λ r. Write (Element r index))
              (λ r e. given.goes.2
              ∙ ap (λ b. has_element shared.heap.objects operands 1 && b) (always given.goes.0 given.goes.1)
              ∙ and_true (has_element shared.heap.objects operands 1)
              ∙ has_it kind 1 r ops (given.received _ refl) (sym given.reads.0 ∙ e) given.reads.1
              ∙ sym (index_goes (in_range world r index) _ _ _ _));
          may = refl;
        }
        )

    stands : (o : ObjectOf Value) (ws : List Want) (ops : List Value) → Pairwise (value_meets files (types_of world.heap)) ws ops → slice_get ws 0 ≡ Some (AReference any_object)
        → may_stand_in words files words_world (object_words o) (operand words (map word_of ops) 0) ≡ may_stand_in values files world o (operand values ops 0)
    stands (Instance class fields) ws ops q e = refl
    stands (Primitives of elements) ws ops q e = refl
    stands (References of elements) ws ops q e = instance_operand files world ws ops 0 any_object of q e
    stands (Characters text) ws ops q e = refl

    storable : (r : ℕ) (o : Option ℕ) (told : Bool) (word : ℕ) → MayStand p shared.heap.objects word o told → o ≡ Some r
        → told ≡ may_stand_in words files words_world (object_at words_world r) word
    storable r None told word h e = absurd cc
    storable r (Some q) told word h e =
        subst (λ x. told ≡ may_stand_in words files words_world (object_at words_world x) word) (same_Some q r e)
        (h program.files files program.linkable program.linked words_world represents.world_is.objects)

    stores_reference : Claim (site_of (instr.StoreElement array_kind.Reference)) (store_reference_meaning values files (site_of (instr.StoreElement array_kind.Reference)))
    stores_reference told given =
        let x = store_reference_meaning values files (site_of (instr.StoreElement array_kind.Reference)) in
        let ops = ops_of values x slots in
        let index = int_operand values ops 1 in
        let pairs : Pairwise (value_meets files (types_of world.heap)) x.wants.pops ops = ready_popped (value_meets files (types_of world.heap)) over_values x.wants max_stack slots given.finds in
        inl (
        record {
          is =
              by_array (referent values ops 2) told _ (λ r. Write (Element r index))
              (λ r e.
              let under_is : object_under operands 2 ≡ Some r = sym given.reads.0 ∙ e in
              let held : given.goes.0 ≡ may_stand_in values files world (object_at world r) (operand values ops 0) =
              storable r (object_under operands 2) given.goes.0 (slice_index_or operands 0 0) given.goes.1 under_is
              ∙ ap (λ (o : ObjectOf ℕ). may_stand_in words files words_world o (slice_index_or operands 0 0)) (object_at_words world r)
              ∙ ap (λ w. may_stand_in words files words_world (object_words (object_at world r)) w) (sym (operand_words ops 0 ∙ given.reads.2))
              ∙ stands (object_at world r) x.wants.pops ops pairs refl
              in
              given.goes.2
              ∙ ap (λ b. has_element shared.heap.objects operands 1 && b) held
              ∙ ap (λ b. b && may_stand_in values files world (object_at world r) (operand values ops 0)) (has_it array_kind.Reference 1 r ops (given.received _ refl) under_is given.reads.1)
              ∙ sym (storable_goes (in_range world r index) (may_stand_in values files world (object_at world r) (operand values ops 0)) _ _ _ _));
          may = refl;
        }
        )

    store : (kind : ArrayKind) (m : MeaningOf Value) → meaning_of values files (site_of (instr.StoreElement kind)) ≡ Some m → Claim (site_of (instr.StoreElement kind)) m
    store array_kind.Int m e = as_meant (instr.StoreElement array_kind.Int) _ m (same_Some _ m e) (stores_int array_kind.Int _ (λ s h. h))
    store array_kind.Reference m e = as_meant (instr.StoreElement array_kind.Reference) _ m (same_Some _ m e) stores_reference
    store array_kind.ByteOrBoolean m e = as_meant (instr.StoreElement array_kind.ByteOrBoolean) _ m (same_Some _ m e) (stores_int array_kind.ByteOrBoolean _ (λ s h. h))
    store array_kind.Char m e = as_meant (instr.StoreElement array_kind.Char) _ m (same_Some _ m e) (stores_int array_kind.Char _ (λ s h. h))
    store array_kind.Short m e = as_meant (instr.StoreElement array_kind.Short) _ m (same_Some _ m e) (stores_int array_kind.Short _ (λ s h. h))

    -- ---- each instruction

    fields : (how : FieldAccess) (index : ℕ) (m : MeaningOf Value) → meaning_of values files (site_of (instr.Field how index)) ≡ Some m → Claim (site_of (instr.Field how index)) m
    fields access.GetField index = get_field index
    fields access.PutField index = put_field index
    fields access.GetStatic index = get_static index
    fields access.PutStatic index = put_static index

    passes : (i : Instr) (m : MeaningOf Value) → meaning_of values files (site_of i) ≡ Some m → Claim (site_of i) m
    passes (instr.Field how index) = fields how index
    passes (instr.LoadElement kind) = load kind
    passes (instr.StoreElement kind) = store kind
    passes _ = λ m means told given. inr refl

  -- of the instruction of a site
  pub passes_at : (method : Member) (code : Body) (offset : ℕ) (o : Option Sized) (site : Site) → option_map (site_with method code offset) o ≡ Some site
      → (m : MeaningOf Value) → meaning_of values files site ≡ Some m → Claim site m
  passes_at method code offset None site e = absurd cc
  passes_at method code offset (Some sized) site e =
      subst (λ (s : Site). (m : MeaningOf Value) → meaning_of values files s ≡ Some m → Claim s m) (same_Some (site_with method code offset sized) site e)
      (passes method code offset sized.1 sized.0)
