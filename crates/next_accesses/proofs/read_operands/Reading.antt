-- The operands of the instructions that read and write variables.
use Rattle.std.proofs.Common.{◌≡◌, ℕ, zero, suc, ◌<◌, List, [], ◌∷◌, ◌++◌, length, drop, take, map, Bool, true, false, Option, Some, None, if◌then◌else◌, refl, sym, ap, subst, ◌∙◌, arith}
use Rattle.std.specs.Prelude.{slice_get, slice_index_or}
use Rattle.std.specs.Option.{option_map, option_map_or, option_and_then}
use Rattle.std.proofs.lemmas.Option.{same_Some}
use Rattle.model.specs.declared.value.Value.{Value}
use Rattle.model.specs.declared.value.Value.TheVariants as value
use Rattle.model.specs.declared.instr.ArrayKind.{ArrayKind}
use Rattle.model.specs.declared.instr.ArrayKind.TheVariants as array_kind
use Rattle.model.specs.declared.instr.FieldAccess.{FieldAccess}
use Rattle.model.specs.declared.instr.FieldAccess.TheVariants as access
use Rattle.model.specs.declared.instr.Instr.{Instr}
use Rattle.model.specs.declared.instr.Instr.TheVariants as instr
use Rattle.model.specs.Names.{Name, name_eq, Member}
use Rattle.model.specs.Pool.{field_at}
use Rattle.model.specs.Instruction.{sized_at, Sized}
use Rattle.model.specs.Classes.{Program, Body}
use Rattle.model.specs.Lookup.{find_field, field_of, is_instance_field}
use Rattle.model.specs.ReferenceTypes.{ReferenceType, PrimitiveArray, ReferenceArray, Char, Short, Int}
use Rattle.model.specs.Types.{Want, AnInt, AReference, AnOwner, AByteArray, value_meets}
use Rattle.model.specs.Operands.{Slots, values, over_values, word_of, word_reference, reference_of}
use Rattle.model.specs.State.{types_of, World}
use Rattle.model.specs.Sites.{MeaningOf, Site, site_at, site_with, operand}
use Rattle.model.specs.Objects.{any_object}
use Rattle.model.specs.Calls.{of_class}
use Rattle.model.specs.Arrays.{load_of, store_of}
use Rattle.model.specs.Meanings.{field_meaning, get_field_of, put_field_of, if_field, owner_want, meaning_of}
use Rattle.model.specs.Step.{ops_of}
use Rattle.run_laws.proofs.laws.Found.{some_from}
use Rattle.run_laws.proofs.laws.Lists.{Pairwise}
use Rattle.run_laws.proofs.laws.WordLists.{is_object_want, wanted_referent, map_index}
use Rattle.run_laws.proofs.laws.Rows.{ready_popped}
use Rattle.run_laws.proofs.word_runs.WordMeanings.{wanted_at}
use Rattle.next_accesses.specs.read_operands.Reads.{IsReference, IsInt, ReadsAt, AreOperandsRead}

of_if : {A : Type 0} (b : Bool) (x m : A) → (if b then Some x else None) ≡ Some m → (b ≡ true) × (x ≡ m)
of_if true x m e = (refl, same_Some x m e)
of_if false x m e = absurd cc

-- what a constructor may put into is an object, too
owner_is_object : (b : Bool) (files : Program) (named : Name) → is_object_want (if b then AnOwner named else of_class files named) ≡ true
owner_is_object true files named = refl
owner_is_object false files named = refl

module _ (files : Program) (world : World) (max_stack : ℕ) (slots : Slots Value) where
  abbrev Finds : MeaningOf Value → Type 0
  Finds m = values.finds files (types_of world.heap) m.wants max_stack slots ≡ true

  abbrev stack_words : List ℕ
  stack_words = map word_of slots.stack

  taken_at : {A : Type 0} (n : ℕ) (xs : List A) (k : ℕ) (d : A) → k < n → slice_index_or (take n xs) k d ≡ slice_index_or xs k d
  taken_at zero xs k d h = absurd (omega (arith, h))
  taken_at (suc n) [] k d h = refl
  taken_at (suc n) (x ∷ xs) zero d h = refl
  taken_at (suc n) (x ∷ xs) (suc k) d h = taken_at n xs k d (omega arith)

  below_length : {A : Type 0} (xs : List A) (k : ℕ) (x : A) → slice_get xs k ≡ Some x → k < length xs
  below_length [] k x e = absurd cc
  below_length (y ∷ ys) zero x e = omega arith
  below_length (y ∷ ys) (suc k) x e = let h = below_length ys k x e in omega arith

  -- of an instruction that reads no local variable
  module _ (m : MeaningOf Value) (none : m.wants.reads ≡ []) (k : ℕ) (w : Want) (at : slice_get m.wants.pops k ≡ Some w) where
    ops_are : ops_of values m slots ≡ take (length m.wants.pops) slots.stack
    ops_are = ap (λ rs. map (λ r. slice_index_or slots.locals r.0 value.Unset) rs ++ take (length m.wants.pops) slots.stack) none

    pub word_is : slice_index_or stack_words k 0 ≡ word_of (operand values (ops_of values m slots) k)
    word_is =
        map_index word_of slots.stack k value.Unset
        ∙ ap word_of (sym (ap (λ (l : List Value). slice_index_or l k value.Unset) ops_are ∙ taken_at (length m.wants.pops) slots.stack k value.Unset (below_length m.wants.pops k w at)))

    int_is : IsInt (ops_of values m slots) stack_words k
    int_is = sym word_is

    pub reference_is : Finds m → is_object_want w ≡ true → IsReference (ops_of values m slots) stack_words k
    reference_is finds object =
        let ops = ops_of values m slots in
        let pairs : Pairwise (value_meets files (types_of world.heap)) m.wants.pops ops =
        subst (λ (l : List Value). Pairwise (value_meets files (types_of world.heap)) m.wants.pops l) (sym ops_are) (ready_popped (value_meets files (types_of world.heap)) over_values m.wants max_stack slots finds) in
        let v = operand values ops k in
        let meets : value_meets files (types_of world.heap) w v ≡ true = wanted_at (value_meets files (types_of world.heap)) m.wants.pops ops k w value.Unset pairs at in
        sym (ap word_reference word_is ∙ wanted_referent files (types_of world.heap) w v object meets)

  -- by what the instruction means
  reads_as : (i : Instr) (x m : MeaningOf Value) → x ≡ m → (Finds x → ReadsAt (ops_of values x slots) stack_words i) → Finds m → ReadsAt (ops_of values m slots) stack_words i
  reads_as i x m is h finds = subst (λ (y : MeaningOf Value). ReadsAt (ops_of values y slots) stack_words i) is (h (subst Finds (sym is) finds))

  module _ (method : Member) (code : Body) (offset size : ℕ) where
    abbrev site_of : Instr → Site
    site_of i = site_with method code offset (i, size)

    abbrev Reads : Instr → Type 0
    Reads i = (m : MeaningOf Value) → meaning_of values files (site_of i) ≡ Some m → Finds m → ReadsAt (ops_of values m slots) stack_words i

    get_field : (index : ℕ) → Reads (instr.Field access.GetField index)
    get_field index m means finds =
        let next = (site_of (instr.Field access.GetField index)).next in
        let named = some_from (field_meaning values files next access.GetField) (field_at code.pool index) m means in
        let field = some_from (if_field is_instance_field files (get_field_of values files next named.0.class)) (find_field files named.0) m named.2 in
        let is = of_if (option_map_or is_instance_field (field_of files field.0) false) (get_field_of values files next named.0.class field.0) m field.2 in
        let x = get_field_of values files next named.0.class field.0 in
        reads_as (instr.Field access.GetField index) x m is.1 (λ f. reference_is x refl 0 (of_class files named.0.class) refl f refl) finds

    put_field : (index : ℕ) → Reads (instr.Field access.PutField index)
    put_field index m means finds =
        let next = (site_of (instr.Field access.PutField index)).next in
        let named = some_from (field_meaning values files next access.PutField) (field_at code.pool index) m means in
        let field = some_from (if_field is_instance_field files (put_field_of values files next named.0.class)) (find_field files named.0) m named.2 in
        let is = of_if (option_map_or is_instance_field (field_of files field.0) false) (put_field_of values files next named.0.class field.0) m field.2 in
        let x = put_field_of values files next named.0.class field.0 in
        reads_as (instr.Field access.PutField index) x m is.1
        (λ f. reference_is x refl 1 (owner_want files named.0.class field.0) refl f (owner_is_object (name_eq named.0.class field.0.class) files named.0.class)) finds

    loads : (kind : ArrayKind) (w : Want) → slice_get (load_of values files (site_of (instr.LoadElement kind)) kind).wants.pops 1 ≡ Some w → is_object_want w ≡ true
        → (load_of values files (site_of (instr.LoadElement kind)) kind).wants.reads ≡ [] → slice_get (load_of values files (site_of (instr.LoadElement kind)) kind).wants.pops 0 ≡ Some AnInt
        → Reads (instr.LoadElement kind)
    loads kind w at object none int m means finds =
        let x = load_of values files (site_of (instr.LoadElement kind)) kind in
        reads_as (instr.LoadElement kind) x m (same_Some x m means) (λ f. (reference_is x none 1 w at f object, int_is x none 0 AnInt int)) finds

    load : (kind : ArrayKind) → Reads (instr.LoadElement kind)
    load array_kind.Int = loads array_kind.Int (AReference (PrimitiveArray Int)) refl refl refl refl
    load array_kind.Reference = loads array_kind.Reference (AReference (ReferenceArray any_object)) refl refl refl refl
    load array_kind.ByteOrBoolean = loads array_kind.ByteOrBoolean AByteArray refl refl refl refl
    load array_kind.Char = loads array_kind.Char (AReference (PrimitiveArray Char)) refl refl refl refl
    load array_kind.Short = loads array_kind.Short (AReference (PrimitiveArray Short)) refl refl refl refl

    stores : (kind : ArrayKind) (v w : Want) → slice_get (store_of values files (site_of (instr.StoreElement kind)) kind).wants.pops 0 ≡ Some v → slice_get (store_of values files (site_of (instr.StoreElement kind)) kind).wants.pops 2 ≡ Some w → is_object_want w ≡ true
        → (store_of values files (site_of (instr.StoreElement kind)) kind).wants.reads ≡ [] → slice_get (store_of values files (site_of (instr.StoreElement kind)) kind).wants.pops 1 ≡ Some AnInt
        → Reads (instr.StoreElement kind)
    stores kind v w first at object none int m means finds =
        let x = store_of values files (site_of (instr.StoreElement kind)) kind in
        reads_as (instr.StoreElement kind) x m (same_Some x m means)
        (λ f. (reference_is x none 2 w at f object, int_is x none 1 AnInt int, sym (word_is x none 0 v first))) finds

    store : (kind : ArrayKind) → Reads (instr.StoreElement kind)
    store array_kind.Int = stores array_kind.Int AnInt (AReference (PrimitiveArray Int)) refl refl refl refl refl
    store array_kind.Reference = stores array_kind.Reference (AReference any_object) (AReference (ReferenceArray any_object)) refl refl refl refl refl
    store array_kind.ByteOrBoolean = stores array_kind.ByteOrBoolean AnInt AByteArray refl refl refl refl refl
    store array_kind.Char = stores array_kind.Char AnInt (AReference (PrimitiveArray Char)) refl refl refl refl refl
    store array_kind.Short = stores array_kind.Short AnInt (AReference (PrimitiveArray Short)) refl refl refl refl refl

    field : (how : FieldAccess) (index : ℕ) → Reads (instr.Field how index)
    field access.GetField index = get_field index
    field access.PutField index = put_field index
    field access.GetStatic index = λ m means finds. tt
    field access.PutStatic index = λ m means finds. tt

    reads : (i : Instr) → Reads i
    reads (instr.Field how index) = field how index
    reads (instr.LoadElement kind) = load kind
    reads (instr.StoreElement kind) = store kind
    reads _ = λ m means finds. tt

  sited : (method : Member) (code : Body) (offset : ℕ) (o : Option Sized) (site : Site) → option_map (site_with method code offset) o ≡ Some site
      → (m : MeaningOf Value) → meaning_of values files site ≡ Some m → Finds m → ReadsAt (ops_of values m slots) stack_words site.instr
  sited method code offset None site e = absurd cc
  sited method code offset (Some sized) site e =
      subst (λ (s : Site). (m : MeaningOf Value) → meaning_of values files s ≡ Some m → Finds m → ReadsAt (ops_of values m slots) stack_words s.instr)
      (same_Some (site_with method code offset sized) site e) (reads method code offset sized.1 sized.0)

pub operands_read : AreOperandsRead
operands_read files method code offset site at m means world max_stack slots finds =
    sited files world max_stack slots method code offset (sized_at code.code.code offset) site at m means finds
