-- What instructions on arrays mean (JVMS 6.5). An element is one cell; the tests come in the order null, index, kind of what is
-- stored.
use Rattle.std.specs.Prelude.{ℕ, List, [], ◌∷◌, Option, Some, None, Bool, true, false, ◌==◌, if◌then◌else◌, nat_lt, nat_le, length, replicate, slice_index_or, ◌^◌}
use Rattle.std.specs.Option.{option_map}
use Rattle.model.specs.declared.instr.ArrayKind.{ArrayKind}
use Rattle.model.specs.declared.instr.ArrayKind.TheVariants as array_kind
use Rattle.model.specs.Names.{Name}
use Rattle.model.specs.Pool.{class_name_at}
use Rattle.model.specs.Classes.{Program}
use Rattle.model.specs.ReferenceTypes.{Primitive, Boolean, Char, Byte, Short, Int, ReferenceType, PrimitiveArray, ReferenceArray}
use Rattle.model.specs.Types.{VerificationType, IntType, NullType, OfType, Want, AnInt, AReference, AnArray, AByteArray}
use Rattle.model.specs.DescribedTypes.{type_named, made_type, component_type}
use Rattle.model.specs.Operands.{Slots, Carrier}
use Rattle.model.specs.State.{ObjectOf, Instance, Primitives, References, Characters, types_of, WorldOf}
use Rattle.model.specs.Outcomes.{OutcomeOf, Raises, ArrayIndexOutOfBounds, NegativeArraySize, ArrayStore, Makes, not_null}
use Rattle.model.specs.Worlds.{allocated, object_at, with_object, elements_of, with_element, kept_value}
use Rattle.model.specs.Sites.{MeaningOf, Site, picks_none, wants_of, to_next, pushing, pushing_at, operand, referent, int_operand}
use Rattle.model.specs.Objects.{any_object}

-- ---- newarray, anewarray: .., count -> .., arrayref

-- an int by its bits is less than 0
abbrev pub is_negative : ℕ → Bool
is_negative bits = nat_le (2 ^ 31) bits

abbrev pub made_array : {A : Type 0} → Carrier A → Bool → ℕ → ℕ → (List A → ObjectOf A) → A → WorldOf A → Slots A → List A → OutcomeOf A
made_array C true next count array first world slots rest = Raises NegativeArraySize
made_array C false next count array first world slots rest =
    pushing_at (Makes count) next (C.reference (length world.heap) ∷ []) (allocated world (array (replicate count first))) slots rest

-- An array of so many elements is made, each 0 or null; a count below 0 is a NegativeArraySizeException.
abbrev pub array_meaning : {A : Type 0} → Carrier A → Program → Site → ReferenceType → (List A → ObjectOf A) → A → MeaningOf A
array_meaning C files site type array first =
    record {
      looks = None;
      wants = wants_of (AnInt ∷ []) 1;
      leads = to_next site.next (OfType (made_type files type) ∷ []);
      may = picks_none;
      does = λ event world slots ops rest.
          made_array C (is_negative (int_operand C ops 0)) site.next (int_operand C ops 0) array first world slots rest;
    }

-- the codes of newarray (JVMS table 6.5.newarray-A), those of long, float and double left out
abbrev pub primitive_coded : ℕ → Option Primitive
primitive_coded code =
    if code == 4 then Some Boolean
    else if code == 5 then Some Char
    else if code == 8 then Some Byte
    else if code == 9 then Some Short
    else if code == 10 then Some Int
    else None

abbrev pub primitive_array_meaning : {A : Type 0} → Carrier A → Program → Site → Primitive → MeaningOf A
primitive_array_meaning C files site of = array_meaning C files site (PrimitiveArray of) (λ elements. Primitives of elements) (C.int 0)

abbrev pub reference_array_meaning : {A : Type 0} → Carrier A → Program → Site → ReferenceType → MeaningOf A
reference_array_meaning C files site of = array_meaning C files site (ReferenceArray of) (λ elements. References of elements) C.over.null

-- ---- arraylength: .., arrayref -> .., length

-- The number of its elements.
abbrev pub array_length_meaning : {A : Type 0} → Carrier A → Site → MeaningOf A
array_length_meaning C site =
    record {
      looks = None;
      wants = wants_of (AnArray ∷ []) 1;
      leads = to_next site.next (IntType ∷ []);
      may = picks_none;
      does = λ event world slots ops rest.
          not_null (referent C ops 0) (λ r. pushing site.next (C.int (length (elements_of (object_at world r))) ∷ []) world slots rest);
    }

-- ---- loads: .., arrayref, index -> .., value

abbrev pub in_range : {A : Type 0} → WorldOf A → ℕ → ℕ → Bool
in_range world r index = nat_lt index (length (elements_of (object_at world r)))

-- an index below 0 is none of an array, by its bits as well: no array has so many elements
abbrev pub at_index : {A : Type 0} → Bool → OutcomeOf A → OutcomeOf A
at_index true done = done
at_index false done = Raises ArrayIndexOutOfBounds

abbrev pub element_at : {A : Type 0} → A → WorldOf A → ℕ → ℕ → A
element_at first world r index = slice_index_or (elements_of (object_at world r)) index first

-- The element; null is a NullPointerException, and an index outside an ArrayIndexOutOfBoundsException.
abbrev pub load_meaning : {A : Type 0} → Carrier A → Site → Want → A → (List VerificationType → VerificationType) → MeaningOf A
load_meaning C site array first type =
    record {
      looks = None;
      wants = wants_of (AnInt ∷ array ∷ []) 1;
      leads = λ ts ops rest. to_next site.next (type ops ∷ []) ts ops rest;
      may = picks_none;
      does = λ event world slots ops rest.
          not_null (referent C ops 1) (λ r. at_index (in_range world r (int_operand C ops 0))
          (pushing site.next (element_at first world r (int_operand C ops 0) ∷ []) world slots rest));
    }

abbrev pub an_int : List VerificationType → VerificationType
an_int ops = IntType

-- the component type of the array
abbrev pub its_component : Program → List VerificationType → VerificationType
its_component files ops = component_type files (slice_index_or ops 1 NullType)

-- ---- stores: .., arrayref, index, value -> ..

abbrev pub stored : {A : Type 0} → ℕ → WorldOf A → ℕ → ℕ → A → Slots A → List A → OutcomeOf A
stored next world r index value slots rest = pushing next [] (with_object world r (with_element index value (object_at world r))) slots rest

-- what an array of ints keeps of a value
abbrev pub kept_by : {A : Type 0} → Carrier A → ObjectOf A → A → A
kept_by C (Instance class fields) value = value
kept_by C (Primitives of elements) value = kept_value C of value
kept_by C (References of elements) value = value
kept_by C (Characters text) value = value

-- The element is written, narrowed to what the array holds; faults as for loads.
abbrev pub store_int_meaning : {A : Type 0} → Carrier A → Site → Want → MeaningOf A
store_int_meaning C site array =
    record {
      looks = None;
      wants = wants_of (AnInt ∷ AnInt ∷ array ∷ []) 0;
      leads = to_next site.next [];
      may = picks_none;
      does = λ event world slots ops rest.
          not_null (referent C ops 2) (λ r. at_index (in_range world r (int_operand C ops 1))
          (stored site.next world r (int_operand C ops 1) (kept_by C (object_at world r) (operand C ops 0)) slots rest));
    }

-- a value may stand in an array of references: null, or an instance of its component type
abbrev pub may_stand_in : {A : Type 0} → Carrier A → Program → WorldOf A → ObjectOf A → A → Bool
may_stand_in C files world (Instance class fields) value = false
may_stand_in C files world (Primitives of elements) value = false
may_stand_in C files world (References of elements) value = C.is_instance files (types_of world.heap) of value
may_stand_in C files world (Characters text) value = false

abbrev pub if_storable : {A : Type 0} → Bool → OutcomeOf A → OutcomeOf A
if_storable true done = done
if_storable false done = Raises ArrayStore

-- The element is written; another reference than null or one to an instance of the component type is an ArrayStoreException.
abbrev pub store_reference_meaning : {A : Type 0} → Carrier A → Program → Site → MeaningOf A
store_reference_meaning C files site =
    record {
      looks = None;
      wants = wants_of (AReference any_object ∷ AnInt ∷ AReference (ReferenceArray any_object) ∷ []) 0;
      leads = to_next site.next [];
      may = picks_none;
      does = λ event world slots ops rest.
          not_null (referent C ops 2) (λ r. at_index (in_range world r (int_operand C ops 1))
          (if_storable (may_stand_in C files world (object_at world r) (operand C ops 0))
          (stored site.next world r (int_operand C ops 1) (operand C ops 0) slots rest)));
    }

-- ---- by the kind of the array

-- iaload, aaload, baload, caload, saload
abbrev pub load_of : {A : Type 0} → Carrier A → Program → Site → ArrayKind → MeaningOf A
load_of C files site array_kind.Int = load_meaning C site (AReference (PrimitiveArray Int)) (C.int 0) an_int
load_of C files site array_kind.Reference = load_meaning C site (AReference (ReferenceArray any_object)) C.over.null (its_component files)
load_of C files site array_kind.ByteOrBoolean = load_meaning C site AByteArray (C.int 0) an_int
load_of C files site array_kind.Char = load_meaning C site (AReference (PrimitiveArray Char)) (C.int 0) an_int
load_of C files site array_kind.Short = load_meaning C site (AReference (PrimitiveArray Short)) (C.int 0) an_int

-- iastore, aastore, bastore, castore, sastore
abbrev pub store_of : {A : Type 0} → Carrier A → Program → Site → ArrayKind → MeaningOf A
store_of C files site array_kind.Int = store_int_meaning C site (AReference (PrimitiveArray Int))
store_of C files site array_kind.Reference = store_reference_meaning C files site
store_of C files site array_kind.ByteOrBoolean = store_int_meaning C site AByteArray
store_of C files site array_kind.Char = store_int_meaning C site (AReference (PrimitiveArray Char))
store_of C files site array_kind.Short = store_int_meaning C site (AReference (PrimitiveArray Short))

abbrev pub new_array_of : {A : Type 0} → Carrier A → Program → Site → ℕ → Option (MeaningOf A)
new_array_of C files site code = option_map (primitive_array_meaning C files site) (primitive_coded code)

-- of a component type that a class constant names
abbrev pub new_reference_array_at : {A : Type 0} → Carrier A → Program → Site → ℕ → Option (MeaningOf A)
new_reference_array_at C files site index =
    option_map (λ (name : Name). reference_array_meaning C files site (type_named name)) (class_name_at site.body.pool index)
