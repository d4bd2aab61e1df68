-- What is of a type of references is null, or a reference to an object that is there.
use Rattle.std.proofs.Common.{◌≡◌, ℕ, zero, suc, ◌≤◌, ◌<◌, List, [], ◌∷◌, length, true, subst, arith, refl}
use Rattle.std.specs.Prelude.{slice_get}
use Rattle.std.proofs.lemmas.Bool.{false≢true, lt-ltb, ltb-true}
use Rattle.std.proofs.lemmas.List.{length-map}
use Rattle.model.specs.declared.value.Value.{Value}
use Rattle.model.specs.declared.value.Value.TheVariants as value
use Rattle.model.specs.Classes.{Program}
use Rattle.model.specs.ReferenceTypes.{ReferenceType, ClassType}
use Rattle.model.specs.Types.{Unusable, IntType, NullType, OfType, Uninitialised, UninitialisedThis, is_object_below, is_value_below}
use Rattle.model.specs.Operands.{word_of}
use Rattle.model.specs.State.{ObjectOf, type_of, types_of}
use Rattle.model.specs.WellTyped.{is_null_value}
use Rattle.run_laws.specs.object_counts.Bounds.{is_reference_in, AreReferencesThere, AreReferencesInRange}
use Rattle.run_laws.proofs.object_counts.Bounded.{objects_fit}

there_is : (files : Program) (type : ReferenceType) (objects : List ReferenceType) (r : ℕ)
    → is_object_below files type (slice_get objects r) ≡ true → r < length objects
there_is files type [] r h = absurd (false≢true h)
there_is files type (x ∷ objects) zero h = omega arith
there_is files type (x ∷ objects) (suc r) h = omega (arith, there_is files type objects r h)

below_in : (files : Program) (heap : List (ObjectOf Value)) (type : ReferenceType) (v : Value)
    → is_value_below files (types_of heap) type v ≡ true → is_reference_in (length heap) v ≡ true
below_in files heap type value.Unset h = h
below_in files heap type (value.Int bits) h = h
below_in files heap type value.Null h = refl
below_in files heap type (value.Reference r) h = lt-ltb r (length heap) (subst (λ n. r < n) (length-map heap type_of) (there_is files type (types_of heap) r h))

null_in : (n : ℕ) (v : Value) → is_null_value v ≡ true → is_reference_in n v ≡ true
null_in n value.Unset h = h
null_in n (value.Int bits) h = h
null_in n value.Null h = refl
null_in n (value.Reference r) h = absurd (false≢true h)

pub are_objects : AreReferencesThere
are_objects files heap Unusable v w h = absurd (false≢true w)
are_objects files heap IntType v w h = absurd (false≢true w)
are_objects files heap NullType v w h = null_in (length heap) v h
are_objects files heap (OfType t) v w h = below_in files heap t v h
are_objects files heap (Uninitialised at c) v w h = below_in files heap (ClassType c) v h
are_objects files heap (UninitialisedThis c) v w h = below_in files heap (ClassType c) v h

word_count : (n : ℕ) (v : Value) → is_reference_in n v ≡ true → word_of v ≤ n
word_count n value.Unset h = absurd (false≢true h)
word_count n (value.Int bits) h = absurd (false≢true h)
word_count n value.Null h = omega arith
word_count n (value.Reference r) h = omega (arith, ltb-true r n h)

pub references_fit : AreReferencesInRange
references_fit trees state r type v w h =
    let objects = state.world.heap in
    omega (arith, word_count (length objects) v (are_objects trees objects type v w h), objects_fit trees state r)
