-- How a thread is named (the API of Thread). Its Thread keeps the name; a Thread that was made without a name keeps which of those it
-- is, and gets its name when that is asked for (own). The receiver is not null here.
use Rattle.std.specs.Prelude.{◌≡◌, ℕ, ◌+◌, ◌%◌, ◌^◌, List, [], ◌∷◌, ◌++◌, Option, Some, None, length, map, codes, refl}
use Rattle.std.specs.Fmt.{digits, signed_decimal}
use Rattle.model.specs.declared.name_method.NameMethod.{NameMethod}
use Rattle.model.specs.declared.name_method.NameMethod.TheVariants.{Construct, ConstructWithTarget, ConstructWithName, ConstructWithTargetAndName, GetName, SetName}
use Rattle.model.specs.declared.value.Value.{Value}
use Rattle.model.specs.declared.value.Value.TheVariants as value
use Rattle.model.specs.Ints.{signed}
use Rattle.model.specs.Texts.{Text}
use Rattle.model.specs.Names.{java_lang_thread, thread_target, thread_name, thread_ordinal}
use Rattle.model.specs.Operands.{Slots, Carrier, values}
use Rattle.model.specs.State.{World, WorldOf, ObjectOf, Instance, Characters}
use Rattle.model.specs.Outcomes.{Cost, Free, Makes, NullPointer, OutcomeOf, Goes, Raises, not_null}
use Rattle.model.specs.Worlds.{allocated, object_at, with_object, value_in, fields_of, with_field}
use Rattle.model.specs.Sites.{pushing, pushing_at, operand, referent, object_of}

-- ---- what a Thread keeps

abbrev pub kept_name : {A : Type 0} → Carrier A → ObjectOf A → A
kept_name C thread = value_in C.over.null thread_name (fields_of thread)

abbrev pub kept_ordinal : {A : Type 0} → Carrier A → ObjectOf A → A
kept_ordinal C thread = value_in (C.int 0) thread_ordinal (fields_of thread)

abbrev pub with_name : {A : Type 0} → WorldOf A → ℕ → A → WorldOf A
with_name world thread name = with_object world thread (with_field thread_name name (object_at world thread))

abbrev pub with_name_and_target : {A : Type 0} → WorldOf A → ℕ → A → A → WorldOf A
with_name_and_target world thread name target =
    with_object world thread (with_field thread_name name (with_field thread_target target (object_at world thread)))

-- ---- Threads without a name

-- one more of them, counted as an int
abbrev pub with_one_unnamed : {A : Type 0} → WorldOf A → WorldOf A
with_one_unnamed world = record world { unnamed = (world.unnamed + 1) % 2 ^ 32 }

abbrev pub with_ordinal : {A : Type 0} → Carrier A → WorldOf A → ℕ → WorldOf A
with_ordinal C world thread =
    with_one_unnamed (with_object world thread (with_field thread_ordinal (C.int world.unnamed) (object_at world thread)))

abbrev pub with_ordinal_and_target : {A : Type 0} → Carrier A → WorldOf A → ℕ → A → WorldOf A
with_ordinal_and_target C world thread target =
    with_one_unnamed
    (with_object world thread (with_field thread_ordinal (C.int world.unnamed) (with_field thread_target target (object_at world thread))))

-- the name of one: `Thread-` and its number
abbrev pub ordinal_text : {A : Type 0} → Carrier A → ObjectOf A → Text
ordinal_text C thread = codes "Thread-" ++ signed_decimal (signed (C.word (kept_ordinal C thread)))

-- A String of it is made, whose units are cells, and becomes the name.
abbrev pub named : {A : Type 0} → Carrier A → WorldOf A → ℕ → Text → WorldOf A
named C world thread text = with_name (allocated world (Characters text)) thread (C.reference (length world.heap))

-- ---- what each method does

-- the name, which is made where there is none
abbrev pub gives_name : {A : Type 0} → Carrier A → Option ℕ → Text → ℕ → WorldOf A → Slots A → List A → List A → OutcomeOf A
gives_name C (Some name) text next world slots ops rest = pushing next (C.reference name ∷ []) world slots rest
gives_name C None text next world slots ops rest =
    pushing_at (Makes (length text)) next (C.reference (length world.heap) ∷ []) (named C world (object_of C ops 0) text) slots rest

abbrev pub thread_names : {A : Type 0} → Carrier A → NameMethod → ℕ → WorldOf A → Slots A → List A → List A → OutcomeOf A
-- .., objectref -> ..
thread_names C Construct next world slots ops rest = pushing next [] (with_ordinal C world (object_of C ops 0)) slots rest
-- .., objectref, target -> ..
thread_names C ConstructWithTarget next world slots ops rest =
    pushing next [] (with_ordinal_and_target C world (object_of C ops 1) (operand C ops 0)) slots rest
-- .., objectref, name -> ..
thread_names C ConstructWithName next world slots ops rest =
    not_null (referent C ops 0) (λ r. pushing next [] (with_name world (object_of C ops 1) (operand C ops 0)) slots rest)
-- .., objectref, target, name -> ..
thread_names C ConstructWithTargetAndName next world slots ops rest =
    not_null (referent C ops 0) (λ r. pushing next [] (with_name_and_target world (object_of C ops 2) (operand C ops 0) (operand C ops 1)) slots rest)
-- .., objectref -> .., result
thread_names C GetName next world slots ops rest =
    gives_name C (C.referent (kept_name C (object_at world (object_of C ops 0)))) (ordinal_text C (object_at world (object_of C ops 0))) next world slots ops rest
-- .., objectref, name -> ..
thread_names C SetName next world slots ops rest =
    not_null (referent C ops 0) (λ r. pushing next [] (with_name world (object_of C ops 1) (operand C ops 0)) slots rest)

-- ---- examples

-- a Thread with what it keeps
abbrev pub thread_with : Value → Value → ℕ → ObjectOf Value
thread_with target name number =
    Instance java_lang_thread ((thread_target, target) ∷ (thread_name, name) ∷ (thread_ordinal, value.Int number) ∷ [])

-- a Thread after `new`, the text `a`, a Thread of that name, and one without a name; twelve were made without a name
abbrev pub four_objects : World
four_objects =
    record {
      heap = thread_with value.Null value.Null 0 ∷ Characters (codes "a") ∷ thread_with value.Null (value.Reference 1) 0 ∷ thread_with value.Null value.Null 11 ∷ [];
      statics = [];
      classes = [];
      monitors = [];
      threads = [];
      printed = [];
      interned = [];
      unnamed = 12;
    }

-- what a method does there, by its operands, the last one first
abbrev pub does : NameMethod → List Value → OutcomeOf Value
does method ops = thread_names values method 3 four_objects (record { locals = []; stack = [] }) ops []

-- what it costs, what it gives, the Threads then, and how many were made without a name
abbrev pub told : OutcomeOf Value → Option (Cost × List Value × List (ObjectOf Value) × ℕ)
told (Goes cost world slots to) = Some (cost, slots.stack, object_at world 0 ∷ object_at world 3 ∷ [], world.unnamed)
told other = None

constructs : told (does ConstructWithTarget (value.Reference 2 ∷ value.Reference 0 ∷ []))
    ≡ Some (Free, [], thread_with (value.Reference 2) value.Null 12 ∷ thread_with value.Null value.Null 11 ∷ [], 13)
constructs = refl

constructs_with_a_name : told (does ConstructWithTargetAndName (value.Reference 1 ∷ value.Reference 2 ∷ value.Reference 0 ∷ []))
    ≡ Some (Free, [], thread_with (value.Reference 2) (value.Reference 1) 0 ∷ thread_with value.Null value.Null 11 ∷ [], 12)
constructs_with_a_name = refl

wants_a_name : map (λ method. does method (value.Null ∷ value.Reference 0 ∷ [])) (ConstructWithName ∷ SetName ∷ []) ≡ Raises NullPointer ∷ Raises NullPointer ∷ []
wants_a_name = refl

gives_a_name : told (does GetName (value.Reference 2 ∷ []))
    ≡ Some (Free, value.Reference 1 ∷ [], thread_with value.Null value.Null 0 ∷ thread_with value.Null value.Null 11 ∷ [], 12)
gives_a_name = refl

-- `Thread-11` has nine units
makes_a_name : told (does GetName (value.Reference 3 ∷ []))
    ≡ Some (Makes 9, value.Reference 4 ∷ [], thread_with value.Null value.Null 0 ∷ thread_with value.Null (value.Reference 4) 11 ∷ [], 12)
unfolding digits
makes_a_name = refl
