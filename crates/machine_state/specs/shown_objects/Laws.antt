-- What fields and elements are by their slots and words (JVMS 6.5 getfield, putfield, getstatic, putstatic, and arrays).
use Rattle.std.specs.Prelude.{◌≡◌, ◌<◌, ℕ, List, [], ◌∷◌, ◌++◌, Some, Bool, true, false, drop, length, sum_by, slice_get, slice_index, slice_set}
use Rattle.model.specs.Names.{Name, Member}
use Rattle.model.specs.Classes.{Program}
use Rattle.model.specs.Lookup.{instance_fields}
use Rattle.model.specs.Opening.{static_fields}
use Rattle.model.specs.State.{ObjectOf, Instance, Primitives, References, Characters}
use Rattle.model.specs.Worlds.{cells_of, value_in, with_value, with_field, elements_of, with_element, kept}
use Rattle.heap.specs.Heap.{Object, words_at, word_at, put_field, put_element}
use Rattle.linked_code.specs.declared.types.LinkedType.{LinkedType}
use Rattle.linked_code.specs.Numbers.{slot_in}
use Rattle.machine_state.specs.shown_objects.Shown.{ShowsObject, ShowsObjects, ShowsStatics}

-- ---- objects

-- they have the same references
abbrev pub AreCounted : Type 0
AreCounted = (files : Program) (components : List LinkedType) (shown : List Object) (objects : List (ObjectOf ℕ)) → ShowsObjects files components shown objects → length shown ≡ length objects

-- one more
abbrev pub AreAdded : Type 0
AreAdded =
    (files : Program) (components : List LinkedType) (shown : List Object) (objects : List (ObjectOf ℕ)) (one : Object) (object : ObjectOf ℕ)
    → ShowsObjects files components shown objects → ShowsObject files components one object
    → ShowsObjects files components (shown ++ one ∷ []) (objects ++ object ∷ [])

-- another object in a place has as many cells, and so have all behind any place
abbrev pub CountsSame : List (ObjectOf ℕ) → ℕ → ObjectOf ℕ → Type 0
CountsSame objects r object = (n : ℕ) → sum_by cells_of (drop n (slice_set objects r object)) ≡ sum_by cells_of (drop n objects)

-- ---- fields of objects

-- the field is the word in the slot, read and written
pub record IsField (files : Program) (components : List LinkedType) (shown : List Object) (objects : List (ObjectOf ℕ)) (r slot : ℕ)
    (field : Member) (class : Name) (fields : List (Member × ℕ)) : Type 0 where
  pub there : slot < length (words_at shown r)
  pub read : (first : ℕ) → value_in first field fields ≡ word_at shown r slot
  pub written : (word : ℕ) → ShowsObjects files
      components (put_field shown r slot word) (slice_set objects r (with_field field word (Instance class fields)))
  pub counted : (word : ℕ) → CountsSame objects r (with_field field word (Instance class fields))

abbrev pub AreFields : Type 0
AreFields =
    (files : Program) (components : List LinkedType) (shown : List Object) (objects : List (ObjectOf ℕ)) → ShowsObjects files components shown objects
    → (r : ℕ) (class : Name) (fields : List (Member × ℕ)) → slice_get objects r ≡ Some (Instance class fields)
    → (field : Member) (slot : ℕ) → slot_in (instance_fields files class) field ≡ Some slot
    → IsField files components shown objects r slot field class fields

-- ---- elements of arrays

abbrev pub is_array : ObjectOf ℕ → Bool
is_array (Instance class fields) = false
is_array (Primitives of elements) = true
is_array (References of elements) = true
is_array (Characters text) = false

-- what the array keeps of a word that is stored in it
abbrev pub kept_in : ObjectOf ℕ → ℕ → ℕ
kept_in (Instance class fields) word = word
kept_in (Primitives of elements) word = kept of word
kept_in (References of elements) word = word
kept_in (Characters text) word = word

-- the elements are the words, and what is stored is kept as it is to be
pub record HasElements (files : Program) (components : List LinkedType) (shown : List Object) (objects : List (ObjectOf ℕ)) (r : ℕ)
    (array : ObjectOf ℕ) : Type 0 where
  pub are : elements_of array ≡ words_at shown r
  pub written : (index word : ℕ) → ShowsObjects files
      components (put_element shown r index word) (slice_set objects r (with_element index (kept_in array word) array))
  pub counted : (index word : ℕ) → CountsSame objects r (with_element index (kept_in array word) array)

abbrev pub AreElements : Type 0
AreElements =
    (files : Program) (components : List LinkedType) (shown : List Object) (objects : List (ObjectOf ℕ)) → ShowsObjects files components shown objects
    → (r : ℕ) (array : ObjectOf ℕ) → slice_get objects r ≡ Some array → is_array array ≡ true
    → HasElements files components shown objects r array

-- ---- static fields

pub record IsStatic (files : Program) (slots : List ℕ) (statics : List (Member × ℕ)) (slot : ℕ) (field : Member) : Type 0 where
  pub there : slot < length slots
  pub read : (first : ℕ) → value_in first field statics ≡ slice_index slots slot
  pub written : (word : ℕ) → ShowsStatics files (slice_set slots slot word) (with_value field word statics)

abbrev pub AreStatics : Type 0
AreStatics =
    (files : Program) (slots : List ℕ) (statics : List (Member × ℕ)) → ShowsStatics files slots statics
    → (field : Member) (slot : ℕ) → slot_in (static_fields files) field ≡ Some slot → IsStatic files slots statics slot field
