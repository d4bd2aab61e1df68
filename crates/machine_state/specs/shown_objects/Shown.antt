-- When a heap of words and a list of words show the objects and the static fields of a state over words.
use Rattle.std.specs.Prelude.{◌≡◌, ◌<◌, ◌^◌, ℕ, List, [], ◌∷◌, false, map}
use Rattle.std.specs.List.{All}
use Rattle.model.specs.Names.{Member, name_eq, java_lang_string}
use Rattle.model.specs.Classes.{Program}
use Rattle.model.specs.Lookup.{instance_fields}
use Rattle.model.specs.Opening.{static_fields}
use Rattle.model.specs.ReferenceTypes.{Primitive, Boolean, Char, Byte, Short, Int}
use Rattle.model.specs.Texts.{Text}
use Rattle.model.specs.State.{ObjectOf, Instance, Primitives, References, Characters}
use Rattle.heap.specs.declared.kind.NarrowKind.{NarrowKind}
use Rattle.heap.specs.declared.kind.NarrowKind.TheVariants as narrow
use Rattle.heap.specs.declared.kind.ObjectKind.{ObjectKind}
use Rattle.heap.specs.declared.kind.ObjectKind.TheVariants as kind
use Rattle.heap.specs.Heap.{Object}
use Rattle.linked_code.specs.declared.types.LinkedType.{LinkedType}
use Rattle.linked_code.specs.Numbers.{IsClassAt, IsTypeAt}

-- fields, each with its word
abbrev pub names_of : List (Member × ℕ) → List Member
names_of fields = map (λ (f : Member × ℕ). f.0) fields

abbrev pub words_in : List (Member × ℕ) → List ℕ
words_in fields = map (λ (f : Member × ℕ). f.1) fields

-- ---- objects

-- the words of an object: its fields in their order, or its elements, or the units of its text
abbrev pub cells_of : ObjectOf ℕ → List ℕ
cells_of (Instance class fields) = words_in fields
cells_of (Primitives of elements) = elements
cells_of (References of elements) = elements
cells_of (Characters text) = text

abbrev pub primitive_in : NarrowKind → Primitive
primitive_in narrow.Boolean = Boolean
primitive_in narrow.Char = Char
primitive_in narrow.Byte = Byte
primitive_in narrow.Short = Short

-- each unit is one of 16 bits
abbrev pub AreUnits : Text → Type 0
AreUnits text = All (λ unit. unit < 2 ^ 16) text

-- What an object is. An instance has the fields of its class in the order of their slots, but for that of a String, whose words
-- are its text; what an array of references holds has the number of its type in a table.
abbrev pub IsKindOf : Program → List LinkedType → ObjectKind → ObjectOf ℕ → Type 0
IsKindOf files components (kind.Instance number) (Instance class fields) =
    IsClassAt files number class × (names_of fields ≡ instance_fields files class) × (name_eq class java_lang_string ≡ false)
IsKindOf files components (kind.Instance number) (Characters text) = IsClassAt files number java_lang_string × AreUnits text
IsKindOf files components kind.Ints (Primitives of elements) = of ≡ Int
IsKindOf files components (kind.Narrow narrow) (Primitives of elements) = of ≡ primitive_in narrow
IsKindOf files components (kind.References number) (References of elements) = IsTypeAt files components number of
IsKindOf files components _ _ = ⊥

pub record ShowsObject (files : Program) (components : List LinkedType) (shown : Object) (object : ObjectOf ℕ) : Type 0 where
  pub kind : IsKindOf files components shown.kind object
  pub words : shown.words ≡ cells_of object

-- each in its place
abbrev pub ShowsObjects : Program → List LinkedType → List Object → List (ObjectOf ℕ) → Type 0
ShowsObjects files components [] [] = Unit {0}
ShowsObjects files components [] (m ∷ ms) = ⊥
ShowsObjects files components (o ∷ os) [] = ⊥
ShowsObjects files components (o ∷ os) (m ∷ ms) = ShowsObject files components o m × ShowsObjects files components os ms

-- ---- static fields

-- each in its slot
pub record ShowsStatics (files : Program) (slots : List ℕ) (statics : List (Member × ℕ)) : Type 0 where
  pub words : slots ≡ words_in statics
  pub names : names_of statics ≡ static_fields files
