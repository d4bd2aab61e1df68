-- The types of objects, by number.
use Rattle.std.proofs.Common.{◌≡◌, ◌∙◌, ◌<◌, ◌^◌, ℕ, zero, suc, Bool, false, List, [], ◌∷◌, Option, Some, None, refl, sym, ap, subst}
use Rattle.std.specs.Prelude.{option_map, slice_get}
use Rattle.model.specs.Names.{Name, java_lang_string}
use Rattle.model.specs.Classes.{Program}
use Rattle.model.specs.ReferenceTypes.{ReferenceType, PrimitiveArray, ReferenceArray}
use Rattle.model.specs.State.{ObjectOf, Instance, Primitives, References, Characters, type_of, types_of}
use Rattle.model.specs.Types.{is_object_of}
use Rattle.heap.specs.Heap.{Object, kind_of}
use Rattle.heap.specs.declared.kind.NarrowKind.TheVariants as narrow
use Rattle.heap.specs.declared.kind.ObjectKind.{ObjectKind}
use Rattle.heap.specs.declared.kind.ObjectKind.TheVariants as kind
use Rattle.model.specs.declared.primitive.Primitive.TheVariants as linked
use Rattle.linked_code.specs.declared.types.Element.{Element}
use Rattle.linked_code.specs.declared.types.Element.TheVariants as element
use Rattle.linked_code.specs.declared.types.LinkedType.{LinkedType}
use Rattle.linked_code.specs.declared.program.LinkedProgram.{LinkedProgram}
use Rattle.linked_code.specs.Numbers.{IsClassAt, IsTypeWith, IsType}
use Rattle.linked_code.specs.Subtypes.{AreTypesTested, is_linked_subtype}
use Rattle.machine_state.specs.shown_objects.Shown.{IsKindOf, ShowsObject, ShowsObjects}
use Rattle.machine_state.specs.type_tests.Tests.{array_of, IsTypeOfKind, TestsKind, TestsObject}
use Rattle.machine_state.proofs.type_tests.Numbered.{small, object_first}

-- an array around a type
around : (files : Program) (dimensions : ℕ) (held : Element) (type : ReferenceType) → IsTypeWith files dimensions held type
    → IsTypeWith files (suc dimensions) held (ReferenceArray type)
around files dimensions (element.Class number) type is = record { class = is.class; numbered = is.numbered; is = ap (λ t. ReferenceArray t) is.is }
around files dimensions (element.Primitive of) type is = record { around = suc is.around; count = ap suc is.count; is = ap (λ t. ReferenceArray t) is.is }

-- the type of a kind, by number, and that it is the one of an object of the kind
pub record HasType (files : Program) (components : List LinkedType) (of : ObjectKind) (object : ObjectOf ℕ) : Type 0 where
  pub own : LinkedType
  pub is_of_kind : IsTypeOfKind components of own
  pub is_type : IsType files own (type_of object)

type_of_kind : (files : Program) (components : List LinkedType)
    → ((number : ℕ) (class : Name) → IsClassAt files number class → number < 2 ^ 16)
    → (of : ObjectKind) (object : ObjectOf ℕ) → IsKindOf files components of object → HasType files components of object
type_of_kind files components small (kind.Instance number) (Instance class fields) is =
    record { own = record { dimensions = 0; element = element.Class number }; is_of_kind = (small number class is.0, refl); is_type = record { class = class; numbered = is.0; is = refl } }
type_of_kind files components small (kind.Instance number) (Characters text) is =
    record {
      own = record { dimensions = 0; element = element.Class number };
      is_of_kind = (small number java_lang_string is.0, refl);
      is_type = record { class = java_lang_string; numbered = is.0; is = refl };
    }
type_of_kind files components small kind.Ints (Primitives of elements) is =
    record { own = record { dimensions = 1; element = element.Primitive linked.Int }; is_of_kind = refl; is_type = record { around = 0; count = refl; is = ap (λ p. PrimitiveArray p) is } }
type_of_kind files components small (kind.Narrow narrow.Boolean) (Primitives of elements) is =
    record { own = record { dimensions = 1; element = element.Primitive linked.Boolean }; is_of_kind = refl; is_type = record { around = 0; count = refl; is = ap (λ p. PrimitiveArray p) is } }
type_of_kind files components small (kind.Narrow narrow.Char) (Primitives of elements) is =
    record { own = record { dimensions = 1; element = element.Primitive linked.Char }; is_of_kind = refl; is_type = record { around = 0; count = refl; is = ap (λ p. PrimitiveArray p) is } }
type_of_kind files components small (kind.Narrow narrow.Byte) (Primitives of elements) is =
    record { own = record { dimensions = 1; element = element.Primitive linked.Byte }; is_of_kind = refl; is_type = record { around = 0; count = refl; is = ap (λ p. PrimitiveArray p) is } }
type_of_kind files components small (kind.Narrow narrow.Short) (Primitives of elements) is =
    record { own = record { dimensions = 1; element = element.Primitive linked.Short }; is_of_kind = refl; is_type = record { around = 0; count = refl; is = ap (λ p. PrimitiveArray p) is } }
type_of_kind files components small (kind.References number) (References of elements) is =
    record { own = array_of is.0; is_of_kind = (is.0, is.1, refl); is_type = around files is.0.dimensions is.0.element of is.2 }
type_of_kind files components small (kind.Instance number) (Primitives of elements) is = absurd is
type_of_kind files components small (kind.Instance number) (References of elements) is = absurd is
type_of_kind files components small kind.Ints (Instance class fields) is = absurd is
type_of_kind files components small kind.Ints (References of elements) is = absurd is
type_of_kind files components small kind.Ints (Characters text) is = absurd is
type_of_kind files components small (kind.Narrow narrow) (Instance class fields) is = absurd is
type_of_kind files components small (kind.Narrow narrow) (References of elements) is = absurd is
type_of_kind files components small (kind.Narrow narrow) (Characters text) is = absurd is
type_of_kind files components small (kind.References number) (Instance class fields) is = absurd is
type_of_kind files components small (kind.References number) (Primitives of elements) is = absurd is
type_of_kind files components small (kind.References number) (Characters text) is = absurd is

-- the test by numbers is that of types
pub tested : AreTypesTested → (p : LinkedProgram) (of : ObjectKind) (type : LinkedType) (answer : Bool)
    → ((own : LinkedType) → IsTypeOfKind p.components.items of own → answer ≡ is_linked_subtype p.subclasses own type)
    → TestsKind p of type answer
tested law p of type answer is files trees linkable program column object above of_kind of_type =
    let own = type_of_kind trees p.components.items (small files trees linkable) of object of_kind in
    is own.own own.is_of_kind
    ∙ law trees p.subclasses (object_first files trees linkable) program.subclasses own.own type (type_of object) above own.is_type of_type column

-- ---- an object of a heap

-- what shows an object is there where the object is
abbrev ShowsIf : Program → List LinkedType → Option Object → Option (ObjectOf ℕ) → Type 0
ShowsIf files components None None = Unit {0}
ShowsIf files components (Some o) (Some m) = ShowsObject files components o m
ShowsIf files components None (Some m) = ⊥
ShowsIf files components (Some o) None = ⊥

shown_at : (files : Program) (components : List LinkedType) (os : List Object) (ms : List (ObjectOf ℕ))
    → ShowsObjects files components os ms
    → (r : ℕ) → ShowsIf files components (slice_get os r) (slice_get ms r)
shown_at files components [] [] h r = tt
shown_at files components [] (m ∷ ms) h r = absurd h
shown_at files components (o ∷ os) [] h r = absurd h
shown_at files components (o ∷ os) (m ∷ ms) h zero = h.0
shown_at files components (o ∷ os) (m ∷ ms) h (suc r) = shown_at files components os ms h.1 r

type_at : (ms : List (ObjectOf ℕ)) (r : ℕ) → slice_get (types_of ms) r ≡ option_map type_of (slice_get ms r)
type_at [] r = refl
type_at (m ∷ ms) zero = refl
type_at (m ∷ ms) (suc r) = type_at ms r

-- by the kind of an object, if it is there
abbrev pub TestsIf : LinkedProgram → LinkedType → Option ObjectKind → Bool → Type 0
TestsIf p type None answer = answer ≡ false
TestsIf p type (Some of) answer = TestsKind p of type answer

pub object_tested : (p : LinkedProgram) (objects : List Object) (r : ℕ) (type : LinkedType) (answer : Bool) (of : Option ObjectKind)
    → of ≡ option_map kind_of (slice_get objects r) → TestsIf p type of answer → TestsObject p objects r type answer
object_tested p objects r type answer of is tests files trees linkable program column heap above shows of_type =
    by (slice_get objects r) (slice_get heap r) (shown_at trees p.components.items objects heap shows r) (subst (λ o. TestsIf p type o answer) is tests)
    ∙ ap (is_object_of trees above) (sym (type_at heap r))
  where
    by : (o : Option Object) (m : Option (ObjectOf ℕ)) → ShowsIf trees p.components.items o m
        → TestsIf p type (option_map kind_of o) answer → answer ≡ is_object_of trees above (option_map type_of m)
    by None None h t = t
    by (Some o) (Some m) h t = t files trees linkable program column m above h.kind of_type
    by None (Some m) h t = absurd h
    by (Some o) None h t = absurd h
