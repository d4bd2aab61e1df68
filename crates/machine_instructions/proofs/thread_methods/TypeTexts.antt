-- The text of the name of a class, or of the descriptor of an array type, is what the words of a program tell.
use Rattle.std.proofs.Common.{◌≡◌, ◌+◌, ℕ, zero, suc, List, [], ◌∷◌, ◌++◌, Bool, true, false, ◌&&◌, Option, Some, None, if◌then◌else◌, map, refl, sym, ap, ◌∙◌, arith}
use Rattle.std.specs.Prelude.{◌-◌, codes, option_map, replicate, slice_get, slice_index_or}
use Rattle.std.specs.Option.{option_map_or}
use Rattle.std.proofs.lemmas.List.{map-append}
use Rattle.std.proofs.lemmas.Option.{get_or_from_slice_get, slice_get-map}
use Rattle.model.specs.declared.primitive.Primitive.{Primitive}
use Rattle.model.specs.declared.primitive.Primitive.TheVariants as primitive
use Rattle.model.specs.Classes.{Program, classes_of, name_of}
use Rattle.model.specs.BuiltInNumbers.{first_class_reference}
use Rattle.model.specs.DescribedTypes.{arrays}
use Rattle.model.specs.Names.{Name, java_lang_string}
use Rattle.model.specs.ObjectMethods.{class_described, dotted, dotted_unit, primitive_letter, type_descriptor, type_name}
use Rattle.model.specs.Primitives.{primitive_of}
use Rattle.model.specs.ReferenceTypes.{ReferenceType, ClassType, PrimitiveArray, ReferenceArray}
use Rattle.model.specs.State.{ObjectOf, Instance, Primitives, References, Characters, type_of}
use Rattle.model.specs.Worlds.{no_object}
use Rattle.model.specs.Texts.{Text, are_two, are_three, decoded, unit_of_one, unit_of_two, unit_of_three}
use Rattle.model.specs.Tree.{FileTree}
use Rattle.heap.specs.declared.kind.NarrowKind.{NarrowKind}
use Rattle.heap.specs.declared.kind.NarrowKind.TheVariants as narrow
use Rattle.heap.specs.declared.kind.ObjectKind.{ObjectKind}
use Rattle.heap.specs.declared.kind.ObjectKind.TheVariants as kind
use Rattle.heap.specs.Heap.{Object}
use Rattle.linked_code.specs.declared.class.LinkedClass.{LinkedClass}
use Rattle.linked_code.specs.declared.program.LinkedProgram.{LinkedProgram}
use Rattle.linked_code.specs.declared.types.Element.{Element}
use Rattle.linked_code.specs.declared.types.Element.TheVariants as element
use Rattle.linked_code.specs.declared.types.LinkedType.{LinkedType}
use Rattle.linked_code.specs.Numbers.{IsClassAt, IsType, IsTypeWith}
use Rattle.linked_code.specs.Programs.{AreClasses}
use Rattle.machine_state.specs.Shown.{IsProgram}
use Rattle.machine_state.specs.shown_objects.Shown.{IsKindOf, ShowsObject, ShowsObjects, primitive_in}
use Rattle.machine_state.specs.type_tests.Tests.{linked_primitive}
use Rattle.machine_state.specs.method_selection.Rows.{AreClassesRead}
use Rattle.machine_instructions.specs.thread_methods.TypeNames.{array_text, element_text, kind_text, name_in, object_text}

-- ---- what is decoded

-- a condition over two lists, with more behind them
if_more : (b : Bool) (x y z : List ℕ) → (if b then x else y) ++ z ≡ (if b then x ++ z else y ++ z)
if_more true x y z = refl
if_more false x y z = refl

never : (b : Bool) → (b && false) ≡ false
never true = refl
never false = refl

never_last : (a b : Bool) → (a && (b && false)) ≡ false
never_last true true = refl
never_last true false = refl
never_last false b = refl

-- `L` and `[` are units by themselves
pub opened_class : (bytes : List ℕ) → decoded (76 ∷ bytes) ≡ 76 ∷ decoded bytes
unfolding decoded
opened_class [] = refl
opened_class (c ∷ []) = refl
opened_class (c ∷ d ∷ bytes) = refl

pub opened_array : (bytes : List ℕ) → decoded (91 ∷ bytes) ≡ 91 ∷ decoded bytes
unfolding decoded
opened_array [] = refl
opened_array (c ∷ []) = refl
opened_array (c ∷ d ∷ bytes) = refl

-- and so is `;` behind others
pub closed : (bytes : List ℕ) → decoded (bytes ++ 59 ∷ []) ≡ decoded bytes ++ 59 ∷ []
unfolding decoded
closed [] = refl
closed (b ∷ []) = ap (λ t. if t then unit_of_two b 59 ∷ [] else unit_of_one b ∷ 59 ∷ []) (never _)
closed (b ∷ c ∷ []) =
    ap (λ t. if are_two b c then unit_of_two b c ∷ 59 ∷ [] else if t then unit_of_three b c 59 ∷ [] else unit_of_one b ∷ decoded (c ∷ 59 ∷ [])) (never_last _ _)
    ∙ ap (λ text. if are_two b c then unit_of_two b c ∷ 59 ∷ [] else unit_of_one b ∷ text) (closed (c ∷ []))
    ∙ sym (if_more (are_two b c) (unit_of_two b c ∷ []) (unit_of_one b ∷ decoded (c ∷ [])) (59 ∷ []))
closed (b ∷ c ∷ d ∷ bytes) =
    (λ i. if are_two b c then unit_of_two b c ∷ closed (d ∷ bytes) i
    else if are_three b c d then unit_of_three b c d ∷ closed bytes i
    else unit_of_one b ∷ closed (c ∷ d ∷ bytes) i)
    ∙ sym (if_more (are_two b c) (unit_of_two b c ∷ decoded (d ∷ bytes)) (if are_three b c d then unit_of_three b c d ∷ decoded bytes else unit_of_one b ∷ decoded (c ∷ d ∷ bytes)) (59 ∷ [])
    ∙ ap (λ rest. if are_two b c then unit_of_two b c ∷ decoded (d ∷ bytes) ++ 59 ∷ [] else rest)
    (if_more (are_three b c d) (unit_of_three b c d ∷ decoded bytes) (unit_of_one b ∷ decoded (c ∷ d ∷ bytes)) (59 ∷ [])))

nothing : dotted [] ≡ []
unfolding decoded
nothing = refl

none_there : {A : Type 0} (xs : List A) (n : ℕ) (d : A) → slice_get xs n ≡ None → slice_index_or xs n d ≡ d
none_there [] n d e = refl
none_there (x ∷ xs) zero d e = absurd cc
none_there (x ∷ xs) (suc n) d e = none_there xs n d e

no_row : (files : Program) (cs : List FileTree) (ls : List LinkedClass) → AreClasses files cs ls → (n : ℕ) → slice_get cs n ≡ None → slice_get ls n ≡ None
no_row files [] [] h n e = refl
no_row files [] (l ∷ ls) h n e = absurd h
no_row files (c ∷ cs) [] h n e = absurd h
no_row files (c ∷ cs) (l ∷ ls) h zero e = absurd cc
no_row files (c ∷ cs) (l ∷ ls) h (suc n) e = no_row files cs ls h.1 n e

-- ---- with dots

pub class_dotted : (name : Name) → dotted (codes "L" ++ name ++ codes ";") ≡ codes "L" ++ dotted name ++ codes ";"
class_dotted name =
    ap (map dotted_unit) (opened_class (name ++ 59 ∷ []))
    ∙ ap (λ text. 76 ∷ map dotted_unit text) (closed name)
    ∙ ap (λ text. 76 ∷ text) (map-append dotted_unit (decoded name) (59 ∷ []))

pub array_dotted : (descriptor : Name) → dotted (codes "[" ++ descriptor) ≡ codes "[" ++ dotted descriptor
array_dotted descriptor = ap (map dotted_unit) (opened_array descriptor)

pub letter_dotted : (of : Primitive) → dotted (primitive_letter (primitive_of of)) ≡ primitive_letter (primitive_of of)
unfolding decoded
letter_dotted primitive.Boolean = refl
letter_dotted primitive.Char = refl
letter_dotted primitive.Byte = refl
letter_dotted primitive.Short = refl
letter_dotted primitive.Int = refl

-- ---- types

repeated : (n : ℕ) (x : ℕ) (rest : List ℕ) → replicate n x ++ x ∷ rest ≡ x ∷ replicate n x ++ rest
repeated zero x rest = refl
repeated (suc n) x rest = ap (λ l. x ∷ l) (repeated n x rest)

-- so many brackets around what stands behind them
around : (n : ℕ) (inner : ReferenceType) (tail : Text) → dotted (type_descriptor inner) ≡ tail
    → dotted (type_descriptor (ReferenceArray (arrays n inner))) ≡ replicate (suc n) 91 ++ tail
around zero inner tail e = array_dotted (type_descriptor inner) ∙ ap (λ text. 91 ∷ text) e
around (suc n) inner tail e = array_dotted (type_descriptor (arrays (suc n) inner)) ∙ ap (λ text. 91 ∷ text) (around n inner tail e)

module _ (trees : Program) (p : LinkedProgram) (program : IsProgram trees p) (reads : AreClassesRead) where
  -- the name of a class, by its number
  pub name_is : (number : ℕ) (class : Name) → IsClassAt trees number class → name_in p number ≡ dotted class
  name_is number class at =
      let c = reads trees p program.linked number class at in
      ap (λ o. option_map_or (λ (row : LinkedClass). row.name.items) o []) c.is ∙ c.linked.name ∙ ap dotted c.named

  component_is : (component : LinkedType) (type : ReferenceType) → IsType trees component type → array_text p component ≡ dotted (type_name (ReferenceArray type))
  component_is component type is = by component.element refl is
    where
      count : component.dimensions + 1 ≡ suc component.dimensions
      count = omega arith

      by : (e : Element) → component.element ≡ e → IsTypeWith trees component.dimensions e type → array_text p component ≡ dotted (type_name (ReferenceArray type))
      by (element.Class number) e c =
          let opened : array_text p component ≡ replicate (suc component.dimensions) 91 ++ (codes "L" ++ name_in p number ++ codes ";") =
          λ i. replicate (count i) 91 ++ element_text p (e i)
          in
          let named : replicate (suc component.dimensions) 91 ++ (codes "L" ++ name_in p number ++ codes ";") ≡ replicate (suc component.dimensions) 91 ++ (codes "L" ++ dotted c.class ++ codes ";") =
          ap (λ (name : Text). replicate (suc component.dimensions) 91 ++ (codes "L" ++ name ++ codes ";")) (name_is number c.class c.numbered)
          in
          let called : dotted (type_name (ReferenceArray type)) ≡ replicate (suc component.dimensions) 91 ++ (codes "L" ++ dotted c.class ++ codes ";") =
          ap (λ (t : ReferenceType). dotted (type_descriptor (ReferenceArray t))) c.is
          ∙ around component.dimensions (ClassType c.class) (codes "L" ++ dotted c.class ++ codes ";") (class_dotted c.class)
          in
          opened ∙ named ∙ sym called
      by (element.Primitive of) e c =
          let opened : array_text p component ≡ replicate (suc component.dimensions) 91 ++ primitive_letter (primitive_of of) =
          λ i. replicate (count i) 91 ++ element_text p (e i)
          in
          let counted : replicate (suc component.dimensions) 91 ++ primitive_letter (primitive_of of) ≡ replicate (suc (suc c.around)) 91 ++ primitive_letter (primitive_of of) =
          ap (λ (n : ℕ). replicate (suc n) 91 ++ primitive_letter (primitive_of of)) c.count
          in
          let moved : replicate (suc c.around) 91 ++ 91 ∷ primitive_letter (primitive_of of) ≡ replicate (suc (suc c.around)) 91 ++ primitive_letter (primitive_of of) =
          repeated (suc c.around) 91 (primitive_letter (primitive_of of))
          in
          let called : dotted (type_name (ReferenceArray type)) ≡ replicate (suc c.around) 91 ++ 91 ∷ primitive_letter (primitive_of of) =
          ap (λ (t : ReferenceType). dotted (type_descriptor (ReferenceArray t))) c.is
          ∙ around c.around (PrimitiveArray (primitive_of of)) (91 ∷ primitive_letter (primitive_of of))
          (array_dotted (primitive_letter (primitive_of of)) ∙ ap (λ (text : Text). 91 ∷ text) (letter_dotted of))
          in
          opened ∙ counted ∙ sym moved ∙ sym called

  narrow_is : (narrow : NarrowKind) → primitive_of (linked_primitive narrow) ≡ primitive_in narrow
  narrow_is narrow.Boolean = refl
  narrow_is narrow.Char = refl
  narrow_is narrow.Byte = refl
  narrow_is narrow.Short = refl

  array_is : (of : Primitive) → codes "[" ++ primitive_letter (primitive_of of) ≡ dotted (type_name (PrimitiveArray (primitive_of of)))
  array_is of = sym (array_dotted (primitive_letter (primitive_of of)) ∙ ap (λ text. 91 ∷ text) (letter_dotted of))

  -- what an object is called, by its kind
  pub kind_is : (shown : Object) (object : ObjectOf ℕ) → ShowsObject trees p.components.items shown object → kind_text p shown.kind ≡ dotted (type_name (type_of object))
  kind_is shown object shows = by shown.kind object shows.kind
    where
      by : (k : ObjectKind) (o : ObjectOf ℕ) → IsKindOf trees p.components.items k o → kind_text p k ≡ dotted (type_name (type_of o))
      by (kind.Instance number) (Instance class fields) h = name_is number class h.0
      by (kind.Instance number) (Characters text) h = name_is number java_lang_string h.0
      by (kind.Instance number) (Primitives of elements) h = absurd h
      by (kind.Instance number) (References of elements) h = absurd h
      by kind.Ints (Primitives of elements) h = array_is primitive.Int ∙ ap (λ x. dotted (type_name (PrimitiveArray x))) (sym h)
      by kind.Ints (Instance class fields) h = absurd h
      by kind.Ints (References of elements) h = absurd h
      by kind.Ints (Characters text) h = absurd h
      by (kind.Narrow narrow) (Primitives of elements) h =
          array_is (linked_primitive narrow) ∙ ap (λ x. dotted (type_name (PrimitiveArray x))) (narrow_is narrow ∙ sym h)
      by (kind.Narrow narrow) (Instance class fields) h = absurd h
      by (kind.Narrow narrow) (References of elements) h = absurd h
      by (kind.Narrow narrow) (Characters text) h = absurd h
      by (kind.References number) (References of elements) h =
          ap (λ o. option_map_or (array_text p) o []) h.1 ∙ component_is h.0 of h.2
      by (kind.References number) (Instance class fields) h = absurd h
      by (kind.References number) (Primitives of elements) h = absurd h
      by (kind.References number) (Characters text) h = absurd h

  -- what an object of a reference is called, as the definitions read it
  pub object_is : (objects : List Object) (heap : List (ObjectOf ℕ)) → ShowsObjects trees p.components.items objects heap → (reference : ℕ)
      → object_text p objects reference ≡ dotted (type_name (type_of (slice_index_or heap reference no_object)))
  object_is [] [] h reference = sym nothing
  object_is [] (m ∷ ms) h reference = absurd h
  object_is (o ∷ os) [] h reference = absurd h
  object_is (o ∷ os) (m ∷ ms) h zero = kind_is o m h.0
  object_is (o ∷ os) (m ∷ ms) h (suc reference) = object_is os ms h.1 reference

  -- the class whose Class object has a reference
  pub described_is : (object : ℕ) → name_in p (object - first_class_reference) ≡ dotted (class_described trees object)
  described_is object = by (slice_get (classes_of trees) (object - first_class_reference)) refl
    where
      number : ℕ
      number = object - first_class_reference

      by : (o : Option FileTree) → slice_get (classes_of trees) number ≡ o → name_in p number ≡ dotted (class_described trees object)
      by (Some file) e =
          name_is number (name_of file) (file, e, refl)
          ∙ sym (ap dotted (get_or_from_slice_get (map name_of (classes_of trees)) number (name_of file) [] (slice_get-map name_of (classes_of trees) number ∙ ap (option_map name_of) e)))
      by None e =
          ap (λ o. option_map_or (λ (row : LinkedClass). row.name.items) o []) (no_row trees (classes_of trees) p.classes.items program.linked.classes number e)
          ∙ sym (ap dotted (none_there (map name_of (classes_of trees)) number [] (slice_get-map name_of (classes_of trees) number ∙ ap (option_map name_of) e)) ∙ nothing)
