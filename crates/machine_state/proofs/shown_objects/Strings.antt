-- Strings: they have no fields, and their units are of 16 bits.
use Rattle.std.proofs.Common.{◌≡◌, ℕ, List, [], ◌∷◌, Some, None, Bool, true, false, if◌then◌else◌, ◌<◌, ◌^◌, arith, refl, sym, ap, ◌∙◌}
use Rattle.std.proofs.lemmas.List.Elements.{All-nil, All-cons}
use Rattle.model.specs.Names.{Name, Member, java_lang_string}
use Rattle.model.specs.BuiltIn.{built_in_classes}
use Rattle.model.specs.BuiltInNumbers.{string_number}
use Rattle.model.specs.Classes.{Program}
use Rattle.model.specs.Lookup.{instance_fields}
use Rattle.model.specs.ReferenceTypes.{ClassType}
use Rattle.model.specs.Texts.{Text, unit_of_one, unit_of_two, unit_of_three, are_two, are_three, decoded}
use Rattle.model.specs.State.{ObjectOf, Instance, Primitives, References, Characters, type_of}
use Rattle.linked_code.specs.declared.types.LinkedType.{LinkedType}
use Rattle.linked_code.specs.Numbers.{IsClassAt, slot_in}
use Rattle.machine_state.specs.allocations.Allocated.{string_of}
use Rattle.machine_state.specs.shown_objects.Shown.{AreUnits, ShowsObject}

pub string_fields : (files : Program) → instance_fields files java_lang_string ≡ []
unfolding built_in_classes
string_fields files = refl

pub string_at : (files : Program) → IsClassAt files string_number java_lang_string
unfolding built_in_classes
string_at files = (_, refl, refl)

pub text_shown : (files : Program) (components : List LinkedType) (text : Text) → AreUnits text
    → ShowsObject files components (string_of text) (Characters text)
text_shown files components text units = record { kind = (string_at files, units); words = refl }

-- so what has a field in a slot is shown with its fields
pub instance_with : (files : Program) (m : ObjectOf ℕ) (class : Name) (field : Member) (slot : ℕ) → type_of m ≡ ClassType class
    → slot_in (instance_fields files class) field ≡ Some slot → (fields : List (Member × ℕ)) × (m ≡ Instance class fields)
instance_with files (Instance c fields) class field slot e s = let is : c ≡ class = cc in (fields, ap (λ x. Instance x fields) is)
instance_with files (Primitives of elements) class field slot e s = absurd cc
instance_with files (References of elements) class field slot e s = absurd cc
instance_with files (Characters text) class field slot e s =
    let same : java_lang_string ≡ class = cc in
    let none : slot_in (instance_fields files class) field ≡ None =
    ap (λ c. slot_in (instance_fields files c) field) (sym same) ∙ ap (λ l. slot_in l field) (string_fields files)
    in
    let no : None ≡ Some slot = sym none ∙ s in
    absurd cc

-- ---- units

cons_units : (unit : ℕ) (text : Text) → unit < 2 ^ 16 → AreUnits text → AreUnits (unit ∷ text)
cons_units unit text small rest = All-cons (λ u. u < 2 ^ 16) unit text small rest

one_small : (b : ℕ) → unit_of_one b < 2 ^ 16
one_small b = omega arith

two_small : (b c : ℕ) → unit_of_two b c < 2 ^ 16
two_small b c = omega arith

three_small : (b c d : ℕ) → unit_of_three b c d < 2 ^ 16
three_small b c d = omega arith

either_units : (b : Bool) (x y : Text) → AreUnits x → AreUnits y → AreUnits (if b then x else y)
either_units true x y h g = h
either_units false x y h g = g

-- whatever the bytes are
pub decoded_units : (bytes : List ℕ) → AreUnits (decoded bytes)
unfolding decoded
decoded_units [] = All-nil _
decoded_units (b ∷ []) = cons_units (unit_of_one b) [] (one_small b) (All-nil _)
decoded_units (b ∷ c ∷ []) =
    let one = unit_of_one b ∷ decoded (c ∷ []) in
    either_units (are_two b c) (unit_of_two b c ∷ []) one
    (cons_units (unit_of_two b c) [] (two_small b c) (All-nil _))
    (cons_units (unit_of_one b) (decoded (c ∷ [])) (one_small b) (decoded_units (c ∷ [])))
decoded_units (b ∷ c ∷ d ∷ bytes) =
    let one = unit_of_one b ∷ decoded (c ∷ d ∷ bytes) in
    let three = unit_of_three b c d ∷ decoded bytes in
    either_units (are_two b c) (unit_of_two b c ∷ decoded (d ∷ bytes)) (if are_three b c d then three else one)
    (cons_units (unit_of_two b c) (decoded (d ∷ bytes)) (two_small b c) (decoded_units (d ∷ bytes)))
    (either_units (are_three b c d) three one
    (cons_units (unit_of_three b c d) (decoded bytes) (three_small b c d) (decoded_units bytes))
    (cons_units (unit_of_one b) (decoded (c ∷ d ∷ bytes)) (one_small b) (decoded_units (c ∷ d ∷ bytes))))
