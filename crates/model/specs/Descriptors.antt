-- Class names and descriptors (JVMS 4.2, 4.3).
use Rattle.std.specs.Prelude.{◌≡◌, ℕ, ◌≤◌, List, [], ◌∷◌, ◌++◌, length, replicate, Option, Some, None, Bool, not, ◌&&◌, ◌||◌, ◌==◌, nat_lt, if◌then◌else◌, codes, IsTrue}
use Rattle.std.specs.List.{flat_map, list_all, sum_by, AllByRecursion}

-- ---- names (JVMS 4.2)

-- none of . ; [ /
abbrev pub is_name_byte : ℕ → Bool
is_name_byte b = not (b == 46 || (b == 59 || (b == 91 || b == 47)))

abbrev pub is_unqualified : List ℕ → Bool
is_unqualified name = nat_lt 0 (length name) && list_all is_name_byte name

abbrev pub with_first : ℕ → List (List ℕ) → List (List ℕ)
with_first b [] = (b ∷ []) ∷ []
with_first b (name ∷ names) = (b ∷ name) ∷ names

-- what stands between the slashes
abbrev pub names_of : List ℕ → List (List ℕ)
names_of [] = [] ∷ []
names_of (b ∷ bytes) = if b == 47 then [] ∷ names_of bytes else with_first b (names_of bytes)

-- unqualified names with a slash between each two (JVMS 4.2.1)
abbrev pub is_class_name : List ℕ → Bool
is_class_name text = list_all is_unqualified (names_of text)

-- ---- descriptors of fields (JVMS 4.3.2)

-- what is no array
pub data ElementType : Type 0 where
  Byte : ElementType
  Char : ElementType
  Double : ElementType
  Float : ElementType
  Int : ElementType
  Long : ElementType
  Object : List ℕ → ElementType
  Short : ElementType
  Boolean : ElementType

-- an array of so many dimensions, or the element where there are none
pub record FieldType : Type 0 where
  pub dimensions : ℕ
  pub element : ElementType

abbrev pub element : ElementType → List ℕ
element Byte = codes "B"
element Char = codes "C"
element Double = codes "D"
element Float = codes "F"
element Int = codes "I"
element Long = codes "J"
element (Object name) = codes "L" ++ (name ++ codes ";")
element Short = codes "S"
element Boolean = codes "Z"

-- [ for each dimension
abbrev pub field : FieldType → List ℕ
field f = replicate f.dimensions 91 ++ element f.element

abbrev pub ElementFits : ElementType → Type 0
ElementFits (Object name) = IsTrue (is_class_name name)
ElementFits other = Unit {0}

pub record FieldTypeFits (f : FieldType) : Type 0 where
  pub dimensions : f.dimensions ≤ 255
  pub element : ElementFits f.element

pub record IsField (text : List ℕ) (f : FieldType) : Type 0 where
  pub spelled : text ≡ field f
  pub fits : FieldTypeFits f

-- ---- descriptors of methods (JVMS 4.3.3)

-- None is void
pub record MethodType : Type 0 where
  pub parameters : List FieldType
  pub returns : Option FieldType

abbrev pub return_descriptor : Option FieldType → List ℕ
return_descriptor None = codes "V"
return_descriptor (Some f) = field f

abbrev pub method : MethodType → List ℕ
method m = codes "(" ++ (flat_map field m.parameters ++ (codes ")" ++ return_descriptor m.returns))

abbrev pub ReturnFits : Option FieldType → Type 0
ReturnFits None = Unit {0}
ReturnFits (Some f) = FieldTypeFits f

-- a long or a double takes two slots
abbrev pub element_slots : ElementType → ℕ
element_slots Long = 2
element_slots Double = 2
element_slots other = 1

abbrev pub slots : FieldType → ℕ
slots f = if f.dimensions == 0 then element_slots f.element else 1

-- the slots of the parameters, without that of a receiver
abbrev pub parameter_slots : MethodType → ℕ
parameter_slots m = sum_by slots m.parameters

pub record MethodTypeFits (m : MethodType) : Type 0 where
  pub parameters : AllByRecursion FieldTypeFits m.parameters
  pub returns : ReturnFits m.returns
  pub slots : parameter_slots m ≤ 255

pub record IsMethod (text : List ℕ) (m : MethodType) : Type 0 where
  pub spelled : text ≡ method m
  pub fits : MethodTypeFits m
