-- The type that a descriptor describes, read from left to right. That it is the one of `Descriptors` is shown by the
-- parsing functions of the crate `descriptors`.
use Rattle.std.specs.Prelude.{ℕ, zero, suc, ◌+◌, List, [], ◌∷◌, length, take, drop, Option, Some, None, is_some, option_map, Bool, nat_lt, nat_le, ◌==◌, if◌then◌else◌}
use Rattle.model.specs.Descriptors.{is_class_name, ElementType, Byte, Char, Double, Float, Int, Long, Object, Short, Boolean, FieldType, MethodType, parameter_slots}

infixl 10 ◌>>=◌
abbrev pub ◌>>=◌ : {A B : Type 0} → Option A → (A → Option B) → Option B
None >>= f = None
(Some x) >>= f = f x

-- how many bytes stand before the first semicolon
abbrev pub name_length : List ℕ → Option ℕ
name_length [] = None
name_length (b ∷ bytes) = if b == 59 then Some 0 else (do
  n ← name_length bytes
  Some (suc n))

-- an element and what is behind it
unfoldable pub element_at : List ℕ → Option (ElementType × List ℕ)
element_at [] = None
element_at (b ∷ bytes) =
    if b == 66 then Some (Byte, bytes)
    else if b == 67 then Some (Char, bytes)
    else if b == 68 then Some (Double, bytes)
    else if b == 70 then Some (Float, bytes)
    else if b == 73 then Some (Int, bytes)
    else if b == 74 then Some (Long, bytes)
    else if b == 83 then Some (Short, bytes)
    else if b == 90 then Some (Boolean, bytes)
    else if b == 76 then (do
      n ← name_length bytes
      if is_class_name (take n bytes) then Some (Object (take n bytes), drop (n + 1) bytes) else None)
    else None

-- how many dimensions come first
abbrev pub dimensions_of : List ℕ → ℕ
dimensions_of [] = 0
dimensions_of (b ∷ bytes) = if b == 91 then suc (dimensions_of bytes) else 0

-- a type and what is behind it
unfoldable pub field_at : List ℕ → Option (FieldType × List ℕ)
field_at bytes = if nat_lt 255 (dimensions_of bytes) then None else (do
  e ← element_at (drop (dimensions_of bytes) bytes)
  Some (record { dimensions = dimensions_of bytes; element = e.0 }, e.1))

-- a type and nothing behind it
unfoldable pub field_type : List ℕ → Option FieldType
field_type text = do
  f ← field_at text
  if length f.1 == 0 then Some f.0 else None

-- the types up to the closing bracket, so many at most, and what is behind it
unfoldable pub parameters_at : ℕ → List ℕ → Option (List FieldType × List ℕ)
parameters_at n [] = None
parameters_at zero (b ∷ bytes) = if b == 41 then Some ([], bytes) else None
parameters_at (suc n) (b ∷ bytes) = if b == 41 then Some ([], bytes) else (do
  f ← field_at (b ∷ bytes)
  others ← parameters_at n f.1
  Some (f.0 ∷ others.0, others.1))

abbrev pub return_type : List ℕ → Option (Option FieldType)
return_type [] = None
return_type (b ∷ bytes) = if b == 86 then (if length bytes == 0 then Some None else None) else (do
  f ← field_type (b ∷ bytes)
  Some (Some f))

-- each parameter takes a slot, so there are 255 at most
unfoldable pub method_type : List ℕ → Option MethodType
method_type [] = None
method_type (b ∷ bytes) = if b == 40 then (do
  parameters ← parameters_at 255 bytes
  returns ← return_type parameters.1
  if nat_le (parameter_slots (record { parameters = parameters.0; returns = returns })) 255 then Some (record { parameters = parameters.0; returns = returns }) else None)
    else None

abbrev pub is_field_descriptor : List ℕ → Bool
is_field_descriptor text = is_some (field_type text)

abbrev pub is_method_descriptor : List ℕ → Bool
is_method_descriptor text = is_some (method_type text)

-- the slots of the parameters that a method's descriptor describes
abbrev pub method_slots : List ℕ → Option ℕ
method_slots text = option_map parameter_slots (method_type text)
