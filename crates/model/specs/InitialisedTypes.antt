-- Types of objects whose constructor was not called yet (JVMS 4.10.1.4, 4.10.2.4): what `new` and a call of a constructor do
-- to the other copies.
use Rattle.std.specs.Prelude.{ℕ, Bool, false, ◌&&◌, ◌==◌, if◌then◌else◌}
use Rattle.model.specs.Names.{Name, name_eq}
use Rattle.model.specs.ReferenceTypes.{ClassType}
use Rattle.model.specs.Types.{VerificationType, Unusable, IntType, NullType, OfType, Uninitialised, UninitialisedThis}

-- a type is that of what the `new` at an offset made
abbrev pub is_made_at : ℕ → VerificationType → Bool
is_made_at offset Unusable = false
is_made_at offset IntType = false
is_made_at offset NullType = false
is_made_at offset (OfType t) = false
is_made_at offset (Uninitialised at c) = at == offset
is_made_at offset (UninitialisedThis c) = false

-- the same, of a class
abbrev pub is_uninitialised : ℕ → Name → VerificationType → Bool
is_uninitialised offset class Unusable = false
is_uninitialised offset class IntType = false
is_uninitialised offset class NullType = false
is_uninitialised offset class (OfType t) = false
is_uninitialised offset class (Uninitialised at c) = (at == offset) && name_eq c class
is_uninitialised offset class (UninitialisedThis c) = false

abbrev pub is_uninitialised_this : Name → VerificationType → Bool
is_uninitialised_this class Unusable = false
is_uninitialised_this class IntType = false
is_uninitialised_this class NullType = false
is_uninitialised_this class (OfType t) = false
is_uninitialised_this class (Uninitialised at c) = false
is_uninitialised_this class (UninitialisedThis c) = name_eq c class

-- a local variable after the `new` at an offset: what it made before is not to be used any more
abbrev pub forgotten : ℕ → VerificationType → VerificationType
forgotten offset t = if is_made_at offset t then Unusable else t

-- a type after a call of a constructor on a receiver: all copies of the receiver are initialised
abbrev pub initialised : VerificationType → VerificationType → VerificationType
initialised Unusable t = t
initialised IntType t = t
initialised NullType t = t
initialised (OfType of) t = t
initialised (Uninitialised at c) t = if is_uninitialised at c t then OfType (ClassType c) else t
initialised (UninitialisedThis c) t = if is_uninitialised_this c t then OfType (ClassType c) else t
