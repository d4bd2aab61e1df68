-- The order of the verifier's types and of frame types (JVMS 4.10.1.2, 4.10.2.2): what is below may stand where what is
-- above is expected.
use Rattle.std.specs.Prelude.{List, [], ◌∷◌, Bool, true, false, not, ◌&&◌}
use Rattle.model.specs.Classes.{Program}
use Rattle.model.specs.Types.{VerificationType, Unusable, IntType, NullType, OfType, Uninitialised, UninitialisedThis, is_int, is_of}
use Rattle.model.specs.InitialisedTypes.{is_uninitialised, is_uninitialised_this}
use Rattle.model.specs.Operands.{Slots}

-- ---- types

abbrev pub is_unusable : VerificationType → Bool
is_unusable Unusable = true
is_unusable IntType = false
is_unusable NullType = false
is_unusable (OfType t) = false
is_unusable (Uninitialised at c) = false
is_unusable (UninitialisedThis c) = false

abbrev pub is_null : VerificationType → Bool
is_null Unusable = false
is_null IntType = false
is_null NullType = true
is_null (OfType t) = false
is_null (Uninitialised at c) = false
is_null (UninitialisedThis c) = false

-- On the operand stack. Null is below each class and each array; a class is below its superclasses, and an array below
-- Object and below the arrays of what its components are below; what is not initialised is below itself alone. Nothing
-- but itself is below what is not usable, so that such a type never gets onto the stack (own).
abbrev pub is_stack_below : Program → VerificationType → VerificationType → Bool
is_stack_below files s Unusable = is_unusable s
is_stack_below files s IntType = is_int s
is_stack_below files s NullType = is_null s
is_stack_below files s (OfType t) = is_of files t s
is_stack_below files s (Uninitialised at c) = is_uninitialised at c s
is_stack_below files s (UninitialisedThis c) = is_uninitialised_this c s

-- in local variables every type is below what is not usable
abbrev pub is_local_below : Program → VerificationType → VerificationType → Bool
is_local_below files s Unusable = true
is_local_below files s IntType = is_stack_below files s IntType
is_local_below files s NullType = is_stack_below files s NullType
is_local_below files s (OfType t) = is_stack_below files s (OfType t)
is_local_below files s (Uninitialised at c) = is_stack_below files s (Uninitialised at c)
is_local_below files s (UninitialisedThis c) = is_stack_below files s (UninitialisedThis c)

-- ---- frame types

-- The types of a frame's local variables and operand stack, and whether a constructor was called on `this` (JVMS
-- 4.10.1.4, whose flagThisUninit says that none was). Outside of constructors it is so from the start.
pub record FrameType : Type 0 where
  pub slots : Slots VerificationType
  pub constructed : Bool

-- two lists are as long as one another, and it holds of each two that stand at one place
abbrev pub pairwise : {A B : Type 0} → (A → B → Bool) → List A → List B → Bool
pairwise R [] [] = true
pairwise R [] (y ∷ ys) = false
pairwise R (x ∷ xs) [] = false
pairwise R (x ∷ xs) (y ∷ ys) = R x y && pairwise R xs ys

-- what is constructed may stand where it need not be
abbrev pub is_mark_below : Bool → Bool → Bool
is_mark_below true b = true
is_mark_below false b = not b

abbrev pub is_frame_below : Program → FrameType → FrameType → Bool
is_frame_below files a b =
    pairwise (is_local_below files) a.slots.locals b.slots.locals
    && (pairwise (is_stack_below files) a.slots.stack b.slots.stack && is_mark_below a.constructed b.constructed)
