-- Arrays of some dimensions, as they are declared and as they are made.
use Rattle.std.proofs.Common.{◌≡◌, ℕ, zero, suc, ◌-◌, ◌≤◌, ◌<◌, ◌++◌, refl, sym, ap, ◌∙◌, arith, List, Option, Some, None, false}
use Rattle.std.specs.Prelude.{IfSome, replicate}
use Rattle.model.specs.Names.{Name}
use Rattle.model.specs.Classes.{Program}
use Rattle.model.specs.Descriptors.{ElementType, Object}
use Rattle.model.specs.ReferenceTypes.{ReferenceType, Primitive, ClassType, PrimitiveArray, ReferenceArray}
use Rattle.model.specs.Types.{OfType}
use Rattle.model.specs.Resolution.{is_missing}
use Rattle.model.specs.DescriptorScan.{dimensions_of}
use Rattle.model.specs.DescribedTypes.{DeclaredInt, DeclaredReference, arrays, array_of, element_declared, declared_with, made_type, verification_type}
use Rattle.constant_pool.specs.declared.descriptors.field.Element as declared_element
use Rattle.constant_pool.specs.descriptors.View.{element_of}
use Rattle.types.specs.declared.verification_type.VerificationType as declared_type
use Rattle.types.specs.declared.verification_type.VerificationType.TheVariants as type
use Rattle.types.specs.View.{type_in}
use Rattle.types.specs.described_types.Described.{HasDimensions, type_missing, declared_missing, primitive_declared}

-- an array of arrays is one dimension more
pub arrays_more : (n : ℕ) (t : ReferenceType) → arrays n (ReferenceArray t) ≡ ReferenceArray (arrays n t)
arrays_more zero t = refl
arrays_more (suc n) t = ap (λ a. ReferenceArray a) (arrays_more n t)

pub declared_class : (n : ℕ) (name : Name) → declared_with n (Object name) ≡ DeclaredReference (arrays n (ClassType name))
declared_class zero name = refl
declared_class (suc n) name = ap (λ t. DeclaredReference t) (arrays_more n (ClassType name))

pub declared_primitive : (n : ℕ) (e : ElementType) (of : Primitive) → element_declared e ≡ DeclaredInt → array_of e ≡ PrimitiveArray of
    → declared_with n e ≡ primitive_declared n of
declared_primitive zero e of int array = int
declared_primitive (suc n) e of int array = ap (λ t. DeclaredReference (arrays n t)) array

module _ (files : Program) where
  pub made_arrays : (n : ℕ) (t : ReferenceType) → made_type files (arrays n t) ≡ arrays n (made_type files t)
  made_arrays zero t = refl
  made_arrays (suc n) t = ap (λ a. ReferenceArray a) (made_arrays n t)

  pub arrays_missing : (n : ℕ) (t : ReferenceType) → type_missing files (arrays n t) ≡ type_missing files t
  arrays_missing zero t = refl
  arrays_missing (suc n) t = arrays_missing n t

-- a number above 0 has one before it
pub arrays_before : (n : ℕ) (t : ReferenceType) → 0 < n → arrays n t ≡ ReferenceArray (arrays (n - 1) t)
arrays_before zero t l = absurd (omega (arith, l))
arrays_before (suc n) t l =
    let k : n ≡ suc n - 1 = omega arith in
    ap (λ m. ReferenceArray (arrays m t)) k

pub primitive_before : (n : ℕ) (of : Primitive) → 0 < n → primitive_declared n of ≡ DeclaredReference (arrays (n - 1) (PrimitiveArray of))
primitive_before zero of l = absurd (omega (arith, l))
primitive_before (suc n) of l =
    let k : n ≡ suc n - 1 = omega arith in
    ap (λ m. DeclaredReference (arrays m (PrimitiveArray of))) k

-- ---- what an element of a descriptor declares

module _ (files : Program) where
  -- a primitive type, or an array of one
  pub of_primitive : (n : ℕ) (e x : declared_element.Element) (of : Primitive) (t : declared_type.VerificationType) → e ≡ x
      → element_declared (element_of x) ≡ DeclaredInt → array_of (element_of x) ≡ PrimitiveArray of
      → type_in files t ≡ verification_type files (primitive_declared n of)
      → (type_in files t ≡ verification_type files (declared_with n (element_of e)))
      × (declared_missing files (declared_with n (element_of e)) ≡ false)
  of_primitive n e x of t is int array h =
      let same : declared_with n (element_of e) ≡ primitive_declared n of = ap (λ e. declared_with n (element_of e)) is ∙ declared_primitive n (element_of x) of int array in
      (h ∙ sym (ap (verification_type files) same), ap (declared_missing files) same ∙ none n)
    where
      none : (n : ℕ) → declared_missing files (primitive_declared n of) ≡ false
      none zero = refl
      none (suc n) = arrays_missing files n (PrimitiveArray of)

  -- a class, or an array of it
  pub of_class : (n : ℕ) (e x : declared_element.Element) (name : Name) → e ≡ x → element_of x ≡ Object name
      → (verification_type files (declared_with n (element_of e)) ≡ OfType (arrays n (made_type files (ClassType name))))
      × (declared_missing files (declared_with n (element_of e)) ≡ is_missing files name)
  of_class n e x name is named =
      let same : declared_with n (element_of e) ≡ DeclaredReference (arrays n (ClassType name)) = ap (λ e. declared_with n (element_of e)) is ∙ ap (declared_with n) named ∙ declared_class n name in
      (ap (verification_type files) same ∙ ap (λ t. OfType t) (made_arrays files n (ClassType name)), ap (declared_missing files) same ∙ arrays_missing files n (ClassType name))

-- ---- dimensions

pub more_dimensions : (m n : ℕ) (t : declared_type.VerificationType) → m ≤ n → HasDimensions m t → HasDimensions n t
more_dimensions m n type.Unusable l h = tt
more_dimensions m n type.Int l h = tt
more_dimensions m n type.Null l h = tt
more_dimensions m n (type.Object t) l h = omega (arith, l, h)
more_dimensions m n (type.Uninitialised offset class) l h = tt
more_dimensions m n (type.UninitialisedThis class) l h = tt

pub more_of_some : (m n : ℕ) (o : Option declared_type.VerificationType) → m ≤ n → IfSome o (HasDimensions m) → IfSome o (HasDimensions n)
more_of_some m n None l h = tt
more_of_some m n (Some t) l h = more_dimensions m n t l h

-- a descriptor begins with its dimensions
pub dimensions_there : (n : ℕ) (text : List ℕ) → n ≤ dimensions_of (replicate n 91 ++ text)
dimensions_there zero text = omega arith
dimensions_there (suc n) text = let l = dimensions_there n text in omega (arith, l)
