-- Constants belong to static fields of files.
use Rattle.std.proofs.Common.{◌≡◌, ℕ, true, false, not, ◌&&◌, List, [], ◌∷◌, refl, subst, None}
use Rattle.std.specs.Prelude.{is_some}
use Rattle.std.specs.Bool.{MatchBool}
use Rattle.std.specs.List.{AllByRecursion, list_all}
use Rattle.std.proofs.lemmas.Bool.{not-true}
use Rattle.model.specs.Tree.{Entry, FieldPart, ConstantOf, SkippedOfField, FieldTree, FileTree}
use Rattle.model.specs.Spelling.{is_static, is_constant_value, IsConstant, IsSkippedOfField, FieldPartFits}
use Rattle.model.specs.AccessFlags.{is_static_field}
use Rattle.model.specs.BuiltIn.{built_in_classes}
use Rattle.model.specs.Classes.{Program}
use Rattle.model.specs.Linkable.{AreSpelled}
use Rattle.model.specs.ClassInitialisation.{constant_in}
use Rattle.run_laws.proofs.laws.Lists.{every_weaken}
use Rattle.run_laws.proofs.laws.Found.{every_all}

no_part : (flags : ℕ) (places : List Entry) (parts : List FieldPart) → AllByRecursion (FieldPartFits flags places) parts
    → is_static flags ≡ false → constant_in parts ≡ None
no_part flags places [] h e = refl
no_part flags places (ConstantOf name index ∷ parts) h e =
    absurd (subst (λ b. MatchBool (b && is_constant_value 8 places name) (IsConstant (ConstantOf name index)) (IsSkippedOfField (ConstantOf name index))) e h.0.kind)
no_part flags places (SkippedOfField a ∷ parts) h e = no_part flags places parts h.1 e

abbrev pub HasStaticConstants : FileTree → Type 0
HasStaticConstants file = AllByRecursion (λ (f : FieldTree). is_static_field f ≡ false → constant_in f.parts ≡ None) file.fields

pub static_constants : (bytes : List (List ℕ)) (files : Program) → AreSpelled bytes files → AllByRecursion HasStaticConstants files
static_constants [] [] h = tt
static_constants [] (file ∷ files) h = absurd h
static_constants (b ∷ bytes) [] h = tt
static_constants (b ∷ bytes) (file ∷ files) h =
    (every_weaken _ (λ (f : FieldTree). is_static_field f ≡ false → constant_in f.parts ≡ None) file.fields (λ f fits e. no_part f.flags _ f.parts fits.parts.1 e) h.0.layout.fits.fields.1, static_constants bytes files h.1)

abbrev pub HasNoConstants : FileTree → Type 0
HasNoConstants file = AllByRecursion (λ (f : FieldTree). is_some (constant_in f.parts) ≡ false) file.fields

built_in_plain : list_all (λ (file : FileTree). list_all (λ (f : FieldTree). not (is_some (constant_in f.parts))) file.fields)
    built_in_classes ≡ true
unfolding built_in_classes
built_in_plain = refl

pub no_built_in_constants : AllByRecursion HasNoConstants built_in_classes
no_built_in_constants =
    every_weaken _ HasNoConstants built_in_classes
    (λ file h. every_weaken _ (λ (f : FieldTree). is_some (constant_in f.parts) ≡ false) file.fields (λ f q. not-true _ q) (every_all _ file.fields h))
    (every_all _ built_in_classes built_in_plain)
