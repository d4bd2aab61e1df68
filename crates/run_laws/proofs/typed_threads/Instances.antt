-- Objects by their types, over values and over words.
use Rattle.std.proofs.Common.{◌≡◌, ℕ, ◌≤◌, ◌<◌, List, [], ◌∷◌, length, true, false, Option, Some, None, refl, sym, ap, ◌∙◌, subst, arith}
use Rattle.std.specs.Prelude.{slice_get}
use Rattle.std.proofs.lemmas.Bool.{false≢true}
use Rattle.std.proofs.lemmas.List.{length-map}
use Rattle.std.proofs.lemmas.Option.{slice_get_within}
use Rattle.model.specs.Names.{Name, name_eq, java_lang_object}
use Rattle.model.specs.Classes.{Program}
use Rattle.model.specs.ReferenceTypes.{ReferenceType, ClassType, PrimitiveArray, ReferenceArray}
use Rattle.model.specs.Types.{is_object_below}
use Rattle.model.specs.State.{ObjectOf, type_of, types_of, StateOf}
use Rattle.model.specs.WellTyped.{is_object_in, Extends}
use Rattle.model.specs.Words.{AreWellTypedWords}
use Rattle.run_laws.proofs.word_runs.WordWorlds.{types_words}
use Rattle.run_laws.specs.typed_threads.Objects.{IsInstance, Keeps}

-- the objects at words have the types of those of the state
pub types_are : (files : Program) (at : StateOf ℕ) (h : AreWellTypedWords files at) → types_of at.world.heap ≡ types_of h.0.world.heap
types_are files at h = ap (λ (s : StateOf ℕ). types_of s.world.heap) h.1.are ∙ types_words h.0.world.heap

module _ {A : Type 0} (heap : List (ObjectOf A)) where
  pub within : (r : ℕ) (t : ReferenceType) → slice_get (types_of heap) r ≡ Some t → r < length heap
  within r t e = subst (λ n. r < n) (length-map heap type_of) (slice_get_within (types_of heap) r t e)

  -- what is below a type is there
  pub below_there : (files : Program) (want : ReferenceType) (r : ℕ) (o : Option ReferenceType) → slice_get (types_of heap) r ≡ o
      → is_object_below files want o ≡ true → r < length heap
  below_there files want r None e h = absurd (false≢true h)
  below_there files want r (Some t) e h = within r t e

  -- only instances are below a class that is not Object
  pub instance_of : (files : Program) (class : Name) → name_eq class java_lang_object ≡ false → (r : ℕ) (o : Option ReferenceType)
      → slice_get (types_of heap) r ≡ o → is_object_below files (ClassType class) o ≡ true → IsInstance files heap class r
  instance_of files class other r None e h = absurd (false≢true h)
  instance_of files class other r (Some (ClassType own)) e h = record { there = within r (ClassType own) e; own = own; type = e; below = h }
  instance_of files class other r (Some (PrimitiveArray of)) e h = absurd (false≢true (sym other ∙ h))
  instance_of files class other r (Some (ReferenceArray of)) e h = absurd (false≢true (sym other ∙ h))

  -- and what is an instance is below its class
  pub instance_typed : (files : Program) (class : Name) (r : ℕ) → IsInstance files heap class r
      → is_object_in files (types_of heap) class r ≡ true
  instance_typed files class r h = subst (λ o. is_object_below files (ClassType class) o ≡ true) (sym h.type) h.below

-- ---- objects that stay

last_there : (t : ReferenceType) (os : List ReferenceType) → (u : ReferenceType) × (slice_get (t ∷ os) (length os) ≡ Some u)
last_there t [] = (t, refl)
last_there t (u ∷ os) = last_there u os

-- where each stays there are no fewer
extended_count : (os ps : List ReferenceType) → Extends os ps → length os ≤ length ps
extended_count [] ps x = omega arith
extended_count (t ∷ os) ps x =
    let last = last_there t os in
    let there = slice_get_within ps (length os) last.0 (x.keeps (length os) last.0 last.1) in
    omega (arith, there)

pub keeps_of : {A : Type 0} (before after : List (ObjectOf A)) → Extends (types_of before) (types_of after) → Keeps before after
keeps_of before after x =
    let count = extended_count (types_of before) (types_of after) x in
    let was = length-map before type_of in
    let is = length-map after type_of in
    record { types = x; count = omega (arith, count, was, is) }
