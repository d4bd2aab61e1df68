-- What decoding promises, from what reading gives.
use Rattle.std.proofs.Common.{◌≡◌, ℕ, List, Result, Ok, Err, IsTrue, true, false, refl, sym, ap, subst, ◌∙◌, inl, inr}
use Rattle.std.specs.Prelude.{IfOk, IfErr}
use Rattle.constant_pool.specs.declared.reading.fault.Malformed.{Malformed}
use Rattle.constant_pool.specs.declared.reading.fault.Cause.{Cause}
use Rattle.constant_pool.specs.declared.reading.fault.Cause.TheVariants as causes
use Rattle.constant_pool.specs.declared.reading.fault.Stop.{Stop}
use Rattle.constant_pool.specs.declared.reading.fault.Stop.TheVariants as stops
use Rattle.constant_pool.specs.reading.Reading.{is_field_cause, malformed_of}
use Rattle.constant_pool.proofs.reading.Laws.{IsBytes, done, failed, ok_is, at_place}
use Rattle.model.specs.Tree.{FileTree}
use Rattle.model.specs.Spells.{IsWhole}
use Rattle.model.specs.Spelling.{Layout}
use Rattle.class_tree.specs.declared.tree.ClassFile.{ClassFile}
use Rattle.class_tree.specs.View.{file_of}
use Rattle.classfile.specs.FileReading.{file_at}
use Rattle.class_tree.specs.Conditions.{Stands, StandsOrStops}
use Rattle.classfile.specs.Decoding.{Answers, Decodes, StopsAt, StandsAt, IsFaultOf}
use Rattle.classfile.proofs.Whole.{Fault, OfField, OfMagic, OfVersion, OfEnd, file_takes, file_again, fault_of}

pub found_of : (bytes : List ℕ) (r : Result ClassFile Malformed) → IsBytes bytes → Decodes r (file_at (at_place 0 bytes))
    → IfOk r (λ c. Layout bytes (file_of c))
found_of bytes (Ok c) small h = file_takes bytes (file_of c) small h
found_of bytes (Err e) small h = tt

pub only_of : (bytes : List ℕ) (r : Result ClassFile Malformed) → Decodes r (file_at (at_place 0 bytes)) → (c : FileTree) → Layout bytes c
    → Answers r c
only_of bytes (Ok x) h c l = let e : done (file_of x) ≡ done c = sym h ∙ file_again bytes c l in ok_is (file_of x) c e
only_of bytes (Err e) h c l = elim h [ inl k ↦ ap (λ (f : Malformed). f.cause) k | inr k ↦ (let clash : failed e ≡ done c = sym k ∙ file_again bytes c l in absurd cc) ]

-- ---- refusals

-- a fault of a field is the one with which reading ends
field_stands : (bytes : List ℕ) (cause : Cause) (offset : ℕ) → StopsAt bytes cause offset → IsTrue (is_field_cause cause)
    → StandsAt bytes cause offset
field_stands bytes causes.Truncated offset e h = e
field_stands bytes causes.Tag offset e h = e
field_stands bytes causes.Utf8 offset e h = e
field_stands bytes causes.Attribute offset e h = inl e
field_stands bytes causes.Magic offset e h = absurd cc
field_stands bytes causes.Version offset e h = absurd cc
field_stands bytes causes.Trailing offset e h = absurd cc
field_stands bytes causes.OutOfMemory offset e h = absurd cc
field_stands bytes causes.Index offset e h = absurd cc
field_stands bytes causes.Name offset e h = absurd cc
field_stands bytes causes.Descriptor offset e h = absurd cc
field_stands bytes causes.Duplicate offset e h = absurd cc
field_stands bytes causes.Code offset e h = absurd cc

fault_stands : (bytes : List ℕ) (f : Malformed) → file_at (at_place 0 bytes) ≡ Err f → Fault bytes f → StandsAt bytes f.cause f.offset
fault_stands bytes f e (OfField h) = field_stands bytes f.cause f.offset e h
fault_stands bytes f e (OfMagic is stands) = subst (λ cause. StandsAt bytes cause f.offset) (sym is) stands
fault_stands bytes f e (OfVersion is stands) = subst (λ cause. StandsAt bytes cause f.offset) (sym is) stands
fault_stands bytes f e (OfEnd is stands) = subst (λ cause. StandsAt bytes cause f.offset) (sym is) stands

pub refused_of : (bytes : List ℕ) (r : Result ClassFile Malformed) → IsBytes bytes → Decodes r (file_at (at_place 0 bytes))
    → IfErr r (IsFaultOf bytes)
refused_of bytes (Ok x) small h = tt
refused_of bytes (Err f) small h = elim h [ inl k ↦ inl k | inr k ↦ inr (fault_stands bytes f k (fault_of bytes f small k)) ]

-- a condition that a tree doesn't meet
cause_stands : (bytes : List ℕ) (c : FileTree) (cause : Cause) (offset : ℕ) → Layout bytes c → Stands cause c → StandsAt bytes cause offset
cause_stands bytes c causes.Index offset l h = (c, l, h)
cause_stands bytes c causes.Name offset l h = (c, l, h)
cause_stands bytes c causes.Descriptor offset l h = (c, l, h)
cause_stands bytes c causes.Attribute offset l h = inr (c, l, h)
cause_stands bytes c causes.Duplicate offset l h = (c, l, h)
cause_stands bytes c causes.Truncated offset l h = absurd h
cause_stands bytes c causes.Magic offset l h = absurd h
cause_stands bytes c causes.Version offset l h = absurd h
cause_stands bytes c causes.Tag offset l h = absurd h
cause_stands bytes c causes.Utf8 offset l h = absurd h
cause_stands bytes c causes.Trailing offset l h = absurd h
cause_stands bytes c causes.OutOfMemory offset l h = absurd h
cause_stands bytes c causes.Code offset l h = absurd h

pub condition_stands : (bytes : List ℕ) (c : FileTree) (stop : Stop) → Layout bytes c → StandsOrStops stop c
    → IsFaultOf bytes (malformed_of stop)
condition_stands bytes c stops.Memory l h = inl refl
condition_stands bytes c (stops.Fault f) l h = inr (cause_stands bytes c f.cause f.offset l h)

-- where a condition stands, not all are met
pub stands_not : (cause : Cause) (c : FileTree) → Stands cause c → IsWhole c → ⊥
stands_not causes.Index c h k = let clash : true ≡ false = sym k.indices ∙ h in absurd cc
stands_not causes.Name c h k = let clash : true ≡ false = sym k.names ∙ h in absurd cc
stands_not causes.Descriptor c h k = let clash : true ≡ false = sym k.descriptors ∙ h in absurd cc
stands_not causes.Attribute c h k = let clash : true ≡ false = sym k.attributes ∙ h in absurd cc
stands_not causes.Duplicate c h k = let clash : true ≡ false = sym k.members ∙ h in absurd cc
stands_not causes.Truncated c h k = h
stands_not causes.Magic c h k = h
stands_not causes.Version c h k = h
stands_not causes.Tag c h k = h
stands_not causes.Utf8 c h k = h
stands_not causes.Trailing c h k = h
stands_not causes.OutOfMemory c h k = h
stands_not causes.Code c h k = h

pub stops_not : (stop : Stop) (c : FileTree) → StandsOrStops stop c → IsWhole c → (malformed_of stop).cause ≡ causes.OutOfMemory
stops_not stops.Memory c h k = refl
stops_not (stops.Fault e) c h k = absurd (stands_not e.cause c h k)
