-- Why class files are not accepted.
use Rattle.std.proofs.Common.{◌≡◌, ◌⊎◌, ℕ, suc, ◌<◌, List, [], ◌∷◌, length, Option, None, Some, inl, inr, refl, sym, ap, subst, ◌∙◌}
use Rattle.std.specs.Prelude.{slice_get}
use Rattle.std.specs.Option.{option_and_then, option_map, option_map_or}
use Rattle.std.proofs.lemmas.List.{append-nil}
use Rattle.std.proofs.lemmas.Option.{same_Some}
use Rattle.model.specs.declared.device.DeviceFault.{DeviceFault}
use Rattle.model.specs.declared.device.DeviceFault.TheVariants as devices
use Rattle.model.specs.Devices.{AppendsFront}
use Rattle.model.specs.Names.{Member}
use Rattle.model.specs.Tree.{FileTree, MethodTree, CodeTree}
use Rattle.model.specs.Classes.{Program, Body, with_pool, name_of, class_of, code_in, body_in, body_of}
use Rattle.model.specs.Linkable.{AreSpelled, IsLinkable}
use Rattle.model.specs.Typing.{AreTyped}
use Rattle.hierarchy.specs.Places.{class_at, name_at}
use Rattle.types.specs.method_code.Linked.{IsLinked}
use Rattle.types.specs.method_code.View.{member_named, shown_in, shown_at}
use Rattle.types.proofs.method_code.Declared.{declared_at}
use Rattle.linker.specs.Linking.{MayRefuse}
use Rattle.linker.specs.Telling.{TellsLineOf}
use Rattle.library_files.specs.Adding.{LibraryFile}
use Rattle.verifier.specs.Steps.{most_steps, all_steps}
use Rattle.verifier.specs.Places.{IsUnverified, IsTooLong, Refuses}
use Rattle.link_conditions.specs.declared.refusal.why.Refusal.{Refusal}
use Rattle.link_conditions.specs.declared.refusal.why.RefusalKind.TheVariants as kinds
use Rattle.engines.specs.Devices.{fault_of}
use Rattle.engines.specs.Engines.{IsOfFile}
use Rattle.engines.specs.Refusals.{IsRefused}
use Rattle.engines.specs.Verifications.{IsUnaccepted, VerifiesFront}
use Rattle.engines.specs.declared.fault.Fault.{Fault}
use Rattle.engines.specs.declared.fault.Fault.TheVariants as faults

-- ---- counts

-- a tree for each file
pub spelled_count : (files : List (List ℕ)) (trees : Program) → AreSpelled files trees → length trees ≡ length files
spelled_count [] [] h = refl
spelled_count (bytes ∷ files) (tree ∷ trees) h = ap suc (spelled_count files trees h.1)
spelled_count [] (tree ∷ trees) h = absurd h
spelled_count (bytes ∷ files) [] h = absurd h

-- ---- what verification refuses

abbrev shown_code : FileTree → MethodTree → CodeTree → Member × Body
shown_code file m code = (member_named (name_of file) file.pool m.name m.descriptor, with_pool file.pool code)

-- the body of a method that stands at a place is the one that the model finds
module _ (files : Program) (linked : IsLinked files) (class k : ℕ) (member : Member) (body : Body) where
  by_code : (file : FileTree) → class_at files class ≡ Some file → (m : MethodTree) → slice_get file.methods k ≡ Some m
      → (o : Option CodeTree) → code_in m.parts ≡ o
      → option_map (shown_code file m) o ≡ Some (member, body) → body_of files member ≡ Some body
  by_code file c m s None q e = absurd cc
  by_code file c m s (Some code) q e =
      let declared = declared_at files class k file m code linked c s q in
      let name : name_at files class ≡ name_of file = ap (λ o. option_map_or name_of o []) c in
      let of_file = member_named (name_of file) file.pool m.name m.descriptor in
      let found : body_of files of_file ≡ Some (with_pool file.pool code) =
      ap (option_and_then (body_in of_file.name of_file.descriptor)) (ap (class_of files) (sym name) ∙ declared.is_class)
      ∙ ap (λ o. option_map (with_pool file.pool) (option_and_then (λ (m : MethodTree). code_in m.parts) o)) declared.is_method
      ∙ ap (option_map (with_pool file.pool)) declared.is_code in
      let shown : Member × Body = shown_code file m code in
      let given : Member × Body = (member, body) in
      let same : shown ≡ given = same_Some shown given e in
      ap (body_of files) (sym (ap (λ (p : Member × Body). p.0) same)) ∙ found ∙ ap (λ (p : Member × Body). Some p.1) same

  by_method : (file : FileTree) → class_at files class ≡ Some file → (o : Option MethodTree) → slice_get file.methods k ≡ o
      → option_and_then (shown_in file) o ≡ Some (member, body) → body_of files member ≡ Some body
  by_method file c None s e = absurd cc
  by_method file c (Some m) s e = by_code file c m s (code_in m.parts) refl e

  by_class : (o : Option FileTree) → class_at files class ≡ o
      → option_and_then (λ (file : FileTree). option_and_then (shown_in file) (slice_get file.methods k)) o ≡ Some (member, body)
      → body_of files member ≡ Some body
  by_class None c e = absurd cc
  by_class (Some file) c e = by_method file c (slice_get file.methods k) refl e

  shown_body : shown_at files class k ≡ Some (member, body) → body_of files member ≡ Some body
  shown_body e = by_class (class_at files class) refl e

-- where a method has no typing, not all methods have one
untyped : (files : Program) (refusal : Refusal) → IsLinked files → IsUnverified files refusal → AreTyped files → ⊥
untyped files refusal linked of_method typed =
    let has = typed of_method.member of_method.body (shown_body files linked of_method.class of_method.method of_method.member of_method.body of_method.stands) in
    of_method.none has.typing has.holds

-- ---- refusals

pub linking_refuses : (files : List (List ℕ)) (refusal : Refusal)
    → ((trees : Program) → IsLinkable files trees → refusal.kind ≡ kinds.OutOfMemory)
    → MayRefuse files refusal.kind refusal.file refusal.offset refusal.cause → TellsLineOf files refusal.kind refusal
    → IsRefused files refusal
linking_refuses files refusal only may line = record {
  accepted = λ trees accepted. inl (only trees accepted.linkable);
  stands = inl (may, line);
}

-- of linked classes: memory is wanted, or a method has no typing, or their verification may take too many steps
refused_of_typed : (linked : Program) (refusal : Refusal) → IsLinked linked → AreTyped linked → Refuses linked most_steps refusal
    → (refusal.kind ≡ kinds.OutOfMemory) ⊎ IsTooLong linked (all_steps linked) most_steps refusal
refused_of_typed linked refusal is_linked typed (inl kind) = inl kind
refused_of_typed linked refusal is_linked typed (inr (inl of_method)) = absurd (untyped linked refusal is_linked of_method typed)
refused_of_typed linked refusal is_linked typed (inr (inr long)) = inr long

pub verification_refuses : (files : List (List ℕ)) (linked : Program) (refusal : Refusal) → IsLinkable files linked
    → ((trees : Program) → IsLinkable files trees → linked ≡ trees) → Refuses linked most_steps refusal → IsRefused files refusal
verification_refuses files linked refusal linkable sole refused = record {
  accepted = λ trees accepted.
      let same = sole trees accepted.linkable in
      subst (λ trees. (refusal.kind ≡ kinds.OutOfMemory) ⊎ IsTooLong trees (all_steps trees) most_steps refusal) same
      (refused_of_typed linked refusal (files, linkable) (subst AreTyped (sym same) accepted.typed) refused);
  stands = inr (linked, linkable, refused);
}

-- ---- faults

-- a class file isn't read, and nothing is written
pub unread_is_unaccepted : (fault : Fault) (given : ℕ) (own : List LibraryFile) (lefts : List (Option (List ℕ))) (held : Option (List ℕ)) (file : ℕ) → file < length lefts
    → IsOfFile file fault → IsUnaccepted given own lefts held held fault
unread_is_unaccepted faults.Device given own lefts held file within of_file = inl refl
unread_is_unaccepted faults.Memory given own lefts held file within of_file = absurd of_file
unread_is_unaccepted (faults.Schedule fault) given own lefts held file within of_file = absurd of_file
unread_is_unaccepted (faults.Text fault) given own lefts held file within of_file = absurd of_file
unread_is_unaccepted (faults.Place missing) given own lefts held file within of_file = absurd of_file
unread_is_unaccepted (faults.Refusal refusal) given own lefts held file within of_file = (refl, inl (file, within, of_file))

-- nothing is a front of each text
pub none_written : (held : Option (List ℕ)) (text : List ℕ) → AppendsFront held held text
none_written None text = ([], text, refl, tt)
none_written (Some bytes) text = ([], text, refl, sym (append-nil bytes))

-- the writing stops
pub front_is_unaccepted : (fault : DeviceFault) (given : ℕ) (own : List LibraryFile) (lefts : List (Option (List ℕ))) (old new : Option (List ℕ)) → VerifiesFront given own lefts old new
    → IsUnaccepted given own lefts old new (fault_of fault)
front_is_unaccepted devices.Device given own lefts old new front = inr front
front_is_unaccepted devices.Memory given own lefts old new front = front
