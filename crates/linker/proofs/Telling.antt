-- What the lines of refusals tell, from the parts of linking to the whole.
use Rattle.std.proofs.Common.{◌≡◌, ◌<◌, ℕ, List, length, true, refl, sym, subst, inl, inr, ◌∙◌, get_or, map, take, Some, None, Vec, Global, vec_items}
use Rattle.std.specs.Prelude.{slice_get}
use Rattle.std.proofs.lemmas.List.{take-map}
use Rattle.model.specs.Tree.{FileTree}
use Rattle.model.specs.Classes.{Program}
use Rattle.model.specs.Hierarchy.{in_cycle, has_bad_hierarchy}
use Rattle.model.specs.Resolution.{is_unresolved}
use Rattle.model.specs.Linkable.{AreSpelled, too_many_fields}
use Rattle.link_conditions.specs.refusal.Memory.{memory_wanted}
use Rattle.link_conditions.specs.declared.refusal.why.Refusal.{Refusal}
use Rattle.link_conditions.specs.declared.refusal.why.RefusalKind.{RefusalKind}
use Rattle.link_conditions.specs.declared.refusal.why.RefusalKind.TheVariants as kinds
use Rattle.classfile.specs.profile.Faults.{Finds}
use Rattle.classfile.specs.declared.profile.fault.Fault.{Fault}
use Rattle.classfile.specs.declared.profile.fault.Flaw.{Flaw}
use Rattle.classfile.specs.declared.profile.fault.Flaw.TheVariants as flaws
use Rattle.linker.specs.Linking.{IsUnreadable, IsFaultRefusal}
use Rattle.linker.specs.Telling.{Tells, TellsFault, TellsUnread, TellsWalk, TellsRuleOf, TellsNameOf, NoneOf, NoFault, MayBeRead, IsOf, IsFirstTooLarge, TellsLine, TellsLineOf}
use Rattle.linker.proofs.Decoded.{bytes_at}

-- ---- a file that is read

pub unread_tells : (files : List (Vec ℕ Global)) (i : ℕ) (file : Vec ℕ Global) (bytes : List ℕ) (trees : Program) (r : Refusal)
    → i < length files → file ≡ get_or files i file → bytes ≡ file.items → AreSpelled (map vec_items (take i files)) trees
    → IsUnreadable (map vec_items files) r.kind r.file r.offset r.cause → TellsUnread i r → TellsLineOf (map vec_items files) r.kind r
unread_tells files i file bytes trees r lt at e found unread (inl s) =
    let before = subst (λ (l : List (List ℕ)). AreSpelled l trees) (sym (take-map vec_items i files)) found in
    subst (λ k. TellsLineOf (map vec_items files) k r) (sym s.0.0)
    (subst (MayBeRead (map vec_items files)) (sym s.0.1) (bytes, trees, bytes_at files i file bytes lt at e, before), s.1)
unread_tells files i file bytes trees r lt at e found (inl memory) (inr s) = let no : kinds.OutOfMemory ≡ kinds.Malformed = sym memory ∙ s.0.0 in absurd cc
unread_tells files i file bytes trees r lt at e found (inr u) (inr s) = subst (λ k. TellsLineOf (map vec_items files) k r) (sym u.0) (inl (u.1, s.1))

-- ---- the class of a file

pub memory_tells : (trees : Program) (r : Refusal) → r ≡ memory_wanted → TellsLine trees r.kind r
memory_tells trees r e = subst (λ x. TellsLine trees x.kind x) (sym e) refl

-- a fault that is found
pub fault_tells : (trees : Program) (number : ℕ) (tree : FileTree) (fault : Fault) (r : Refusal) → Finds trees tree (Some fault)
    → IsFaultRefusal fault.flaw number r.kind r.file r.cause → TellsFault tree fault.flaw fault.place r → TellsWalk trees number tree r
fault_tells trees number tree fault r found = by fault.flaw refl
  where
    by : (flaw : Flaw) → fault.flaw ≡ flaw → IsFaultRefusal flaw number r.kind r.file r.cause → TellsFault tree flaw fault.place r
        → TellsWalk trees number tree r
    by flaws.OutsideProfile is s t = inr (inl ((s.0, s.1), record { fault = fault; flawed = is; first = found.0; told = t }))
    by flaws.MalformedCode is s t = inr (inr ((s.0, s.1), record { fault = fault; flawed = is; first = found.0; told = t }))

pub walk_tells : (trees : Program) (number : ℕ) (tree : FileTree) (r : Refusal) → slice_get trees number ≡ Some tree
    → NoFault trees (take number trees) → TellsWalk trees number tree r → TellsLine trees r.kind r
walk_tells trees number tree r at before (inl e) = memory_tells trees r e
walk_tells trees number tree r at before (inr (inl s)) =
    subst (λ k. TellsLine trees k r) (sym s.0.0)
    (record { number = number; tree = tree; named = s.0.1; stands = at; before = before; told = s.1 })
walk_tells trees number tree r at before (inr (inr s)) =
    subst (λ k. TellsLine trees k r) (sym s.0.0)
    (record { number = number; tree = tree; named = s.0.1; stands = at; before = before; told = s.1 })

pub rules_tell : (trees : Program) (number : ℕ) (tree : FileTree) (r : Refusal) → slice_get trees number ≡ Some tree
    → NoneOf (in_cycle trees) trees → NoneOf (has_bad_hierarchy trees) (take number trees) → TellsRuleOf trees number tree r
    → TellsLine trees r.kind r
rules_tell trees number tree r at acyclic before (inl e) = memory_tells trees r e
rules_tell trees number tree r at acyclic before (inr s) =
    subst (λ k. TellsLine trees k r) (sym s.0.0)
    (inr (acyclic, record { number = number; tree = tree; named = s.0.1; stands = at; before = before; told = s.1 }))

pub cycle_tells : (trees : Program) (number : ℕ) (tree : FileTree) (r : Refusal) → slice_get trees number ≡ Some tree
    → NoneOf (in_cycle trees) (take number trees) → in_cycle trees tree ≡ true → IsOf kinds.BadHierarchy number r → Tells None None r
    → TellsLine trees r.kind r
cycle_tells trees number tree r at before h s t =
    subst (λ k. TellsLine trees k r) (sym s.0)
    (inl (record { number = number; tree = tree; named = s.1; stands = at; before = before; told = (h, t) }))

pub names_tell : (trees : Program) (number : ℕ) (tree : FileTree) (r : Refusal) → slice_get trees number ≡ Some tree
    → NoneOf (is_unresolved trees) (take number trees) → TellsNameOf trees number tree r → TellsLine trees r.kind r
names_tell trees number tree r at before (inl e) = memory_tells trees r e
names_tell trees number tree r at before (inr s) =
    subst (λ k. TellsLine trees k r) (sym s.0.0)
    (record { number = number; tree = tree; named = s.0.1; stands = at; before = before; told = s.1 })

pub fields_tell : (trees : Program) (number : ℕ) (r : Refusal) → NoneOf (too_many_fields trees) (take number trees)
    → IsOf kinds.TooLarge number r → Tells None None r → TellsLine trees r.kind r
fields_tell trees number r before s t =
    subst (λ k. TellsLine trees k r) (sym s.0) (t, subst (λ f. IsFirstTooLarge trees f) (sym s.1) before)

-- ---- files

pub of_files : (files : List (List ℕ)) (trees : Program) (r : Refusal) → AreSpelled files trees → TellsLine trees r.kind r
    → TellsLineOf files r.kind r
of_files files trees r spelled = by r.kind
  where
    by : (kind : RefusalKind) → TellsLine trees kind r → TellsLineOf files kind r
    by kinds.Malformed t = inr (trees, spelled, t)
    by kinds.OutsideProfile t = (trees, spelled, t)
    by kinds.DuplicateClass t = (trees, spelled, t)
    by kinds.Unresolved t = (trees, spelled, t)
    by kinds.BadHierarchy t = (trees, spelled, t)
    by kinds.Unverified t = absurd t
    by kinds.NoMain t = (trees, spelled, t)
    by kinds.TooLarge t = (trees, spelled, t)
    by kinds.OutOfMemory t =
        (subst (λ (x : Refusal). MayBeRead files x.file) (sym t) tt, subst (Tells None None) (sym t) (record { method = refl; offset = refl; cause = refl }))
