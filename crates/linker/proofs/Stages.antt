-- What the parts of linking leave for the next ones.
use Rattle.std.proofs.Common.{◌≡◌, ℕ, Bool, true, false, not, List, refl, sym, ap, subst, inl, inr, ⊎_elim, ◌∙◌, Option, Some}
use Rattle.std.specs.Prelude.{slice_get}
use Rattle.std.specs.Option.{option_and_then, option_map_or}
use Rattle.std.specs.List.{list_any}
use Rattle.std.proofs.lemmas.Bool.{and_parts, both_ways, or_left, or_right}
use Rattle.model.specs.Tree.{FileTree}
use Rattle.model.specs.Classes.{Program}
use Rattle.model.specs.Profile.{is_outside_profile}
use Rattle.model.specs.CodeConditions.{has_malformed_code}
use Rattle.model.specs.Hierarchy.{in_cycle, has_bad_hierarchy}
use Rattle.model.specs.Resolution.{is_unresolved}
use Rattle.model.specs.Linkable.{LinkCondition, TooLarge, DuplicateClass, OutsideProfile, MalformedCode, BadHierarchy, Unresolved, TooManyFields, NoMain, too_many_fields, stands, stands_first, some_stands, earlier, before_walk, before_links, all_conditions, AreSpelled}
use Rattle.constant_pool.specs.declared.reading.fault.Cause.{Cause}
use Rattle.link_conditions.specs.declared.refusal.why.RefusalKind.{RefusalKind}
use Rattle.link_conditions.specs.declared.refusal.why.RefusalKind.TheVariants as kinds
use Rattle.classfile.specs.declared.profile.fault.Flaw.{Flaw}
use Rattle.classfile.specs.declared.profile.fault.Flaw.TheVariants as flaws
use Rattle.classfile.specs.profile.Faults.{has_flaw}
use Rattle.linker.specs.Linking.{IsFaultRefusal, size_condition, IsRefusedWith, MayRefuse, IsUnreadable, IsFirst, RefusesTrees, RefusesFor, WalkRefuses}
use Rattle.linker.proofs.Lists.{alone}
use Rattle.hierarchy.proofs.Finding.{one_at}

-- ---- a condition stands first

pub stands_now : (trees : Program) (condition : LinkCondition) → stands trees condition ≡ true
    → list_any (stands trees) (earlier condition) ≡ false → stands_first trees condition ≡ true
stands_now trees condition h none = alone (stands trees condition) (list_any (stands trees) (earlier condition)) h none

-- in the file with a number
named_at : (p : FileTree → Bool) (trees : Program) (tree : FileTree) (number : ℕ) (file : Option ℕ) → slice_get trees number ≡ Some tree
    → file ≡ Some number → p tree ≡ true → option_map_or p (option_and_then (slice_get trees) file) false ≡ true
named_at p trees tree number file at e h = ap (λ o. option_map_or p (option_and_then (slice_get trees) o) false) e ∙ ap (λ o. option_map_or p o false) at ∙ h

pub outside_first : (trees : Program) (tree : FileTree) (number : ℕ) (file : Option ℕ) → list_any (stands trees) before_walk ≡ false
    → slice_get trees number ≡ Some tree → file ≡ Some number → is_outside_profile tree ≡ true → IsFirst OutsideProfile trees file
outside_first trees tree number file none at e h = record {
  first = stands_now trees OutsideProfile (one_at is_outside_profile trees number tree at h) none;
  named = named_at is_outside_profile trees tree number file at e h;
}

pub malformed_first : (trees : Program) (tree : FileTree) (number : ℕ) (file : Option ℕ) → list_any (stands trees) before_walk ≡ false
    → slice_get trees number ≡ Some tree → file ≡ Some number → has_malformed_code trees tree ≡ true → IsFirst MalformedCode trees file
malformed_first trees tree number file none at e h = record {
  first = stands_now trees MalformedCode (one_at (has_malformed_code trees) trees number tree at h) none;
  named = named_at (has_malformed_code trees) trees tree number file at e h;
}

pub rules_first : (trees : Program) (tree : FileTree) (number : ℕ) (file : Option ℕ) → list_any (stands trees) before_links ≡ false
    → slice_get trees number ≡ Some tree → file ≡ Some number → has_bad_hierarchy trees tree ≡ true → IsFirst BadHierarchy trees file
rules_first trees tree number file none at e h = record {
  first = stands_now trees BadHierarchy (one_at (has_bad_hierarchy trees) trees number tree at h) none;
  named = named_at (has_bad_hierarchy trees) trees tree number file at e h;
}

pub names_first : (trees : Program) (tree : FileTree) (number : ℕ) (file : Option ℕ) → list_any (stands trees) (earlier Unresolved) ≡ false
    → slice_get trees number ≡ Some tree → file ≡ Some number → is_unresolved trees tree ≡ true → IsFirst Unresolved trees file
names_first trees tree number file none at e h = record {
  first = stands_now trees Unresolved (one_at (is_unresolved trees) trees number tree at h) none;
  named = named_at (is_unresolved trees) trees tree number file at e h;
}

pub fields_first : (trees : Program) (tree : FileTree) (number : ℕ) (file : Option ℕ)
    → list_any (stands trees) (earlier TooManyFields) ≡ false → slice_get trees number ≡ Some tree → file ≡ Some number
    → too_many_fields trees tree ≡ true → IsFirst TooManyFields trees file
fields_first trees tree number file none at e h = record {
  first = stands_now trees TooManyFields (one_at (too_many_fields trees) trees number tree at h) none;
  named = named_at (too_many_fields trees) trees tree number file at e h;
}

-- ---- refusals of trees

pub memory_refused : (trees : Program) (kind : RefusalKind) (file : Option ℕ) (cause : Option Cause) → kind ≡ kinds.OutOfMemory
    → RefusesTrees trees kind file cause
memory_refused trees kind file cause e = subst (λ k. RefusesTrees trees k file cause) (sym e) tt

pub walk_refused : (trees : Program) (tree : FileTree) (number : ℕ) (kind : RefusalKind) (file : Option ℕ) (cause : Option Cause)
    → list_any (stands trees) before_walk ≡ false → slice_get trees number ≡ Some tree
    → WalkRefuses trees tree number kind file cause → RefusesTrees trees kind file cause
walk_refused trees tree number kind file cause none at (inl (inl e)) = memory_refused trees kind file cause e
walk_refused trees tree number kind file cause none at (inl (inr r)) =
    subst (λ k. RefusesTrees trees k file cause) (sym r.0) (outside_first trees tree number file none at r.1 r.2)
walk_refused trees tree number kind file cause none at (inr r) =
    ⊎_elim (λ e. memory_refused trees kind file cause e)
    (λ s. subst (λ k. RefusesTrees trees k file cause) (sym s.0) (r.0, malformed_first trees tree number file none at s.1 s.2)) r.1

pub rules_refused : (trees : Program) (tree : FileTree) (number : ℕ) (kind : RefusalKind) (file : Option ℕ) (cause : Option Cause)
    → list_any (stands trees) before_links ≡ false → slice_get trees number ≡ Some tree
    → RefusesFor kinds.BadHierarchy (has_bad_hierarchy trees tree) number kind file → RefusesTrees trees kind file cause
rules_refused trees tree number kind file cause none at (inl e) = memory_refused trees kind file cause e
rules_refused trees tree number kind file cause none at (inr r) = subst (λ k. RefusesTrees trees k file cause) (sym r.0) (rules_first trees tree number file none at r.1 r.2)

pub names_refused : (trees : Program) (tree : FileTree) (number : ℕ) (kind : RefusalKind) (file : Option ℕ) (cause : Option Cause)
    → list_any (stands trees) (earlier Unresolved) ≡ false → slice_get trees number ≡ Some tree
    → RefusesFor kinds.Unresolved (is_unresolved trees tree) number kind file → RefusesTrees trees kind file cause
names_refused trees tree number kind file cause none at (inl e) = memory_refused trees kind file cause e
names_refused trees tree number kind file cause none at (inr r) = subst (λ k. RefusesTrees trees k file cause) (sym r.0) (names_first trees tree number file none at r.1 r.2)

-- ---- refusals of files

refused_with : (condition : LinkCondition) (files : List (List ℕ)) (trees : Program) (file : Option ℕ) → AreSpelled files trees
    → IsFirst condition trees file → IsRefusedWith condition files file
refused_with condition files trees file spelled r = record { trees = trees; refused = record { spelled = spelled; first = r.first }; named = r.named }

pub may_refuse : (files : List (List ℕ)) (trees : Program) (kind : RefusalKind) (file offset : Option ℕ) (cause : Option Cause)
    → AreSpelled files trees → RefusesTrees trees kind file cause → MayRefuse files kind file offset cause
may_refuse files trees kinds.OutOfMemory file offset cause s r = tt
may_refuse files trees kinds.Malformed file offset cause s r = inr (r.0, refused_with MalformedCode files trees file s r.1)
may_refuse files trees kinds.OutsideProfile file offset cause s r = refused_with OutsideProfile files trees file s r
may_refuse files trees kinds.DuplicateClass file offset cause s r = refused_with DuplicateClass files trees file s r
may_refuse files trees kinds.Unresolved file offset cause s r = refused_with Unresolved files trees file s r
may_refuse files trees kinds.BadHierarchy file offset cause s r = refused_with BadHierarchy files trees file s r
may_refuse files trees kinds.Unverified file offset cause s r = absurd r
may_refuse files trees kinds.NoMain file offset cause s r = refused_with NoMain files trees file s r
may_refuse files trees kinds.TooLarge file offset cause s r = refused_with (size_condition file) files trees file s r

pub unread_refused : (files : List (List ℕ)) (kind : RefusalKind) (file offset : Option ℕ) (cause : Option Cause)
    → IsUnreadable files kind file offset cause → MayRefuse files kind file offset cause
unread_refused files kind file offset cause (inl e) = subst (λ k. MayRefuse files k file offset cause) (sym e) tt
unread_refused files kind file offset cause (inr r) = subst (λ k. MayRefuse files k file offset cause) (sym r.0) (inl r.1)

-- ---- no condition stands in files that may be linked

among_all : (s : LinkCondition → Bool) (condition : LinkCondition) → s condition ≡ true → list_any s all_conditions ≡ true
among_all s NoMain h = or_left (s NoMain) _ h
among_all s TooManyFields h = or_right (s NoMain) _ (or_left (s TooManyFields) _ h)
among_all s Unresolved h = or_right (s NoMain) _ (or_right (s TooManyFields) _ (or_left (s Unresolved) _ h))
among_all s BadHierarchy h = or_right (s NoMain) _ (or_right (s TooManyFields) _ (or_right (s Unresolved) _ (or_left (s BadHierarchy) _ h)))
among_all s OutsideProfile h = or_right (s NoMain) _ (or_right (s TooManyFields) _ (or_right (s Unresolved) _ (or_right (s BadHierarchy) _ (or_left (s OutsideProfile) _ h))))
among_all s MalformedCode h = or_right (s NoMain) _ (or_right (s TooManyFields) _ (or_right (s Unresolved) _ (or_right (s BadHierarchy) _ (or_right (s OutsideProfile) _ (or_left (s MalformedCode) _ h)))))
among_all s TooLarge h = or_right (s NoMain) _ (or_right (s TooManyFields) _ (or_right (s Unresolved) _ (or_right (s BadHierarchy) _ (or_right (s OutsideProfile) _ (or_right (s MalformedCode) _ (or_left (s TooLarge) _ h))))))
among_all s DuplicateClass h =
    or_right (s NoMain) _ (or_right (s TooManyFields) _ (or_right (s Unresolved) _ (or_right (s BadHierarchy) _ (or_right (s OutsideProfile) _ (or_right (s MalformedCode) _ (or_right (s TooLarge) _ (or_left (s DuplicateClass) _ h)))))))

contradicts : {G : Type 0} (trees : Program) (condition : LinkCondition) (file : Option ℕ) → some_stands trees ≡ false
    → IsFirst condition trees file → G
contradicts trees condition file none r =
    absurd (both_ways (some_stands trees) none (among_all (stands trees) condition (and_parts (stands trees condition) (not (list_any (stands trees) (earlier condition))) r.first).0))

pub refused_memory : (trees : Program) (kind : RefusalKind) (file : Option ℕ) (cause : Option Cause) → some_stands trees ≡ false
    → RefusesTrees trees kind file cause → kind ≡ kinds.OutOfMemory
refused_memory trees kinds.OutOfMemory file cause none r = refl
refused_memory trees kinds.Malformed file cause none r = contradicts trees MalformedCode file none r.1
refused_memory trees kinds.OutsideProfile file cause none r = contradicts trees OutsideProfile file none r
refused_memory trees kinds.DuplicateClass file cause none r = contradicts trees DuplicateClass file none r
refused_memory trees kinds.Unresolved file cause none r = contradicts trees Unresolved file none r
refused_memory trees kinds.BadHierarchy file cause none r = contradicts trees BadHierarchy file none r
refused_memory trees kinds.Unverified file cause none r = absurd r
refused_memory trees kinds.NoMain file cause none r = contradicts trees NoMain file none r
refused_memory trees kinds.TooLarge file cause none r = contradicts trees (size_condition file) file none r

-- TooLarge of a file is that of its class's fields
pub fields_refused : (trees : Program) (tree : FileTree) (number : ℕ) (kind : RefusalKind) (file : Option ℕ) (cause : Option Cause)
    → list_any (stands trees) (earlier TooManyFields) ≡ false → slice_get trees number ≡ Some tree
    → kind ≡ kinds.TooLarge → file ≡ Some number → too_many_fields trees tree ≡ true → RefusesTrees trees kind file cause
fields_refused trees tree number kind file cause none at is named h =
    subst (λ k. RefusesTrees trees k file cause) (sym is)
    (subst (λ f. RefusesTrees trees kinds.TooLarge f cause) (sym named) (fields_first trees tree number (Some number) none at refl h))

-- a class that is above itself
pub cycle_refused : (trees : Program) (tree : FileTree) (number : ℕ) (kind : RefusalKind) (file : Option ℕ) (cause : Option Cause)
    → list_any (stands trees) before_links ≡ false → slice_get trees number ≡ Some tree → in_cycle trees tree ≡ true
    → kind ≡ kinds.BadHierarchy → file ≡ Some number → RefusesTrees trees kind file cause
cycle_refused trees tree number kind file cause none at h is named =
    subst (λ k. RefusesTrees trees k file cause) (sym is) (rules_first trees tree number file none at named (or_left (in_cycle trees tree) _ h))

-- a fault that is found
pub fault_refused : (trees : Program) (tree : FileTree) (number : ℕ) (flaw : Flaw) (kind : RefusalKind) (file : Option ℕ)
    (cause : Option Cause) → has_flaw trees tree flaw ≡ true → IsFaultRefusal flaw number kind file cause
    → WalkRefuses trees tree number kind file cause
fault_refused trees tree number flaws.OutsideProfile kind file cause h r = inl (inr (r.0, r.1, h))
fault_refused trees tree number flaws.MalformedCode kind file cause h r = inr (r.2, inr (r.0, r.1, h))
