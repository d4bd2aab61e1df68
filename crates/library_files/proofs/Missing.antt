-- Where no name is unresolved, no class is missing, and none is added.
use Rattle.std.proofs.Common.{◌≡◌, ◌⊎◌, ◌∙◌, ℕ, zero, suc, ◌+◌, ◌<◌, List, [], ◌∷◌, ◌++◌, length, map, Bool, true, false, cond, ◌||◌, ◌&&◌, not, Option, Some, None, refl, sym, ap, subst, inl, inr, ⊎_elim, arith}
use Rattle.std.specs.List.{Contains, list_any, flat_map, filter_map, cons_option}
use Rattle.std.specs.Option.{option_map_or, option_to_list}
use Rattle.std.proofs.lemmas.Bool.{or_left, or_right}
use Rattle.std.proofs.lemmas.List.Elements.{Contains-append_cases}
use Rattle.model.specs.declared.class_file.ExceptionEntry.{ExceptionEntry}
use Rattle.model.specs.declared.instr.Instr.{Instr}
use Rattle.model.specs.Names.{Name}
use Rattle.model.specs.Tree.{Entry, CodeTree, MethodTree, FileTree}
use Rattle.model.specs.Instruction.{instr_at}
use Rattle.model.specs.Classes.{Program, super_name_of, interface_names, code_in}
use Rattle.model.specs.CodeParts.{boundaries, any_instruction}
use Rattle.model.specs.DescriptorParts.{classes_in, is_array_class}
use Rattle.model.specs.Hierarchy.{catch_class}
use Rattle.model.specs.Resolution.{is_missing, is_missing_catch, superclass_missing, interface_missing, catch_type_missing, declared_descriptors, declared_class_missing, operand_classes, operand_class_missing, unresolved_instruction, is_unresolved}
use Rattle.model.specs.Linkable.{stands, Unresolved}
use Rattle.library_files.specs.Needs.{plain_class, caught_classes, instructions_of, code_classes, codes_of, needed_classes}
use Rattle.library_files.specs.declared.library_class.LibraryClass.{LibraryClass}
use Rattle.library_files.specs.Adding.{LibraryFile, library_file, IsOffered, IsAdded, of_file, of_class, AreAdded}
use Rattle.library_files.proofs.Turns.{from_flat_map}

-- ---- elements

any_contained : {A : Type 0} (p : A → Bool) (xs : List A) (x : A) → Contains xs x → p x ≡ true → list_any p xs ≡ true
any_contained p [] x h so = absurd (omega (arith, h.1))
any_contained {A} p (first ∷ xs) x (zero, below, is) so = or_left (p first) (list_any p xs) (ap p is ∙ so)
any_contained p (first ∷ xs) x (suc k, below, is) so = or_right (p first) (list_any p xs) (any_contained p xs x (k, omega (arith, below), is) so)

from_filter_map : {A B : Type 0} (h : A → Option B) (xs : List A) (y : B) → Contains (filter_map h xs) y → (x : A) × Contains xs x × (h x ≡ Some y)
from_filter_map h [] y c = absurd (omega (arith, c.1))
from_filter_map {A} {B} h (x ∷ xs) y c =
    by (h x) refl (λ later. let rest = from_filter_map h xs y later in (rest.0, (suc rest.1.0, omega (arith, rest.1.1), rest.1.2), rest.2)) c
  where
    by : (o : Option B) → h x ≡ o → (Contains (filter_map h xs) y → (z : A) × Contains (x ∷ xs) z × (h z ≡ Some y))
        → Contains (cons_option o (filter_map h xs)) y → (z : A) × Contains (x ∷ xs) z × (h z ≡ Some y)
    by None e further c = further c
    by (Some z) e further (zero, below, is) = (x, (zero, omega arith, refl), e ∙ ap Some is)
    by (Some z) e further (suc k, below, is) = further (k, omega (arith, below), is)

of_option : {A : Type 0} (o : Option A) (x : A) → Contains (option_to_list o) x → o ≡ Some x
of_option None x h = absurd (omega (arith, h.1))
of_option (Some y) x (zero, below, is) = ap Some is
of_option (Some y) x (suc k, below, is) = absurd (omega (arith, below))

-- ---- a class that is needed and missing

module _ (files : Program) (file : FileTree) (name : Name) where
  by_superclass : superclass_missing files file ≡ true → is_unresolved files file ≡ true
  by_superclass h = or_left (superclass_missing files file) _ h

  by_interface : interface_missing files file ≡ true → is_unresolved files file ≡ true
  by_interface h = or_right (superclass_missing files file) _ (or_left (interface_missing files file) _ h)

  by_catch_type : catch_type_missing files file ≡ true → is_unresolved files file ≡ true
  by_catch_type h = or_right (superclass_missing files file) _ (or_right (interface_missing files file) _ (or_left (catch_type_missing files file) _ h))

  by_declared : declared_class_missing files file ≡ true → is_unresolved files file ≡ true
  by_declared h = or_right (superclass_missing files file) _ (or_right (interface_missing files file) _ (or_right (catch_type_missing files file) _ (or_left (declared_class_missing files file) _ h)))

  abbrev unresolved_in : MethodTree → Bool
  unresolved_in m = option_map_or (any_instruction (λ pc i. unresolved_instruction files file i)) (code_in m.parts) false

  abbrev caught_missing : ExceptionEntry → Bool
  caught_missing e = option_map_or (is_missing_catch files) (catch_class file.pool e) false

  abbrev catches_missing : MethodTree → Bool
  catches_missing m = option_map_or (λ (c : CodeTree). list_any caught_missing c.exceptions) (code_in m.parts) false

  by_instruction : list_any unresolved_in file.methods ≡ true → is_unresolved files file ≡ true
  by_instruction h = or_right (superclass_missing files file) _ (or_right (interface_missing files file) _ (or_right (catch_type_missing files file) _ (or_right (declared_class_missing files file) _ h)))

  caught_is : (e : ExceptionEntry) → Contains (caught_classes file.pool e) name → is_missing files name ≡ true → caught_missing e ≡ true
  caught_is e h missing = by (catch_class file.pool e) h
    where
      one : (other : Name) (b : Bool) → is_array_class other ≡ b → Contains (cond b [] (other ∷ [])) name → (not b && is_missing files other) ≡ true
      one other true a c = absurd (omega (arith, c.1))
      one other false a (zero, below, is) = ap (is_missing files) is ∙ missing
      one other false a (suc k, below, is) = absurd (omega (arith, below))

      by : (o : Option Name) → Contains (plain_class o) name → option_map_or (is_missing_catch files) o false ≡ true
      by None c = absurd (omega (arith, c.1))
      by (Some other) c = one other (is_array_class other) refl c

  in_code : (m : MethodTree) (c : CodeTree) → Contains file.methods m → code_in m.parts ≡ Some c → Contains (code_classes file.pool c) name
      → is_missing files name ≡ true → is_unresolved files file ≡ true
  unfolding code_classes
  in_code m c among is h missing = ⊎_elim
      (λ l.
      let i = from_flat_map (operand_classes file.pool) (instructions_of c) name l in
      let pc = from_filter_map (instr_at c.code) (boundaries c.code) i.0 i.1 in
      let absent : operand_class_missing files file i.0 ≡ true = any_contained (is_missing files) (operand_classes file.pool i.0) name i.2 missing in
      let stands_there : unresolved_instruction files file i.0 ≡ true = or_left (operand_class_missing files file i.0) _ absent in
      let at : option_map_or (unresolved_instruction files file) (instr_at c.code pc.0) false ≡ true = ap (λ (o : Option Instr). option_map_or (unresolved_instruction files file) o false) pc.2 ∙ stands_there in
      let in_it : any_instruction (λ pc i. unresolved_instruction files file i) c ≡ true = any_contained (λ pc. option_map_or (unresolved_instruction files file) (instr_at c.code pc) false) (boundaries c.code) pc.0 pc.1 at in
      by_instruction (any_contained unresolved_in file.methods m among (ap (λ (o : Option CodeTree). option_map_or (any_instruction (λ pc i. unresolved_instruction files file i)) o false) is ∙ in_it)))
      (λ r.
      let e = from_flat_map (caught_classes file.pool) c.exceptions name r in
      let in_it : list_any caught_missing c.exceptions ≡ true = any_contained caught_missing c.exceptions e.0 e.1 (caught_is e.0 e.2 missing) in
      by_catch_type (any_contained catches_missing file.methods m among (ap (λ (o : Option CodeTree). option_map_or (λ (c : CodeTree). list_any caught_missing c.exceptions) o false) is ∙ in_it)))
      (Contains-append_cases (flat_map (operand_classes file.pool) (instructions_of c)) (flat_map (caught_classes file.pool) c.exceptions) name h)

  pub unresolved_by : Contains (needed_classes file) name → is_missing files name ≡ true → is_unresolved files file ≡ true
  unfolding needed_classes
  unresolved_by h missing = ⊎_elim
      (λ super. by_superclass (ap (λ (o : Option Name). option_map_or (is_missing files) o false) (of_option (super_name_of file) name super) ∙ missing))
      (λ more. ⊎_elim
      (λ interface. by_interface (any_contained (is_missing files) (interface_names file) name interface missing))
      (λ others. ⊎_elim
      (λ declared. by_declared (any_contained (is_missing files) (flat_map classes_in (declared_descriptors file)) name declared missing))
      (λ coded.
      let c = from_flat_map (code_classes file.pool) (codes_of file) name coded in
      let m = from_filter_map (λ (m : MethodTree). code_in m.parts) file.methods c.0 c.1 in
      in_code m.0 c.0 m.1 m.2 c.2 missing)
      (Contains-append_cases (flat_map classes_in (declared_descriptors file)) (flat_map (code_classes file.pool) (codes_of file)) name others))
      (Contains-append_cases (interface_names file) _ name more))
      (Contains-append_cases (option_to_list (super_name_of file)) _ name h)

-- ---- none is added

module _ (library : List LibraryFile) (files : Program) where
  none_added : stands files Unresolved ≡ false → (class : LibraryFile) → IsAdded library files class → ⊥
  none_added resolved class (of_file file name class' among needs offered) =
      let so : stands files Unresolved ≡ true = any_contained (is_unresolved files) files file among (unresolved_by files file name needs offered.missing) in
      absurd cc
  none_added resolved class (of_class other tree name class' added spells needs offered) = none_added resolved other added

  pub nothing_added : (added : List LibraryFile) → AreAdded library files added → stands files Unresolved ≡ false → added ≡ []
  nothing_added [] are resolved = refl
  nothing_added (class ∷ added) are resolved = absurd (none_added resolved class (are.only class (zero, omega arith, refl)))

pub no_classes : (classes : List LibraryClass) → map library_file classes ≡ [] → classes ≡ []
no_classes [] e = refl
no_classes (class ∷ classes) e = absurd cc
