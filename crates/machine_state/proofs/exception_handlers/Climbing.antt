-- From class to class up to Error.
use Rattle.std.proofs.Common.{◌≡◌, ◌∙◌, ℕ, suc, zero, true, false, List, [], ◌∷◌, length, refl, sym, ap, subst, Option, Some, None}
use Rattle.std.specs.Prelude.{slice_get, ◌==◌, ◌||◌}
use Rattle.std.specs.Option.{option_map_or, option_and_then}
use Rattle.model.specs.Names.{Name, name_eq, java_lang_error}
use Rattle.model.specs.Tree.{FileTree}
use Rattle.model.specs.Classes.{Program, name_of, classes_of, superclass_of, is_within, is_subclass}
use Rattle.model.specs.Linkable.{IsLinkable}
use Rattle.linked_code.specs.declared.class.LinkedClass.{LinkedClass}
use Rattle.linked_code.specs.declared.program.LinkedProgram.{LinkedProgram}
use Rattle.linked_code.specs.Numbers.{IsClassAt, IsClassIf}
use Rattle.linked_code.specs.Programs.{AreClasses, IsLinkedProgram}
use Rattle.machine_state.specs.method_selection.Rows.{AreClassesRead}
use Rattle.machine_state.specs.exception_handlers.Errors.{superclass_in}
use Rattle.machine_state.proofs.exception_handlers.Numbered.{error_is}

-- there are as many rows as classes
pub as_many : (files : Program) (cs : List FileTree) (ls : List LinkedClass) → AreClasses files cs ls → length cs ≡ length ls
as_many files [] [] h = refl
as_many files [] (l ∷ ls) h = absurd h
as_many files (c ∷ cs) [] h = absurd h
as_many files (c ∷ cs) (l ∷ ls) h = ap suc (as_many files cs ls h.1)

-- after some steps up from a class, the nearest is below Error within the steps that are left where the class is
pub record IsNearest (files : Program) (class : Name) (nearest left : ℕ) : Type 0 where
  pub name : Name
  pub numbered : IsClassAt files nearest name
  pub same : is_subclass files class java_lang_error ≡ is_within files left name java_lang_error

abbrev pub Climbs : LinkedProgram → (from nearest left : ℕ) → Type 0
Climbs p from nearest left =
    (files : List (List ℕ)) (trees : Program) → IsLinkable files trees → IsLinkedProgram trees p
    → (class : Name) → IsClassAt trees from class → IsNearest trees class nearest left

module _ (classes_read : AreClassesRead) (p : LinkedProgram) (from : ℕ) where
  pub begins : Climbs p from from (length p.classes.items)
  begins files trees linkable linked class at =
      record { name = class; numbered = at; same = ap (λ n. is_within trees n class java_lang_error) (as_many trees (classes_of trees) p.classes.items linked.classes) }

  is_here : (trees : Program) (left : ℕ) (name : Name) → name_eq name java_lang_error ≡ true
      → is_within trees left name java_lang_error ≡ true
  is_here trees zero name h = h
  is_here trees (suc left) name h = ap (λ b. b || option_map_or (λ s. is_within trees left s java_lang_error) (superclass_of trees name) false) h

  -- Error itself
  pub found : (nearest left : ℕ) → Climbs p from nearest left → (nearest == 8) ≡ true
      → (files : List (List ℕ)) (trees : Program) → IsLinkable files trees → IsLinkedProgram trees p
      → (class : Name) → IsClassAt trees from class → true ≡ is_subclass trees class java_lang_error
  found nearest left climbs is files trees linkable linked class at =
      let n = climbs files trees linkable linked class at in
      sym (n.same ∙ is_here trees left n.name (sym (error_is files trees linkable nearest n.name n.numbered) ∙ is))

  -- no step is left
  pub ends : (nearest : ℕ) → Climbs p from nearest 0
      → (files : List (List ℕ)) (trees : Program) → IsLinkable files trees → IsLinkedProgram trees p
      → (class : Name) → IsClassAt trees from class → (nearest == 8) ≡ is_subclass trees class java_lang_error
  ends nearest climbs files trees linkable linked class at =
      let n = climbs files trees linkable linked class at in
      error_is files trees linkable nearest n.name n.numbered ∙ sym n.same

  -- what the row says of the class above
  above_of : (trees : Program) → IsLinkedProgram trees p → (number : ℕ) (name : Name) → IsClassAt trees number name
      → (o : Option ℕ) → o ≡ option_and_then superclass_in (slice_get p.classes.items number) → IsClassIf trees o (superclass_of trees name)
  above_of trees linked number name at o e =
      let row = classes_read trees p linked number name at in
      subst (λ n. IsClassIf trees o (superclass_of trees n)) row.named
      (subst (λ x. IsClassIf trees x (superclass_of trees (name_of row.file))) (sym (e ∙ ap (λ r. option_and_then superclass_in r) row.is)) row.linked.superclass)

  step_none : (trees : Program) (left : ℕ) (name : Name) → name_eq name java_lang_error ≡ false → (o : Option Name)
      → superclass_of trees name ≡ o → IsClassIf trees None o
      → is_within trees (suc left) name java_lang_error ≡ false
  step_none trees left name not None e i =
      ap (λ b. b || option_map_or (λ s. is_within trees left s java_lang_error) (superclass_of trees name) false) not
      ∙ ap (λ r. option_map_or (λ s. is_within trees left s java_lang_error) r false) e
  step_none trees left name not (Some s) e i = absurd i

  -- it is not Error, and has no superclass
  pub is_top : (nearest left : ℕ) → Climbs p from nearest (suc left) → (nearest == 8) ≡ false
      → None ≡ option_and_then superclass_in (slice_get p.classes.items nearest)
      → (files : List (List ℕ)) (trees : Program) → IsLinkable files trees → IsLinkedProgram trees p
      → (class : Name) → IsClassAt trees from class → false ≡ is_subclass trees class java_lang_error
  is_top nearest left climbs not e files trees linkable linked class at =
      let n = climbs files trees linkable linked class at in
      sym (n.same
      ∙ step_none trees left n.name (sym (error_is files trees linkable nearest n.name n.numbered) ∙ not) (superclass_of trees n.name) refl
      (above_of trees linked nearest n.name n.numbered None e))

  record IsStep (trees : Program) (above left : ℕ) (name : Name) : Type 0 where
    upper : Name
    numbered : IsClassAt trees above upper
    same : is_within trees (suc left) name java_lang_error ≡ is_within trees left upper java_lang_error

  step_some : (trees : Program) (above left : ℕ) (name : Name) → name_eq name java_lang_error ≡ false → (o : Option Name)
      → superclass_of trees name ≡ o → IsClassIf trees (Some above) o
      → IsStep trees above left name
  step_some trees above left name not None e i = absurd i
  step_some trees above left name not (Some s) e i =
      record {
        upper = s;
        numbered = i;
        same = ap (λ b. b || option_map_or (λ s. is_within trees left s java_lang_error) (superclass_of trees name) false) not ∙ ap (λ r. option_map_or (λ s. is_within trees left s java_lang_error) r false) e;
      }

  -- it is not Error, and the class above it is the nearest then
  pub goes_up : (nearest left above : ℕ) → Climbs p from nearest (suc left) → (nearest == 8) ≡ false
      → Some above ≡ option_and_then superclass_in (slice_get p.classes.items nearest)
      → Climbs p from above left
  goes_up nearest left above climbs not e files trees linkable linked class at =
      let n = climbs files trees linkable linked class at in
      let s = step_some trees above left n.name (sym (error_is files trees linkable nearest n.name n.numbered) ∙ not) (superclass_of trees n.name) refl (above_of trees linked nearest n.name n.numbered (Some above) e) in
      record { name = s.upper; numbered = s.numbered; same = n.same ∙ s.same }
