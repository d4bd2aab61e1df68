-- What the rows of classes and of methods say of the initialisation of a class.
use Rattle.std.proofs.Common.{◌≡◌, ℕ, Option, Some, None, true, false, if◌then◌else◌, refl, sym, ap, subst, ◌∙◌}
use Rattle.std.specs.Prelude.{slice_get, is_some}
use Rattle.std.specs.Option.{option_map_or}
use Rattle.std.proofs.lemmas.Option.{same_Some}
use Rattle.model.specs.Names.{Name, Member, initialiser_of}
use Rattle.model.specs.Classes.{Program, Body, superclass_of, is_interface, body_of}
use Rattle.model.specs.Step.{before}
use Rattle.linked_code.specs.declared.class.LinkedClass.{LinkedClass}
use Rattle.linked_code.specs.declared.method.LinkedCode.{LinkedCode}
use Rattle.linked_code.specs.declared.method.LinkedMethod.{LinkedMethod}
use Rattle.linked_code.specs.declared.method.MethodBody.{MethodBody}
use Rattle.linked_code.specs.declared.method.MethodBody.TheVariants as body
use Rattle.linked_code.specs.declared.program.LinkedProgram.{LinkedProgram}
use Rattle.linked_code.specs.Numbers.{IsClassAt, IsClassIf, IsMethodAt}
use Rattle.linked_code.specs.Linked.{no_offset, offset_in}
use Rattle.linked_code.specs.ClassRows.{IsInitialiser, IsLinkedClass}
use Rattle.linked_code.specs.Methods.{IsMethodBody, IsCode}
use Rattle.thread_stacks.specs.declared.entry.Callee.{Callee}
use Rattle.machine_state.specs.shown_stacks.Shown.{IsCallee, starts_of}
use Rattle.machine_state.specs.Shown.{IsProgram}
use Rattle.machine_state.specs.method_selection.Rows.{HasClass, HasMethod, AreClassesRead, AreMethodsRead}
use Rattle.machine_state.specs.class_initialisation.Steps.{IsCalleeOf, IsInitialiserOf}

-- ---- classes

module _ (read : AreClassesRead) (trees : Program) (p : LinkedProgram) (program : IsProgram trees p) (number : ℕ) (class : Name)
    (at : IsClassAt trees number class) where
  h : HasClass trees p number class
  h = read trees p program.linked number class at

  pub class_missing : slice_get p.classes.items number ≡ None → ⊥
  class_missing none = let e = sym h.is ∙ none in cc

  module _ (row : LinkedClass) (is_row : slice_get p.classes.items number ≡ Some row) where
    linked : IsLinkedClass trees h.file row
    linked = subst (IsLinkedClass trees h.file) (same_Some _ _ (sym h.is ∙ is_row)) h.linked

    interface : row.is_interface ≡ is_interface trees class
    interface = linked.interface ∙ ap (is_interface trees) h.named

    pub none_before : row.is_interface ≡ true → IsClassIf trees None (before trees class)
    none_before e = subst (λ b. IsClassIf trees None (if b then None else superclass_of trees class)) (sym e ∙ interface) tt

    pub super_before : row.is_interface ≡ false → IsClassIf trees row.superclass (before trees class)
    super_before e =
        subst (λ b. IsClassIf trees row.superclass (if b then None else superclass_of trees class)) (sym e ∙ interface)
        (subst (λ (n : Name). IsClassIf trees row.superclass (superclass_of trees n)) h.named linked.superclass)

    pub its_initialiser : IsInitialiser trees class row.initialiser
    its_initialiser = subst (λ (n : Name). IsInitialiser trees n row.initialiser) h.named linked.initialiser

-- ---- methods

module _ (read : AreMethodsRead) (trees : Program) (p : LinkedProgram) (program : IsProgram trees p) (number : ℕ) (method : Member)
    (code : Body)
    (at : IsMethodAt trees number method) (is_body : body_of trees method ≡ Some code) where
  m : HasMethod trees p number method
  m = read trees p program.linked number method at

  pub method_missing : slice_get p.methods.items number ≡ None → ⊥
  method_missing none = let e = sym m.is ∙ none in cc

  module _ (row : LinkedMethod) (is_row : slice_get p.methods.items number ≡ Some row) where
    runs : IsMethodBody trees p method (Some code) row.body
    runs =
        subst (λ (r : LinkedMethod). IsMethodBody trees p method (Some code) r.body) (same_Some _ _ (sym m.is ∙ is_row))
        (subst (λ (o : Option Body). IsMethodBody trees p method o m.row.body) is_body m.linked.runs)

    -- it has code
    pub has_code : (b : MethodBody) → row.body ≡ b → IsMethodBody trees p method (Some code) b
    has_code b e = subst (IsMethodBody trees p method (Some code)) e runs

    pub is_callee : (linked : LinkedCode) → row.body ≡ body.Code linked
        → IsCallee trees p (record { method = number; max_locals = linked.max_locals; max_stack = linked.max_stack; entered = None })
        method code
    is_callee linked e =
        let c : IsCode trees p method code linked = (has_code (body.Code linked) e).1 in
        record {
          numbered = at;
          first =
              ap (λ o. option_map_or (λ (r : LinkedMethod). offset_in (starts_of r.body) 0) o no_offset) is_row
              ∙ ap (λ b. offset_in (starts_of b) 0) e
              ∙ c.instructions.first;
          max_locals = c.max_locals;
        }

-- ---- the initialiser of a class

pub chosen : (trees : Program) (p : LinkedProgram) (class : Name) (number : ℕ) (found : Option Callee)
    → IsInitialiser trees class (Some number)
    → ((method : Member) (code : Body) → IsMethodAt trees number method → body_of trees method ≡ Some code
    → IsCalleeOf trees p method code found)
    → IsInitialiserOf trees p class found
chosen trees p class number found h callee = by (body_of trees (initialiser_of class)) refl h.0 found (λ code e. callee (initialiser_of class) code h.1 e)
  where
    by : (o : Option Body) → body_of trees (initialiser_of class) ≡ o → is_some o ≡ true → (found : Option Callee)
        → ((code : Body) → body_of trees (initialiser_of class) ≡ Some code → IsCalleeOf trees p (initialiser_of class) code found)
        → IsInitialiserOf trees p class found
    by None e some found callee = absurd cc
    by (Some code) e some None callee = absurd (callee code e)
    by (Some code) e some (Some c) callee = (code, e, callee code e)
