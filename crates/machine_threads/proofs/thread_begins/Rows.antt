-- What the row of a method says of its first call.
use Rattle.std.proofs.Common.{◌≡◌, ℕ, Option, Some, None, if◌then◌else◌, refl, sym, ap, subst, ◌∙◌}
use Rattle.std.specs.Prelude.{slice_get}
use Rattle.std.specs.Option.{option_map_or}
use Rattle.std.proofs.lemmas.Option.{same_Some}
use Rattle.model.specs.Names.{Member}
use Rattle.model.specs.Classes.{Program, Body, body_of}
use Rattle.linked_code.specs.declared.method.LinkedCode.{LinkedCode}
use Rattle.linked_code.specs.declared.method.LinkedMethod.{LinkedMethod}
use Rattle.linked_code.specs.declared.method.MethodBody.{MethodBody}
use Rattle.linked_code.specs.declared.method.MethodBody.TheVariants as body
use Rattle.linked_code.specs.declared.method.BuiltInMethod.{BuiltInMethod}
use Rattle.linked_code.specs.declared.program.LinkedProgram.{LinkedProgram}
use Rattle.linked_code.specs.Numbers.{IsMethodAt}
use Rattle.linked_code.specs.Linked.{no_offset, offset_in}
use Rattle.linked_code.specs.Methods.{IsMethodBody, IsCode, IsLinkedMethod}
use Rattle.thread_stacks.specs.declared.entry.Callee.{Callee}
use Rattle.machine_state.specs.shown_stacks.Shown.{starts_of}
use Rattle.machine_state.specs.Shown.{IsProgram}
use Rattle.machine_state.specs.method_selection.Rows.{HasMethod, AreMethodsRead}
use Rattle.machine_threads.specs.thread_begins.Callees.{IsFirstCallee}

module _ (read : AreMethodsRead) (trees : Program) (p : LinkedProgram) (program : IsProgram trees p) (number : ℕ) (method : Member)
    (at : IsMethodAt trees number method) where
  has : HasMethod trees p number method
  has = read trees p program.linked number method at

  pub missing : slice_get p.methods.items number ≡ None → ⊥
  missing none = let e = sym has.is ∙ none in cc

  module _ (row : LinkedMethod) (is_row : slice_get p.methods.items number ≡ Some row) where
    linked : IsLinkedMethod trees p method row
    linked = subst (IsLinkedMethod trees p method) (same_Some _ _ (sym has.is ∙ is_row)) has.linked

    runs : (b : MethodBody) → row.body ≡ b → IsMethodBody trees p method (body_of trees method) b
    runs b e = subst (IsMethodBody trees p method (body_of trees method)) e linked.runs

    pub abstract_has_none : row.body ≡ body.Abstract → body_of trees method ≡ None
    abstract_has_none e = by (body_of trees method) (runs body.Abstract e)
      where
        by : (o : Option Body) → IsMethodBody trees p method o body.Abstract → o ≡ None
        by None h = refl
        by (Some b) h = absurd h

    pub built_in_has_none : (of : BuiltInMethod) → row.body ≡ body.BuiltIn of → body_of trees method ≡ None
    built_in_has_none of e = by (body_of trees method) (runs (body.BuiltIn of) e)
      where
        by : (o : Option Body) → IsMethodBody trees p method o (body.BuiltIn of) → o ≡ None
        by None h = refl
        by (Some b) h = absurd h

    module _ (code : LinkedCode) (is_code : row.body ≡ body.Code code) (object : ℕ) (entered : Option ℕ) (enters : entered ≡ (if row.is_synchronized then Some object else None)) where
      abbrev callee : Callee
      callee = record { method = number; max_locals = code.max_locals; max_stack = code.max_stack; entered = entered }

      coded : (o : Option Body) → IsMethodBody trees p method o (body.Code code) → (b : Body) × (o ≡ Some b) × IsCode trees p method b code
      coded None h = absurd h
      coded (Some b) h = (b, refl, h.1)

      pub is_callee : IsFirstCallee trees p method object callee
      is_callee =
          let c = coded (body_of trees method) (runs (body.Code code) is_code) in
          record {
            body = c.0;
            is_body = c.1;
            is = record {
              numbered = at;
              first =
                  ap (λ o. option_map_or (λ (r : LinkedMethod). offset_in (starts_of r.body) 0) o no_offset) is_row
                  ∙ ap (λ b. offset_in (starts_of b) 0) is_code
                  ∙ c.2.instructions.first;
              max_locals = c.2.max_locals;
            };
            entered = enters ∙ ap (λ b. if b then Some object else None) linked.synchronized;
          }
