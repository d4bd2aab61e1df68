-- What the instruction of a method of a class runs.
use Rattle.std.proofs.Common.{◌≡◌, refl, sym, ap, subst, ◌∙◌, ℕ, List, Option, Some, None}
use Rattle.next_accesses.specs.declared.accessing_calls.AccessingMethod.{AccessingMethod}
use Rattle.model.specs.declared.instr.Instr.{Instr}
use Rattle.model.specs.declared.instr.Instr.TheVariants as instr
use Rattle.model.specs.declared.instr.Invocation.{Invocation}
use Rattle.model.specs.declared.instr.Invocation.TheVariants as invocation
use Rattle.model.specs.Classes.{Program, name_of}
use Rattle.model.specs.Names.{Member}
use Rattle.model.specs.Pool.{method_at, interface_method_at}
use Rattle.model.specs.Tree.{FileTree}
use Rattle.linked_code.specs.declared.program.LinkedProgram.{LinkedProgram}
use Rattle.heap.specs.Heap.{Object}
use Rattle.next_accesses.specs.accessing_calls.Called.{CallsVirtual, CallsInterface, CallsSpecial, CallsBy}

module _ (trees : Program) (p : LinkedProgram) (objects : List Object) (operands : List ℕ) (file : FileTree) (told : Option AccessingMethod) (i : Instr) where
  abbrev By : Instr → Type 0
  By j = CallsBy trees p objects operands file j told

  module _ (v : Invocation) (index : ℕ) (is : i ≡ instr.Invoke v index) where
    pub by_virtual : v ≡ invocation.Virtual → ((named : Member) → method_at file.pool index ≡ Some named → CallsVirtual trees p objects operands named told)
        → CallsBy trees p objects operands file i told
    by_virtual e calls = subst By (sym (is ∙ ap (λ x. instr.Invoke x index) e)) calls

    pub by_special : v ≡ invocation.Special → ((named : Member) → method_at file.pool index ≡ Some named → CallsSpecial trees p operands (name_of file) named told)
        → CallsBy trees p objects operands file i told
    by_special e calls = subst By (sym (is ∙ ap (λ x. instr.Invoke x index) e)) calls

    pub by_static : v ≡ invocation.Static → told ≡ None → CallsBy trees p objects operands file i told
    by_static e none = subst By (sym (is ∙ ap (λ x. instr.Invoke x index) e)) none

  pub by_interface : (index count last : ℕ) → i ≡ instr.InvokeInterface index count last
      → ((named : Member) → interface_method_at file.pool index ≡ Some named → CallsInterface trees p objects operands named told) → CallsBy trees p objects operands file i told
  by_interface index count last is calls = subst By (sym is) calls

  pub by_other : told ≡ None → ((v : Invocation) (index : ℕ) → i ≡ instr.Invoke v index → ⊥) → ((index count last : ℕ) → i ≡ instr.InvokeInterface index count last → ⊥)
      → CallsBy trees p objects operands file i told
  by_other none calls calls_interface = by i refl
    where
      by : (j : Instr) → i ≡ j → CallsBy trees p objects operands file j told
      by (instr.Invoke v index) e = absurd (calls v index e)
      by (instr.InvokeInterface index count last) e = absurd (calls_interface index count last e)
      by _ e = none
