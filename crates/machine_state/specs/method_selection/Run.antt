-- What a call of a chosen method runs (JVMS 2.6, 6.5 invokevirtual: AbstractMethodError).
use Rattle.std.specs.Prelude.{◌≡◌, ℕ, Some, None, slice_get}
use Rattle.model.specs.Names.{Member}
use Rattle.model.specs.Classes.{Program, Body, body_of}
use Rattle.model.specs.Outcomes.{AbstractMethod}
use Rattle.model.specs.Calls.{Chosen, Fails, Runs}
use Rattle.model.specs.BuiltInMethods.{built_in_method}
use Rattle.linked_code.specs.declared.method.MethodBody.{MethodBody}
use Rattle.linked_code.specs.declared.method.MethodBody.TheVariants as body
use Rattle.linked_code.specs.declared.method.LinkedMethod.{LinkedMethod}
use Rattle.linked_code.specs.declared.program.LinkedProgram.{LinkedProgram}
use Rattle.linked_code.specs.Selection.{IsChosenAt}
use Rattle.linked_code.specs.Methods.{IsLinkedMethod, IsCode, built_in_of}
use Rattle.linked_code.specs.Programs.{IsLinkedProgram}

-- an abstract method is an AbstractMethodError; any other is run, by what it is of the built-in ones, or by its code
abbrev pub RunsBody : Program → LinkedProgram → Member → MethodBody → Chosen → Type 0
RunsBody files p m body.Abstract chosen = chosen ≡ Fails AbstractMethod
RunsBody files p m (body.BuiltIn b) chosen = (chosen ≡ Runs m) × (body_of files m ≡ None) × (built_in_of b ≡ built_in_method m)
RunsBody files p m (body.Code code) chosen = (chosen ≡ Runs m) × ((b : Body) × (body_of files m ≡ Some b) × IsCode files p m b code)

-- the row of a number, which says what is run, and what its frame is to have
pub record IsRun (files : Program) (p : LinkedProgram) (number : ℕ) (chosen : Chosen) : Type 0 where
  pub row : LinkedMethod
  pub is : slice_get p.methods.items number ≡ Some row
  pub method : Member
  pub linked : IsLinkedMethod files p method row
  pub runs : RunsBody files p method row.body chosen

abbrev pub AreMethodsRun : Type 0
AreMethodsRun = (files : Program) (p : LinkedProgram) → IsLinkedProgram files p → (number : ℕ) (chosen : Chosen) → IsChosenAt files number chosen → IsRun files p number chosen
