-- What the body of a method says that is run.
use Rattle.std.proofs.Common.{◌≡◌, ℕ, Option, Some, None, Bool, true, false, refl, ap, ◌∙◌}
use Rattle.std.specs.Prelude.{if◌then◌else◌}
use Rattle.model.specs.Names.{Member}
use Rattle.model.specs.Classes.{Program, Body, body_of}
use Rattle.model.specs.Lookup.{is_abstract_method}
use Rattle.model.specs.Outcomes.{AbstractMethod}
use Rattle.model.specs.Calls.{Chosen, Fails, Runs, if_concrete, is_one}
use Rattle.linked_code.specs.declared.method.MethodBody.{MethodBody}
use Rattle.linked_code.specs.declared.method.MethodBody.TheVariants as body
use Rattle.linked_code.specs.declared.program.LinkedProgram.{LinkedProgram}
use Rattle.linked_code.specs.Selection.{IsChosenAt}
use Rattle.linked_code.specs.Methods.{IsMethodBody}
use Rattle.linked_code.specs.Programs.{IsLinkedProgram}
use Rattle.machine_state.specs.method_selection.Run.{RunsBody, IsRun}
use Rattle.machine_state.proofs.method_selection.Reading.{methods_read}

by_flag : (files : Program) (m : Member) (chosen : Chosen) → chosen ≡ if_concrete files (Some m) → (a : Bool)
    → is_one is_abstract_method files m ≡ a → chosen ≡ (if a then Fails AbstractMethod else Runs m)
by_flag files m chosen is a e = is ∙ ap (λ x. if x then Fails AbstractMethod else Runs m) e

runs_body : (files : Program) (p : LinkedProgram) (m : Member) (chosen : Chosen) → chosen ≡ if_concrete files (Some m) → (b : Option Body)
    (l : MethodBody) → body_of files m ≡ b → IsMethodBody files p m b l → RunsBody files p m l chosen
runs_body files p m chosen is None (body.BuiltIn b) e h = (by_flag files m chosen is false h.0, e, h.1)
runs_body files p m chosen is None body.Abstract e h = by_flag files m chosen is true h
runs_body files p m chosen is None (body.Code code) e h = absurd h
runs_body files p m chosen is (Some b) (body.Code code) e h = (by_flag files m chosen is false h.0, (b, e, h.1))
runs_body files p m chosen is (Some b) (body.BuiltIn x) e h = absurd h
runs_body files p m chosen is (Some b) body.Abstract e h = absurd h

pub methods_run : (files : Program) (p : LinkedProgram) → IsLinkedProgram files p → (number : ℕ) (chosen : Chosen)
    → IsChosenAt files number chosen → IsRun files p number chosen
methods_run files p h number chosen c =
    let r = methods_read files p h number c.method c.numbered in
    record { row = r.row; is = r.is; method = c.method; linked = r.linked; runs = runs_body files p c.method chosen c.is (body_of files c.method) r.row.body refl r.linked.runs }
