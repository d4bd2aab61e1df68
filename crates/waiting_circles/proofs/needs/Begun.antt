-- What a thread needs that begins.
use Rattle.std.proofs.Common.{◌≡◌, ℕ, zero, suc, [], Option, Some, None, if◌then◌else◌, refl, sym, ap, subst, ◌∙◌}
use Rattle.std.specs.Prelude.{slice_get}
use Rattle.std.specs.Option.{option_and_then}
use Rattle.std.proofs.lemmas.Option.{same_Some}
use Rattle.model.specs.Classes.{Program, Body, body_of}
use Rattle.model.specs.Frames.{entered_by}
use Rattle.model.specs.Lookup.{select}
use Rattle.model.specs.Names.{Member, main_of, thread_run}
use Rattle.model.specs.Operands.{words}
use Rattle.model.specs.State.{WorldOf}
use Rattle.model.specs.Step.{initial_class}
use Rattle.model.specs.Worlds.{thread_at, object_at, class_of_object}
use Rattle.search_laws.specs.Waits.{Need, frame_need, begin_need}
use Rattle.linked_code.specs.Methods.{IsLinkedMethod}
use Rattle.linked_code.specs.declared.method.LinkedMethod.{LinkedMethod}
use Rattle.linked_code.specs.declared.program.LinkedProgram.{LinkedProgram}
use Rattle.thread_stacks.specs.declared.entry.Callee.{Callee}
use Rattle.machine_state.specs.method_selection.Rows.{AreMethodsRead}
use Rattle.machine_instructions.specs.called_methods.Selected.{IsClassObject}
use Rattle.machine_threads.specs.thread_begins.Runs.{IsRunOf}
use Rattle.waiting_circles.specs.Needs.{EntersMain}

-- ---- main

module _ (read : AreMethodsRead) (p : LinkedProgram) where
  pub enters_main : (row : LinkedMethod) → slice_get p.methods.items p.main ≡ Some row → (object : ℕ) → IsClassObject p p.main object
      → EntersMain p (if row.is_synchronized then Some object else None)
  enters_main row is object of trees program =
      let main = main_of (initial_class trees) in
      let has = read trees p program.linked p.main main program.linked.main in
      let linked = subst (λ (r : LinkedMethod). IsLinkedMethod trees p main r) (same_Some has.row row (sym has.is ∙ is)) has.linked in
      ap (λ b. if b then Some object else None) linked.synchronized
      ∙ ap (λ n. entered_by trees main n) (of trees program main program.linked.main)

  pub main_there : slice_get p.methods.items p.main ≡ None → EntersMain p None
  main_there none trees program =
      let has = read trees p program.linked p.main (main_of (initial_class trees)) program.linked.main in
      let e = sym has.is ∙ none in absurd cc

-- ---- a thread that was started

module _ (trees : Program) (p : LinkedProgram) (frames t : ℕ) (world : WorldOf ℕ) where
  abbrev pub body_need : ℕ → Member → Option Need
  body_need object method = option_and_then (λ (body : Body). frame_need words trees frames t world [] (entered_by trees method object)) (body_of trees method)

  abbrev pub run_selected : ℕ → Option Member → Option Need
  run_selected object = option_and_then (body_need object)

  abbrev pub selected : ℕ → Option Member
  selected object = select trees (class_of_object (object_at world object)) thread_run

  pub begins_run : (n : ℕ) → (n ≡ 0 → ⊥) → begin_need words trees frames t world n
      ≡ run_selected (thread_at world n).object (selected (thread_at world n).object)
  begins_run zero ne = absurd (ne refl)
  begins_run (suc n) ne = refl

  pub runs_callee : (object : ℕ) (o : Option Member) (callee : Callee) → IsRunOf trees p o object (Some callee)
      → run_selected object o ≡ frame_need words trees frames t world [] callee.entered
  runs_callee object o callee h =
      ap (run_selected object) h.1
      ∙ ap (option_and_then (λ (body : Body). frame_need words trees frames t world [] (entered_by trees h.0 object))) h.2.is_body
      ∙ ap (frame_need words trees frames t world []) (sym h.2.entered)

  pub runs_none : (object : ℕ) (o : Option Member) → option_and_then (body_of trees) o ≡ None → run_selected object o ≡ None
  runs_none object None h = refl
  runs_none object (Some method) h =
      ap (option_and_then (λ (body : Body). frame_need words trees frames t world [] (entered_by trees method object))) h
