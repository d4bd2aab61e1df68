-- What a new frame needs, and a call by the row of its method.
use Rattle.std.proofs.Common.{◌≡◌, ◌<◌, ◌≤◌, ℕ, List, Option, Some, None, Bool, true, false, if◌then◌else◌, option_map, refl, sym, ap, subst, ◌∙◌}
use Rattle.std.specs.Prelude.{nat_lt, slice_get}
use Rattle.std.specs.Option.{option_and_then}
use Rattle.std.proofs.lemmas.Bool.{le-ltb, lt-ltb}
use Rattle.std.proofs.lemmas.Option.{same_Some}
use Rattle.model.specs.Calls.{Chosen}
use Rattle.model.specs.Classes.{Program, Body}
use Rattle.model.specs.Frames.{entered_by, frame_count}
use Rattle.model.specs.Operands.{words}
use Rattle.model.specs.State.{StackOf, WorldOf}
use Rattle.search_laws.specs.Waits.{Need, MonitorOf, frame_need}
use Rattle.linked_code.specs.declared.method.BuiltInMethod.{BuiltInMethod}
use Rattle.linked_code.specs.declared.method.LinkedCode.{LinkedCode}
use Rattle.linked_code.specs.declared.method.LinkedMethod.{LinkedMethod}
use Rattle.linked_code.specs.declared.method.MethodBody.{MethodBody}
use Rattle.linked_code.specs.declared.method.MethodBody.TheVariants as body
use Rattle.linked_code.specs.declared.program.LinkedProgram.{LinkedProgram}
use Rattle.linked_code.specs.Methods.{IsLinkedMethod}
use Rattle.linked_code.specs.Selection.{IsChosenAt}
use Rattle.thread_stacks.specs.Stacks.{ShownEntry, frame_count as shown_count}
use Rattle.machine_state.specs.Shown.{IsProgram}
use Rattle.machine_state.specs.shown_stacks.Shown.{ShowsStack}
use Rattle.machine_state.proofs.shown_stacks.Laws.{counted}
use Rattle.machine_state.specs.method_selection.Run.{RunsBody, IsRun, AreMethodsRun}
use Rattle.waiting_circles.specs.Needs.{entered_of}

-- as many frames as are kept
pub count_is : (trees : Program) (p : LinkedProgram) (stack : List ShownEntry) (own : StackOf ℕ) → ShowsStack trees p stack own
    → (count : ℕ) → count ≡ shown_count stack → count ≡ frame_count own
count_is trees p stack own shows count e = e ∙ counted trees p stack own shows

module _ (trees : Program) (frames t : ℕ) (world : WorldOf ℕ) (own : StackOf ℕ) where
  -- there is no room for it
  pub full : (entered : Option ℕ) → frames ≤ frame_count own → frame_need words trees frames t world own entered ≡ None
  full entered h = ap (λ b. if b then option_map MonitorOf entered else None) (le-ltb (frame_count own) frames h)

  -- there is
  pub room : (entered : Option ℕ) → frame_count own < frames → frame_need words trees frames t world own entered ≡ option_map MonitorOf entered
  room entered h = ap (λ b. if b then option_map MonitorOf entered else None) (lt-ltb (frame_count own) frames h)

  -- it enters no monitor
  pub none_needed : frame_need words trees frames t world own None ≡ None
  none_needed = by (nat_lt (frame_count own) frames)
    where
      by : (b : Bool) → (let o : Option Need = if b then None else None in o) ≡ None
      by true = refl
      by false = refl

module _ (run : AreMethodsRun) (trees : Program) (p : LinkedProgram) (program : IsProgram trees p) (number object : ℕ) (chosen : Chosen)
    (chooses : IsChosenAt trees number chosen) where
  found : IsRun trees p number chosen
  found = run trees p program.linked number chosen chooses

  pub missing : slice_get p.methods.items number ≡ None → ⊥
  missing none = let e = sym found.is ∙ none in absurd cc

  module _ (row : LinkedMethod) (is_row : slice_get p.methods.items number ≡ Some row) where
    same_row : found.row ≡ row
    same_row = same_Some found.row row (sym found.is ∙ is_row)

    linked : IsLinkedMethod trees p found.method row
    linked = subst (IsLinkedMethod trees p found.method) same_row found.linked

    runs_body : (b : MethodBody) → row.body ≡ b → RunsBody trees p found.method b chosen
    runs_body b e = subst (λ x. RunsBody trees p found.method x chosen) (ap (λ (r : LinkedMethod). r.body) same_row ∙ e) found.runs

    abbrev with_body : Option Body → Option ℕ
    with_body = option_and_then (λ (b : Body). entered_by trees found.method object)

    pub abstract_enters : row.body ≡ body.Abstract → entered_of trees object chosen ≡ None
    abstract_enters e = ap (entered_of trees object) (runs_body body.Abstract e)

    pub built_in_enters : (of : BuiltInMethod) → row.body ≡ body.BuiltIn of → entered_of trees object chosen ≡ None
    built_in_enters of e = let h = runs_body (body.BuiltIn of) e in ap (entered_of trees object) h.0 ∙ ap with_body h.1

    pub code_enters : (code : LinkedCode) → row.body ≡ body.Code code
        → entered_of trees object chosen ≡ (if row.is_synchronized then Some object else None)
    code_enters code e =
        let h = runs_body (body.Code code) e in
        ap (entered_of trees object) h.0 ∙ ap with_body h.1.1 ∙ ap (λ b. if b then Some object else None) (sym linked.synchronized)
