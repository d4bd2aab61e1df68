-- What a place of a table selects.
use Rattle.std.proofs.Common.{◌≡◌, ℕ, Option, sym, ap, subst, ◌∙◌}
use Rattle.std.specs.Prelude.{slice_get}
use Rattle.std.specs.Option.{option_and_then}
use Rattle.model.specs.Calls.{selected}
use Rattle.linked_code.specs.declared.program.LinkedProgram.{LinkedProgram}
use Rattle.linked_code.specs.Selection.{receiver_class}
use Rattle.machine_state.specs.method_selection.Selected.{selection_of, IsChosenBy, SelectsVirtual}

pub virtual_selected : (p : LinkedProgram) (number place : ℕ) (r : Option ℕ)
    → r ≡ option_and_then (selection_of place) (slice_get p.classes.items number) → SelectsVirtual p number place r
virtual_selected p number place r e files named callee selects t assignable at =
    let h = selects t assignable number at in
    subst (λ o. IsChosenBy files o (selected files (receiver_class t) callee)) (sym (e ∙ ap (option_and_then (selection_of place)) h.is ∙ h.stands)) h.chooses
