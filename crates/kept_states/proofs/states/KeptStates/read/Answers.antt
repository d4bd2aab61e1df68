use Rattle.std.proofs.Common.{List, ℕ, ap, sym, ◌∙◌}
use Rattle.std.specs.Prelude.{slice_get}
use Rattle.kept_states.proofs.Written.{if_ok_three, state_read}
use Rattle.kept_states.proofs.states.KeptStates.read.Goals as goal

pub returns-in-Some-clause-state : goal.returns-in-Some-clause-state
returns-in-Some-clause-state c =
    if_ok_three c.read_numbered.result _ _ _ _
    (λ n row fat numbered. state_read c.args.self.now c.args.number c.in-Some.fat c.in_ok-row.row.now n c.in_ok-row.ensures
    (ap (λ (ns : List ℕ). slice_get ns c.args.number) (sym c.as_slice.ensures.value) ∙ sym c.flags_at.ensures ∙ c.in-Some.is) row fat numbered)
    c.read_numbered.ensures.row c.read_numbered.ensures.fat c.read_numbered.ensures.numbered
