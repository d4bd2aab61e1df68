use Rattle.std.proofs.Common.{◌∙◌, ◌++◌, ℕ, ap, sym}
use Rattle.std.proofs.lemmas.List.{append-nil}
use Rattle.std.specs.Global.{Vec}
use Rattle.verifier.proofs.Joining.{targets_none, targets_some, targets_next}
use Rattle.verifier.proofs.flow.lead.targets_of.Goals as goal
use Rattle.verifier.proofs.flow.lead.targets_of.Goals.{then-is_none+in_ok-push, else-is_none}

pub leads-preserved : goal.leads-preserved
leads-preserved c =
    let items = λ (v : Vec ℕ). v.items in
    let now = c.leads.targets.items in
    let after = c.if-is_none.targets.items in
    elim c.if-is_none.branch [
      | then-is_none+in_ok-push w ↦ targets_next c.args.leads.now c.leads.lead-index _ c.leads-test.true now after c.leads.invariant (ap items w.targets-is ∙ (w.in_ok-push.ensures.items ∙ ap (λ l. now ++ l) (sym (targets_none _ _ c.is_none.result c.is_none.ensures w.if-is_none.true))))
      | else-is_none w ↦ targets_next c.args.leads.now c.leads.lead-index _ c.leads-test.true now after c.leads.invariant (ap items w.targets-is ∙ (sym (append-nil now) ∙ ap (λ l. now ++ l) (sym (targets_some _ _ c.is_none.result c.is_none.ensures w.if-is_none.false))))
    ]
