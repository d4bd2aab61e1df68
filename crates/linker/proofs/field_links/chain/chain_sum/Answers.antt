use Rattle.std.proofs.Common.{arith, ◌∙◌, sym}
use Rattle.linker.proofs.field_links.Sums.{step_nowhere, step_last, step_on}
use Rattle.linker.proofs.field_links.chain.chain_sum.Goals as goal

pub returns-in_default : goal.returns-in_default
returns-in_default c fits =
    let none = step_nowhere c.args.shapes.now _ c.loop-step._step c.loop-step.place c.loop-step-test.true (sym c.shape_at.ensures ∙ c.in_default.is) in
    omega (arith, none, c.loop-step.invariant fits)

pub returns-in_default-superclass : goal.returns-in_default-superclass
returns-in_default-superclass c fits =
    let last = step_last c.args.shapes.now _ c.loop-step._step c.loop-step.place c.in-Some.shape c.loop-step-test.true (sym c.shape_at.ensures ∙ c.in-Some.is) c.in_default-superclass.is in
    omega (arith, last, c.loop-step.invariant fits, c.saturating_add-sum.ensures, fits)

pub loop-step-preserved : goal.loop-step-preserved
loop-step-preserved c fits =
    let on = step_on c.args.shapes.now _ c.loop-step._step c.loop-step.place c.in-Some.shape c.in-Some-superclass.superclass c.loop-step-test.true (sym c.shape_at.ensures ∙ c.in-Some.is) c.in-Some-superclass.is in
    omega (arith, on, c.loop-step.invariant fits, c.saturating_add-sum.ensures, fits)
