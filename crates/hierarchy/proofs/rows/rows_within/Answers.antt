use Rattle.std.proofs.Common.{◌∙◌, sym, ap}
use Rattle.hierarchy.specs.Above.{next_rows}
use Rattle.hierarchy.specs.Numbers.{named_rows}
use Rattle.hierarchy.proofs.RowLaws.{settled_at, one_step_more}
use Rattle.hierarchy.proofs.NumberLaws.{no_rows}
use Rattle.hierarchy.proofs.rows.rows_within.Goals as goal

pub loop-step-init : goal.loop-step-init
loop-step-init c = no_rows c.args.set.now c.args.kind c.args.names.now c.in_ok-rows.rows.items c.in_ok-rows.ensures

pub returns-then-are_same : goal.returns-then-are_same
returns-then-are_same c =
    let files = c.args.set.now in
    let named = named_rows c.args.names.now in
    settled_at files c.args.kind c.loop-step._step c.args.steps (named c.loop-step.rows.items) (named c.in_ok-next.next.items) c.loop-step-test.true c.loop-step.invariant
    (c.in_ok-next.ensures ∙ ap (λ rows. next_rows files c.args.kind (named rows)) c.deref.ensures.value)
    (ap named (sym c.deref-in-loop-step.ensures.value ∙ c.are_same.ensures c.if-are_same.true ∙ c.deref-in-loop-step-2.ensures.value))

pub loop-step-preserved : goal.loop-step-preserved
loop-step-preserved c =
    let files = c.args.set.now in
    let named = named_rows c.args.names.now in
    one_step_more files c.args.kind c.loop-step._step (named c.loop-step.rows.items) (named c.in_ok-next.next.items) c.loop-step.invariant (c.in_ok-next.ensures ∙ ap (λ rows. next_rows files c.args.kind (named rows)) c.deref.ensures.value)
