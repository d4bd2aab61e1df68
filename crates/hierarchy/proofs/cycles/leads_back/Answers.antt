use Rattle.std.proofs.Common.{◌∙◌, ◌<◌, length, sym, subst}
use Rattle.model.specs.Classes.{classes_of}
use Rattle.hierarchy.proofs.SetLaws.{same_name}
use Rattle.hierarchy.proofs.CycleLaws.{up_first, up_next, leads_back_so}
use Rattle.hierarchy.proofs.cycles.leads_back.Goals as goal

pub loop-step-init : goal.loop-step-init
loop-step-init c = up_first c.args.set.now c.args.class.now

pub loop-step-preserved : goal.loop-step-preserved
loop-step-preserved c =
    up_next c.args.set.now c.loop-step._step c.args.class.now c.loop-step.lower.now c.class_name-upper.result.now c.loop-step.invariant (sym c.is_directly_below.ensures ∙ c.if-not-is_directly_below.false)

pub returns-then-eq : goal.returns-then-eq
returns-then-eq c _ =
    let files = c.args.set.now in
    let more : c.loop-step._step < length (classes_of files) = subst (λ k. c.loop-step._step < k) c.count-step-end.ensures c.loop-step-test.true in
    leads_back_so files c.loop-step._step c.args.class.now c.loop-step.lower.now c.class_name-upper.result.now more c.loop-step.invariant (sym c.is_directly_below.ensures ∙ c.if-not-is_directly_below.false)
    (same_name c.class_name-upper.result.now c.args.class.now (sym c.eq.ensures ∙ c.if-eq.true))
