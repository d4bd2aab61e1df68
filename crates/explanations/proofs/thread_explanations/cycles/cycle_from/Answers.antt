use Rattle.std.proofs.Common.{◌≡◌, ◌<◌, ◌+◌, ℕ, List, [], ◌∷◌, Some, None, length, sym, ap, subst, ◌∙◌, arith}
use Rattle.std.proofs.lemmas.List.{length-append}
use Rattle.explanations.specs.thread_explanations.Cycles.{next_of}
use Rattle.explanations.proofs.thread_explanations.Paths.{Begins, IsWalk, begins, cycle_is, goes_on, none_by, none_within, walk_begins, walk_on}
use Rattle.explanations.proofs.thread_explanations.cycles.cycle_from.Goals as goal

pub loop-step-init : goal.loop-step-init
loop-step-init c =
    let waits = c.args.waits.now in
    let least = c.args.least in
    let none = sym c.new-members.ensures.items in (
      subst (λ (l : List ℕ). IsWalk waits least l least) none (walk_begins waits least),
      subst (λ (l : List ℕ). Begins waits least l least) none (begins waits least),
      ap length c.new-members.ensures.items,
    )

pub returns-in_default : goal.returns-in_default
returns-in_default c =
    none_by c.args.waits.now c.args.least c.loop-step.members.items c.loop-step.at c.loop-step.invariant.1
    (λ next e. let bad : None ≡ Some next = c.in_default.ensures ∙ e in absurd cc)

pub returns-then-next-least : goal.returns-then-next-least
returns-then-next-least c =
    let waits = c.args.waits.now in
    let least = c.args.least in
    let members = c.loop-step.members.items in
    let at = c.loop-step.at in
    let walk = c.loop-step.invariant.0 in
    let back : next_of waits at ≡ Some least = sym c.in-Some.ensures ∙ ap Some c.if-next-least.true in
    let few : length members < length waits = omega (arith, c.loop-step.invariant.2, c.loop-step-test.true) in
    (walk.others, c.in_ok-push.ensures.items ∙ walk.are, cycle_is waits least members at walk back few)

pub returns-then-next-least-2 : goal.returns-then-next-least-2
returns-then-next-least-2 c =
    none_by c.args.waits.now c.args.least c.loop-step.members.items c.loop-step.at c.loop-step.invariant.1
    (λ next e.
    let both : Some c.in-Some.next ≡ Some next = c.in-Some.ensures ∙ e in
    let same : c.in-Some.next ≡ next = cc in
    omega (arith, same, c.if-next-least-2.true))

pub loop-step-preserved : goal.loop-step-preserved
loop-step-preserved c =
    let waits = c.args.waits.now in
    let least = c.args.least in
    let members = c.loop-step.members.items in
    let at = c.loop-step.at in
    let next = c.in-Some.next in
    let on : next_of waits at ≡ Some next = sym c.in-Some.ensures in
    let higher : least < next = omega (arith, c.if-next-least.false, c.if-next-least-2.false) in
    let pushed = sym c.in_ok-push.ensures.items in (
      subst (λ (l : List ℕ). IsWalk waits least l next) pushed (walk_on waits least members at next c.loop-step.invariant.0 on higher),
      subst (λ (l : List ℕ). Begins waits least l next) pushed (goes_on waits least members at next c.loop-step.invariant.1 on higher),
      ap length c.in_ok-push.ensures.items ∙ length-append members (at ∷ []) ∙ ap (λ n. n + 1) c.loop-step.invariant.2,
    )

pub returns : goal.returns
returns c =
    none_within c.args.waits.now c.args.least c.loop-step.members.items c.loop-step.at c.loop-step.invariant.1
    (omega (arith, c.loop-step.invariant.2, c.loop-step-test.false))
