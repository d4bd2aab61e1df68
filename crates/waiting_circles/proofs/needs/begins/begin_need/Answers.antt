use Rattle.std.proofs.Common.{ℕ, sym, subst}
use Rattle.waiting_circles.specs.Needs.{NeedsBeginning}
use Rattle.waiting_circles.proofs.needs.begins.begin_need.Goals as goal

pub returns-then-thread-eq-MAIN_THREAD : goal.returns-then-thread-eq-MAIN_THREAD
returns-then-thread-eq-MAIN_THREAD c =
    subst (λ (t : ℕ). NeedsBeginning c.args.program.now c.args.shared.now t c.args.frames c.main_need.result) (sym c.if-thread-eq-MAIN_THREAD.true)
    (λ trees bounds inflated state stack program lent. c.main_need.ensures trees bounds state.world program lent.represents)

pub returns-else-thread-eq-MAIN_THREAD : goal.returns-else-thread-eq-MAIN_THREAD
returns-else-thread-eq-MAIN_THREAD c = c.run_need.ensures c.if-thread-eq-MAIN_THREAD.false
