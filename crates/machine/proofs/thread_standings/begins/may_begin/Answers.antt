use Rattle.std.proofs.Common.{ℕ, ap, sym, subst, ◌∙◌}
use Rattle.model.specs.Step.{is_enabled_by}
use Rattle.machine_threads.proofs.thread_begins.Following.{is_started}
use Rattle.machine.specs.thread_standings.Parts.{SaysMayBegin}
use Rattle.machine.proofs.thread_standings.begins.may_begin.Goals as goal

pub returns-then-thread-eq-MAIN_THREAD : goal.returns-then-thread-eq-MAIN_THREAD
returns-then-thread-eq-MAIN_THREAD c =
    subst (λ (t : ℕ). SaysMayBegin c.args.program.now c.args.shared.now t c.args.frames c.main_may_begin.result) (sym c.if-thread-eq-MAIN_THREAD.true)
    (λ trees bounds inflated state stack program lent. c.main_may_begin.ensures trees bounds state.world program lent.represents)

pub returns-else-thread-eq-MAIN_THREAD : goal.returns-else-thread-eq-MAIN_THREAD
returns-else-thread-eq-MAIN_THREAD c = λ trees bounds inflated state stack program lent.
    c.run_may_begin.ensures trees bounds inflated state stack program lent
    ∙ ap is_enabled_by (is_started trees c.args.frames state.world c.args.thread c.if-thread-eq-MAIN_THREAD.false)
