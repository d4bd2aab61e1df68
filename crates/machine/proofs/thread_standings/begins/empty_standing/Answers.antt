use Rattle.std.proofs.Common.{ℕ, ap, sym, subst, if◌then◌else◌}
use Rattle.model.specs.Report as report
use Rattle.machine.specs.thread_standings.Parts.{StandsEmpty}
use Rattle.machine_threads.specs.declared.waiting_instructions.kinds.Standing.TheVariants as standing
use Rattle.machine.proofs.thread_standings.begins.empty_standing.Goals as goal

pub returns-then-is_main_held : goal.returns-then-is_main_held
returns-then-is_main_held c =
    subst (λ (t : ℕ). StandsEmpty c.args.program.now c.args.shared.now t standing.Initialising) (sym c.if-thread-ne-MAIN_THREAD.false)
    (λ trees bounds world program r. ap (λ b. if b then report.Initialising else report.Blocked) (sym (c.if-is_main_held.ensures trees bounds world program r)))

pub returns-else-is_main_held : goal.returns-else-is_main_held
returns-else-is_main_held c =
    subst (λ (t : ℕ). StandsEmpty c.args.program.now c.args.shared.now t standing.Blocked) (sym c.if-thread-ne-MAIN_THREAD.false)
    (λ trees bounds world program r. ap (λ b. if b then report.Initialising else report.Blocked) (sym (c.if-is_main_held.ensures trees bounds world program r)))
