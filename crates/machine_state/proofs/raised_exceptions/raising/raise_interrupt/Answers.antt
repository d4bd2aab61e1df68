use Rattle.std.proofs.Common.{List, Some, None, false, slice_index_or, slice_set, ap, subst, ◌∙◌}
use Rattle.std.proofs.lemmas.List.{length-set}
use Rattle.model.specs.Lookup.{instance_fields}
use Rattle.model.specs.Outcomes.{exception_class, InterruptedWait}
use Rattle.model.specs.State.{Thread, new_thread}
use Rattle.heap.specs.java_threads.Table.{ThreadTable}
use Rattle.machine_state.specs.declared.answers.MachineException.TheVariants as exception
use Rattle.machine_state.specs.raised_exceptions.Raised.{IsMadeWith, class_number}
use Rattle.machine_state.proofs.raised_exceptions.Made.{told_as, is_pending}
use Rattle.machine_state.proofs.raised_exceptions.Numbered.{numbered}
use Rattle.machine_state.proofs.raised_exceptions.Told.{telling, told_shown, none_counted}
use Rattle.machine_state.proofs.raised_exceptions.raising.raise_interrupt.Goals as goal

pub returns-in_err-exception : goal.returns-in_err-exception
returns-in_err-exception c = λ trees p bounds inflated world r shown own s.
    told_as trees p bounds inflated world c.args.shared.now r shown own s _ c.in_err-exception.field-0.0 c.make.new.heap c.in_err-exception.ensures
    c.from_residual.result c.from_residual.ensures.1

pub returns : goal.returns
returns c = λ trees p bounds inflated world r shown own s.
    let number = class_number exception.InterruptedWait in
    let class = exception_class InterruptedWait in
    is_pending trees p bounds inflated world c.args.shared.now r shown own s (telling trees class None None (instance_fields trees class)) number 0 0
    (told_shown trees class number (numbered trees exception.InterruptedWait) None None p) (none_counted trees class number (numbered trees exception.InterruptedWait) None None)
    (λ (threads : List Thread). slice_set threads c.args.thread (record (slice_index_or threads c.args.thread (new_thread 0)) { interrupted = false }))
    (λ threads. length-set threads c.args.thread _) c.args.thread c.in_ok-exception.exception c.make.new.heap c.set_pending.new.self
    (subst (λ n. IsMadeWith c.in_ok-exception.exception n 0 0 c.args.shared.now.heap c.make.new.heap) c.class_of.ensures c.in_ok-exception.ensures)
    (ap (λ (table : ThreadTable). table.threads) c.set_pending.ensures
    ∙ ap (λ (table : ThreadTable). slice_set table.threads c.args.thread (record (slice_index_or table.threads c.args.thread (new_thread 0)) { pending = Some c.in_ok-exception.exception })) c.set_interrupted.ensures)
    (ap (λ (table : ThreadTable). table.limit) c.set_pending.ensures ∙ ap (λ (table : ThreadTable). table.limit) c.set_interrupted.ensures)
