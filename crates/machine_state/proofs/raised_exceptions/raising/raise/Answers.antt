use Rattle.std.proofs.Common.{List, None, refl, ap, subst}
use Rattle.model.specs.Lookup.{instance_fields}
use Rattle.model.specs.MachineExceptions.{message_of}
use Rattle.model.specs.Outcomes.{exception_class}
use Rattle.model.specs.State.{Thread}
use Rattle.heap.specs.java_threads.Table.{ThreadTable}
use Rattle.machine_state.specs.Instructions.{shown_exception}
use Rattle.machine_state.specs.raised_exceptions.Raised.{IsMadeWith, class_number, text_word}
use Rattle.machine_state.proofs.raised_exceptions.Made.{told_as, is_pending}
use Rattle.machine_state.proofs.raised_exceptions.Numbered.{numbered}
use Rattle.machine_state.proofs.raised_exceptions.Told.{telling, told_shown, none_counted}
use Rattle.machine_state.proofs.raised_exceptions.raising.raise.Goals as goal

pub returns-in_err-exception : goal.returns-in_err-exception
returns-in_err-exception c = λ trees p bounds inflated world r message shown own s.
    told_as trees p bounds inflated world c.args.shared.now r shown own s _ c.in_err-exception.field-0.0 c.make.new.heap c.in_err-exception.ensures
    c.from_residual.result c.from_residual.ensures.1

pub returns : goal.returns
returns c = λ trees p bounds inflated world r message shown own s.
    let fault = c.args.fault in
    let class = exception_class (shown_exception fault) in
    let text = message_of (shown_exception fault) in
    is_pending trees p bounds inflated world c.args.shared.now r shown own s (telling trees class text None (instance_fields trees class)) (class_number fault) (text_word trees text) 0
    (told_shown trees class (class_number fault) (numbered trees fault) text None p) (none_counted trees class (class_number fault) (numbered trees fault) text None)
    (λ (threads : List Thread). threads) (λ threads. refl) c.args.thread c.in_ok-exception.exception c.make.new.heap c.set_pending.new.self
    (subst (λ n. IsMadeWith c.in_ok-exception.exception n (text_word trees text) 0 c.args.shared.now.heap c.make.new.heap) c.class_of.ensures
    (subst (λ m. IsMadeWith c.in_ok-exception.exception c.class_of.result m 0 c.args.shared.now.heap c.make.new.heap) message c.in_ok-exception.ensures))
    (ap (λ (table : ThreadTable). table.threads) c.set_pending.ensures) (ap (λ (table : ThreadTable). table.limit) c.set_pending.ensures)
