use Rattle.std.proofs.Common.{◌≡◌, List, suc, None, Some, refl, ap, subst, ◌∙◌, arith}
use Rattle.model.specs.BuiltInNumbers.{exception_in_initializer_error}
use Rattle.model.specs.Lookup.{instance_fields}
use Rattle.model.specs.Outcomes.{exception_class, ExceptionInInitializer}
use Rattle.model.specs.State.{Thread}
use Rattle.heap.specs.java_threads.Table.{ThreadTable}
use Rattle.machine_state.specs.raised_exceptions.Raised.{IsMadeWith}
use Rattle.machine_state.proofs.raised_exceptions.Made.{told_as, is_pending}
use Rattle.machine_state.proofs.raised_exceptions.Numbered.{error_numbered}
use Rattle.machine_state.proofs.raised_exceptions.Told.{telling, told_shown, none_counted}
use Rattle.machine_state.proofs.raised_exceptions.raising.raise_in_initialiser.Goals as goal

pub returns-in_err-error : goal.returns-in_err-error
returns-in_err-error c = λ trees p bounds inflated world r there shown own s.
    told_as trees p bounds inflated world c.args.shared.now r shown own s _ c.in_err-error.field-0.0 c.make.new.heap c.in_err-error.ensures
    c.from_residual.result c.from_residual.ensures.1

pub returns : goal.returns
returns c = λ trees p bounds inflated world r there shown own s.
    let class = exception_class ExceptionInInitializer in
    let word : c.word_of-cause.result ≡ suc c.args.exception = c.word_of-cause.ensures.there (there c.word_of-cause.ensures.bound) ∙ omega (arith) in
    is_pending trees p bounds inflated world c.args.shared.now r shown own s (telling trees class None (Some c.args.exception) (instance_fields trees class)) exception_in_initializer_error 0 (suc c.args.exception)
    (told_shown trees class exception_in_initializer_error (error_numbered trees) None (Some c.args.exception) p)
    (none_counted trees class exception_in_initializer_error (error_numbered trees) None (Some c.args.exception))
    (λ (threads : List Thread). threads) (λ threads. refl) c.args.thread c.in_ok-error.error c.make.new.heap c.set_pending.new.self
    (subst (λ w. IsMadeWith c.in_ok-error.error exception_in_initializer_error 0 w c.args.shared.now.heap c.make.new.heap) word c.in_ok-error.ensures)
    (ap (λ (table : ThreadTable). table.threads) c.set_pending.ensures) (ap (λ (table : ThreadTable). table.limit) c.set_pending.ensures)
