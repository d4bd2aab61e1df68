use Rattle.command_line.proofs.ProgramLemmas.{handed_on}
use Rattle.command_line.proofs.values.limits_of.Goals as goal

pub returns-in_err-number-clause-none : goal.returns-in_err-number-clause-none
returns-in_err-number-clause-none c =
    handed_on c.from_residual.result c.in_err-number.field-0.0 _ _ c.from_residual.ensures.1 c.in_err-number.ensures.none
    (λ none limits are. none limits.objects are.objects)

pub returns-in_err-number-2-clause-none : goal.returns-in_err-number-2-clause-none
returns-in_err-number-2-clause-none c =
    handed_on c.from_residual-in_err-number-2.result c.in_err-number-2.field-0.0 _ _ c.from_residual-in_err-number-2.ensures.1 c.in_err-number-2.ensures.none
    (λ none limits are. none limits.cells are.cells)

pub returns-in_err-number-3-clause-none : goal.returns-in_err-number-3-clause-none
returns-in_err-number-3-clause-none c =
    handed_on c.from_residual-in_err-number-3.result c.in_err-number-3.field-0.0 _ _ c.from_residual-in_err-number-3.ensures.1 c.in_err-number-3.ensures.none
    (λ none limits are. none limits.monitors are.monitors)

pub returns-in_err-number-4-clause-none : goal.returns-in_err-number-4-clause-none
returns-in_err-number-4-clause-none c =
    handed_on c.from_residual-in_err-number-4.result c.in_err-number-4.field-0.0 _ _ c.from_residual-in_err-number-4.ensures.1 c.in_err-number-4.ensures.none
    (λ none limits are. none limits.threads are.threads)

pub returns-in_err-number-5-clause-none : goal.returns-in_err-number-5-clause-none
returns-in_err-number-5-clause-none c =
    handed_on c.from_residual-in_err-number-5.result c.in_err-number-5.field-0.0 _ _ c.from_residual-in_err-number-5.ensures.1 c.in_err-number-5.ensures.none
    (λ none limits are. none limits.frames are.frames)

pub returns-clause-limits : goal.returns-clause-limits
returns-clause-limits c = record {
  objects = c.in_ok-number.ensures.number;
  cells = c.in_ok-number-2.ensures.number;
  monitors = c.in_ok-number-3.ensures.number;
  threads = c.in_ok-number-4.ensures.number;
  frames = c.in_ok-number-5.ensures.number;
}
