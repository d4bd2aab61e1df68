use Rattle.std.proofs.Common.{◌∙◌, sym}
use Rattle.std.proofs.lemmas.Bool.{false≢true}
use Rattle.clap.specs.Words.{found_of, rows_of}
use Rattle.command_line.proofs.CommandLineLemmas.{refuses}
use Rattle.command_line.proofs.ProgramLemmas.{handed_on}
use Rattle.command_line.proofs.SweepLemmas.{raced_sweep, raced_follow}
use Rattle.command_line.proofs.sweep_arguments.race_flag_of.Goals as goal

pub returns-then-not-is_set-clause-races : goal.returns-then-not-is_set-clause-races
returns-then-not-is_set-clause-races c = record {
  flag = sym c.if-not-is_set.true ∙ c.is_set.ensures;
  one = λ on. absurd (false≢true on);
  behind = λ on. absurd (false≢true on);
}

pub returns-in_err-check_alone-clause-none : goal.returns-in_err-check_alone-clause-none
returns-in_err-check_alone-clause-none c =
    handed_on c.from_residual.result c.in_err-check_alone.field-0.0 _ _ c.from_residual.ensures.1 c.in_err-check_alone.ensures.none
    (λ seeds. raced_sweep (rows_of (found_of c.args.matches.now)) c.is_set.result c.is_set.ensures c.if-not-is_set.false seeds)

pub returns-then-is_set-clause-none : goal.returns-then-is_set-clause-none
returns-then-is_set-clause-none c =
    refuses c.not_together.result _ c.not_together.ensures
    (raced_follow (rows_of (found_of c.args.matches.now)) c.is_set.result c.is_set.ensures c.if-not-is_set.false c.is_set-2.result c.is_set-2.ensures c.if-is_set.true)

pub returns-clause-races : goal.returns-clause-races
returns-clause-races c = record {
  flag = sym c.if-not-is_set.false ∙ c.is_set.ensures;
  one = λ on. c.in_ok-check_alone.ensures.ok;
  behind = λ on. sym c.is_set-2.ensures ∙ c.if-is_set.false;
}
