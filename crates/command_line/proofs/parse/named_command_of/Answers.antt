use Rattle.std.proofs.Common.{◌∙◌, sym}
use Rattle.std.proofs.lemmas.Result.{IfOk-weaker}
use Rattle.clap.specs.Words.{found_of, rows_of}
use Rattle.command_line.proofs.CommandLineLemmas.{refused_more, refuses}
use Rattle.command_line.proofs.CommandNames.{none_named, only_disasm, only_races, only_replay, only_run, only_search, only_shrink, only_trace, only_verify}
use Rattle.command_line.proofs.ProgramLemmas.{handed_on}
use Rattle.command_line.proofs.parse.named_command_of.Goals as goal

pub returns-in_ok-run_of-in-run-clause-values : goal.returns-in_ok-run_of-in-run-clause-values
returns-in_ok-run_of-in-run-clause-values c = (sym c.in-run.is, c.in_ok-run_of-in-run.ensures.values)

pub returns-in_err-run_of-in-run-clause-none : goal.returns-in_err-run_of-in-run-clause-none
returns-in_err-run_of-in-run-clause-none c =
    handed_on c.from_residual.result c.in_err-run_of-in-run.field-0.0 _ _ c.from_residual.ensures.1 c.in_err-run_of-in-run.ensures.none
    (λ none command named. only_run (rows_of (found_of c.args.matches.now)) none command (named ∙ c.in-run.is))

pub returns-in_ok-replay_of-in-replay-clause-values : goal.returns-in_ok-replay_of-in-replay-clause-values
returns-in_ok-replay_of-in-replay-clause-values c = (sym c.in-replay.is, c.in_ok-replay_of-in-replay.ensures.values)

pub returns-in_err-replay_of-in-replay-clause-none : goal.returns-in_err-replay_of-in-replay-clause-none
returns-in_err-replay_of-in-replay-clause-none c =
    handed_on c.from_residual-in_err-replay_of-in-replay.result c.in_err-replay_of-in-replay.field-0.0 _ _ c.from_residual-in_err-replay_of-in-replay.ensures.1 c.in_err-replay_of-in-replay.ensures.none
    (λ none command named. only_replay (rows_of (found_of c.args.matches.now)) none command (named ∙ c.in-replay.is))

pub returns-in_ok-trace_of-in-trace-clause-values : goal.returns-in_ok-trace_of-in-trace-clause-values
returns-in_ok-trace_of-in-trace-clause-values c = (sym c.in-trace.is, c.in_ok-trace_of-in-trace.ensures.values)

pub returns-in_err-trace_of-in-trace-clause-none : goal.returns-in_err-trace_of-in-trace-clause-none
returns-in_err-trace_of-in-trace-clause-none c =
    handed_on c.from_residual-in_err-trace_of-in-trace.result c.in_err-trace_of-in-trace.field-0.0 _ _ c.from_residual-in_err-trace_of-in-trace.ensures.1 c.in_err-trace_of-in-trace.ensures.none
    (λ none command named. only_trace (rows_of (found_of c.args.matches.now)) none command (named ∙ c.in-trace.is))

pub returns-in_ok-races_of-in-races-clause-values : goal.returns-in_ok-races_of-in-races-clause-values
returns-in_ok-races_of-in-races-clause-values c = (sym c.in-races.is, c.in_ok-races_of-in-races.ensures.values)

pub returns-in_err-races_of-in-races-clause-none : goal.returns-in_err-races_of-in-races-clause-none
returns-in_err-races_of-in-races-clause-none c =
    handed_on c.from_residual-in_err-races_of-in-races.result c.in_err-races_of-in-races.field-0.0 _ _ c.from_residual-in_err-races_of-in-races.ensures.1 c.in_err-races_of-in-races.ensures.none
    (λ none command named. only_races (rows_of (found_of c.args.matches.now)) none command (named ∙ c.in-races.is))

pub returns-in_ok-search_of-in-search-clause-values : goal.returns-in_ok-search_of-in-search-clause-values
returns-in_ok-search_of-in-search-clause-values c = (sym c.in-search.is, c.in_ok-search_of-in-search.ensures.values)

pub returns-in_err-search_of-in-search-clause-none : goal.returns-in_err-search_of-in-search-clause-none
returns-in_err-search_of-in-search-clause-none c =
    handed_on c.from_residual-in_err-search_of-in-search.result c.in_err-search_of-in-search.field-0.0 _ _ c.from_residual-in_err-search_of-in-search.ensures.1 c.in_err-search_of-in-search.ensures.none
    (λ none command named. only_search (rows_of (found_of c.args.matches.now)) none command (named ∙ c.in-search.is))

pub returns-in_ok-shrink_of-in-shrink-clause-values : goal.returns-in_ok-shrink_of-in-shrink-clause-values
returns-in_ok-shrink_of-in-shrink-clause-values c = (sym c.in-shrink.is, c.in_ok-shrink_of-in-shrink.ensures.values)

pub returns-in_err-shrink_of-in-shrink-clause-none : goal.returns-in_err-shrink_of-in-shrink-clause-none
returns-in_err-shrink_of-in-shrink-clause-none c =
    handed_on c.from_residual-in_err-shrink_of-in-shrink.result c.in_err-shrink_of-in-shrink.field-0.0 _ _ c.from_residual-in_err-shrink_of-in-shrink.ensures.1 c.in_err-shrink_of-in-shrink.ensures.none
    (λ none command named. only_shrink (rows_of (found_of c.args.matches.now)) none command (named ∙ c.in-shrink.is))

pub returns-in_ok-verify_of-in-verify-clause-values : goal.returns-in_ok-verify_of-in-verify-clause-values
returns-in_ok-verify_of-in-verify-clause-values c = (sym c.in-verify.is, c.in_ok-verify_of-in-verify.ensures.values)

pub returns-in_err-verify_of-in-verify-clause-none : goal.returns-in_err-verify_of-in-verify-clause-none
returns-in_err-verify_of-in-verify-clause-none c =
    handed_on c.from_residual-in_err-verify_of-in-verify.result c.in_err-verify_of-in-verify.field-0.0 _ _ c.from_residual-in_err-verify_of-in-verify.ensures.1 c.in_err-verify_of-in-verify.ensures.none
    (λ none command named. only_verify (rows_of (found_of c.args.matches.now)) none command (named ∙ c.in-verify.is))

pub returns-in_ok-disasm_of-in-disasm-clause-values : goal.returns-in_ok-disasm_of-in-disasm-clause-values
returns-in_ok-disasm_of-in-disasm-clause-values c = (sym c.in-disasm.is, c.in_ok-disasm_of-in-disasm.ensures.values)

pub returns-in_err-disasm_of-in-disasm-clause-none : goal.returns-in_err-disasm_of-in-disasm-clause-none
returns-in_err-disasm_of-in-disasm-clause-none c =
    handed_on c.from_residual-in_err-disasm_of-in-disasm.result c.in_err-disasm_of-in-disasm.field-0.0 _ _ c.from_residual-in_err-disasm_of-in-disasm.ensures.1 c.in_err-disasm_of-in-disasm.ensures.none
    (λ none command named. only_disasm (rows_of (found_of c.args.matches.now)) none command (named ∙ c.in-disasm.is))

pub returns-in-schedule-clause-values : goal.returns-in-schedule-clause-values
returns-in-schedule-clause-values c =
    IfOk-weaker c.listed_of.result _ _ (λ command are. (are.0 ∙ sym c.in-schedule.is, are.1)) c.listed_of.ensures.values

pub returns-in-schedule-clause-none : goal.returns-in-schedule-clause-none
returns-in-schedule-clause-none c =
    refused_more c.listed_of.result _ _ (λ none command named. none command (named ∙ c.in-schedule.is)) c.listed_of.ensures.none

pub returns-in_default-clause-none : goal.returns-in_default-clause-none
returns-in_default-clause-none c =
    refuses c.missing.result _ c.missing.ensures
    (none_named (rows_of (found_of c.args.matches.now)) c.args.name.now c.in_default.not-run c.in_default.not-replay c.in_default.not-trace c.in_default.not-races c.in_default.not-search
    c.in_default.not-shrink c.in_default.not-verify c.in_default.not-disasm c.in_default.not-schedule)
