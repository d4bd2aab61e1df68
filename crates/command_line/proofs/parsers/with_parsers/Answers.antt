use Rattle.std.proofs.Common.{◌∙◌, ap}
use Rattle.std.proofs.lemmas.Result.{IfOk-weaker}
use Rattle.clap.specs.Words.{with_subcommand}
use Rattle.command_line.specs.Parsers.{jvm_disasm, jvm_races, jvm_replay, jvm_run, jvm_schedule, jvm_search, jvm_shrink, jvm_trace, jvm_verify}
use Rattle.command_line.proofs.parsers.with_parsers.Goals as goal

pub returns : goal.returns
returns c =
    let one = c.in_ok-program.ensures jvm_run c.run_parser.ensures in
    let two = c.in_ok-program-2.ensures jvm_replay c.replay_parser.ensures ∙ ap (λ app. with_subcommand app jvm_replay.top) one in
    let three = c.in_ok-program-3.ensures jvm_trace c.trace_parser.ensures ∙ ap (λ app. with_subcommand app jvm_trace.top) two in
    let four = c.in_ok-program-4.ensures jvm_races c.races_parser.ensures ∙ ap (λ app. with_subcommand app jvm_races.top) three in
    let five = c.in_ok-program-5.ensures jvm_search c.search_parser.ensures ∙ ap (λ app. with_subcommand app jvm_search.top) four in
    let six = c.in_ok-program-6.ensures jvm_shrink c.shrink_parser.ensures ∙ ap (λ app. with_subcommand app jvm_shrink.top) five in
    let seven = c.in_ok-program-7.ensures jvm_verify c.verify_parser.ensures ∙ ap (λ app. with_subcommand app jvm_verify.top) six in
    let eight = c.in_ok-program-8.ensures jvm_disasm c.disasm_parser.ensures ∙ ap (λ app. with_subcommand app jvm_disasm.top) seven in
    IfOk-weaker c.with_parser-9.result _ _ (λ whole added. added ∙ ap (λ app. with_subcommand app jvm_schedule.top) eight) (c.with_parser-9.ensures jvm_schedule c.schedule_parser.ensures)
