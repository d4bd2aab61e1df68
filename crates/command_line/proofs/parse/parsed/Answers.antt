use Rattle.std.proofs.Common.{◌≡◌, map, string_bytes, subst, true}
use Rattle.std.proofs.lemmas.Result.{err_from_is_err_and}
use Rattle.clap.specs.Words.{HasKind, HasMatchesOf, fault_of, is_simple_and_free, kind_of, takes}
use Rattle.clap.specs.declared.error.kind.ErrorKind.TheVariants.{OutOfMemory}
use Rattle.command_line.proofs.CommandLineLemmas.{memory_fails, parser_fails}
use Rattle.command_line.proofs.parse.parsed.Goals as goal

pub returns-in_err-program-clause-refused : goal.returns-in_err-program-clause-refused
returns-in_err-program-clause-refused c =
    let p = err_from_is_err_and c.from_residual.result c.from_residual.ensures.1 in
    rw (p.1) (memory_fails (map string_bytes c.args.words.now) c.in_err-program.field-0.0 p.0 p.2 c.in_err-program.ensures.err)

pub returns-in-Ok-clause-matches : goal.returns-in-Ok-clause-matches
returns-in-Ok-clause-matches c =
    subst (λ app. HasMatchesOf app (map string_bytes c.args.words.now) c.in-Ok.matches) c.in_ok-program.ensures.app c.in-Ok.ensures.matches

pub returns-in-Err-clause-refused : goal.returns-in-Err-clause-refused
returns-in-Err-clause-refused c =
    let words = map string_bytes c.args.words.now in
    let passes = subst (λ app. takes app words ≡ true → kind_of c.in-Err.error ≡ OutOfMemory) c.in_ok-program.ensures.app c.in-Err.ensures.passes in
    let kinds = subst (λ app. is_simple_and_free app ≡ true → HasKind (fault_of app words) c.in-Err.error) c.in_ok-program.ensures.app c.in-Err.ensures.kinds in
    parser_fails words c.in-Err.error c.parser_usage.result passes kinds c.parser_usage.ensures
