use Rattle.std.proofs.Common.{map, string_bytes}
use Rattle.std.proofs.lemmas.Result.{err_from_is_err_and}
use Rattle.command_line.proofs.parse.command.Goals as goal

pub returns-clause-spelled : goal.returns-clause-spelled
returns-clause-spelled c = c.command_of.ensures.spelled (map string_bytes c.args.words.now) c.in_ok-matches.ensures.matches

pub returns-clause-refused : goal.returns-clause-refused
returns-clause-refused c = c.command_of.ensures.refused (map string_bytes c.args.words.now) c.in_ok-matches.ensures.matches

pub returns-in_err-matches-clause-refused : goal.returns-in_err-matches-clause-refused
returns-in_err-matches-clause-refused c =
    let p = err_from_is_err_and c.from_residual.result c.from_residual.ensures.1 in
    rw (p.1, p.2) c.in_err-matches.ensures.refused
