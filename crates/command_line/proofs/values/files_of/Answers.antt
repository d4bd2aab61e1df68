use Rattle.std.proofs.Common.{◌∙◌, ap, codes, map, sym, Some, None}
use Rattle.command_line.proofs.CommandLineLemmas.{all_is, no_value, refuses}
use Rattle.command_line.proofs.values.files_of.Goals as goal

pub returns-in_ok-copied-in-Some-clause-files : goal.returns-in_ok-copied-in-Some-clause-files
returns-in_ok-copied-in-Some-clause-files c =
    all_is c.args.matches.now (codes "files") (Some (map (λ text. text.now) c.in-Some.paths.now)) c.in-Some.ensures ∙ ap Some (sym c.in_ok-copied-in-Some.ensures)

pub returns-in-None-clause-none : goal.returns-in-None-clause-none
returns-in-None-clause-none c =
    refuses c.missing.result _ c.missing.ensures (no_value _ (all_is c.args.matches.now (codes "files") None c.in-None.ensures))
