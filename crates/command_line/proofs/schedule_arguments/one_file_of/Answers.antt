use Rattle.std.proofs.Common.{◌∙◌, [], ◌∷◌, Some, None, ap, codes, map, sym}
use Rattle.std.proofs.lemmas.Result.{IfOk-weaker}
use Rattle.command_line.proofs.CommandLineLemmas.{all_is, no_value, refused_more, refuses, some_same}
use Rattle.command_line.proofs.schedule_arguments.one_file_of.Goals as goal

pub returns-in-Some-clause-file : goal.returns-in-Some-clause-file
returns-in-Some-clause-file c =
    let is = all_is c.args.matches.now (codes "files") (Some (map (λ text. text.now) c.in-Some.paths.now)) c.in-Some.ensures in
    IfOk-weaker c.only.result _ _ (λ file alone. is ∙ ap Some alone) c.only.ensures.word

pub returns-in-Some-clause-none : goal.returns-in-Some-clause-none
returns-in-Some-clause-none c =
    let is = all_is c.args.matches.now (codes "files") (Some (map (λ text. text.now) c.in-Some.paths.now)) c.in-Some.ensures in
    refused_more c.only.result _ _ (λ none file alone. none file (some_same _ _ (sym is ∙ alone))) c.only.ensures.none

pub returns-in-None-clause-none : goal.returns-in-None-clause-none
returns-in-None-clause-none c =
    refuses c.missing.result _ c.missing.ensures (λ file. no_value _ (all_is c.args.matches.now (codes "files") None c.in-None.ensures) (file ∷ []))
