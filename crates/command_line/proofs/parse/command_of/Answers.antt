use Rattle.std.proofs.Common.{◌∙◌, Some, ap, inr, sym}
use Rattle.std.proofs.lemmas.Result.{IfOk-weaker}
use Rattle.clap.specs.Words.{found_of, rows_of}
use Rattle.command_line.specs.CommandLine.{SpellsNothing}
use Rattle.command_line.proofs.CommandLineLemmas.{fails, fails_all, refuses, rows_met, spells_other}
use Rattle.command_line.proofs.CommandNames.{spells_none}
use Rattle.command_line.proofs.parse.command_of.Goals as goal

pub returns-in-Some-clause-spelled : goal.returns-in-Some-clause-spelled
returns-in-Some-clause-spelled c = λ words has.
    let rows = rows_of (found_of c.in-Some.found.now) in
    let met = rows_met c.args.matches.now words c.in-Some.name.now rows has (sym c.in-Some.ensures.name) (sym c.in-Some.ensures.rows) in
    IfOk-weaker c.named_command_of.result _ _ (λ command are. (rows, met ∙ ap (λ name. Some (name, rows)) (sym are.0), are.1)) c.named_command_of.ensures.values

pub returns-in-Some-clause-refused : goal.returns-in-Some-clause-refused
returns-in-Some-clause-refused c = λ words has.
    let rows = rows_of (found_of c.in-Some.found.now) in
    let met = rows_met c.args.matches.now words c.in-Some.name.now rows has (sym c.in-Some.ensures.name) (sym c.in-Some.ensures.rows) in
    fails_all words c.named_command_of.result _ c.named_command_of.ensures.none (λ none. inr (spells_other words c.in-Some.name.now rows met none))

pub returns-in-None-clause-refused : goal.returns-in-None-clause-refused
returns-in-None-clause-refused c = λ words has.
    fails words c.missing.result (SpellsNothing words)
    (refuses c.missing.result _ c.missing.ensures (inr (spells_none c.args.matches.now words has (sym c.in-None.ensures.name)))) (λ nothing. nothing)
