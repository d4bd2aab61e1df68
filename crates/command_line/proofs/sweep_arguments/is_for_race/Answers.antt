use Rattle.std.proofs.Common.{Some, None, ap, codes, sym, ◌∙◌}
use Rattle.std.proofs.lemmas.Bool.{false≢true}
use Rattle.std.proofs.lemmas.Option.{none-some, same_Some}
use Rattle.command_line.proofs.CommandLineLemmas.{first_is}
use Rattle.command_line.proofs.sweep_arguments.is_for_race.Goals as goal

pub returns-in-Some-clause-race : goal.returns-in-Some-clause-race
returns-in-Some-clause-race c =
    λ it. first_is c.args.matches.now (codes "for") (Some c.in-Some.word.now) c.in-Some.ensures ∙ ap Some (c.is_race_word.ensures.race it)

pub returns-in-Some-clause-other : goal.returns-in-Some-clause-other
returns-in-Some-clause-other c =
    λ it is. c.is_race_word.ensures.other it
    (same_Some c.in-Some.word.now (codes "race") (sym (first_is c.args.matches.now (codes "for") (Some c.in-Some.word.now) c.in-Some.ensures) ∙ is))

pub returns-in-None-clause-race : goal.returns-in-None-clause-race
returns-in-None-clause-race c = λ it. absurd (false≢true it)

pub returns-in-None-clause-other : goal.returns-in-None-clause-other
returns-in-None-clause-other c = λ it is. none-some (codes "race") (sym (first_is c.args.matches.now (codes "for") None c.in-None.ensures) ∙ is)
