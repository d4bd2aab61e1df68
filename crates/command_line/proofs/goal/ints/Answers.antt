use Rattle.std.proofs.Common.{◌∙◌, ap, map, rules, tests}
use Rattle.std.proofs.lemmas.Result.{IfOk-weaker}
use Rattle.command_line.proofs.CommandLineLemmas.{refused_more}
use Rattle.command_line.proofs.GoalLemmas.{ints_of, no_ints}
use Rattle.command_line.proofs.goal.ints.Goals as goal

pub returns-clause-ints : goal.returns-clause-ints
returns-clause-ints c =
    let parts_are = ap (map (λ text. text.now)) c.as_slice.ensures.value ∙ c.in_ok-parts.ensures in
    IfOk-weaker c.each_int.result _ _ (λ found each. ints_of c.args.text.now _ parts_are found.items each) c.each_int.ensures.ints

pub returns-clause-none : goal.returns-clause-none
returns-clause-none c =
    let parts_are = ap (map (λ text. text.now)) c.as_slice.ensures.value ∙ c.in_ok-parts.ensures in
    refused_more c.each_int.result _ _ (no_ints c.args.text.now _ parts_are (search (rules, tests))) c.each_int.ensures.none
