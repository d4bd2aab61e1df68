use Rattle.std.proofs.Common.{ap, map, subst, sym, vec_items, Some, None, ◌∙◌}
use Rattle.std.proofs.lemmas.Result.{err_from_is_err_and}
use Rattle.command_line.specs.CommandLine.{AreNumbers, AreNumerals}
use Rattle.command_line.proofs.CommandLineLemmas.{first_is, no_list, refuses_more}
use Rattle.command_line.proofs.numbers.NumberOption.numbers.Goals as goal

pub returns-in-None-clause-numbers : goal.returns-in-None-clause-numbers
returns-in-None-clause-numbers c = rw (first_is c.args.matches.now c.args.self.name.now None c.in-None.ensures) tt

pub returns-in_ok-each_of-in-Some-clause-numbers : goal.returns-in_ok-each_of-in-Some-clause-numbers
returns-in_ok-each_of-in-Some-clause-numbers c =
    let parts_are = ap (map (λ text. text.now)) c.as_slice.ensures.value ∙ c.in_ok-parts-in-Some.ensures in
    rw (first_is c.args.matches.now c.args.self.name.now (Some c.in-Some.text.now) c.in-Some.ensures)
    (subst (λ parts. AreNumerals c.args.self.least c.args.self.most parts (vec_items c.in_ok-each_of-in-Some.field-0)) parts_are c.in_ok-each_of-in-Some.ensures.numbers)

pub returns-in_err-each_of-in-Some-clause-none : goal.returns-in_err-each_of-in-Some-clause-none
returns-in_err-each_of-in-Some-clause-none c =
    let p = err_from_is_err_and c.from_residual-in_err-each_of-in-Some.result c.from_residual-in_err-each_of-in-Some.ensures.1 in
    let least = c.args.self.least in
    let most = c.args.self.most in
    let parts_are = ap (map (λ text. text.now)) c.as_slice.ensures.value ∙ c.in_ok-parts-in-Some.ensures in
    let first = first_is c.args.matches.now c.args.self.name.now (Some c.in-Some.text.now) c.in-Some.ensures in
    rw (p.1, p.2)
    (refuses_more c.in_err-each_of-in-Some.field-0.0 _ _ (λ none numbers are.
    no_list c.in-Some.text.now least most (λ list listed. none list (subst (λ parts. AreNumerals least most parts list) (sym parts_are) listed)) numbers
    (subst (λ text. AreNumbers least most text numbers) first are)) c.in_err-each_of-in-Some.ensures.none)
