use Rattle.std.proofs.Common.{Some, None}
use Rattle.command_line.proofs.CommandLineLemmas.{first_is, is_number, no_number, refuses}
use Rattle.command_line.proofs.numbers.NumberOption.number.Goals as goal

pub returns-in-None-clause-number : goal.returns-in-None-clause-number
returns-in-None-clause-number c = rw (first_is c.args.matches.now c.args.self.name.now None c.in-None.ensures) tt

pub returns-in-Some-decimal-clause-number : goal.returns-in-Some-decimal-clause-number
returns-in-Some-decimal-clause-number c =
    let digits = c.in-Some-decimal.ensures.0 in
    rw (first_is c.args.matches.now c.args.self.name.now (Some c.in-Some.text.now) c.in-Some.ensures)
    (is_number c.in-Some.text.now c.args.self.least c.args.self.most c.in-Some-decimal.number digits.0 digits.1 digits.2 c.in-Some-decimal.ensures.1)

pub returns-in-None-decimal-clause-none : goal.returns-in-None-decimal-clause-none
returns-in-None-decimal-clause-none c =
    refuses c.refusal.result _ c.refusal.ensures (rw (first_is c.args.matches.now c.args.self.name.now (Some c.in-Some.text.now) c.in-Some.ensures)
    (no_number c.in-Some.text.now c.args.self.least c.args.self.most c.in-None-decimal.ensures))
