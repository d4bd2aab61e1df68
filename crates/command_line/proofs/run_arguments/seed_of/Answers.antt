use Rattle.std.proofs.Common.{Some, None, codes}
use Rattle.command_line.proofs.CommandLineLemmas.{first_is, is_number, no_number, refuses}
use Rattle.command_line.proofs.run_arguments.seed_of.Goals as goal

pub returns-in-None-clause-number : goal.returns-in-None-clause-number
returns-in-None-clause-number c = rw (first_is c.args.matches.now (codes "seed") None c.in-None.ensures) tt

pub returns-in-Some-seed_by-clause-number : goal.returns-in-Some-seed_by-clause-number
returns-in-Some-seed_by-clause-number c =
    let digits = c.in-Some-seed_by.ensures.0 in
    rw (first_is c.args.matches.now (codes "seed") (Some c.in-Some.text.now) c.in-Some.ensures)
    (is_number c.in-Some.text.now 0 18446744073709551615 c.in-Some-seed_by.seed digits.0 digits.1 digits.2 c.in-Some-seed_by.ensures.1)

pub returns-in-None-seed_by-clause-none : goal.returns-in-None-seed_by-clause-none
returns-in-None-seed_by-clause-none c =
    refuses c.no_number.result _ c.no_number.ensures (rw (first_is c.args.matches.now (codes "seed") (Some c.in-Some.text.now) c.in-Some.ensures)
    (no_number c.in-Some.text.now 0 18446744073709551615 c.in-None-seed_by.ensures))
