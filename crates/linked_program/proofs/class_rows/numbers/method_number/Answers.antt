use Rattle.std.proofs.Common.{arith, Some, subst}
use Rattle.method_tables.specs.method_links.Methods.{member_at, Names}
use Rattle.linked_program.proofs.class_rows.Counts.{number_fits, number_is}
use Rattle.linked_program.proofs.class_rows.numbers.method_number.Goals as goal

pub overflow_cast-result : goal.overflow_cast-result
overflow_cast-result c =
    let files = c.args.set.now in
    omega (arith, number_fits files c.requires.linked c.in-Some.number (member_at files c.args.place) (c.in-Some.ensures files c.requires.methods))

pub returns-in-Some : goal.returns-in-Some
returns-in-Some c = λ m is.
    let files = c.args.set.now in
    number_is files c.in-Some.number m (subst (Names files (Some c.in-Some.number)) is (c.in-Some.ensures files c.requires.methods))
