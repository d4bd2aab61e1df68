use Rattle.std.proofs.Common.{arith, None, refl}
use Rattle.linked_program.proofs.Main.{has_place, has_number, main_fits, main_numbered}
use Rattle.linked_program.proofs.main_method.main_number.Goals as goal

pub returns-in_default : goal.returns-in_default
returns-in_default c = absurd (has_place c.args.set.now c.requires.linked None c.in_default.ensures.found refl)

pub overflow_cast-result : goal.overflow_cast-result
overflow_cast-result c =
    let files = c.args.set.now in
    omega (arith, main_fits files c.requires.linked c.in-Some.place c.in-Some.ensures.place c.in-Some-number_of.number (c.in-Some-number_of.ensures files c.requires.methods))

pub returns-in-Some-number_of : goal.returns-in-Some-number_of
returns-in-Some-number_of c =
    let files = c.args.set.now in
    main_numbered files c.requires.linked c.in-Some.place c.in-Some.ensures.place c.in-Some.ensures.found c.in-Some-number_of.number (c.in-Some-number_of.ensures files c.requires.methods)

pub returns-in-None : goal.returns-in-None
returns-in-None c =
    let files = c.args.set.now in
    absurd (has_number files c.requires.linked c.in-Some.place c.in-Some.ensures.place None (c.in-None.ensures files c.requires.methods) refl)
