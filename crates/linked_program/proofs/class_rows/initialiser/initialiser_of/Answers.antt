use Rattle.std.proofs.Common.{◌∙◌, sym}
use Rattle.classfile.specs.View.{file_of}
use Rattle.linked_program.proofs.class_rows.Initialising.{member_is, no_body, initialised}
use Rattle.linked_program.proofs.class_rows.initialiser.initialiser_of.Goals as goal

pub returns-then-has_code : goal.returns-then-has_code
returns-then-has_code c =
    let files = c.args.set.now in
    let file = file_of c.args.file.now in
    let place = c.in-Some.place in
    let is = member_is files c.requires.linked c.args.class file c.requires.stands place c.in-Some.ensures.found c.in-Some.ensures.place in
    initialised files c.requires.linked c.args.class file c.requires.stands place c.in-Some.ensures.found c.in-Some.ensures.place c.method_number.result
    (c.method_number.ensures _ is) (sym c.has_code.ensures ∙ c.if-has_code.true)

pub returns-else-has_code : goal.returns-else-has_code
returns-else-has_code c =
    no_body c.args.set.now c.requires.linked c.args.class (file_of c.args.file.now) c.requires.stands c.in-Some.place c.in-Some.ensures.found c.in-Some.ensures.place
    (sym c.has_code.ensures ∙ c.if-has_code.false)
