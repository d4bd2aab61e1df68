use Rattle.std.proofs.Common.{rules, arith, ◌≡◌, length}
use Rattle.classfile.specs.View.{file_of}
use Rattle.model.specs.Classes.{name_of}
use Rattle.model.specs.Lookup.{instance_fields}
use Rattle.linker.proofs.field_links.Bounds.{instances_fit}
use Rattle.linked_program.proofs.class_rows.numbers.field_count.Goals as goal

pub overflow_cast-result : goal.overflow_cast-result
overflow_cast-result c =
    let files = c.args.set.now in
    let file = file_of c.args.file.now in
    let is : c.in-Some.count ≡ length (instance_fields files (name_of file)) = search rules in
    omega (arith, is, instances_fit files c.requires.linked c.args.class file c.requires.stands)
