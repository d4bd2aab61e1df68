use Rattle.std.proofs.Common.{rules, arith, ◌≡◌, length}
use Rattle.std.specs.Prelude.{filter}
use Rattle.classfile.specs.View.{file_of}
use Rattle.model.specs.Classes.{name_of}
use Rattle.model.specs.HiddenMembers.{is_cell}
use Rattle.model.specs.Lookup.{instance_fields}
use Rattle.linker.proofs.field_links.Bounds.{cells_fit}
use Rattle.linked_program.proofs.class_rows.numbers.cell_count.Goals as goal

pub overflow_cast-result : goal.overflow_cast-result
overflow_cast-result c =
    let files = c.args.set.now in
    let file = file_of c.args.file.now in
    let is : c.in-Some.count ≡ length (filter is_cell (instance_fields files (name_of file))) = search rules in
    omega (arith, is, cells_fit files c.requires.linked c.args.class file c.requires.stands)
