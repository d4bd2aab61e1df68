use Rattle.std.proofs.Common.{◌∙◌, ap}
use Rattle.classfile.specs.View.{file_of}
use Rattle.model.specs.Classes.{is_interface}
use Rattle.model.specs.ReferenceTypes.{ClassType}
use Rattle.model.specs.Cloning.{is_cloneable}
use Rattle.linked_program.proofs.class_rows.Supers.{super_numbered}
use Rattle.linked_program.proofs.class_rows.row.row_of.Goals as goal

pub returns-clause-row : goal.returns-clause-row
returns-clause-row c =
    let files = c.args.sources.now.set.now in
    let file = file_of c.args.file.now in
    record {
      name = c.in_ok-dotted_name.ensures;
      superclass = super_numbered files c.requires.sources.linked c.args.class file c.superclass_number.result c.requires.stands c.superclass_number.ensures;
      cloneable = c.is_cloneable.ensures ∙ (λ i. is_cloneable (c.requires.sources.same i) (ClassType (c.class_name-2.ensures i)));
      interface = c.is_interface.ensures ∙ ap (is_interface files) c.class_name.ensures;
      fields = c.field_count.ensures;
      cells = c.cell_count.ensures;
      initialiser = c.initialiser_of.ensures;
      constants = c.in_ok-constants_of.ensures;
      selectors = c.requires.rising;
    }
