use Rattle.std.proofs.Common.{◌∙◌, sym, ap}
use Rattle.classfile.specs.View.{field_of, file_of}
use Rattle.linker.specs.field_links.Slots.{link_from}
use Rattle.linker.proofs.field_links.FieldPlaces.{link_is, no_class_there, no_field_there}
use Rattle.linker.proofs.field_links.slots.link_at.Goals as goal

pub returns-in_default : goal.returns-in_default
returns-in_default c m at = absurd (no_class_there c.args.set.now m c.args.place (sym c.in_default.ensures) at)

pub returns-in-None : goal.returns-in-None
returns-in-None c m at = absurd (no_field_there c.args.set.now m c.args.place (file_of c.in-Some.file.now) (sym c.in-Some.ensures) (sym c.in-None.ensures) at)

pub returns-in-Some-field_at : goal.returns-in-Some-field_at
returns-in-Some-field_at c m at =
    let f = field_of c.in-Some-field_at.field.now in
    c.link_by.ensures
    ∙ ap (link_from c.args.ends.now c.args.place.class f) c.fields_from.ensures
    ∙ link_is c.args.set.now c.requires.linked c.args.ends.now c.requires.ends m c.args.place (file_of c.in-Some.file.now) f (sym c.in-Some.ensures) (sym c.in-Some-field_at.ensures) at
