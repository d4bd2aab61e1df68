use Rattle.std.proofs.Common.{◌≡◌, ◌++◌, drop, map}
use Rattle.class_tree.specs.View.{field_of}
use Rattle.class_tree.specs.builtin.View.{fields_in}
use Rattle.class_tree.proofs.builtin.form.fields_of.Given as goal

abbrev pub invariant-loop-field : goal.invariant-loop-field
invariant-loop-field l = map field_of l.fields.items ++ fields_in (drop l.field-index l.stored) ≡ fields_in l.stored
