use Rattle.std.proofs.Common.{◌≡◌, ◌+◌, take, length}
use Rattle.std.specs.List.{filter, filter_map}
use Rattle.classfile.specs.View.{file_of}
use Rattle.model.specs.AccessFlags.{is_static_field}
use Rattle.model.specs.Classes.{name_of}
use Rattle.linked_code.specs.ClassRows.{constant_in, AreConstants}
use Rattle.linker.specs.class_constants.Constants.{slots_before}
use Rattle.linker.proofs.class_constants.constants.constants_of.Given as goal

abbrev pub invariant-loop-field : goal.invariant-loop-field
invariant-loop-field l = record {
  items : l.field-items ≡ l.file.fields.items;
  slot : l.next ≡ slots_before l.set l.class + length (filter is_static_field (take l.field-index (file_of l.file).fields));
  constants : AreConstants l.set (filter_map (constant_in l.set (name_of (file_of l.file)) (file_of l.file).pool)
      (take l.field-index (file_of l.file).fields)) l.constants.items;
}
