use Rattle.std.proofs.Common.{◌≡◌, ◌++◌, take}
use Rattle.std.specs.List.{filter_map}
use Rattle.model.specs.DescriptorParts.{class_of_element}
use Rattle.constant_pool.specs.descriptors.View.{field_of}
use Rattle.library_files.specs.Names.{named}
use Rattle.library_files.proofs.names.push_classes.Given as goal

abbrev pub invariant-loop-field : goal.invariant-loop-field
invariant-loop-field l = named l.names.items ≡ named l.fn.names.items ++ filter_map (λ f. class_of_element (field_of f).element) (take l.field-index l.fields)
