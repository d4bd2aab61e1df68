use Rattle.std.proofs.Common.{◌≡◌, drop}
use Rattle.std.specs.List.{list_any, filter_map}
use Rattle.model.specs.Pool.{class_name_at}
use Rattle.model.specs.Hierarchy.{is_found_class, implements_class}
use Rattle.classfile.specs.View.{file_of}
use Rattle.link_conditions.proofs.class_rules.class.implements_class.Given as goal

abbrev pub invariant-loop-index : goal.invariant-loop-index
invariant-loop-index l =
    list_any (is_found_class l.set) (filter_map (class_name_at l.file.pool) (drop l.index-index l.file.interfaces.items)) ≡ implements_class l.set (file_of l.file)
