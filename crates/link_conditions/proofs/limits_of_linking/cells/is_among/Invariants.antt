use Rattle.std.proofs.Common.{◌≡◌, drop, map}
use Rattle.std.specs.List.{list_any}
use Rattle.constant_pool.specs.View.{reference_of}
use Rattle.classfile.specs.View.{field_of, file_of}
use Rattle.model.specs.Classes.{name_of}
use Rattle.model.specs.Lookup.{field_member}
use Rattle.model.specs.Names.{member_eq}
use Rattle.link_conditions.proofs.limits_of_linking.cells.is_among.Given as goal

abbrev pub invariant-loop-named : goal.invariant-loop-named
invariant-loop-named l =
    list_any (member_eq (field_member (name_of (file_of l.file)) (file_of l.file).pool (field_of l.field))) (map reference_of l.all)
    ≡ list_any (member_eq (field_member (name_of (file_of l.file)) (file_of l.file).pool (field_of l.field))) (map reference_of (drop l.named-index l.all))
