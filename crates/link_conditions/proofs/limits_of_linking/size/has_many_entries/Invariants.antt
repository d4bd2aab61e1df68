use Rattle.std.proofs.Common.{◌<◌, ◌≤◌, length, map, take}
use Rattle.std.specs.List.{flat_map}
use Rattle.classfile.specs.View.{file_of}
use Rattle.model.specs.StringConstants.{texts_in}
use Rattle.link_conditions.proofs.limits_of_linking.size.has_many_entries.Given as goal

abbrev pub invariant-loop-file : goal.invariant-loop-file
invariant-loop-file l = l.entries < 18446744073709551615 → length (flat_map texts_in (map file_of (take l.file-index l.files))) ≤ l.entries
