use Rattle.std.proofs.Common.{◌≡◌, ◌++◌, map, take}
use Rattle.library_files.specs.Adding.{library_file}
use Rattle.engines.specs.Verifications.{own_names}
use Rattle.engines.proofs.verification.push_names.Given as goal

-- the names of the classes so far
abbrev pub invariant-loop-class : goal.invariant-loop-class
invariant-loop-class l = l.text.items ≡ l.fn.text.items ++ own_names (map library_file (take l.class-index l.own))
