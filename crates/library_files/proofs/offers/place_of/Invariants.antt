use Rattle.std.proofs.Common.{◌≡◌, take, map, false}
use Rattle.std.specs.List.{list_any}
use Rattle.library_files.specs.Adding.{library_file}
use Rattle.library_files.specs.Offers.{has_name}
use Rattle.library_files.proofs.offers.place_of.Given as goal

abbrev pub invariant-loop-place : goal.invariant-loop-place
invariant-loop-place l = list_any (has_name l.name) (map library_file (take l.place l.library)) ≡ false
