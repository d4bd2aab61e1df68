use Rattle.std.proofs.Common.{◌≡◌, take, map}
use Rattle.library_files.specs.Adding.{kept_at, library_file}
use Rattle.library_files.specs.Offers.{is_among}
use Rattle.library_files.proofs.adding.classes_at.Given as goal

abbrev pub invariant-loop-place : goal.invariant-loop-place
invariant-loop-place l = map library_file l.classes.items ≡ kept_at (is_among l.places) 0 (map library_file (take l.place l.library))
