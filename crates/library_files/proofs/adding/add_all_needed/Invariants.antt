use Rattle.std.proofs.Common.{◌≡◌, take, map}
use Rattle.std.specs.List.{flat_map}
use Rattle.model.specs.Classes.{Program}
use Rattle.class_tree.specs.View.{file_of}
use Rattle.library_files.specs.Needs.{needed_classes}
use Rattle.library_files.specs.Adding.{library_file}
use Rattle.library_files.specs.Offers.{AddsPlaces, offers_of}
use Rattle.library_files.proofs.adding.add_all_needed.Given as goal

abbrev pub invariant-loop-file : goal.invariant-loop-file
invariant-loop-file l =
    (program : Program) → l.offers ≡ offers_of program (map library_file l.library)
    → AddsPlaces (map library_file l.library) program l.fn.places.items l.places.items (flat_map needed_classes (map file_of (take l.file-index l.files)))
