use Rattle.std.proofs.Common.{◌≡◌, take, map}
use Rattle.model.specs.Classes.{Program}
use Rattle.library_files.specs.Names.{named}
use Rattle.library_files.specs.Adding.{library_file}
use Rattle.library_files.specs.Offers.{AddsPlaces, offers_of}
use Rattle.library_files.proofs.adding.add_names.Given as goal

abbrev pub invariant-loop-name : goal.invariant-loop-name
invariant-loop-name l =
    (files : Program) → l.offers ≡ offers_of files (map library_file l.library)
    → AddsPlaces (map library_file l.library) files l.fn.places.items l.places.items (named (take l.name-index l.names))
