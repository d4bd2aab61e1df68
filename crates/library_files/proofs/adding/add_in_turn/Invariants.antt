use Rattle.std.proofs.Common.{◌≡◌, map}
use Rattle.model.specs.Classes.{Program}
use Rattle.library_files.specs.Adding.{library_file}
use Rattle.library_files.specs.Offers.{AreAddedPlaces, IsTurned, offers_of}
use Rattle.library_files.proofs.adding.add_in_turn.Given as goal

abbrev pub invariant-loop-turn : goal.invariant-loop-turn
invariant-loop-turn l =
    (files : Program) → l.offers ≡ offers_of files (map library_file l.library) → AreAddedPlaces (map library_file l.library) files l.fn.places.items
    → IsTurned (map library_file l.library) files l.turn l.fn.places.items l.places.items
