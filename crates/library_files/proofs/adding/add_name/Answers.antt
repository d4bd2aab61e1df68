use Rattle.std.proofs.Common.{map}
use Rattle.library_files.specs.Adding.{library_file}
use Rattle.library_files.proofs.Needing.{on_ok}
use Rattle.library_files.proofs.Offering.{adds_place, adds_nothing}
use Rattle.library_files.proofs.adding.add_name.Goals as goal

pub returns-in-Some : goal.returns-in-Some
returns-in-Some c =
    on_ok c.add_place.result
    (λ adds files are. adds_place (map library_file c.args.library.now) files c.args.places.now.items c.add_place.new.places.items c.args.name.now c.in-Some.place adds (c.in-Some.ensures files are))
    c.add_place.ensures

pub returns-in-None : goal.returns-in-None
returns-in-None c = λ files are. adds_nothing (map library_file c.args.library.now) files c.args.places.now.items c.args.name.now (c.in-None.ensures files are)
