use Rattle.std.proofs.Common.{◌≡◌, ◌∙◌, Some, List, length, map, refl, sym, ap, subst}
use Rattle.std.specs.Prelude.{slice_get}
use Rattle.std.specs.Option.{option_map}
use Rattle.std.proofs.lemmas.Option.{slice_get-map, slice_get_read}
use Rattle.model.specs.Spells.{Spells}
use Rattle.library_files.specs.Adding.{LibraryFile, library_file}
use Rattle.library_files.specs.Offers.{IsTreeAt}
use Rattle.library_files.proofs.Needing.{on_ok}
use Rattle.library_files.proofs.Offering.{adds_by, adds_by_none, same_class, nothing_past}
use Rattle.library_files.proofs.adding.add_needed_at.Goals as goal

pub returns-in-Some : goal.returns-in-Some
returns-in-Some c =
    let classes = c.args.library.now in
    let class = c.in-Some.class.now in
    let place = c.args.place in
    let stands : slice_get (map library_file classes) place ≡ Some (library_file class) =
    slice_get-map library_file classes place ∙ ap (option_map library_file) (slice_get_read classes (length classes) place class refl c.in-Some.ensures.lookup.3.0 c.in-Some.ensures.lookup.1) in
    on_ok c.add_needed_by.result
    (λ adds files are. adds_by (map library_file classes) files c.args.places.now.items c.add_needed_by.new.places.items (Spells class.bytes.now) (IsTreeAt (map library_file classes) place)
    (λ tree spells. (library_file class, stands, spells))
    (λ tree is. subst (λ (f : LibraryFile). Spells f.bytes tree) (same_class (map library_file classes) place is.0 (library_file class) is.1 stands) is.2)
    (adds files are))
    c.add_needed_by.ensures

pub returns-in-None : goal.returns-in-None
returns-in-None c = λ files are.
    adds_by_none (map library_file c.args.library.now) files c.args.places.now.items (IsTreeAt (map library_file c.args.library.now) c.args.place)
    (λ tree is. nothing_past c.args.library.now c.args.place is.0 (sym c.in-None.ensures.lookup.0) is.1)
