use Rattle.std.proofs.Common.{arith, ◌∙◌, [], map, sym, ap}
use Rattle.std.specs.List.{list_any}
use Rattle.std.proofs.lemmas.List.{take_all}
use Rattle.hierarchy.proofs.Finding.{position_absent}
use Rattle.library_files.specs.declared.library_class.LibraryClass.{LibraryClass}
use Rattle.library_files.specs.Adding.{library_file}
use Rattle.library_files.specs.Offers.{has_name}
use Rattle.library_files.proofs.Offering.{first_named}
use Rattle.library_files.proofs.offers.place_of.Goals as goal

pub returns-then-has_name : goal.returns-then-has_name
returns-then-has_name c =
    let d : LibraryClass = record { name = record { ref_ptr = (0, 0); now = [] }; bytes = record { ref_ptr = (0, 0); now = [] } } in
    first_named c.args.name.now c.args.library.now c.loop-place.place d c.loop-place-test.true (sym c.has_name.ensures ∙ c.if-has_name.true) c.loop-place.invariant

pub returns : goal.returns
returns c =
    let library = c.args.library.now in
    sym (position_absent (has_name c.args.name.now) (map library_file library)
    (ap (λ l. list_any (has_name c.args.name.now) (map library_file l)) (sym (take_all c.loop-place.place library (omega (arith, c.loop-place-test.false)))) ∙ c.loop-place.invariant))
