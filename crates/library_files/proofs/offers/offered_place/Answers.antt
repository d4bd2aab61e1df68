use Rattle.std.proofs.Common.{◌∙◌, map, sym}
use Rattle.library_files.specs.Adding.{library_file}
use Rattle.library_files.proofs.Offering.{nothing_there, offered_there, not_offered}
use Rattle.library_files.proofs.offers.offered_place.Goals as goal

pub returns-in_default : goal.returns-in_default
returns-in_default c = λ files are. nothing_there (map library_file c.args.library.now) files c.args.name.now (sym c.place_of.ensures ∙ c.in_default.is)

pub returns-then-is_offered : goal.returns-then-is_offered
returns-then-is_offered c = λ files are.
    offered_there (map library_file c.args.library.now) files c.args.offers.now c.args.name.now c.in-Some.place are (sym c.in-Some.ensures) (sym c.is_offered.ensures ∙ c.if-is_offered.true)

pub returns : goal.returns
returns c = λ files are.
    not_offered (map library_file c.args.library.now) files c.args.offers.now c.args.name.now c.in-Some.place are (sym c.in-Some.ensures) (sym c.is_offered.ensures ∙ c.if-is_offered.false)
