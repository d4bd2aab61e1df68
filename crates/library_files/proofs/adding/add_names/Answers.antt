use Rattle.std.proofs.Common.{arith, ◌≡◌, ◌+◌, ◌∙◌, [], ◌∷◌, ◌++◌, ℕ, List, get_or, map, take, ap, sym}
use Rattle.std.proofs.lemmas.List.{map_more, take_all}
use denote.Ref.{Bor}
use Rattle.library_files.specs.Names.{named}
use Rattle.library_files.specs.Adding.{library_file}
use Rattle.library_files.proofs.Offering.{adds_none, adds_both, adds_same}
use Rattle.library_files.proofs.adding.add_names.Goals as goal

pub loop-name-init : goal.loop-name-init
loop-name-init c = λ files are. adds_none (map library_file c.args.library.now) files c.args.places.now.items

pub loop-name-preserved : goal.loop-name-preserved
loop-name-preserved c = λ files are.
    let library = map library_file c.args.library.now in
    let d : Bor (List ℕ) = record { ref_ptr = (0, 0); now = [] } in
    let i = c.loop-name.name-index in
    let more : named (take (i + 1) c.args.names.now) ≡ named (take i c.args.names.now) ++ (get_or c.args.names.now i d).now ∷ [] =
    map_more (λ t. t.now) c.args.names.now i d (omega (arith, c.loop-name-test.true)) in
    adds_same library files c.args.places.now.items c.add_name.new.places.items _ _ (sym more)
    (adds_both library files c.args.places.now.items c.loop-name.places.items c.add_name.new.places.items _ _ (c.loop-name.invariant files are) (c.in_ok-add_name.ensures files are))

pub returns : goal.returns
returns c = λ files are.
    adds_same (map library_file c.args.library.now) files c.args.places.now.items c.loop-name.places.items _ _ (ap named (take_all c.loop-name.name-index c.args.names.now (omega (arith, c.loop-name-test.false))))
    (c.loop-name.invariant files are)
