use Rattle.std.proofs.Common.{rules, arith, ◌≡◌, ◌≤◌, ◌++◌, ◌∙◌, map, List, ℕ, ap, length}
use Rattle.model.specs.Tree.{FileTree}
use Rattle.model.specs.Classes.{classes_of, name_of}
use Rattle.model.specs.Lookup.{instance_fields}
use Rattle.linker.specs.field_links.Chains.{count_in, shapes}
use Rattle.linker.specs.field_links.Slots.{sizes}
use Rattle.linker.proofs.field_links.Loops.{size_is, size_fits, class_below, all_classes}
use Rattle.linker.proofs.field_links.sizes.sizes.Goals as goal
use Rattle.hierarchy.proofs.RowLaws.{row_pushed, all_pushed}

pub loop-place-init : goal.loop-place-init
unfolding sizes
loop-place-init c = ap (λ (l : List ℕ). l ++ map (λ (file : FileTree). count_in c.args.counted (instance_fields c.args.set.now (name_of file))) (classes_of c.args.set.now)) c.new-rows.ensures.items

pub loop-place-preserved : goal.loop-place-preserved
loop-place-preserved c =
    let files = c.args.set.now in
    let what = c.args.counted in
    let rows = c.deref.result.now in
    let place = c.loop-place.place in
    let is : rows ≡ shapes what files = c.deref.ensures.value ∙ c.in_ok-shapes.ensures in
    let class = class_below files what rows place is (omega (arith, c.loop-place-test.true, c.deref.ensures.len, c.len-place-end.ensures)) in
    row_pushed (λ (file : FileTree). count_in what (instance_fields files (name_of file))) c.loop-place.rows.items c.push.new.self.items c.chain_sum.result (classes_of files) place class.0 (sizes what files) class.1
    (c.chain_sum.ensures (size_fits files what rows place is c.requires class.0 class.1) ∙ size_is files what rows place is c.requires class.0 class.1) c.in_ok-push.ensures.items c.loop-place.invariant

pub returns : goal.returns
returns c =
    let files = c.args.set.now in
    let what = c.args.counted in
    let rows = c.in_ok-shapes.shapes.items in
    let counted : length rows ≤ c.loop-place.place = search rules in
    all_pushed _ _ _ _ (all_classes files what rows c.loop-place.place c.in_ok-shapes.ensures counted) c.loop-place.invariant
