use Rattle.std.proofs.Common.{◌∙◌, ◌++◌, ◌+◌, ◌<◌, ◌≤◌, ℕ, List, Option, length, take, get_or, sym, ap, subst}
use Rattle.std.specs.Option.{option_map, option_to_list}
use Rattle.std.specs.List.{filter_map}
use Rattle.classfile.specs.View.{file_of}
use Rattle.model.specs.Names.{Name}
use Rattle.model.specs.Pool.{class_name_at}
use Rattle.hierarchy.proofs.Indices.{take_enough}
use Rattle.types.specs.subclass_table.Made.{AreMade}
use Rattle.types.proofs.subclass_table.Making.{own, near_begins, near_more, near_ends, index_taken}
use Rattle.types.proofs.subclass_table.class_rows.near_row.Goals as goal

pub loop-index-init : goal.loop-index-init
loop-index-init c =
    let files = c.args.set.now in
    let columns = c.args.columns.now in
    let file = file_of c.args.file.now in
    let row = c.in_ok-near.near.items in
    record {
      wide = c.in_ok-near.ensures.wide;
      near = λ steps are. near_begins files columns steps file row (own files columns c.args.place file row c.requires.own c.requires.stands c.in_ok-near.ensures.own);
    }

pub loop-index-preserved : goal.loop-index-preserved
loop-index-preserved c =
    let files = c.args.set.now in
    let columns = c.args.columns.now in
    let h = class_name_at c.args.file.now.pool in
    let xs = c.args.file.now.interfaces.items in
    let i = c.loop-index.index-index in
    let row = c.loop-index.near.items in
    let names = filter_map h (take i xs) in
    let less : i < length xs = subst (λ (l : List ℕ). i < length l) c.deref-index-items.ensures.value c.loop-index-test.true in
    let name = c.class_name.ensures ∙ ap (λ (l : List ℕ). h (get_or l i 0)) c.deref-index-items.ensures.value in
    record {
      wide = c.add_interface.ensures.wide ∙ c.loop-index.invariant.wide;
      near = λ steps are.
          let made = subst (λ n. AreMade files columns n steps c.args.made.now) (sym c.loop-index.invariant.wide) are in
          near_more files columns steps (file_of c.args.file.now) names (option_to_list (option_map (λ t. t.now) c.class_name.result)) (filter_map h (take (i + 1) xs)) row c.add_interface.new.near.items
          (c.loop-index.invariant.near steps are) (c.add_interface.ensures.settled columns steps made c.if-not-add_interface.false)
          (index_taken h xs i less ∙ ap (λ (o : Option Name). names ++ option_to_list o) (sym name))
          (λ p is. c.add_interface.ensures.near columns steps p made is c.if-not-add_interface.false);
    }

pub returns-clause-near : goal.returns-clause-near
returns-clause-near c = λ steps are.
    let xs = c.args.file.now.interfaces.items in
    let h = class_name_at c.args.file.now.pool in
    let past : length xs ≤ c.loop-index.index-index = subst (λ (l : List ℕ). length l ≤ c.loop-index.index-index) c.deref-index-items.ensures.value c.loop-index-test.false in
    near_ends c.args.set.now c.args.columns.now steps (file_of c.args.file.now) _ c.loop-index.near.items (ap (filter_map h) (take_enough xs c.loop-index.index-index past)) (c.loop-index.invariant.near steps are)
