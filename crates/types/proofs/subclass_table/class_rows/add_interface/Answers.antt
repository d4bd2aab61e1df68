use Rattle.std.proofs.Common.{◌≤◌, ℕ, List, [], ◌∷◌, Option, Bor, length, arith, sym, subst, ap}
use Rattle.std.specs.Option.{option_map, option_to_list}
use Rattle.types.specs.subclass_table.Settled.{IsSettled, EachOf, is_near}
use Rattle.types.specs.subclass_table.Rows.{IsRow}
use Rattle.types.proofs.subclass_table.Making.{interface_added}
use Rattle.types.proofs.subclass_table.class_rows.add_interface.Goals as goal

pub returns-in-Some-rows_of_name-clause-near : goal.returns-in-Some-rows_of_name-clause-near
returns-in-Some-rows_of_name-clause-near c = λ columns steps p are is answer.
    let files = c.args.set.now in
    let name = c.in-Some.name.now in
    let near = c.args.near.now.items in
    let its = c.in-Some-rows_of_name.ensures columns (length near) steps are in
    let row = subst (IsRow files columns (is_near files name)) (sym c.deref.ensures.value) its.near in
    let wide : length c.deref.result.now ≤ length near = omega (arith, ap length c.deref.ensures.value, its.near_wide) in
    interface_added files columns p near c.deref.result.now c.add_row.new.row.items _ name (ap (λ (o : Option (Bor (List ℕ))). option_to_list (option_map (λ t. t.now) o)) c.in-Some.is) is row (c.add_row.ensures.bits wide)

pub returns-in-Some-rows_of_name-clause-settled : goal.returns-in-Some-rows_of_name-clause-settled
returns-in-Some-rows_of_name-clause-settled c = λ columns steps are answer.
    let its = c.in-Some-rows_of_name.ensures columns (length c.args.near.now.items) steps are in
    let one : EachOf (IsSettled c.args.set.now steps) (c.in-Some.name.now ∷ []) = (its.settled, tt) in
    subst (λ (o : Option (Bor (List ℕ))). EachOf (IsSettled c.args.set.now steps) (option_to_list (option_map (λ t. t.now) o))) (sym c.in-Some.is) one
