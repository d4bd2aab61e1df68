use Rattle.std.proofs.Common.{◌∙◌, ◌<◌, ℕ, List, length, get_or, ap, subst}
use Rattle.std.specs.Option.{option_to_list}
use Rattle.std.specs.List.{filter_map}
use Rattle.model.specs.Pool.{class_name_at}
use Rattle.hierarchy.specs.Above.{with_names}
use Rattle.hierarchy.proofs.NumberLaws.{index_named}
use Rattle.hierarchy.proofs.name_table.add_interfaces.Goals as goal

pub loop-index-preserved : goal.loop-index-preserved
loop-index-preserved c =
    let h = class_name_at c.args.file.now.pool in
    let xs = c.args.file.now.interfaces.items in
    let lt : c.loop-index.index-index < length xs = subst (λ (l : List ℕ). c.loop-index.index-index < length l) c.deref-index-items.ensures.value c.loop-index-test.true in
    index_named h c.loop-index.names c.add_named.new.names xs c.loop-index.index-index (with_names c.args.names.now (filter_map h xs)) lt
    (c.in_ok-add_named.ensures ∙ ap (λ o. with_names c.loop-index.names (option_to_list o)) (c.class_name.ensures ∙ ap (λ (l : List ℕ). h (get_or l c.loop-index.index-index 0)) c.deref-index-items.ensures.value)) c.loop-index.invariant
