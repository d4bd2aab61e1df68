use Rattle.std.proofs.Common.{◌≡◌, ◌∙◌, ◌∷◌, ◌<◌, ℕ, true, List, length, get_or, ap, subst}
use Rattle.std.specs.Option.{option_to_list}
use Rattle.std.specs.List.{flat_map, filter_map, list_any}
use Rattle.model.specs.Names.{Name, name_eq}
use Rattle.model.specs.Pool.{class_name_at}
use Rattle.hierarchy.specs.Above.{with_names, row_of}
use Rattle.hierarchy.specs.Numbers.{names_of, named_rows}
use Rattle.hierarchy.proofs.RowLaws.{index_added}
use Rattle.hierarchy.proofs.NumberLaws.{index_among}
use Rattle.hierarchy.proofs.rows.add_interfaces.Goals as goal

pub add_named-requires : goal.add_named-requires
add_named-requires c name h =
    let index = class_name_at c.args.file.now.pool in
    let xs = c.args.file.now.interfaces.items in
    let lt : c.loop-index.index-index < length xs = subst (λ (l : List ℕ). c.loop-index.index-index < length l) c.deref-index-items.ensures.value c.loop-index-test.true in
    let is = c.class_name.ensures ∙ ap (λ (l : List ℕ). index (get_or l c.loop-index.index-index 0)) c.deref-index-items.ensures.value in
    c.requires name (index_among (name_eq name) index xs c.loop-index.index-index lt (subst (λ o. list_any (name_eq name) (option_to_list o) ≡ true) is h))

pub loop-index-preserved : goal.loop-index-preserved
loop-index-preserved c =
    let names = c.args.names.now in
    let g : Name → List Name = λ n. n ∷ row_of c.args.set.now (named_rows names c.args.rows.now) n in
    let h = class_name_at c.args.file.now.pool in
    let xs = c.args.file.now.interfaces.items in
    let lt : c.loop-index.index-index < length xs = subst (λ (l : List ℕ). c.loop-index.index-index < length l) c.deref-index-items.ensures.value c.loop-index-test.true in
    index_added g h (names_of names c.loop-index.row) (names_of names c.add_named.new.row) xs c.loop-index.index-index (with_names (names_of names c.args.row.now) (flat_map g (filter_map h xs))) lt
    (c.in_ok-add_named.ensures ∙ ap (λ o. with_names (names_of names c.loop-index.row) (flat_map g (option_to_list o))) (c.class_name.ensures ∙ ap (λ (l : List ℕ). h (get_or l c.loop-index.index-index 0)) c.deref-index-items.ensures.value)) c.loop-index.invariant
