use Rattle.std.proofs.Common.{◌≡◌, ◌∙◌, ◌∷◌, [], ◌++◌, true, List, Option, sym, ap, subst}
use Rattle.std.specs.Option.{option_to_list, option_and_then, option_map_or}
use Rattle.std.specs.List.{flat_map, list_any}
use Rattle.class_tree.specs.View.{file_of}
use Rattle.model.specs.Names.{Name, name_eq}
use Rattle.model.specs.Tree.{FileTree}
use Rattle.model.specs.Classes.{interface_names, super_name_of}
use Rattle.hierarchy.specs.Above.{with_names, row_of, next_row}
use Rattle.hierarchy.specs.Numbers.{names_of, named_rows}
use Rattle.hierarchy.proofs.Indices.{ok_weaken}
use Rattle.hierarchy.proofs.RowLaws.{both_added}
use Rattle.hierarchy.proofs.NumberLaws.{has_direct, has_interfaces, has_superclass}
use Rattle.hierarchy.proofs.rows.row_above.Goals as goal

pub add_interfaces-requires : goal.add_interfaces-requires
add_interfaces-requires c =
    let file = file_of c.in-Some.file.now in
    has_interfaces c.args.names.now file (has_direct c.args.set.now c.args.names.now c.args.class.now file c.requires (sym c.in-Some.ensures))

pub add_named-requires : goal.add_named-requires
add_named-requires c name h =
    let file = file_of c.in-Some.file.now in
    has_superclass c.args.names.now file (has_direct c.args.set.now c.args.names.now c.args.class.now file c.requires (sym c.in-Some.ensures)) name
    (subst (λ o. list_any (name_eq name) (option_to_list o) ≡ true) c.superclass_name.ensures h)

pub returns-in-Interfaces : goal.returns-in-Interfaces
returns-in-Interfaces c =
    let files = c.args.set.now in
    let names = c.args.names.now in
    let rows = named_rows names c.args.rows.now in
    let file = file_of c.in-Some.file.now in
    let g : Name → List Name = λ n. n ∷ row_of files rows n in
    ok_weaken _ _ (λ row is. ap (names_of names) is
    ∙ c.in_ok-add_interfaces.ensures ∙ ap (λ l. with_names (names_of names l) (flat_map g (interface_names file))) c.clear.ensures
    ∙ ap (λ (o : Option FileTree). with_names [] (flat_map g (option_map_or interface_names o []))) c.in-Some.ensures
    ∙ ap (λ kind. next_row files kind rows c.args.class.now) (sym c.in-Interfaces.is)) c.to_row.result c.to_row.ensures

pub returns-in_ok-add_named-in-Supertypes : goal.returns-in_ok-add_named-in-Supertypes
returns-in_ok-add_named-in-Supertypes c =
    let files = c.args.set.now in
    let names = c.args.names.now in
    let rows = named_rows names c.args.rows.now in
    let file = file_of c.in-Some.file.now in
    let g : Name → List Name = λ n. n ∷ row_of files rows n in
    let near = names_of names c.add_interfaces.new.row in
    let all = names_of names c.add_named.new.row in
    let first : near ≡ with_names [] (flat_map g (interface_names file)) = c.in_ok-add_interfaces.ensures ∙ ap (λ l. with_names (names_of names l) (flat_map g (interface_names file))) c.clear.ensures in
    let second : all ≡ with_names near (flat_map g (option_to_list (super_name_of file))) = c.in_ok-add_named-in-Supertypes.ensures ∙ ap (λ o. with_names near (flat_map g (option_to_list o))) c.superclass_name.ensures in
    ok_weaken _ _ (λ row is. ap (names_of names) is
    ∙ both_added g [] near all (interface_names file) (option_to_list (super_name_of file)) first second
    ∙ ap (λ (o : Option FileTree). with_names [] (flat_map g (option_map_or interface_names o [] ++ option_to_list (option_and_then super_name_of o)))) c.in-Some.ensures
    ∙ ap (λ kind. next_row files kind rows c.args.class.now) (sym c.in-Supertypes.is)) c.to_row-in-Supertypes.result c.to_row-in-Supertypes.ensures
