use Rattle.std.proofs.Common.{◌≡◌, ◌∙◌, ◌∷◌, ◌++◌, [], cond, true, false, map, sym, ap}
use Rattle.std.specs.List.{list_any}
use Rattle.model.specs.Names.{name_eq}
use Rattle.hierarchy.proofs.RowLaws.{any_map, pushed}
use Rattle.hierarchy.proofs.name_table.NameTable.add.Goals as goal

pub returns : goal.returns
returns c =
    let set = c.self.inside in
    let named = name_eq c.args.name.now in
    let new : list_any named c.args.self.now ≡ false = sym (c.contains.ensures ∙ any_map (λ name. name.items) named set.names.keys ∙ ap (list_any named) c.self.view_is) ∙ c.if-contains.false in
    ap (λ l. map (λ name. name.items) l) c.in-Ok.ensures.keys
    ∙ pushed (λ name. name.items) set.names.keys c.in_ok-name.name c.args.self.now c.args.name.now c.self.view_is c.in_ok-name.ensures.items new

pub returns-then-contains : goal.returns-then-contains
returns-then-contains c =
    let set = c.self.inside in
    let names = c.args.self.now in
    let named = name_eq c.args.name.now in
    let there : list_any named names ≡ true = sym (c.contains.ensures ∙ any_map (λ name. name.items) named set.names.keys ∙ ap (list_any named) c.self.view_is) ∙ c.if-contains.true in
    sym (ap (λ b. cond b names (names ++ c.args.name.now ∷ [])) there)
