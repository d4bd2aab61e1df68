use Rattle.std.proofs.Common.{◌≡◌, ◌++◌, ◌∷◌, [], ◌∙◌, true, false, cond, map, sym, ap}
use Rattle.std.specs.List.{list_any}
use Rattle.model.specs.Names.{name_eq}
use Rattle.hierarchy.proofs.RowLaws.{any_map, pushed}
use Rattle.linker.proofs.linked_types.names.NameNumbers.add.Goals as goal

pub returns-then-contains : goal.returns-then-contains
returns-then-contains c =
    let set = c.self.inside in
    let names = c.args.self.now in
    let name = c.args.name.now in
    let there : list_any (name_eq name) names ≡ true =
    ap (list_any (name_eq name)) (sym c.self.view_is) ∙ sym (any_map (λ name. name.items) (name_eq name) set.names.keys) ∙ sym c.contains.ensures ∙ c.if-contains.true
    in
    sym (ap (λ b. cond b names (names ++ name ∷ [])) there)

pub returns : goal.returns
returns c =
    let set = c.self.inside in
    let new : list_any (name_eq c.args.name.now) c.args.self.now ≡ false =
    ap (list_any (name_eq c.args.name.now)) (sym c.self.view_is) ∙ sym (any_map (λ name. name.items) (name_eq c.args.name.now) set.names.keys) ∙ sym c.contains.ensures ∙ c.if-contains.false
    in
    ap (λ l. map (λ name. name.items) l) c.in-Ok.ensures.keys
    ∙ pushed (λ name. name.items) set.names.keys c.in_ok-name.name c.args.self.now c.args.name.now c.self.view_is c.in_ok-name.ensures.items new
