use Rattle.std.proofs.Common.{◌≡◌, ◌++◌, ◌∷◌, [], List, ℕ, Bor, map, ap, ◌∙◌}
use Rattle.std.proofs.lemmas.List.{map-append}
use Rattle.model.specs.Lookup.{instance_fields}
use Rattle.field_names.proofs.instance_variables.Lists.{class_told}
use Rattle.field_names.proofs.instance_variables.instance_variables.Goals as goal

abbrev now : Bor (List ℕ) → List ℕ
now t = t.now

pub classes-preserved : goal.classes-preserved
classes-preserved c =
    let files = c.args.linked.now in
    let left = c.pop.new.self.items in
    let names : map now c.classes.names.items ≡ map now left ++ c.in-Some.name.now ∷ [] = ap (map now) c.in-Some.ensures.items ∙ map-append now left (c.in-Some.name ∷ []) in
    class_told files (map now c.classes.names.items) (map now left) c.in-Some.name.now c.classes.told.items c.push_own.new.told.items (instance_fields files c.args.class.now)
    names c.classes.invariant c.in_ok-push_own.ensures
