use Rattle.std.proofs.Common.{◌≡◌, ◌<◌, ◌++◌, ◌∷◌, [], ℕ, List, Bor, length, map, ap, subst, ◌∙◌}
use Rattle.std.proofs.lemmas.List.{map-append}
use Rattle.model.specs.Classes.{classes_of, lineage}
use Rattle.field_names.proofs.instance_variables.Lineages.{one_more, last}
use Rattle.field_names.proofs.instance_variables.lineage.Goals as goal

abbrev now : Bor (List ℕ) → List ℕ
now t = t.now

pub steps-preserved : goal.steps-preserved
steps-preserved c =
    let files = c.args.set.now in
    let names = c.steps.names.items in
    let name = c.steps.name in
    let more : c.steps._step < length (classes_of files) = subst (λ k. c.steps._step < k) c.count-step-end.ensures c.steps-test.true in
    let pushed : map now c.push.new.self.items ≡ map now names ++ name.now ∷ [] = ap (map now) c.in_ok-push.ensures.items ∙ map-append now names (name ∷ []) in
    one_more files (length (classes_of files)) c.steps._step more (map now names) name.now (lineage files c.args.class.now) c.steps.invariant
    c.in-Some.next.now c.in-Some.ensures (map now c.push.new.self.items) pushed

pub returns-in_default : goal.returns-in_default
returns-in_default c =
    let files = c.args.set.now in
    let names = c.steps.names.items in
    let name = c.steps.name in
    let more : c.steps._step < length (classes_of files) = subst (λ k. c.steps._step < k) c.count-step-end.ensures c.steps-test.true in
    let pushed : map now c.push.new.self.items ≡ map now names ++ name.now ∷ [] = ap (map now) c.in_ok-push.ensures.items ∙ map-append now names (name ∷ []) in
    last files (length (classes_of files)) c.steps._step more (map now names) name.now (lineage files c.args.class.now) c.steps.invariant
    c.in_default.ensures (map now c.push.new.self.items) pushed
