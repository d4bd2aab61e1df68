use Rattle.std.proofs.Common.{◌≡◌, ◌≤◌, ◌*◌, ◌∙◌, suc, length, ap, map, subst, arith}
use Rattle.run_laws.specs.typing_search.Weights.{places}
use Rattle.types.specs.method_code.View.{body_of}
use Rattle.verifier.specs.flow.Leads.{all_leads}
use Rattle.verifier.specs.Looks.{offset_of, RaisesAll}
use Rattle.verifier.proofs.Passing.{passed_on}
use Rattle.verifier.proofs.method.pass_on.Goals as goal

pub returns-clause-led : goal.returns-clause-led
returns-clause-led c =
    let m = c.args.method.now in
    let look = c.args.look.now in
    let raises = subst (λ changed. RaisesAll m c.args.found.now (map offset_of c.deref-2.result.now) c.args.frame.now changed c.raise_all.new.self) c.deref-3.ensures.value c.in_ok-raise_all.ensures in
    passed_on m c.args.handlers.now c.args.found.now c.raise_all.new.self c.args.offset c.args.frame.now look c.deref-2.result.now c.requires.passes
    (c.deref-2.ensures.value ∙ (c.in_ok-leads.ensures ∙ ap (all_leads c.args.offset c.args.handlers.now) c.deref.ensures.value)) raises

pub returns-clause-steps : goal.returns-clause-steps
returns-clause-steps c =
    let m = c.args.method.now in
    let hs = c.args.handlers.now in
    let same = c.in_ok-leads.ensures ∙ ap (all_leads c.args.offset hs) c.deref.ensures.value in
    let count : c.len.result ≡ length c.in_ok-leads.leads.items = omega arith in
    let leads : c.len.result ≡ length (all_leads c.args.offset hs c.args.look.now.targets.items) = count ∙ ap length same in
    let steps = subst (λ n. c.steps_of_changes-steps.result ≤ suc n * suc (places (body_of m))) leads c.steps_of_changes-steps.ensures in
    omega (arith, steps)
