use Rattle.std.proofs.Common.{arith, ◌≡◌, ◌++◌, ◌∷◌, ◌-◌, [], map, ap, ◌∙◌}
use Rattle.model.specs.Rows.{counting}
use Rattle.next_accesses.specs.element_ranges.Ranges.{element_action}
use Rattle.next_accesses.proofs.element_ranges.Counted.{none_counted, one_counted}
use Rattle.next_accesses.proofs.element_ranges.push_elements.Goals as goal

pub elements-init : goal.elements-init
elements-init c = (omega arith, omega arith, none_counted (element_action c.args.range) c.args.found.now.items c.args.range.first)

pub elements-preserved : goal.elements-preserved
elements-preserved c =
    let now = c.elements.found.items in
    let within = c.elements.invariant.0 in (
      omega (arith, within),
      omega (arith, within, c.elements-test.true),
      one_counted (element_action c.args.range) c.args.found.now.items c.args.range.first c.elements.index within now c.push.new.self.items c.elements.invariant.2
          (c.in_ok-push.ensures.items ∙ ap (λ a. now ++ a ∷ []) c.element_access.ensures),
    )

pub returns : goal.returns
returns c =
    let range = c.args.range in
    let same : c.elements.index - range.first ≡ range.end - range.first = omega (arith, c.elements.invariant.0, c.elements.invariant.1, c.elements-test.false) in
    c.elements.invariant.2 ∙ ap (λ n. c.args.found.now.items ++ map (element_action range) (counting range.first n)) same
