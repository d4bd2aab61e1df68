use Rattle.std.proofs.Common.{ℕ, ◌+◌, arith, ap, ◌∙◌}
use Rattle.link_conditions.proofs.class_rules.Packages.{package_from, none_seen, after_slash, after_other}
use Rattle.link_conditions.proofs.class_rules.name.package_of.Goals as goal
use Rattle.link_conditions.proofs.class_rules.name.package_of.Goals.{then-byte-eq47, else-byte-eq47}

pub loop-place-init : goal.loop-place-init
loop-place-init c = record { within = search arith; found = none_seen c.args.name.now }

pub loop-place-preserved : goal.loop-place-preserved
loop-place-preserved c =
    let name = c.args.name.now in
    let place = c.loop-place.place in
    elim c.if-byte-eq47.branch [
      | then-byte-eq47 w ↦ record {
        within = omega arith;
        found = ap (λ (end : ℕ). package_from name (place + 1) end) w.end-is ∙ after_slash name place c.loop-place-test.true c.loop-place.end w.if-byte-eq47.true ∙ c.loop-place.invariant.found;
      }
      | else-byte-eq47 w ↦ record {
        within = omega arith;
        found = ap (λ (end : ℕ). package_from name (place + 1) end) w.end-is ∙ after_other name place c.loop-place-test.true c.loop-place.end w.if-byte-eq47.false ∙ c.loop-place.invariant.found;
      }
    ]
