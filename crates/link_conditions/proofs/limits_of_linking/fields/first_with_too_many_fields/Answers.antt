use Rattle.std.proofs.Common.{◌≡◌, ◌<◌, ◌≤◌, length, drop, ap, ⊎_elim, ◌∙◌, arith}
use Rattle.std.specs.Prelude.{position, nat_lt}
use Rattle.model.specs.Classes.{classes_of}
use Rattle.link_conditions.specs.declared.limits_of_linking.climb.Climb.{Climb}
use Rattle.link_conditions.specs.limits_of_linking.Climbing.{climbs}
use Rattle.link_conditions.proofs.limits_of_linking.ClimbLaws.{built_in_at_least, too_many_at, rest_of}
use Rattle.link_conditions.proofs.limits_of_linking.fields.first_with_too_many_fields.Goals as goal

pub returns-in_default : goal.returns-in_default
returns-in_default c =
    let files = c.args.set.now in
    let count : 37 ≤ length (climbs files (length (classes_of files))) = built_in_at_least files (length (classes_of files)) in
    let same : length c.deref.result.now ≡ length (climbs files (length (classes_of files))) = ap length (c.deref.ensures.value ∙ c.in_ok-rows.ensures) in
    absurd (⊎_elim (λ (h : length c.deref.result.now < 37). omega (arith, h, same, count)) (λ (h : length c.deref.result.now < length c.deref.result.now). omega (arith, h)) c.in_default.ensures.lookup.0)

pub returns : goal.returns
returns c =
    let files = c.args.set.now in
    c.first_above_limit.ensures
    ∙ ap (position (λ (row : Climb). nat_lt 65535 row.cells)) (c.in-Some.ensures.lookup.0.2 ∙ rest_of c.deref.result.now ∙ ap (drop 37) (c.deref.ensures.value ∙ c.in_ok-rows.ensures))
    ∙ too_many_at files
