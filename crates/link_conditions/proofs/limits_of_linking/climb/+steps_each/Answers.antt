use Rattle.std.proofs.Common.{◌≡◌, ◌+◌, ◌/◌, ◌∙◌, map, Vec, Global, arith}
use Rattle.link_conditions.specs.declared.limits_of_linking.climb.Climb.{Climb}
use Rattle.link_conditions.specs.limits_of_linking.Climbing.{onward}
use Rattle.link_conditions.proofs.limits_of_linking.ClimbLaws.{twice, one_more}
use Rattle.link_conditions.proofs.limits_of_linking.climb.+steps_each.Goals as goal
use Rattle.hierarchy.proofs.Indices.{ok_weaken}

pub returns-then-steps-eq0 : goal.returns-then-steps-eq0
returns-then-steps-eq0 t c files one =
    let half = c.in_ok-half.ensures files one in
    twice files (c.args.steps / 2) c.args.steps c.in_ok-half.half.items c.deref.result.now c.deref-2.result.now c.in_ok-even.even.items half c.deref.ensures.value c.deref-2.ensures.value c.in_ok-even.ensures (omega arith)

pub returns : goal.returns
returns t c files one =
    let n = c.args.steps / 2 in
    let half = c.in_ok-half.ensures files one in
    let even = twice files n (n + n) c.in_ok-half.half.items c.deref.result.now c.deref-2.result.now c.in_ok-even.even.items half c.deref.ensures.value c.deref-2.ensures.value c.in_ok-even.ensures (omega arith) in
    ok_weaken _ _ (λ (rows : Vec Climb Global) (made : rows.items ≡ map (onward c.args.one.now) c.deref-3.result.now). one_more files (n + n) c.args.steps c.deref-3.result.now c.args.one.now rows.items (c.deref-3.ensures.value ∙ even) one made (omega arith)) c.both-2.result c.both-2.ensures
