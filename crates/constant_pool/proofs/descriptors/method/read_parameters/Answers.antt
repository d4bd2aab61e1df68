use Rattle.std.proofs.Common.{◌≡◌, ◌∷◌, ◌++◌, [], ◌-◌, suc, length, ◌<◌, arith, map, ◌∙◌, ap}
use Rattle.std.proofs.lemmas.List.{map-append}
use Rattle.constant_pool.specs.descriptors.View.{field_of}
use Rattle.constant_pool.proofs.descriptors.MethodLaws.{behind_step}
use Rattle.constant_pool.proofs.descriptors.method.read_parameters.Goals as goal

pub parameters-preserved : goal.parameters-preserved
parameters-preserved c =
    let front = map field_of c.parameters.parameters.items in
    let pushed : map field_of c.push.new.self.items ≡ front ++ field_of c.in-Some.field ∷ [] = ap (map field_of) c.in_ok-push.ensures.items ∙ map-append field_of c.parameters.parameters.items (c.in-Some.field ∷ []) in
    let left : c.parameters.left ≡ suc (c.parameters.left - 1) = omega arith in
    let some : 0 < length c.parameters.rest.now = omega (arith, c.in-len1-up.len_at_least) in
    rw (pushed) (behind_step front c.parameters.left (c.parameters.left - 1) c.parameters.rest.now (field_of c.in-Some.field) c.in-Some.behind.now _ left some c.if-first-eq41.false c.in-Some.ensures c.parameters.invariant)
