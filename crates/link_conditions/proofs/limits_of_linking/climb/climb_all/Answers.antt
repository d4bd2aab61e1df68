use Rattle.std.proofs.Common.{◌<◌, sym, subst}
use Rattle.link_conditions.proofs.limits_of_linking.climb.climb_all.Goals as goal
use Rattle.hierarchy.proofs.Walks.{some_class}

pub steps_each-requires : goal.steps_each-requires
steps_each-requires c = subst (λ k. 0 < k) (sym c.count.ensures) (some_class c.args.set.now)
