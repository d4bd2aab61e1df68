use Rattle.link_conditions.proofs.limits_of_linking.climb.+steps_each.Given as goal

abbrev pub decreases-steps_each : goal.decreases-steps_each
decreases-steps_each l = l.steps
