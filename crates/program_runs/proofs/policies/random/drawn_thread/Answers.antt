use Rattle.std.proofs.Common.{◌≡◌, ◌<◌, ℕ, subst}
use Rattle.rand_core.specs.Stream.{Stream}
use Rattle.program_runs.specs.policies.Draws.{below}
use Rattle.program_runs.specs.policies.Drawn.{words_after}
use Rattle.program_runs.proofs.policies.DrawnThreads.{drawn_is, none_able}
use Rattle.program_runs.proofs.policies.random.drawn_thread.Goals as goal

pub returns-then-count-eq0-clause-drawn : goal.returns-then-count-eq0-clause-drawn
returns-then-count-eq0-clause-drawn c = none_able c.args.machine.now c.enabled_count-count.result c.enabled_count-count.ensures c.if-count-eq0.true

pub returns-clause-drawn : goal.returns-clause-drawn
returns-clause-drawn c =
    let of : ℕ × Stream = (c.below.result, words_after c.below.new.random) in
    let drawn : of ≡ below c.from.result (words_after c.args.random.now) = c.below.ensures.drawn in
    drawn_is c.args.machine.now c.enabled_count-count.result c.below.result c.args.random.now c.below.new.random c.enabled_count-count.ensures c.enabled_at.result c.enabled_at.ensures.at
    (subst (λ n. of ≡ below n (words_after c.args.random.now)) c.from.ensures drawn) (subst (λ n. c.below.result < n) c.from.ensures c.below.ensures.within)
