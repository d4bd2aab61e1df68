use Rattle.std.proofs.Common.{◌≡◌, ◌≤◌, ◌<◌, ◌^◌, ◌∙◌, arith, refl, subst}
use Rattle.sweeps.specs.Policies.{IsRunWith}
use Rattle.sweeps.proofs.RunsSwept.{HasSwept, begins, few_runs, found_by, gave_up_by, has_run_by, last_by, swept_on}
use Rattle.sweeps.proofs.sweeping.sweep.Goals as goal

pub seeds-init : goal.seeds-init
seeds-init g c = (begins _ _ _ _ c.new-tally.ensures, refl)

pub run_seed-requires-clause-few : goal.run_seed-requires-clause-few
run_seed-requires-clause-few g c κs within = few_runs _ _ _ c.seeds.seed _ c.seeds.invariant.0 (omega (arith, c.ranges.last.fits, c.seeds-test.true))

pub seeds-preserved : goal.seeds-preserved
seeds-preserved g c =
    (swept_on _ (g.W.Watch.may_stop c.args.watch.now) _ c.args.first c.args.last c.seeds.seed _ _ c.seeds.invariant.0 _ (has_run_by _ _ c.seeds.invariant.1 c.in_ok-is_wanted.ensures.has_run) c.if-is_wanted.false, c.run_seed.ensures.same ∙ c.seeds.invariant.1)

pub returns-then-is_wanted : goal.returns-then-is_wanted
returns-then-is_wanted g c =
    found_by _ _ _ c.args.first c.args.last c.seeds.seed _ _ c.seeds.invariant.0 _ (has_run_by _ _ c.seeds.invariant.1 c.in_ok-is_wanted.ensures.has_run) _ refl refl c.if-is_wanted.true (omega (arith, c.seeds-test.true)) refl

pub returns-then-is_over : goal.returns-then-is_over
returns-then-is_over g c =
    gave_up_by _ _ _ c.args.first c.args.last c.seeds.seed _ _ c.seeds.invariant.0 _ (has_run_by _ _ c.seeds.invariant.1 c.in_ok-is_wanted.ensures.has_run) _ refl refl c.if-is_wanted.false (omega (arith, c.seeds-test.true))
    (c.is_over.ensures c.if-is_over.true) refl

pub returns : goal.returns
returns g c =
    let all : c.seeds.seed ≡ c.args.last = omega (arith, c.seeds-test.false, c.seeds.auto.seed-end, c.requires) in
    let here = subst (λ n. HasSwept (IsRunWith c.args.runs.now) c.args.wanted.now c.args.first n c.seeds.tally) all c.seeds.invariant.0 in
    last_by _ _ _ c.args.first c.args.last c.args.last _ _ here _ (has_run_by _ _ c.seeds.invariant.1 c.in_ok-is_wanted-2.ensures.has_run) _ refl refl refl c.last_end-end.ensures
