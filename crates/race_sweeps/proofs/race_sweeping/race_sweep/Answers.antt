use Rattle.std.proofs.Common.{◌≡◌, ◌∙◌, arith, refl, subst, sym}
use Rattle.race_sweeps.specs.race_sweeping.Swept.{AreAccepted}
use Rattle.sweeps.specs.Policies.{RunsBy}
use Rattle.race_sweeps.proofs.race_sweeping.RunsRaced.{HasSweptFree, begins, few_runs, found_by, gave_up_by, last_by, raced_run_by, swept_on}
use Rattle.race_sweeps.proofs.race_sweeping.race_sweep.Goals as goal

pub seeds-init : goal.seeds-init
seeds-init g c = (begins _ _ _ c.new-tally.ensures, refl)

pub run_seed-requires-clause-few : goal.run_seed-requires-clause-few
run_seed-requires-clause-few g c κs within = few_runs _ _ c.seeds.seed _ c.seeds.invariant.0 (omega (arith, c.ranges.last.fits, c.seeds-test.true))

pub run_seed-requires-clause-accepted : goal.run_seed-requires-clause-accepted
run_seed-requires-clause-accepted g c κs within = subst (λ (by : RunsBy). AreAccepted by.trees) (sym c.seeds.invariant.1) c.requires.accepted

pub seeds-preserved : goal.seeds-preserved
seeds-preserved g c =
    (swept_on _ c.args.first c.seeds.seed _ _ _ c.seeds.invariant.0 (raced_run_by _ _ c.seeds.invariant.1 c.in_ok-races.ensures.has_run) c.if-races.false, c.run_seed.ensures.same ∙ c.seeds.invariant.1)

pub returns-then-races : goal.returns-then-races
returns-then-races g c =
    found_by _ c.args.first c.seeds.seed _ _ _ c.seeds.invariant.0 (raced_run_by _ _ c.seeds.invariant.1 c.in_ok-races.ensures.has_run) _ c.args.last _ refl refl refl c.if-races.true
    (omega (arith, c.seeds-test.true)) refl

pub returns-then-is_over : goal.returns-then-is_over
returns-then-is_over g c =
    gave_up_by _ c.args.first c.seeds.seed _ _ _ c.seeds.invariant.0 (raced_run_by _ _ c.seeds.invariant.1 c.in_ok-races.ensures.has_run) _ c.args.last _ refl refl refl c.if-races.false
    (omega (arith, c.seeds-test.true)) (c.is_over.ensures c.if-is_over.true) refl

pub returns : goal.returns
returns g c =
    let all : c.seeds.seed ≡ c.args.last = omega (arith, c.seeds-test.false, c.seeds.auto.seed-end, c.requires.range) in
    let here = subst (λ n. HasSweptFree c.args.runs.now c.args.first n c.seeds.tally) all c.seeds.invariant.0 in
    last_by _ c.args.first c.args.last _ _ _ here (raced_run_by _ _ c.seeds.invariant.1 c.in_ok-races-2.ensures.has_run) _ c.args.last _ refl refl refl refl c.last_end-end.ensures
