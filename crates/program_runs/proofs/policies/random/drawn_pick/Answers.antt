use Rattle.std.proofs.Common.{length, ap, ◌∙◌}
use Rattle.std.specs.Prelude.{min}
use Rattle.machine_state.specs.declared.state.Shared.{Shared}
use Rattle.program_runs.specs.policies.Drawn.{words_after}
use Rattle.program_runs.specs.policies.Runs.{pick_of}
use Rattle.program_runs.proofs.policies.random.drawn_pick.Goals as goal

pub returns : goal.returns
returns c = record {
  waiters = c.waiters_to_pick.result;
  picks = c.waiters_to_pick.ensures;
  drawn =
      c.pick_below.ensures
      ∙ ap (λ n. pick_of n (words_after c.args.random.now))
      (c.min-waiters.ensures ∙ ap (min c.waiters_to_pick.result) (c.len-threads.ensures.length ∙ ap (λ (s : Shared). length s.threads.threads) c.shared.ensures.same));
}
