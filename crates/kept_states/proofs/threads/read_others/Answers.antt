use Rattle.std.proofs.Common.{ap, refl, ◌∙◌, arith}
use Rattle.heap.specs.java_threads.Table.{ThreadTable}
use Rattle.kept_states.proofs.Written.{one_added}
use Rattle.kept_states.proofs.threads.read_others.Goals as goal

pub others-preserved : goal.others-preserved
others-preserved c = record {
  behind =
      one_added c.args.parts.now c.others.number-index _ _ c.args.others.now c.args.threads.now.threads c.args.stacks.now.items c.others.threads c.read_one.new.threads
      c.others.stacks.items c.read_one.new.stacks.items (omega arith) refl c.others.invariant.behind c.in_ok-read_one.ensures;
  limit = ap (λ (t : ThreadTable). t.limit) c.in_ok-read_one.ensures.read.after ∙ c.others.invariant.limit;
}
