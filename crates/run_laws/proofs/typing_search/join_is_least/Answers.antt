use Rattle.run_laws.proofs.typing_search.Joins.{reference_is, stack_is, local_is, frame_is}
use Rattle.run_laws.proofs.typing_search.join_is_least.Goals as goal

pub returns : goal.returns
returns c =
    record {
      holds = λ files rooted.
          record { references = reference_is files rooted; stack = stack_is files rooted; locals = local_is files rooted; frames = frame_is files rooted };
    }
