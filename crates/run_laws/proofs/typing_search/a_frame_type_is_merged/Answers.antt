use Rattle.run_laws.proofs.typing_search.Merging.{merged_same, merged_first, merged_joined}
use Rattle.run_laws.proofs.typing_search.a_frame_type_is_merged.Goals as goal

pub returns : goal.returns
returns c =
    record {
      holds = λ files ordered method body.
          record { fits = merged_same files body; first = merged_first files body; joined = merged_joined files body ordered.rooted };
    }
