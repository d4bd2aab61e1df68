use Rattle.run_laws.proofs.typing_search.Weights.{rank_bounded, raised_lighter, first_lighter, work_merged, work_taken_off}
use Rattle.run_laws.proofs.typing_search.a_search_gets_lighter.Goals as goal

pub returns : goal.returns
returns c =
    record {
      holds = λ files rooted body limit.
          record {
            bounded = rank_bounded files;
            raised = raised_lighter files rooted limit;
            first = first_lighter files rooted limit body;
            merged = work_merged files rooted limit body;
            taken_off = work_taken_off files rooted limit body;
          };
    }
