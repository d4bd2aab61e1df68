use Rattle.run_laws.proofs.typing_search.Searching.{merged_nothing, merged_then, merged_before, clash_then, clash_before}
use Rattle.run_laws.proofs.typing_search.merges_follow.Goals as goal

pub returns : goal.returns
returns c =
    record {
      holds = λ files ordered method body.
          record {
            nothing = merged_nothing files ordered.rooted body;
            merged = merged_then files ordered.rooted body;
            clashes = clash_then files ordered.rooted body method;
            merged_before = merged_before files ordered.rooted body;
            clashes_before = clash_before files ordered.rooted body method;
          };
    }
