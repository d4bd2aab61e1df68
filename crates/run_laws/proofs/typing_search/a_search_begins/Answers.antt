use Rattle.run_laws.proofs.typing_search.Searching.{search_begins, beginning_refused}
use Rattle.run_laws.proofs.typing_search.a_search_begins.Goals as goal

pub returns : goal.returns
returns c =
    record {
      holds = λ files ordered method body.
          record { found = search_begins files ordered.rooted body method; refused = beginning_refused files ordered.rooted body method };
    }
