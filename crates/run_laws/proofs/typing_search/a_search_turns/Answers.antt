use Rattle.run_laws.proofs.typing_search.Searching.{search_turn, refused_rule, refused_merge}
use Rattle.run_laws.proofs.typing_search.a_search_turns.Goals as goal

pub returns : goal.returns
returns c =
    record {
      holds = λ files ordered method body.
          record { found = search_turn files ordered method body; refused = refused_rule files ordered method body; clashes = refused_merge files ordered method body };
    }
