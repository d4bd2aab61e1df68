use Rattle.std.proofs.Common.{ℕ, ◌+◌, ◌≤◌}
use Rattle.run_laws.proofs.typing_search.Bounds.{bounded}
use Rattle.types.specs.method_code.View.{files_of, member_of, body_of}
use Rattle.verifier.specs.Found.{tables_in, IsSearch, work_left}
use Rattle.verifier.specs.Looks.{AreLooks}
use Rattle.verifier.specs.flow.Meanings.{AreMeanings}
use Rattle.verifier.specs.Steps.{Costs, AreCosts, method_steps}
use Rattle.verifier.specs.Worklist.{turns_steps}
use Rattle.verifier.proofs.method.verify_method.Given as goal

abbrev pub invariant-loop-offset : goal.invariant-loop-offset
invariant-loop-offset l =
    record {
      search : IsSearch (files_of l.method) (member_of l.method) (body_of l.method) (tables_in (files_of l.method) l.found);
      looks : AreLooks l.method l.handlers.items l.found;
      meanings : AreMeanings l.method l.meanings;
      taken : (costs : Costs) → AreCosts (files_of l.method) costs → (turns : ℕ)
          → l.fn.steps.left + turns_steps (files_of l.method) (member_of l.method) (body_of l.method) turns (tables_in (files_of l.method) l.found)
          ≤ l.steps.left + method_steps (member_of l.method) (body_of l.method) costs;
    }

abbrev pub decreases-loop-offset : goal.decreases-loop-offset
decreases-loop-offset l =
    work_left (files_of l.method) (body_of l.method) (bounded (files_of l.method) (member_of l.method) (body_of l.method)).0 (tables_in (files_of l.method) l.found)
