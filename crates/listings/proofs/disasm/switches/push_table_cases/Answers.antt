use Rattle.listings.proofs.disasm.Writing.{more_said}
use Rattle.listings.proofs.disasm.switches.push_table_cases.Goals as goal

pub cases-preserved : goal.cases-preserved
cases-preserved c = more_said _ _ c.cases.k _ _ c.cases.invariant c.in_ok-push_table_case.ensures
