use Rattle.run_laws.proofs.laws.Rows.{ready_both, slots_of}
use Rattle.run_laws.proofs.laws.operands_are_found.Goals as goal

pub returns : goal.returns
returns c = record { holds = λ files rooted objects wants max_stack ts vs typed ready. ready_both files rooted objects wants max_stack ts vs (slots_of files objects ts vs typed) ready }
