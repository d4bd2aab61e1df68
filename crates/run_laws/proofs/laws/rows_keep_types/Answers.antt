use Rattle.run_laws.proofs.laws.Rows.{after_row_both, slots_of, of_slots}
use Rattle.run_laws.proofs.laws.rows_keep_types.Goals as goal

pub returns : goal.returns
returns c = record { holds = λ files rooted objects row ts vs typed. of_slots files objects _ _ (after_row_both files rooted objects row ts vs (slots_of files objects ts vs typed)) }
