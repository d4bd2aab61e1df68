use Rattle.run_laws.proofs.laws.LinkedOf.{linked_of}
use Rattle.run_laws.proofs.word_runs.Carried.{carried}
use Rattle.run_laws.proofs.word_runs.a_step_is_carried.Goals as goal

pub returns : goal.returns
returns c = record { holds = λ files trees linkable. carried trees (linked_of files trees linkable.spelled linkable.no_refusal).rooted }
