use Rattle.run_laws.proofs.laws.Unrefused.{unrefused_of}
use Rattle.run_laws.proofs.word_operands.Variables.{rows_in}
use Rattle.run_laws.proofs.word_operands.local_variables_are_there.Goals as goal

pub returns : goal.returns
returns c = record {
  holds = λ files trees linkable method body offset site row is_body start is_site e.
      rows_in trees (unrefused_of files trees linkable.spelled linkable.no_refusal) method body offset is_body start site is_site row e;
}
