use Rattle.run_laws.proofs.laws.Unrefused.{unrefused_of}
use Rattle.run_laws.proofs.word_operands.Fields.{names_field}
use Rattle.run_laws.proofs.word_operands.fields_are_of_classes.Goals as goal

pub returns : goal.returns
returns c = record {
  holds = λ files trees linkable named field found instance.
      names_field trees (unrefused_of files trees linkable.spelled linkable.no_refusal) named field found instance;
}
