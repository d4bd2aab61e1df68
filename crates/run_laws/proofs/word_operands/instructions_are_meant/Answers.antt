use Rattle.run_laws.proofs.laws.LinkedOf.{linked_of}
use Rattle.run_laws.proofs.word_operands.Meant.{meant}
use Rattle.run_laws.proofs.word_operands.instructions_are_meant.Goals as goal

pub returns : goal.returns
returns c = record {
  holds = λ files trees linkable state h t frame on. meant trees (linked_of files trees linkable.spelled linkable.no_refusal).rooted state h t frame on;
}
