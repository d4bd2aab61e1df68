use Rattle.run_laws.proofs.laws.LinkedOf.{linked_of}
use Rattle.run_laws.proofs.laws.Unrefused.{unrefused_of}
use Rattle.run_laws.proofs.word_operands.Receivers.{receivers}
use Rattle.run_laws.proofs.word_operands.receivers_fit.Goals as goal

pub returns : goal.returns
returns c = record {
  holds = λ files trees linkable state h t frame on body site of is_body is_site e.
      receivers trees (linked_of files trees linkable.spelled linkable.no_refusal) (unrefused_of files trees linkable.spelled linkable.no_refusal) state h t frame on body site of is_body is_site e;
}
