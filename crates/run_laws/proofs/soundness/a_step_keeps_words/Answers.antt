use Rattle.run_laws.proofs.laws.LinkedOf.{linked_of}
use Rattle.run_laws.proofs.soundness.Sound.{kept}
use Rattle.run_laws.proofs.word_runs.Carried.{carried}
use Rattle.run_laws.proofs.word_runs.KeptWords.{kept_words}
use Rattle.run_laws.proofs.soundness.a_step_keeps_words.Goals as goal

pub returns : goal.returns
returns c = record {
  holds = λ files trees accepted frames before event cost next h e.
      kept_words trees (carried trees (linked_of files trees accepted.linkable.spelled accepted.linkable.no_refusal).rooted)
      (λ n state at after typed is. kept files trees accepted n state at after typed is) frames before event cost next h e;
}
