use Rattle.std.proofs.Common.{Some, ap, inl, inr, subst}
use Rattle.schedule.specs.schedule_text.CommandWord.{IsScheduleWord}
use Rattle.engines.specs.Files.{IsGivenWord}
use Rattle.engines.proofs.named_file.schedule_source.Goals as goal

pub returns-then-is_given_word-clause-at : goal.returns-then-is_given_word-clause-at
returns-then-is_given_word-clause-at g c =
    inl (
      subst IsGivenWord c.as_bytes.ensures.value (c.is_given_word.ensures.given c.if-is_given_word.true),
      ap Some c.as_bytes-then-is_given_word.ensures.value,
    )

pub returns-clause-at : goal.returns-clause-at
returns-clause-at g c =
    inr (subst (λ word. IsScheduleWord word → ⊥) c.as_bytes.ensures.value (c.is_given_word.ensures.path c.if-is_given_word.false), c.source.ensures.left)
