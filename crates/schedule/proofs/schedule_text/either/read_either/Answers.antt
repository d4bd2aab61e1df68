use Rattle.std.proofs.Common.{◌≡◌, ◌∙◌, true, false, inl, inr}
use Rattle.schedule.proofs.schedule_text.either.read_either.Goals as goal

pub returns-in-Ok-read_schedule-clause-only : goal.returns-in-Ok-read_schedule-clause-only
returns-in-Ok-read_schedule-clause-only c = λ recorded events given. elim given [
  | inl file ↦ c.in-Ok-read_schedule.ensures.only recorded events file
  | inr text ↦ let bad : false ≡ true = c.if-is_text.ensures ∙ text.1.0 in cc
]

pub returns-in-Err-read_schedule-clause-only : goal.returns-in-Err-read_schedule-clause-only
returns-in-Err-read_schedule-clause-only c = λ recorded events given. elim given [
  | inl file ↦ c.in-Err-read_schedule.ensures.only recorded events file
  | inr text ↦ let bad : false ≡ true = c.if-is_text.ensures ∙ text.1.0 in cc
]
