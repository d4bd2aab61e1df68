use Rattle.std.proofs.Common.{◌≡◌, drop, []}
use Rattle.schedule.specs.schedule_text.Text.{words_from, words_of}
use Rattle.schedule.proofs.schedule_text.words.gap.Given as goal

abbrev pub invariant-gap : goal.invariant-gap
invariant-gap l = words_from l.comment [] (drop l.at l.bytes) ≡ words_of l.bytes
