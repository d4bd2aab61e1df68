use Rattle.std.proofs.Common.{◌≡◌, drop, false}
use Rattle.schedule.specs.schedule_text.Text.{behind_comments}
use Rattle.place_texts.proofs.words.front.Given as goal

abbrev pub invariant-front : goal.invariant-front
invariant-front l = behind_comments l.comment (drop l.at l.bytes) ≡ behind_comments false l.bytes
