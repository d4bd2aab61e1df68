use Rattle.std.proofs.Common.{◌≡◌, drop, false}
use Rattle.schedule.specs.schedule_text.Text.{has_blank}
use Rattle.schedule.proofs.schedule_text.words.up_to_blank.Given as goal

-- none behind it
abbrev pub invariant-bytes : goal.invariant-bytes
invariant-bytes l = has_blank (drop l.at l.bytes) ≡ false
