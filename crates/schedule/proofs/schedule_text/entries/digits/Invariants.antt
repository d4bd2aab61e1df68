use Rattle.std.proofs.Common.{ℕ, ◌<◌, get_or}
use Rattle.schedule.specs.schedule_text.Digits.{IsDigit}
use Rattle.schedule.proofs.schedule_text.entries.digits.Given as goal

abbrev pub invariant-digits : goal.invariant-digits
invariant-digits l = (k : ℕ) → k < l.at → IsDigit (get_or l.bytes k 0)
