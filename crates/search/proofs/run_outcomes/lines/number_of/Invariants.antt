use Rattle.std.proofs.Common.{◌≡◌, ◌<◌, ◌^◌, true, take}
use Rattle.std.specs.List.{list_all}
use Rattle.search.specs.run_outcomes.Lines.{is_digit, number_behind}
use Rattle.search.proofs.run_outcomes.lines.number_of.Given as goal

abbrev pub invariant-digits : goal.invariant-digits
invariant-digits l =
    (list_all is_digit (take l.digit-index l.digits) ≡ true) × (l.number ≡ number_behind 0 (take l.digit-index l.digits)) × (l.number < 10 ^ l.digit-index)
