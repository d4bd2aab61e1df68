use Rattle.std.proofs.Common.{◌∙◌, ap, sym}
use Rattle.std.specs.Option.{option_copied}
use Rattle.model.specs.Schedule.{events_of}
use Rattle.shrinking.specs.Switches.{switches}
use Rattle.shrinking.proofs.Switching.{from_first}
use Rattle.shrinking.proofs.switches.switch_count.Goals as goal

pub returns-in-Some : goal.returns-in-Some
returns-in-Some c =
    let place = sym c.first.ensures.value ∙ ap option_copied c.in-Some.is in
    c.switches_from.ensures
    ∙ (from_first c.entries-entries.result.now c.in-Some.first.now place c.entries-entries.ensures.fit.each
    ∙ ap (λ l. switches (events_of l)) c.entries-entries.ensures.are)
