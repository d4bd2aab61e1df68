use Rattle.std.proofs.Common.{◌≡◌, List, [], subst}
use Rattle.model.specs.declared.event.ScheduleEntry.{ScheduleEntry}
use Rattle.engines.proofs.PlaceLemmas.{no_entries, spells_line}
use Rattle.engines.proofs.placing.plain_text.Goals as goal

pub returns-then-is_empty : goal.returns-then-is_empty
returns-then-is_empty c =
    let none = no_entries c.entries.result.now c.is_empty.result c.is_empty.ensures c.if-is_empty.true in
    spells_line c.in_ok-joined.joined c.args.schedule.now c.in_ok-line.line.items c.in_ok-line.ensures.items
    (subst (λ (l : List ScheduleEntry). l ≡ []) c.entries.ensures.are none) c.in_ok-joined.ensures.same
