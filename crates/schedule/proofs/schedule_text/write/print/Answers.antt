use Rattle.std.proofs.Common.{◌≡◌, ◌++◌, map, ap, subst, sym, ◌∙◌}
use Rattle.std.specs.Option.{option_map}
use Rattle.model.specs.Schedule.{AreEntries}
use Rattle.schedule.proofs.schedule_text.WriteLaws.{printed_spells}
use Rattle.schedule.specs.schedule_text.Printing.{in_lines, printed_recording, printed_schedule}
use Rattle.schedule.specs.schedule_text.Text.{SpellsSchedule, entry_word}
use Rattle.schedule.proofs.schedule_text.write.print.Goals as goal

pub returns : goal.returns
returns c =
    let recorded = option_map (λ r. r.now) c.args.recording in
    let text = c.push_entries.new.text.items in
    let front = c.in_ok-push_recorded.ensures.added ∙ ap (λ t. t ++ printed_recording recorded) c.new-text.ensures.items in
    let whole : text ≡ printed_schedule recorded c.args.schedule.now =
    c.in_ok-push_entries.ensures ∙ ap (λ t. t ++ in_lines (map entry_word c.entries-entries.result.now)) front
    ∙ ap (λ es. printed_recording recorded ++ in_lines (map entry_word es)) c.entries-entries.ensures.are in
    record {
      printed = whole;
      spells = subst (λ t. SpellsSchedule t recorded c.args.schedule.now) (sym whole)
          (printed_spells recorded c.args.schedule.now c.in_ok-push_recorded.ensures.fits (subst AreEntries c.entries-entries.ensures.are c.entries-entries.ensures.fit));
    }
