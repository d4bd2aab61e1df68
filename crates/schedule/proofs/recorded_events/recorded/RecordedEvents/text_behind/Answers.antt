use Rattle.std.proofs.Common.{◌≡◌, ◌-◌, ◌∙◌, ◌++◌, ap, arith, drop, length, subst, sym}
use Rattle.model.specs.Schedule.{events_of}
use Rattle.schedule.specs.growing_text.Growing.{GrowsBy, part_text}
use Rattle.schedule.proofs.growing_text.NewEntries.{grows}
use Rattle.schedule.proofs.recorded_events.recorded.RecordedEvents.text_behind.Goals as goal

pub returns : goal.returns
returns c =
    let events = events_of c.self.inside.entries.items in
    let last : c.saturating_sub-last.result ≡ length events - c.args.count = c.saturating_sub-last.ensures ∙ ap (λ n. n - c.args.count) c.self.invariant.total_is in
    let are = c.in_ok-part.ensures.events ∙ ap (λ xs. drop (length (events_of xs) - c.saturating_sub-last.result) (events_of xs)) c.as_slice.ensures.value
    ∙ ap (λ n. drop (length events - n) events) last in
    let grown = grows c.args.count events c.in_ok-part.part.items (omega (arith, c.self.invariant.total_is, c.self.invariant.most)) c.in_ok-part.ensures.runs are in
    let text : c.push_entries.new.text.items ≡ part_text c.in_ok-part.part.items =
    c.in_ok-push_entries.ensures ∙ ap (λ t. t ++ part_text c.as_slice-2.result.now) c.new-text.ensures.items ∙ ap part_text c.as_slice-2.ensures.value in
    subst (λ r. GrowsBy c.args.count r.events c.push_entries.new.text.items) c.self.view_is
    (subst (λ t. GrowsBy c.args.count events t) (sym text) grown)
