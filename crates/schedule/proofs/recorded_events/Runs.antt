-- How many events are recorded.
use Rattle.std.proofs.Common.{◌≡◌, ℕ, ◌+◌, ◌≤◌, List, [], ◌∷◌, ◌++◌, length, replicate, ap, ◌∙◌, arith}
use Rattle.std.specs.List.{AllByRecursion}
use Rattle.std.proofs.lemmas.List.{length-replicate, length-append}
use Rattle.model.specs.declared.event.Event.{Event}
use Rattle.model.specs.declared.event.ScheduleEntry.{ScheduleEntry}
use Rattle.model.specs.Schedule.{EntryFits, AreEntries, events_of}
use Rattle.schedule.specs.recorded_events.Recorded.{IsRecord}

pub counted : (xs : List Event) (k : ℕ) (e : Event) → length (xs ++ replicate k e) ≡ length xs + k
counted xs k e = length-append xs (replicate k e) ∙ ap (λ n. length xs + n) (length-replicate k e)

first_counted : (x : ScheduleEntry) (xs : List ScheduleEntry) → length (events_of (x ∷ xs)) ≡ x.repeat + length (events_of xs)
first_counted x xs = length-append (replicate x.repeat x.event) (events_of xs) ∙ ap (λ n. n + length (events_of xs)) (length-replicate x.repeat x.event)

-- an entry stands for at least one event
pub fewer : (xs : List ScheduleEntry) → AllByRecursion EntryFits xs → length xs ≤ length (events_of xs)
fewer [] h = omega arith
fewer (x ∷ xs) h = omega (arith, first_counted x xs, h.0.repeat.0, fewer xs h.1)

pub are_entries : (xs : List ScheduleEntry) (total : ℕ) → IsRecord xs total → AreEntries xs
are_entries xs total h = record { count = omega (arith, fewer xs h.runs.each, h.total_is, h.most); each = h.runs.each }
