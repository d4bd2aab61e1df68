-- What runs show (own).
use Rattle.std.specs.Prelude.{ℕ, Bool, true, false, map}
use Rattle.model.specs.declared.end.End.{End}
use Rattle.model.specs.declared.end.End.TheVariants as ends
use Rattle.model.specs.declared.report.Report.{Report}
use Rattle.model.specs.Report.{end_state_of}
use Rattle.run_laws.specs.interleavings.Ends.{Outcome}
use Rattle.program_runs.specs.declared.worlds.records.Recorded.{Recorded}
use Rattle.search.specs.run_outcomes.Outcomes.{IsWanted, is_same, told_by}
use Rattle.search.specs.declared.run_outcomes.wanted.Wanted.{Wanted}
use Rattle.sweeps.specs.declared.shown.Shown.{Shown as TheShown}
use Rattle.sweeps.specs.declared.shown.Shown.TheVariants as the

-- an outcome, where no thread may go on; or that some may, and the budget is used up; or that a limit refuses an event
pub data Shown : Type 0 where
  Ended : Outcome → Shown
  HasNoEnd : Shown
  IsRefused : Shown

-- the same without where an outcome lies in memory
abbrev pub shown_in : TheShown → Shown
shown_in (the.Outcome o) = Ended (told_by o)
shown_in the.Budget = HasNoEnd
shown_in the.Refused = IsRefused

-- ---- of a run

-- what was printed, and how the threads stand
abbrev pub told_end : Report → Outcome
told_end r = record { printed = r.printed.items; ends = map end_state_of r.threads.items }

-- with an end; no run of a policy ends with its schedule
abbrev pub shown_at : End → Outcome → Shown
shown_at ends.Quiet o = Ended o
shown_at (ends.Refused i cause) o = IsRefused
shown_at ends.Budget o = HasNoEnd
shown_at ends.Schedule o = HasNoEnd
shown_at (ends.NotEnabled i) o = HasNoEnd

abbrev pub shown_by : Recorded → Shown
shown_by r = shown_at r.end (told_end r.report)

-- ---- which are the same

abbrev pub is_same_shown : Shown → Shown → Bool
is_same_shown (Ended o) (Ended p) = is_same o p
is_same_shown HasNoEnd HasNoEnd = true
is_same_shown IsRefused IsRefused = true
is_same_shown one other = false

abbrev pub show_same : Recorded → Recorded → Bool
show_same one other = is_same_shown (shown_by one) (shown_by other)

-- ---- what is wanted

abbrev pub IsShownWanted : Wanted → Shown → Type 0
IsShownWanted want (Ended o) = IsWanted want o
IsShownWanted want HasNoEnd = ⊥
IsShownWanted want IsRefused = ⊥
