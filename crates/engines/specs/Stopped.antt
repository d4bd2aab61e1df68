-- The text of a run that may be stopped (own).
use Rattle.std.specs.Prelude.{ℕ, List, Bool, false, ◌++◌, codes, if◌then◌else◌, ltb, map}
use Rattle.model.specs.Report.{end_state_of, line, number, thread_lines}
use Rattle.model.specs.Texts.{printed_lines}
use Rattle.model.specs.declared.end.End.{End}
use Rattle.model.specs.declared.end.End.TheVariants as ends
use Rattle.model.specs.declared.report.Report.{Report}
use Rattle.machine.specs.machine_replay.Replays.{text_of}

-- a run was stopped: it has fewer events than its budget, and would go on
abbrev pub is_stopped : (budget : ℕ) → Report → End → Bool
is_stopped budget r ends.Budget = ltb r.events budget
is_stopped budget r end = false

-- its text has the end `seconds`
abbrev pub stopped_text : Report → List ℕ
stopped_text r =
    printed_lines r.printed.items
    ++ (thread_lines 0 (map end_state_of r.threads.items) ++ (line (codes "events " ++ number r.events) ++ line (codes "end seconds")))

abbrev pub run_text : (budget : ℕ) → Report → End → List ℕ
run_text budget r end = if is_stopped budget r end then stopped_text r else text_of r end
