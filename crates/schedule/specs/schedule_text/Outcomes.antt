-- What reading a schedule's text answers.
use Rattle.std.specs.Prelude.{◌≡◌, List, Option, Result, Ok, Err}
use Rattle.model.specs.declared.event.ScheduleEntry.{ScheduleEntry}
use Rattle.schedule.specs.Files.{Recording}
use Rattle.schedule.specs.declared.schedule_text.fault.TextFault.{TextFault}
use Rattle.schedule.specs.declared.schedule_text.fault.TextFault.TheVariants.{OutOfMemory}

-- what is seen of the answer is this, unless memory ran out
abbrev pub Reads : {X Y : Type 0} → (X → Y) → Result X TextFault → Y → Type 0
Reads view (Ok x) y = view x ≡ y
Reads view (Err fault) y = fault ≡ OutOfMemory

-- these entries are answered, and with what they were recorded, unless memory ran out
abbrev pub Answers : Result (List ScheduleEntry × Option Recording) TextFault → Option Recording → List ScheduleEntry → Type 0
Answers result recorded entries = Reads (λ read. read) result (entries, recorded)
