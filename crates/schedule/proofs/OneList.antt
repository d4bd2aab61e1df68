-- Bytes spell at most one list of events, and at most one recording.
use Rattle.std.proofs.Common.{◌≡◌, ℕ, List, sym, ◌∙◌}
use Rattle.std.specs.Prelude.{Option}
use Rattle.model.specs.declared.event.Event.{Event}
use Rattle.schedule.specs.Files.{Recording, ScheduleFile}
use Rattle.schedule.proofs.Whole.{only_of, spells_one}

pub spelled_once : (bytes : List ℕ) (p q : Option Recording) (es fs : List Event) → ScheduleFile bytes p es → ScheduleFile bytes q fs
    → (p ≡ q) × (es ≡ fs)
spelled_once bytes p q es fs f g =
    let a = spells_one bytes p es f in
    let b = only_of bytes a.0 p a.1 q fs g in
    (b.0, sym a.2 ∙ b.1)
