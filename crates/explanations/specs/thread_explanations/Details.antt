-- What is known of threads before it is written.
use Rattle.std.specs.Prelude.{◌≡◌, ℕ, List, [], map, vec_items, slice_get, Vec}
use Rattle.std.specs.Global.{Global}
use Rattle.std.specs.Option.{option_map_or}
use Rattle.linked_code.specs.declared.program.LinkedProgram.{LinkedProgram}
use Rattle.machine_state.specs.declared.state.Shared.{Shared}
use Rattle.model.specs.declared.report.EndState.{EndState}
use Rattle.explanations.specs.declared.thread_explanations.details.Details.{Details}
use Rattle.explanations.specs.thread_explanations.Cycles.{AreCycles}
use Rattle.explanations.specs.thread_explanations.Waits.{waits_of}

-- the lines that stand below that of the thread of a number
abbrev pub lines_at : Details → (t : ℕ) → List (List ℕ)
lines_at details t = option_map_or (λ (lines : Vec (Vec ℕ Global) Global). map vec_items lines.items) (slice_get details.threads.items t) []

-- for what the threads wait that share this and stand so, and their cycles
abbrev pub HasWaits : LinkedProgram → Shared → List EndState → Details → Type 0
HasWaits p shared ends details = (details.waits.items ≡ waits_of p shared ends) × AreCycles details.waits.items (map vec_items details.cycles.items)
