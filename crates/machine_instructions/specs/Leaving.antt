-- How an instruction that is done leaves the frame on top (JVMS 2.6, 6.5).
use Rattle.std.specs.Prelude.{◌≡◌, ℕ, ◌+◌, ◌<◌, ◌^◌, List, ◌++◌, Some, drop, Result, Ok, Err, length}
use Rattle.thread_stacks.specs.Stacks.{ShownFrame, ShownEntry, IsTopFrame, at_place, replaced, with_top}
use Rattle.machine_state.specs.declared.answers.Effect.{Effect}
use Rattle.machine_state.specs.declared.answers.Effect.TheVariants as effect
use Rattle.machine_state.specs.declared.refusals.EventRefusal.{EventRefusal}
use Rattle.machine_state.specs.declared.refusals.EventRefusal.TheVariants as refusal

-- these words in the place of so many operands, at the next place
abbrev pub gone_on : (count : ℕ) → List ℕ → ShownFrame → ShownFrame
gone_on count results frame = at_place (frame.place + 1) (replaced count results frame)

-- The instruction is done and its frame has gone on, where its place is one that code in memory may have; or memory is wanted, where
-- there would be more operands then, and the frame is as it was.
abbrev pub Leaves : Result Effect EventRefusal → (count : ℕ) → List ℕ → (old new : ShownFrame) → Type 0
Leaves (Ok effect.Done) count results old new = old.place < 2 ^ 63 → new ≡ gone_on count results old
Leaves (Err refusal.Memory) count results old new = (new ≡ old) × (length old.operands < length (results ++ drop count old.operands))
Leaves told count results old new = ⊥

-- the frame on top of a stack is left as another one, and what is under it stays
pub record LeftAs (result : Result Effect EventRefusal) (count : ℕ) (results : List ℕ) (old : ShownFrame) (from to : List ShownEntry) : Type 0 where
  pub frame : ShownFrame
  pub is : to ≡ with_top frame from
  pub leaves : Leaves result count results old frame

abbrev pub LeavesTop : Result Effect EventRefusal → (count : ℕ) → List ℕ → (from to : List ShownEntry) → Type 0
LeavesTop result count results from to = (old : ShownFrame) → IsTopFrame from (Some old) → LeftAs result count results old from to
