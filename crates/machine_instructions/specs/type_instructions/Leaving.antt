-- How an instruction that makes an object leaves its frame (JVMS 2.6, 6.5).
use Rattle.machine_instructions.specs.Leaving.{gone_on}
use Rattle.std.specs.Prelude.{◌≡◌, ℕ, suc, ◌<◌, ◌≤◌, ◌^◌, List, [], ◌∷◌, Some, Result, Ok, Err, length}
use Rattle.heap.specs.declared.kind.ObjectKind.{ObjectKind}
use Rattle.heap.specs.declared.refusal.AllocRefusal.{AllocRefusal}
use Rattle.heap.specs.Heap.{Heap, IsAllocated, IsRefused}
use Rattle.thread_stacks.specs.Stacks.{ShownFrame, ShownEntry, IsTopFrame, with_top}
use Rattle.machine_state.specs.declared.answers.Effect.{Effect}
use Rattle.machine_state.specs.declared.answers.Effect.TheVariants as effect
use Rattle.machine_state.specs.declared.refusals.EventRefusal.{EventRefusal}
use Rattle.machine_state.specs.declared.refusals.EventRefusal.TheVariants as refusal
use Rattle.machine_state.specs.Refusals.{of_heap}

-- no object was made: memory was wanted for the stack, or the heap refused to allocate
abbrev pub IsUnmade : EventRefusal → (cells : ℕ) → (old new : Heap) → Type 0
IsUnmade refusal.Memory cells old new = new ≡ old
IsUnmade told cells old new = (why : AllocRefusal) × (told ≡ of_heap why) × IsRefused why cells old new

-- The same for an instruction that makes an object of so many words, of which so many are cells; its word takes the place of so many
-- operands.
abbrev pub LeavesNew : Result Effect EventRefusal → ObjectKind → (size cells count : ℕ) → (old new : Heap) → (from to : ShownFrame) → Type 0
LeavesNew (Ok effect.Done) kind size cells count old new from to =
    (reference : ℕ) × IsAllocated reference kind size cells old new
    × (from.place < 2 ^ 63 → count ≤ length from.operands → to ≡ gone_on count (suc reference ∷ []) from)
LeavesNew (Err told) kind size cells count old new from to = IsUnmade told cells old new × (to ≡ from)
LeavesNew told kind size cells count old new from to = ⊥

-- the frame on top of a stack is left as another one, and what is under it stays
pub record LeftNewAs (result : Result Effect EventRefusal) (kind : ObjectKind) (size cells count : ℕ) (old new : Heap) (frame : ShownFrame)
    (from to : List ShownEntry) : Type 0 where
  pub left : ShownFrame
  pub is : to ≡ with_top left from
  pub leaves : LeavesNew result kind size cells count old new frame left

abbrev pub LeavesNewTop : Result Effect EventRefusal → ObjectKind → (size cells count : ℕ) → (old new : Heap) → (from to : List ShownEntry) → Type 0
LeavesNewTop result kind size cells count old new from to =
    (frame : ShownFrame) → IsTopFrame from (Some frame) → LeftNewAs result kind size cells count old new frame from to
