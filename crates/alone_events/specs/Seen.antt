-- What is seen of a thread that runs in a frame (own; JVMS 2.6).
use Rattle.std.specs.Prelude.{◌≡◌, ◌⊎◌, ℕ, suc, List, Option, Some, None, length, slice_get}
use Rattle.thread_stacks.specs.Stacks.{ShownFrame, ShownEntry, IsTopFrame}
use Rattle.machine_state.specs.declared.state.Shared.{Shared}
use Rattle.machine.specs.top_frames.Tops.{GoesOn}
use Rattle.alone_events.specs.declared.seen.Seen.{Seen}

-- a frame is on top of the stack, which has so many entries, and has entered this
pub record IsInFrame (stack : List ShownEntry) (s : Seen) : Type 0 where
  pub shown : ShownFrame
  pub top : IsTopFrame stack (Some shown)
  pub entries : s.entries ≡ length stack
  pub entered : s.entered ≡ shown.entered

abbrev pub IsSeenIn : List ShownEntry → Option Seen → Type 0
IsSeenIn stack (Some s) = IsInFrame stack s
IsSeenIn stack None = IsTopFrame stack None

-- a thread runs, with no exception pending, and so is its stack
pub record RunsInFrame (shared : Shared) (t : ℕ) (s : Seen) : Type 0 where
  pub goes : GoesOn shared.threads.threads t
  pub stack : List ShownEntry
  pub is_stack : slice_get shared.stacks.items t ≡ Some stack
  pub is_in : IsInFrame stack s

-- it is seen where it is so
abbrev pub IsSeen : Shared → ℕ → Option Seen → Type 0
IsSeen shared t (Some s) = RunsInFrame shared t s
IsSeen shared t None = (s : Seen) → RunsInFrame shared t s → ⊥

-- a frame has called another one, which has entered no monitor; or it has returned, and had entered none
abbrev pub HasMovedBy : (before after : Seen) → Type 0
HasMovedBy before after =
    ((after.entries ≡ suc before.entries) × (after.entered ≡ None)) ⊎ ((before.entries ≡ suc after.entries) × (before.entered ≡ None))
