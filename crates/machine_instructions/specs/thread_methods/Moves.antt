-- What a call makes of the stack of its thread (JVMS 2.6). No public clause cites this module.
use Rattle.std.specs.Prelude.{◌≡◌, ◌<◌, ℕ, suc, List, [], ◌∷◌, drop, Bool, ◌&&◌, ◌==◌, if◌then◌else◌, nat_lt, length, Result, Ok, Err, slice_index_or}
use Rattle.model.specs.State.{WorldOf}
use Rattle.model.specs.Worlds.{is_owner, waiters_of}
use Rattle.thread_stacks.specs.Stacks.{ShownEntry, Invocation, Initialisation, replaced, at_place, on_top}
use Rattle.machine_state.specs.declared.answers.Effect.{Effect}
use Rattle.machine_state.specs.declared.answers.Effect.TheVariants as effect
use Rattle.machine_state.specs.declared.refusals.EventRefusal.{EventRefusal}
use Rattle.machine_state.specs.declared.refusals.EventRefusal.TheVariants as refusal

-- an operand of the frame on top, counted from the top of its stack; 0 where there is none
abbrev pub operand_of : ℕ → List ShownEntry → ℕ
operand_of k [] = 0
operand_of k (Invocation frame ∷ stack) = slice_index_or frame.operands k 0
operand_of k (Initialisation class phase ∷ stack) = 0

-- the frame goes on at a place, with these results for so many operands
abbrev pub went_on : (count : ℕ) → List ℕ → (next : ℕ) → ShownEntry → ShownEntry
went_on count results next (Invocation frame) = Invocation (at_place next (replaced count results frame))
went_on count results next (Initialisation class phase) = Initialisation class phase

-- the frame on top would have more operands then
abbrev pub Grows : (count : ℕ) → List ShownEntry → Type 0
Grows count [] = ⊥
Grows count (Invocation frame ∷ stack) = length frame.operands < suc (length (drop count frame.operands))
Grows count (Initialisation class phase ∷ stack) = ⊥

-- the frame on top did; or it would have more operands, and there was no memory, and nothing has changed
abbrev pub Answers : Result Effect EventRefusal → (count word next : ℕ) → (old new : List ShownEntry) → Type 0
Answers (Ok effect.Done) count word next old new = new ≡ on_top (went_on count (word ∷ []) next) old
Answers (Err refusal.Memory) count word next old new = (new ≡ old) × Grows count old
Answers result count word next old new = ⊥

-- ---- the pick of a notify

-- it is that of a member, where the owner notifies and there is one (JLS 17.2.2)
abbrev pub may_pick : WorldOf ℕ → (object thread pick : ℕ) → Bool
may_pick world object thread pick =
    if is_owner world thread object && nat_lt 0 (length (waiters_of world object)) then nat_lt pick (length (waiters_of world object)) else pick == 0
