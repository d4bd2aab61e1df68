-- A frame on top that an instruction has left, and the stack then.
use Rattle.std.proofs.Common.{◌≡◌, ◌<◌, ◌^◌, ◌+◌, ℕ, suc, List, [], ◌∷◌, ◌++◌, Some, Result, Ok, Err, length, drop, refl, sym, ap, subst, ◌∙◌}
use Rattle.std.proofs.lemmas.Option.{same_Some}
use Rattle.std.specs.Result.{IsErrAnd}
use Rattle.model.specs.Classes.{Program}
use Rattle.model.specs.LimitStands.{Bounds}
use Rattle.model.specs.Sites.{MeaningOf, Site}
use Rattle.model.specs.State as model
use Rattle.model.specs.State.{FrameOf, StackOf, StateOf}
use Rattle.linked_code.specs.declared.instruction.LinkedInstruction.{LinkedInstruction}
use Rattle.linked_code.specs.declared.method.LinkedCode.{LinkedCode}
use Rattle.linked_code.specs.declared.program.LinkedProgram.{LinkedProgram}
use Rattle.thread_stacks.specs.Stacks.{ShownFrame, ShownEntry, Invocation, Initialisation, IsTopFrame, at_place, moved, on_top, replaced, with_operands, with_top, IsMore}
use Rattle.thread_stacks.proofs.Found.{top_with}
use Rattle.machine_state.specs.declared.answers.Effect.{Effect}
use Rattle.machine_state.specs.declared.answers.Effect.TheVariants as effect
use Rattle.machine_state.specs.declared.refusals.EventRefusal.{EventRefusal}
use Rattle.machine_state.specs.declared.refusals.EventRefusal.TheVariants as refusal
use Rattle.machine_state.specs.declared.state.Shared.{Shared}
use Rattle.machine_state.specs.Instructions.{Does, instruction_event}
use Rattle.machine_state.specs.linked_frames.Frames.{IsRunning, event_of}
use Rattle.machine_instructions.specs.Leaving.{LeavesTop}

-- ---- it is left

-- so many operands go, and it stands at another place
left_with : (from : List ShownEntry) (f : ShownFrame) (count : ℕ) (results : List ℕ) (next : ℕ) → IsTopFrame from (Some f)
    → on_top (moved next) (on_top (with_operands count results) from) ≡ with_top (at_place next (replaced count results f)) from
left_with [] f count results next e = absurd cc
left_with (Invocation g ∷ stack) f count results next e = ap (λ x. Invocation (at_place next (replaced count results x)) ∷ stack) (sym (same_Some f g e))
left_with (Initialisation class phase ∷ stack) f count results next e = absurd cc

pub left : (from between to : List ShownEntry) (count next : ℕ) (results : List ℕ)
    → ((f : ShownFrame) → IsTopFrame from (Some f) → f.place < 2 ^ 63 → next ≡ f.place + 1)
    → between ≡ on_top (with_operands count results) from → to ≡ on_top (moved next) between
    → LeavesTop (Ok effect.Done) count results from to
left from between to count next results place first second f top =
    record {
      frame = at_place next (replaced count results f);
      is = second ∙ ap (on_top (moved next)) first ∙ left_with from f count results next top;
      leaves = λ small. ap (λ n. at_place n (replaced count results f)) (place f top small);
    }

more_is : (from : List ShownEntry) (f : ShownFrame) (count word : ℕ) → IsTopFrame from (Some f) → IsMore count from
    → length f.operands < length ((word ∷ []) ++ drop count f.operands)
more_is [] f count word top more = absurd more
more_is (Invocation g ∷ stack) f count word top more =
    let P : ShownFrame → Type 0 = λ x. length x.operands < suc (length (drop count x.operands)) in subst P (sym (same_Some f g top)) more
more_is (Initialisation class phase ∷ stack) f count word top more = absurd more

-- memory was wanted, and nothing has changed
pub kept : (from to : List ShownEntry) (count word : ℕ) (result : Result Effect EventRefusal) → IsErrAnd result (λ told. told ≡ refusal.Memory)
    → to ≡ from → IsMore count from → LeavesTop result count (word ∷ []) from to
kept from to count word (Ok told) e same more = absurd e
kept from to count word (Err told) e same more =
    subst (λ r. LeavesTop (Err r) count (word ∷ []) from to) (sym e)
    (λ f top. record { frame = f; is = same ∙ top_with from f top; leaves = (refl, more_is from f count word top more) })

-- ---- what an instruction does, with the stack that it leaves

pub placed : {trees : Program} {p : LinkedProgram} {bounds : Bounds} {inflated : List ℕ} {t : ℕ} {old : Shared} {from : List ShownEntry}
    {state : StateOf ℕ} {frame : FrameOf ℕ} {rest : StackOf ℕ} {code : LinkedCode} {site : Site} {meaning : MeaningOf ℕ} {instruction : LinkedInstruction}
    → IsRunning trees p bounds inflated t old from state frame rest code site meaning instruction
    → (frames : ℕ) (result : Result Effect EventRefusal) (new : Shared) (to left : List ShownEntry) → to ≡ left
    → Does trees p bounds inflated t state.world (model.Invocation frame ∷ rest) (instruction_event trees frames (event_of t) state.world frame rest meaning) result old new from left
    → Does trees p bounds inflated t state.world (model.Invocation frame ∷ rest) (instruction_event trees frames (event_of t) state.world frame rest meaning) result old new from to
placed {trees} {p} {bounds} {inflated} {t} {old} {from} {state} {frame} {rest} {code} {site} {meaning} is frames result new to left same does =
    let P : List ShownEntry → Type 0 = λ x. Does trees p bounds inflated t state.world (model.Invocation frame ∷ rest) (instruction_event trees frames (event_of t) state.world frame rest meaning) result old new from x in
    subst P (sym same) does
