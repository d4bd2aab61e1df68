-- How the frame on top is left where an object was made, or could not be.
use Rattle.std.proofs.Common.{◌≡◌, ◌+◌, ◌<◌, ◌≤◌, ◌^◌, ℕ, suc, List, [], ◌∷◌, Some, Result, Ok, Err, length, refl, sym, ap, subst, arith, ◌∙◌}
use Rattle.std.proofs.lemmas.Option.{same_Some}
use Rattle.std.specs.Result.{IsErrAnd}
use Rattle.heap.specs.declared.kind.ObjectKind.{ObjectKind}
use Rattle.heap.specs.declared.refusal.AllocRefusal.{AllocRefusal}
use Rattle.heap.specs.declared.refusal.AllocRefusal.TheVariants as heap
use Rattle.heap.specs.Heap.{Heap, IsAllocated, IsRefused}
use Rattle.thread_stacks.specs.Stacks.{ShownFrame, ShownEntry, Invocation, Initialisation, IsTopFrame, at_place, moved, on_top, replaced, topped, topped_words, with_operands, without, with_top}
use Rattle.machine_state.specs.declared.answers.Effect.{Effect}
use Rattle.machine_state.specs.declared.answers.Effect.TheVariants as effect
use Rattle.machine_state.specs.declared.refusals.EventRefusal.{EventRefusal}
use Rattle.machine_state.specs.declared.refusals.EventRefusal.TheVariants as refusal
use Rattle.machine_state.specs.Refusals.{of_heap}
use Rattle.machine_instructions.specs.Leaving.{gone_on}
use Rattle.machine_instructions.specs.type_instructions.Leaving.{IsUnmade, LeavesNewTop}
use Rattle.thread_stacks.proofs.Found.{top_with}

-- ---- the place behind that of the frame on top

abbrev pub IsNextPlace : List ShownEntry → ℕ → Type 0
IsNextPlace stack next = (f : ShownFrame) → IsTopFrame stack (Some f) → f.place < 2 ^ 63 → next ≡ f.place + 1

-- ---- a refusal of the heap

unmade_by : (why : AllocRefusal) (told : EventRefusal) → told ≡ of_heap why → (cells : ℕ) (old new : Heap) → IsRefused why cells old new
    → IsUnmade told cells old new
unmade_by heap.Objects told is cells old new told_so = subst (λ r. IsUnmade r cells old new) (sym is) (heap.Objects, refl, told_so)
unmade_by heap.Cells told is cells old new told_so = subst (λ r. IsUnmade r cells old new) (sym is) (heap.Cells, refl, told_so)
unmade_by heap.Memory told is cells old new told_so = subst (λ r. IsUnmade r cells old new) (sym is) told_so.2

-- no object was made, and the stack is as it was
pub not_made : (why : AllocRefusal) (told : EventRefusal) (of : ObjectKind) (size cells count : ℕ) (old new : Heap) (from to : List ShownEntry)
    → told ≡ of_heap why → IsRefused why cells old new → to ≡ from → LeavesNewTop (Err told) of size cells count old new from to
not_made why told of size cells count old new from to is told_so same f top =
    record { left = f; is = same ∙ top_with from f top; leaves = (unmade_by why told is cells old new told_so, refl) }

pub not_made_by : (result : Result Effect EventRefusal) (why : AllocRefusal) (of : ObjectKind) (size cells count : ℕ) (old new : Heap) (from to : List ShownEntry)
    → IsErrAnd result (λ told. told ≡ of_heap why) → IsRefused why cells old new → to ≡ from → LeavesNewTop result of size cells count old new from to
not_made_by (Ok told) why of size cells count old new from to is told_so same = absurd is
not_made_by (Err told) why of size cells count old new from to is told_so same = not_made why told of size cells count old new from to is told_so same

-- memory was wanted for its word
pub no_room : (result : Result Effect EventRefusal) (of : ObjectKind) (size cells count : ℕ) (old : Heap) (from to : List ShownEntry)
    → IsErrAnd result (λ told. told ≡ refusal.Memory) → to ≡ from → LeavesNewTop result of size cells count old old from to
no_room (Ok told) of size cells count old from to is same = absurd is
no_room (Err told) of size cells count old from to is same =
    subst (λ r. LeavesNewTop (Err r) of size cells count old old from to) (sym is)
    (λ f top. record { left = f; is = same ∙ top_with from f top; leaves = (refl, refl) })

-- ---- its word on top of the others

-- a word that is put in two steps
put_over : (from : List ShownEntry) (next word : ℕ) (f : ShownFrame) → IsTopFrame from (Some f)
    → on_top (moved next) (on_top (topped word) (on_top (with_operands 0 (0 ∷ [])) from)) ≡ with_top (at_place next (replaced 0 (word ∷ []) f)) from
put_over [] next word f top = absurd cc
put_over (Invocation g ∷ stack) next word f top = ap (λ x. Invocation (at_place next (replaced 0 (word ∷ []) x)) ∷ stack) (sym (same_Some f g top))
put_over (Initialisation class phase ∷ stack) next word f top = absurd cc

-- and taken back after the first of them
taken_off : (from : List ShownEntry) → on_top (without 1) (on_top (with_operands 0 (0 ∷ [])) from) ≡ from
taken_off [] = refl
taken_off (Invocation g ∷ stack) = refl
taken_off (Initialisation class phase ∷ stack) = refl

pub unput : (from between to : List ShownEntry) → between ≡ on_top (with_operands 0 (0 ∷ [])) from → to ≡ on_top (without 1) between → to ≡ from
unput from between to first second = second ∙ ap (on_top (without 1)) first ∙ taken_off from

pub made_over : (of : ObjectKind) (size cells : ℕ) (old new : Heap) (reference word next : ℕ) (from between put to : List ShownEntry)
    → IsAllocated reference of size cells old new → word ≡ suc reference → IsNextPlace from next
    → between ≡ on_top (with_operands 0 (0 ∷ [])) from → put ≡ on_top (topped word) between → to ≡ on_top (moved next) put
    → LeavesNewTop (Ok effect.Done) of size cells 0 old new from to
made_over of size cells old new reference word next from between put to made word_is place first second third f top =
    record {
      left = at_place next (replaced 0 (word ∷ []) f);
      is = third ∙ ap (on_top (moved next)) second ∙ ap (λ xs. on_top (moved next) (on_top (topped word) xs)) first ∙ put_over from next word f top;
      leaves = (
        reference,
        made,
        λ small there. ap (λ n. at_place n (replaced 0 (word ∷ []) f)) (place f top small) ∙ ap (λ w. gone_on 0 (w ∷ []) f) word_is,
      );
    }

-- ---- its word in the place of the one on top

put_on_top : (from : List ShownEntry) (next word : ℕ) (f : ShownFrame) → IsTopFrame from (Some f)
    → on_top (moved next) (on_top (topped word) from) ≡ with_top (at_place next (record f { operands = topped_words word f.operands })) from
put_on_top [] next word f top = absurd cc
put_on_top (Invocation g ∷ stack) next word f top = ap (λ x. Invocation (at_place next (record x { operands = topped_words word x.operands })) ∷ stack) (sym (same_Some f g top))
put_on_top (Initialisation class phase ∷ stack) next word f top = absurd cc

topped_one : (word next : ℕ) (f : ShownFrame) (ops : List ℕ) → ops ≡ f.operands → 1 ≤ length ops
    → at_place next (record f { operands = topped_words word ops }) ≡ at_place next (replaced 1 (word ∷ []) (record f { operands = ops }))
topped_one word next f [] e there = absurd (omega arith)
topped_one word next f (top ∷ ops) e there = refl

pub made_on_top : (of : ObjectKind) (size cells : ℕ) (old new : Heap) (reference word next : ℕ) (from put to : List ShownEntry)
    → IsAllocated reference of size cells old new → word ≡ suc reference → IsNextPlace from next
    → put ≡ on_top (topped word) from → to ≡ on_top (moved next) put
    → LeavesNewTop (Ok effect.Done) of size cells 1 old new from to
made_on_top of size cells old new reference word next from put to made word_is place second third f top =
    record {
      left = at_place next (record f { operands = topped_words word f.operands });
      is = third ∙ ap (on_top (moved next)) second ∙ put_on_top from next word f top;
      leaves = (
        reference,
        made,
        λ small there.
            topped_one word next f f.operands refl there
            ∙ ap (λ n. at_place n (replaced 1 (word ∷ []) f)) (place f top small)
            ∙ ap (λ w. gone_on 1 (w ∷ []) f) word_is,
      );
    }
