-- Frames by the words of their entries, the top first.
use Rattle.std.proofs.Common.{◌≡◌, ℕ, zero, suc, ◌+◌, ◌-◌, ◌<◌, ◌≤◌, List, [], ◌∷◌, ◌++◌, length, take, drop, reverse, sym, ap, refl, ◌∙◌, arith, inl, inr}
use Rattle.std.specs.Prelude.{Option, min, max, replicate}
use Rattle.std.proofs.lemmas.Bool.{cases_lt}
use Rattle.std.proofs.lemmas.List.{drop-drop, drop-take, length-take-le, length-replicate, length-drop, length-reverse, reverse-append, reverse-reverse, take-take, take_all}
use Rattle.std.proofs.Math.ListN.{drop_of_length-le}
use Rattle.std.proofs.Math.Seq.{take-append-add, drop-append-add}
use Rattle.thread_stacks.specs.declared.entry.EntryKind.{EntryKind}
use Rattle.thread_stacks.specs.declared.entry.EntryKind.TheVariants as kind
use Rattle.thread_stacks.specs.Stacks.{ShownFrame, Invocation, shown_by, of_frame, at_place, moved, replaced, topped, topped_words, without, filled, arguments_of}
use Rattle.thread_stacks.proofs.Words.{take_reverse, same_turned}

-- the words of a frame
abbrev pub frame_by : ℕ → ℕ → Option ℕ → List ℕ → List ℕ → ShownFrame
frame_by method place entered locals operands = record { method = method; place = place; entered = entered; locals = locals; operands = operands }

same_words : (method place : ℕ) (entered : Option ℕ) (ls ks os ps : List ℕ) → ls ≡ ks → os ≡ ps
    → frame_by method place entered ls os ≡ frame_by method place entered ks ps
same_words method place entered ls ks os ps l o = ap (λ xs. frame_by method place entered xs os) l ∙ ap (λ xs. frame_by method place entered ks xs) o

-- ---- at another place

pub moved_by : (k : EntryKind) (place : ℕ) (f : ShownFrame) → shown_by k (at_place place f) ≡ moved place (shown_by k f)
moved_by kind.Invocation place f = refl
moved_by (kind.Initialisation class phase) place f = refl

-- ---- with other operands

drop_least : (n m : ℕ) (xs : List ℕ) → n ≡ min m (length xs) → drop n xs ≡ drop m xs
drop_least n m xs is =
    elim (cases_lt m (length xs)) [
      | inl lt ↦ (let same : n ≡ m = omega arith in ap (λ k. drop k xs) same)
      | inr le ↦ (let all : n ≡ length xs = omega arith in drop_of_length-le xs (omega arith) ∙ sym (drop_of_length-le xs le))
    ]

pub take_least : (n m : ℕ) (xs : List ℕ) → n ≡ min m (length xs) → take n xs ≡ take m xs
take_least n m xs is =
    elim (cases_lt m (length xs)) [
      | inl lt ↦ (let same : n ≡ m = omega arith in ap (λ k. take k xs) same)
      | inr le ↦ (let all : n ≡ length xs = omega arith in take_all n xs (omega arith) ∙ sym (take_all m xs le))
    ]

-- the operands that are left
pub left_operands : (n m count : ℕ) (ws : List ℕ) → n ≡ min m count → count ≤ length ws → take (count - n) (drop n ws) ≡ drop m (take count ws)
left_operands n m count ws is le =
    let sum : n + (count - n) ≡ count = omega arith in
    let all : length (take count ws) ≡ count = length-take-le count ws le in
    sym (drop-take n (count - n) ws) ∙ ap (λ k. drop n (take k ws)) sum ∙ drop_least n m (take count ws) (is ∙ sym (ap (λ k. min m k) all))

-- what stands under them
pub under_left : (n m count under : ℕ) (ws : List ℕ) → n ≡ min m count → drop (count - n + under) (drop n ws) ≡ drop (count + under) ws
under_left n m count under ws is = let sum : n + (count - n + under) ≡ count + under = omega arith in drop-drop (count - n + under) n ws ∙ ap (λ k. drop k ws) sum

under_operands : (n m count : ℕ) (ws : List ℕ) → n ≡ min m count → drop (count - n) (drop n ws) ≡ drop count ws
under_operands n m count ws is = let sum : n + (count - n) ≡ count = omega arith in drop-drop (count - n) n ws ∙ ap (λ k. drop k ws) sum

-- so many operands are popped off an entry of so many
pub popped_entry : (k : EntryKind) (method place : ℕ) (entered : Option ℕ) (locals count n m : ℕ) (ws : List ℕ)
    → n ≡ min m (of_frame k count) → count ≤ length ws
    → shown_by k (frame_by method place entered (reverse (take locals (drop (count - n) (drop n ws)))) (take (count - n) (drop n ws)))
    ≡ without m (shown_by k (frame_by method place entered (reverse (take locals (drop count ws))) (take count ws)))
popped_entry kind.Invocation method place entered locals count n m ws is le =
    ap Invocation
    (same_words method place entered _ _ _ _ (ap (λ xs. reverse (take locals xs)) (under_operands n m count ws is)) (left_operands n m count ws is le))
popped_entry (kind.Initialisation class phase) method place entered locals count n m ws is le = refl

-- a word on top of those that are left
pub put_entry : (method place : ℕ) (entered : Option ℕ) (locals count n m word : ℕ) (ws : List ℕ) → n ≡ min m count → count ≤ length ws
    → frame_by method place entered (reverse (take locals (drop (count - n + 1) (word ∷ drop n ws)))) (take (count - n + 1) (word ∷ drop n ws))
    ≡ replaced m (word ∷ []) (frame_by method place entered (reverse (take locals (drop count ws))) (take count ws))
put_entry method place entered locals count n m word ws is le =
    let sum : count - n + 1 ≡ suc (count - n) = omega arith in
    same_words method place entered _ _ _ _
    (ap (λ k. reverse (take locals (drop k (word ∷ drop n ws)))) sum ∙ ap (λ xs. reverse (take locals xs)) (under_operands n m count ws is))
    (ap (λ k. take k (word ∷ drop n ws)) sum ∙ ap (λ xs. word ∷ xs) (left_operands n m count ws is le))

pub under_put : (n m count under word : ℕ) (ws : List ℕ) → n ≡ min m count
    → drop (count - n + 1 + under) (word ∷ drop n ws) ≡ drop (count + under) ws
under_put n m count under word ws is =
    let sum : count - n + 1 + under ≡ suc (count - n + under) = omega arith in
    ap (λ k. drop k (word ∷ drop n ws)) sum ∙ under_left n m count under ws is

-- an invoker goes on with a result on its operands
pub resumed_entry : (method place next : ℕ) (entered : Option ℕ) (locals count word : ℕ) (ws : List ℕ)
    → frame_by method next entered (reverse (take locals (drop (count + 1) (word ∷ ws)))) (take (count + 1) (word ∷ ws))
    ≡ at_place next (replaced 0 (word ∷ []) (frame_by method place entered (reverse (take locals (drop count ws))) (take count ws)))
resumed_entry method place next entered locals count word ws =
    let sum : count + 1 ≡ suc count = omega arith in
    same_words method next entered _ _ _ _
    (ap (λ k. reverse (take locals (drop k (word ∷ ws)))) sum)
    (ap (λ k. take k (word ∷ ws)) sum)

-- ---- begun

-- the local variables of a callee that begins at its arguments
pub begun_locals : (n locals max_locals : ℕ) (ws : List ℕ) → n ≤ length ws → locals ≡ max n max_locals
    → reverse (take locals (replicate {A = ℕ} (locals - n) 0 ++ ws)) ≡ filled (reverse (take n ws)) max_locals
begun_locals n locals max_locals ws le is =
    let zeros : length (replicate {A = ℕ} (locals - n) 0) ≡ locals - n = length-replicate {A = ℕ} (locals - n) 0 in
    let sum : locals ≡ length (replicate {A = ℕ} (locals - n) 0) + n = omega arith in
    let count : length (reverse (take n ws)) ≡ n = length-reverse (take n ws) ∙ length-take-le n ws le in
    let rest : locals - n ≡ max_locals - length (reverse (take n ws)) = omega arith in
    ap (λ k. reverse (take k (replicate {A = ℕ} (locals - n) 0 ++ ws))) sum
    ∙ ap reverse (take-append-add (replicate {A = ℕ} (locals - n) 0) ws n)
    ∙ reverse-append (replicate {A = ℕ} (locals - n) 0) (take n ws)
    ∙ ap (λ xs. reverse (take n ws) ++ xs) (same_turned (locals - n) 0 ∙ ap (λ k. replicate {A = ℕ} k 0) rest)

-- what is under them
pub under_begun : (n locals : ℕ) (ws : List ℕ) → n ≤ locals → drop locals (replicate {A = ℕ} (locals - n) 0 ++ ws) ≡ drop n ws
under_begun n locals ws le =
    let zeros : length (replicate {A = ℕ} (locals - n) 0) ≡ locals - n = length-replicate {A = ℕ} (locals - n) 0 in
    let sum : locals ≡ length (replicate {A = ℕ} (locals - n) 0) + n = omega arith in
    ap (λ k. drop k (replicate {A = ℕ} (locals - n) 0 ++ ws)) sum ∙ drop-append-add (replicate {A = ℕ} (locals - n) 0) ws n

-- the arguments that an entry hands on
pub handed : (k : EntryKind) (f : ShownFrame) (n m count : ℕ) (ws : List ℕ) → n ≡ min m (of_frame k count) → count ≤ length ws → f.operands ≡ take count ws
    → reverse (take n ws) ≡ arguments_of m (shown_by k f)
handed kind.Invocation f n m count ws is le operands =
    let all : length (take count ws) ≡ count = length-take-le count ws le in
    ap reverse
    (sym (take-take n count ws (omega arith))
    ∙ take_least n m (take count ws) (is ∙ sym (ap (λ k. min m k) all))
    ∙ ap (take m) (sym operands))
handed (kind.Initialisation class phase) f n m count ws is le operands = let none : n ≡ zero = omega arith in ap (λ k. reverse (take k ws)) none

-- ---- with another word on top

topped_frame : (method place : ℕ) (entered : Option ℕ) (locals count word : ℕ) (ws : List ℕ) → 0 < count → count ≤ length ws
    → frame_by method place entered (reverse (take locals (drop count (word ∷ drop 1 ws)))) (take count (word ∷ drop 1 ws))
    ≡ frame_by method place entered (reverse (take locals (drop count ws))) (topped_words word (take count ws))
topped_frame method place entered locals zero word ws some le = absurd (omega arith)
topped_frame method place entered locals (suc count) word [] some le = absurd (omega arith)
topped_frame method place entered locals (suc count) word (top ∷ ws) some le = refl

pub topped_entry : (k : EntryKind) (method place : ℕ) (entered : Option ℕ) (locals count word : ℕ) (ws : List ℕ)
    → 1 ≡ min 1 (of_frame k count) → count ≤ length ws
    → shown_by k (frame_by method place entered (reverse (take locals (drop count (word ∷ drop 1 ws)))) (take count (word ∷ drop 1 ws)))
    ≡ topped word (shown_by k (frame_by method place entered (reverse (take locals (drop count ws))) (take count ws)))
topped_entry kind.Invocation method place entered locals count word ws one le = ap Invocation (topped_frame method place entered locals count word ws (omega arith) le)
topped_entry (kind.Initialisation class phase) method place entered locals count word ws one le = refl

-- ---- a call undone

-- the first of the local variables are the words under the others
pub first_locals : (n locals count : ℕ) (ws : List ℕ) → n ≤ locals → count + locals ≤ length ws
    → take n (drop (count + locals - n) ws) ≡ reverse (take n (reverse (take locals (drop count ws))))
first_locals n locals count ws le within =
    let all : length (drop count ws) ≡ length ws - count = length-drop count ws in
    let full : length (take locals (drop count ws)) ≡ locals = length-take-le locals (drop count ws) (omega arith) in
    let sum : locals - n + n ≡ locals = omega arith in
    let from : count + (locals - n) ≡ count + locals - n = omega arith in
    sym
    (ap reverse (take_reverse n (take locals (drop count ws)))
    ∙ reverse-reverse (drop (length (take locals (drop count ws)) - n) (take locals (drop count ws)))
    ∙ ap (λ k. drop (k - n) (take locals (drop count ws))) full
    ∙ ap (λ k. drop (locals - n) (take k (drop count ws))) (sym sum)
    ∙ drop-take (locals - n) n (drop count ws)
    ∙ ap (take n) (drop-drop (locals - n) count ws ∙ ap (λ k. drop k ws) from))
