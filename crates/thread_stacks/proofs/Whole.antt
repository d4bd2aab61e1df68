-- A stack of entries and words that are handed in.
use Rattle.std.proofs.Common.{◌≡◌, ℕ, ◌+◌, ◌<◌, ◌≤◌, List, [], ◌∷◌, ◌++◌, length, take, drop, reverse, sym, ap, refl, ◌∙◌, arith}
use Rattle.std.specs.Prelude.{if◌then◌else◌}
use Rattle.std.proofs.Math.ListN.{get_or}
use Rattle.std.proofs.lemmas.List.{length-take, reverse-append, take_all, take_more}
use Rattle.thread_stacks.specs.declared.entry.EntryKind.{EntryKind}
use Rattle.thread_stacks.specs.declared.entry.EntryKind.TheVariants as kind
use Rattle.thread_stacks.specs.declared.entry.Entry.{Entry}
use Rattle.thread_stacks.specs.Stacks.{ShownFrame, shown, shown_over, shown_by, shown_entry, frame_of, in_use, size, sizes, is_frame, frames_by, frame_count, IsWhole}

-- how many are frames
abbrev pub frames_in : List Entry → ℕ
frames_in [] = 0
frames_in (e ∷ es) = frames_by e.kind + frames_in es

frames_of : (k : EntryKind) (f : ShownFrame) → (if is_frame (shown_by k f) then 1 else 0) ≡ frames_by k
frames_of kind.Invocation f = refl
frames_of (kind.Initialisation class phase) f = refl

pub frames_le : (k : EntryKind) → frames_by k ≤ 1
frames_le kind.Invocation = omega arith
frames_le (kind.Initialisation class phase) = omega arith

count_in : (es : List Entry) (ws : List ℕ) → frame_count (shown_over es ws) ≡ frames_in es
count_in [] ws = refl
count_in (e ∷ es) ws =
    let rest : frame_count (shown_over es (drop (size e) ws)) ≡ frames_in es = count_in es (drop (size e) ws) in
    let one : (if is_frame (shown_entry e ws) then 1 else 0) ≡ frames_by e.kind = frames_of e.kind (frame_of e ws) in
    omega arith

-- ---- entries one after another

front : List Entry → ℕ → List Entry
front es i = reverse (take i es)

one_more : (es : List Entry) (i : ℕ) (e : Entry) → i < length es → get_or es i e ≡ e → reverse (take (i + 1) es) ≡ e ∷ reverse (take i es)
one_more es i e within at = ap reverse (take_more es i e within ∙ ap (λ x. take i es ++ x ∷ []) at) ∙ reverse-append (take i es) (e ∷ [])

-- what is kept of the first so many, where so many words are left of all
pub record AreCounted (es : List Entry) (i used left frames : ℕ) : Type 0 where
  pub words : left + sizes (reverse (take i es)) ≡ used
  pub frames_are : frames ≡ frames_in (reverse (take i es))
  pub few : frames ≤ i

pub none_counted : (es : List Entry) (used : ℕ) → AreCounted es 0 used used 0
none_counted es used = record { words = omega arith; frames_are = refl; few = omega arith }

pub one_counted : (es : List Entry) (i used left rest last frames : ℕ) (e : Entry) → i < length es → get_or es i e ≡ e → AreCounted es i used left frames
    → left ≡ rest + e.locals → rest ≡ last + e.operands
    → AreCounted es (i + 1) used last (frames + frames_by e.kind)
one_counted es i used left rest last frames e within at c l o =
    let more : reverse (take (i + 1) es) ≡ e ∷ reverse (take i es) = one_more es i e within at in
    let sizes_are : sizes (reverse (take (i + 1) es)) ≡ size e + sizes (reverse (take i es)) = ap sizes more in
    let frames_then : frames_in (reverse (take (i + 1) es)) ≡ frames_by e.kind + frames_in (reverse (take i es)) = ap frames_in more in
    record {
      words = omega (arith, sizes_are, c.words, l, o);
      frames_are = omega (arith, frames_then, c.frames_are);
      few = omega (arith, c.few, frames_le e.kind);
    }

-- all of them, where no word is left
pub all_whole : (es : List Entry) (ws : List ℕ) (frames : ℕ) → AreCounted es (length es) (length ws) 0 frames → IsWhole (length ws) ws es frames
all_whole es ws frames c =
    let all : take (length es) es ≡ es = take_all (length es) es (omega arith) in
    record {
      there = omega arith;
      sized = ap (λ (xs : List Entry). sizes (reverse xs)) (sym all) ∙ (omega (arith, c.words));
      counted = c.frames_are ∙ ap (λ (xs : List Entry). frames_in (reverse xs)) all ∙ sym (count_in (reverse es) (in_use (length ws) ws));
    }

pub all_read : (es : List Entry) (ws : List ℕ) (i used left frames : ℕ) → i ≡ length es → used ≡ length ws → left ≡ 0
    → AreCounted es i used left frames → IsWhole used ws es frames
all_read es ws i used left frames at is none c =
    rw is (all_whole es ws frames (rw (← at, ← is, ← none) c))

-- ---- a copy

-- the words that are in use alone
pub cut_shown : (used : ℕ) (ws : List ℕ) (es : List Entry) → used ≤ length ws → shown used (take used ws) es ≡ shown used ws es
cut_shown used ws es within =
    ap (λ (xs : List ℕ). shown_over (reverse es) (reverse xs)) (take_all used (take used ws) (omega (arith, length-take used ws)))

pub cut_whole : (used : ℕ) (ws : List ℕ) (es : List Entry) (frames : ℕ) → IsWhole used ws es frames → IsWhole used (take used ws) es frames
cut_whole used ws es frames whole = record {
  there = omega (arith, length-take used ws, whole.there);
  sized = whole.sized;
  counted = whole.counted ∙ ap frame_count (sym (cut_shown used ws es whole.there));
}
