-- The words of lists in the list of all words.
use Rattle.std.proofs.Common.{◌≡◌, ℕ, zero, suc, ◌+◌, ◌-◌, ◌<◌, ◌≤◌, List, [], ◌∷◌, ◌++◌, length, get_or, take, drop, refl, sym, ◌∙◌, ap, Some, None, arith, length-append, length-drop, add-one}
use Rattle.std.specs.Prelude.{slice_get, slice_range}
use Rattle.std.proofs.Math.Seq.{take-length, drop-append_seam}
use Rattle.std.proofs.lemmas.List.{take-append-le, drop-append-le}
use Rattle.word_table.specs.Lists.{first_start, start_at, lists_of, AreLaid, StandsFor, Grows}

-- ---- parts of the list of words

pub range-append : (words new : List ℕ) (from to : ℕ) → from ≤ to → to ≤ length words
    → slice_range (words ++ new) from to ≡ slice_range words from to
range-append words new from to up h =
    let start : from ≤ length words = omega arith in
    let room : to - from ≤ length (drop from words) = omega (arith, length-drop from words) in
    ap (λ (xs : List ℕ). take (to - from) xs) (drop-append-le from words new start) ∙ take-append-le (to - from) (drop from words) new room

pub range_new : (words new : List ℕ) → slice_range (words ++ new) (length words) (length (words ++ new)) ≡ new
range_new words new =
    let count : length (words ++ new) - length words ≡ length new = omega (arith, length-append words new) in
    rw (count, drop-append_seam words new) (take-length new)

-- ---- where lists begin

pub first_le_end : (starts : List ℕ) (n : ℕ) → AreLaid starts n → first_start starts n ≤ n
first_le_end [] n h = omega arith
first_le_end (s ∷ starts) n h = omega (arith, h.0, first_le_end starts n h.1)

pub length-lists_of : (starts words : List ℕ) → length (lists_of starts words) ≡ length starts
length-lists_of [] words = refl
length-lists_of (s ∷ starts) words = ap suc (length-lists_of starts words)

-- where the list of a number begins, and ends
pub start_le_suc : (starts : List ℕ) (n k : ℕ) → AreLaid starts n → start_at starts n k ≤ start_at starts n (suc k)
start_le_suc [] n zero h = omega arith
start_le_suc [] n (suc k) h = omega arith
start_le_suc (s ∷ starts) n zero h = h.0
start_le_suc (s ∷ starts) n (suc k) h = start_le_suc starts n k h.1

pub start_le_next : (starts : List ℕ) (n k : ℕ) → AreLaid starts n → start_at starts n k ≤ start_at starts n (k + 1)
start_le_next starts n k h = rw (add-one k) (start_le_suc starts n k h)

pub start_le_end : (starts : List ℕ) (n k : ℕ) → AreLaid starts n → start_at starts n k ≤ n
start_le_end starts n zero h = first_le_end starts n h
start_le_end [] n (suc k) h = omega arith
start_le_end (s ∷ starts) n (suc k) h = start_le_end starts n k h.1

list_suc : (starts words : List ℕ) (k : ℕ) → k < length starts
    → slice_get (lists_of starts words) k ≡ Some (slice_range words (start_at starts (length words) k) (start_at starts (length words) (suc k)))
list_suc [] words k lt = absurd (omega (arith, lt))
list_suc (s ∷ starts) words zero lt = refl
list_suc (s ∷ starts) words (suc k) lt = list_suc starts words k (omega (arith, lt))

pub list_there : (starts words : List ℕ) (k : ℕ) → k < length starts
    → slice_get (lists_of starts words) k ≡ Some (slice_range words (start_at starts (length words) k) (start_at starts (length words) (k + 1)))
list_there starts words k lt = rw (add-one k) (list_suc starts words k lt)

-- ---- one more list

pub first_start-push : (starts : List ℕ) (n m : ℕ) → first_start (starts ++ n ∷ []) m ≡ first_start starts n
first_start-push [] n m = refl
first_start-push (s ∷ starts) n m = refl

pub laid-push : (starts : List ℕ) (n m : ℕ) → AreLaid starts n → n ≤ m → AreLaid (starts ++ n ∷ []) m
laid-push [] n m h up = (up, tt)
laid-push (s ∷ starts) n m h up = (rw (first_start-push starts n m) h.0, laid-push starts n m h.1 up)

pub lists_of-push : (starts words new : List ℕ) → AreLaid starts (length words)
    → lists_of (starts ++ length words ∷ []) (words ++ new) ≡ lists_of starts words ++ new ∷ []
lists_of-push [] words new h = rw (range_new words new) refl
lists_of-push (s ∷ starts) words new h =
    let next : first_start starts (length words) ≤ length words = first_le_end starts (length words) h.1 in
    rw (first_start-push starts (length words) (length (words ++ new)), range-append words new s (first_start starts (length words)) h.0 next, lists_of-push starts words new h.1) refl

-- ---- what stays

pub kept_before : (lists : List (List ℕ)) (new : List ℕ) (k : ℕ) (words : List ℕ) → StandsFor lists k words
    → StandsFor (lists ++ new ∷ []) k words
kept_before [] new k words h = absurd (cc)
kept_before (l ∷ lists) new zero words h = h
kept_before (l ∷ lists) new (suc k) words h = kept_before lists new k words h

pub last_stands : (lists : List (List ℕ)) (new : List ℕ) → StandsFor (lists ++ new ∷ []) (length lists) new
last_stands [] new = refl
last_stands (l ∷ lists) new = last_stands lists new

pub grows_same : (lists : List (List ℕ)) → Grows lists lists
grows_same lists = record { kept = λ k words h. h }

pub grows_push : (lists : List (List ℕ)) (new : List ℕ) → Grows lists (lists ++ new ∷ [])
grows_push lists new = record { kept = kept_before lists new }

-- ---- a table with one more list

-- a list was pushed: the words and where they begin
pub pushed : (starts words new starts_then words_then : List ℕ) (start : ℕ) (lists : List (List ℕ))
    → starts_then ≡ starts ++ start ∷ [] → words_then ≡ words ++ new → start ≡ length words → lists_of starts words ≡ lists
    → AreLaid starts (length words)
    → lists_of starts_then words_then ≡ lists ++ new ∷ []
pushed starts words new starts_then words_then start lists are more at is laid =
    rw (are, more, at) (lists_of-push starts words new laid ∙ ap (λ (ls : List (List ℕ)). ls ++ new ∷ []) is)

pub pushed_laid : (starts words new starts_then words_then : List ℕ) (start : ℕ)
    → starts_then ≡ starts ++ start ∷ [] → words_then ≡ words ++ new → start ≡ length words → AreLaid starts (length words)
    → AreLaid starts_then (length words_then)
pushed_laid starts words new starts_then words_then start are more at laid =
    rw (are, more, at) (laid-push starts (length words) (length (words ++ new)) laid (omega (arith, length-append words new)))
