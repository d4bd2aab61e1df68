-- Schedules as a word of a command line.
use Rattle.std.proofs.Common.{◌≡◌, ◌<◌, ◌+◌, ℕ, Bool, true, false, List, [], ◌∷◌, ◌++◌, length, map, drop, get_or, sym, ap, ◌∙◌, refl, arith, append_assoc, length-append}
use Rattle.std.specs.Prelude.{◌||◌}
use Rattle.std.specs.List.{AllByRecursion}
use Rattle.std.proofs.Math.Seq.{drop-length}
use Rattle.std.proofs.lemmas.List.{append-nil, drop_more, map-append}
use Rattle.model.specs.declared.event.ScheduleEntry.{ScheduleEntry}
use Rattle.model.specs.Schedule.{EntryFits}
use Rattle.schedule.specs.schedule_text.CommandWord.{IsScheduleWord, has, is_comment_mark, is_mark}
use Rattle.schedule.specs.schedule_text.Text.{entry_word, text_words}
use Rattle.schedule.proofs.schedule_text.EntryLaws.{same_cons}

-- ---- whether some byte is such

pub found : (is : ℕ → Bool) (bytes : List ℕ) (at : ℕ) → at < length bytes → is (get_or bytes at 0) ≡ true → has is (drop at bytes) ≡ true
found is bytes at lt e = ap (has is) (drop_more bytes at 0 lt) ∙ first (is (get_or bytes at 0)) (has is (drop (at + 1) bytes)) e
  where
    first : (p q : Bool) → p ≡ true → (p || q) ≡ true
    first true q e = refl
    first false q e = absurd cc

pub passed : (is : ℕ → Bool) (bytes : List ℕ) (at : ℕ) → at < length bytes → is (get_or bytes at 0) ≡ false
    → has is (drop (at + 1) bytes) ≡ has is (drop at bytes)
passed is bytes at lt e = sym (ap (has is) (drop_more bytes at 0 lt) ∙ other (is (get_or bytes at 0)) (has is (drop (at + 1) bytes)) e)
  where
    other : (p q : Bool) → p ≡ false → (p || q) ≡ q
    other true q e = absurd cc
    other false q e = refl

pub none_at_end : (is : ℕ → Bool) (bytes : List ℕ) (at : ℕ) → at ≡ length bytes → has is (drop at bytes) ≡ false
none_at_end is bytes at e = ap (has is) (ap (λ k. drop k bytes) e ∙ drop-length bytes)

-- ---- entries so far

-- these words begin with those of some entries, of at least one where that is said
pub record AreSoFar (words : List (List ℕ)) (has_some : Bool) (left : List (List ℕ)) : Type 0 where
  pub entries : List ScheduleEntry
  pub fit : AllByRecursion EntryFits entries
  pub spelled : words ≡ map entry_word entries ++ left
  pub some : has_some ≡ true → 0 < length entries
  pub none : has_some ≡ false → entries ≡ []

pub none_yet : (words : List (List ℕ)) → AreSoFar words false words
none_yet words = record { entries = []; fit = tt; spelled = refl; some = λ e. absurd cc; none = λ e. refl }

all_pushed : (xs : List ScheduleEntry) (x : ScheduleEntry) → AllByRecursion EntryFits xs → EntryFits x → AllByRecursion EntryFits (xs ++ x ∷ [])
all_pushed [] x h p = (p, tt)
all_pushed (y ∷ ys) x h p = (h.0, all_pushed ys x h.1 p)

pub one_more : (words : List (List ℕ)) (has_some : Bool) (left next : List (List ℕ)) (w : List ℕ) (e : ScheduleEntry) → AreSoFar words has_some left
    → left ≡ w ∷ next → w ≡ entry_word e → EntryFits e → AreSoFar words true next
one_more words has_some left next w e so_far l is fits = record {
  entries = so_far.entries ++ e ∷ [];
  fit = all_pushed so_far.entries e so_far.fit fits;
  spelled = so_far.spelled ∙ ap (λ x. map entry_word so_far.entries ++ x) (l ∙ ap (λ x. x ∷ next) is)
      ∙ sym (append_assoc (map entry_word so_far.entries) (entry_word e ∷ []) next)
      ∙ ap (λ x. x ++ next) (sym (map-append entry_word so_far.entries (e ∷ [])));
  some = λ _. omega (arith, length-append so_far.entries (e ∷ []));
  none = λ f. absurd cc;
}

-- a word behind those of some entries is that of an entry, where all words are
word_behind : (es fs : List ScheduleEntry) (w : List ℕ) (next : List (List ℕ)) → AllByRecursion EntryFits fs
    → map entry_word es ++ w ∷ next ≡ map entry_word fs → (f : ScheduleEntry) × (w ≡ entry_word f) × EntryFits f
word_behind [] [] w next fit is = absurd cc
word_behind [] (f ∷ fs) w next fit is = (f, (same_cons w (entry_word f) next (map entry_word fs) is).0, fit.0)
word_behind (e ∷ es) [] w next fit is = absurd cc
word_behind (e ∷ es) (f ∷ fs) w next fit is =
    word_behind es fs w next fit.1 (same_cons (entry_word e) (entry_word f) (map entry_word es ++ w ∷ next) (map entry_word fs) is).1

pub no_schedule : (word : List ℕ) (has_some : Bool) (left next : List (List ℕ)) (w : List ℕ) → AreSoFar (text_words word) has_some left
    → left ≡ w ∷ next → ((f : ScheduleEntry) → EntryFits f → w ≡ entry_word f → ⊥) → IsScheduleWord word → ⊥
no_schedule word has_some left next w so_far l none is =
    let f = word_behind so_far.entries is.entries w next is.fit (ap (λ x. map entry_word so_far.entries ++ x) (sym l) ∙ sym so_far.spelled ∙ is.spelled) in
    none f.0 f.2 f.1

-- all words are read
pub all_read : (word : List ℕ) (has_some : Bool) (left : List (List ℕ)) → has is_mark word ≡ true → has is_comment_mark word ≡ false
    → AreSoFar (text_words word) has_some left → left ≡ [] → has_some ≡ true → IsScheduleWord word
all_read word has_some left marked bare so_far end some = record {
  marked = marked;
  bare = bare;
  entries = so_far.entries;
  fit = so_far.fit;
  some = so_far.some some;
  spelled = so_far.spelled ∙ ap (λ x. map entry_word so_far.entries ++ x) end ∙ append-nil (map entry_word so_far.entries);
}

pub none_read : (word : List ℕ) (has_some : Bool) (left : List (List ℕ)) → AreSoFar (text_words word) has_some left → left ≡ []
    → has_some ≡ false → IsScheduleWord word → ⊥
none_read word has_some left so_far end none is = absurd (empty is.entries is.some (sym is.spelled ∙ so_far.spelled ∙ ap (λ es. map entry_word es ++ left) (so_far.none none) ∙ end))
  where
    empty : (es : List ScheduleEntry) → 0 < length es → map entry_word es ≡ [] → ⊥
    empty [] some is = omega (arith, some)
    empty (e ∷ es) some is = absurd cc
