-- The words of entries.
use Rattle.std.proofs.Common.{codes, ◌≡◌, ◌≤◌, ◌<◌, ◌^◌, ◌+◌, ◌-◌, ◌%◌, ℕ, true, false, List, [], ◌∷◌, ◌++◌, length, map, get_or, take, drop, refl, sym, ap, subst, ◌∙◌, arith, decimal, append_assoc, inl, inr, length-append, mod-lt, Some}
use Rattle.std.specs.Prelude.{◌⊎◌, ◌==◌}
use Rattle.std.specs.List.{AllByRecursion}
use Rattle.std.proofs.lemmas.Bool.{cases_eq, cases_lt, eq-eqb, eqb-true}
use Rattle.std.proofs.lemmas.Fmt.{decimal_by_steps, decimal_nonempty}
use Rattle.std.proofs.Math.Seq.{drop-append_seam}
use Rattle.std.proofs.lemmas.List.{append-nil, take-append-le, take_all, get_or_append_left, get_or-append-add, map-append}
use Rattle.model.specs.Schedule.{AreEntries, EntryFits}
use Rattle.model.specs.declared.event.ScheduleEntry.{ScheduleEntry}
use Rattle.schedule.specs.schedule_text.Digits.{HasDigits, IsDigit}
use Rattle.schedule.proofs.schedule_text.WordLaws.{rest_of}
use Rattle.schedule.specs.schedule_text.Text.{entry_tail, entry_word, unless_usual}

-- ---- digits

abbrev pub AreDigits : List ℕ → Type 0
AreDigits ds = (k : ℕ) → k < length ds → IsDigit (get_or ds k 0)

one_digit : (n : ℕ) → n < 10 → AreDigits ((48 + n) ∷ [])
one_digit n small k lt =
    let z : k ≡ 0 = omega arith in
    subst (λ j. IsDigit (get_or ((48 + n) ∷ []) j 0)) (sym z) (omega arith, omega arith)

another_digit : (n : ℕ) (ds : List ℕ) → 10 ≤ n → AreDigits ds → AreDigits (ds ++ (48 + n % 10) ∷ [])
another_digit n ds big all k lt = elim (cases_lt k (length ds)) [
  | inl l ↦ subst IsDigit (sym (get_or_append_left ds ((48 + n % 10) ∷ []) 0 k l)) (all k l)
  | inr g ↦
      let last : k ≡ length ds + 0 = omega (arith, length-append ds ((48 + n % 10) ∷ [])) in
      subst (λ j. IsDigit (get_or (ds ++ (48 + n % 10) ∷ []) j 0)) (sym last)
      (subst IsDigit (sym (get_or-append-add ds ((48 + n % 10) ∷ []) 0 0)) (omega arith, omega (arith, mod-lt n {m = 10} (omega arith))))
]

pub decimal_digits : (n : ℕ) → n < 2 ^ 64 → AreDigits (decimal n)
decimal_digits n small = decimal_by_steps (λ _ ds. AreDigits ds) one_digit another_digit n small

-- Digits with something behind them that is no digit are all the digits that stand first.
pub digits_end : (bytes ds rest : List ℕ) (n : ℕ) → bytes ≡ ds ++ rest → AreDigits ds → (IsDigit (get_or rest 0 0) → ⊥) → HasDigits bytes n
    → n ≡ length ds
digits_end bytes ds rest n is all other has = elim (cases_lt n (length ds)) [
  | inl l ↦ absurd (has.others (omega (arith, ap length is, length-append ds rest))
      (subst IsDigit (sym (ap (λ b. get_or b n 0) is ∙ get_or_append_left ds rest 0 n l)) (all n l)))
  | inr g ↦ elim (cases_eq n (length ds)) [
    | inl e ↦ e
    | inr d ↦ absurd (other (subst IsDigit (ap (λ b. get_or b (length ds + 0) 0) is ∙ get_or-append-add ds rest 0 0) (has.digits (length ds + 0) (omega (arith, d, g)))))
  ]
]

-- ---- the tail of an entry

usual_tail : (usual mark n : ℕ) → n ≡ usual → unless_usual usual mark n ≡ []
usual_tail usual mark n e = rw (eq-eqb n usual e) refl

other_tail : (usual mark n : ℕ) → (n ≡ usual → ⊥) → unless_usual usual mark n ≡ mark ∷ decimal n
other_tail usual mark n d = elim (n == usual) as (λ t. (n == usual) ≡ t → unless_usual usual mark n ≡ mark ∷ decimal n) [
  | true ↦ λ h. absurd (d (eqb-true n usual h))
  | false ↦ λ h. rw h refl
] refl

pub no_tail : (e : ScheduleEntry) → e.event.pick ≡ 0 → e.repeat ≡ 1 → entry_tail e ≡ []
no_tail e p r = rw (usual_tail 0 46 e.event.pick p, usual_tail 1 42 e.repeat r) refl

pub pick_tail : (e : ScheduleEntry) → (e.event.pick ≡ 0 → ⊥) → e.repeat ≡ 1 → entry_tail e ≡ 46 ∷ decimal e.event.pick
pick_tail e p r = rw (other_tail 0 46 e.event.pick p, usual_tail 1 42 e.repeat r) (append-nil (46 ∷ decimal e.event.pick))

pub repeat_tail : (e : ScheduleEntry) → e.event.pick ≡ 0 → (e.repeat ≡ 1 → ⊥) → entry_tail e ≡ 42 ∷ decimal e.repeat
repeat_tail e p r = rw (usual_tail 0 46 e.event.pick p, other_tail 1 42 e.repeat r) refl

-- the three forms of an entry that fits
abbrev pub Plain : ScheduleEntry → Type 0
Plain e = (e.event.pick ≡ 0) × (e.repeat ≡ 1) × (entry_tail e ≡ [])

abbrev pub Picks : ScheduleEntry → Type 0
Picks e = (1 ≤ e.event.pick) × (e.repeat ≡ 1) × (entry_tail e ≡ 46 ∷ decimal e.event.pick)

abbrev pub Repeats : ScheduleEntry → Type 0
Repeats e = (e.event.pick ≡ 0) × (2 ≤ e.repeat) × (entry_tail e ≡ 42 ∷ decimal e.repeat)

pub form_of : (e : ScheduleEntry) → EntryFits e → Plain e ⊎ (Picks e ⊎ Repeats e)
form_of e fits = elim (cases_eq e.repeat 1) [
  | inl r ↦ elim (cases_eq e.event.pick 0) [
    | inl p ↦ inl (p, r, no_tail e p r)
    | inr p ↦ inr (inl (omega (arith, p), r, pick_tail e p r))
  ]
  | inr r ↦
      let least : 1 ≤ e.repeat = fits.repeat.0 in
      let many : 1 < e.repeat = omega (arith, r, least) in
      inr (inr (fits.alone many, omega (arith, many), repeat_tail e (fits.alone many) r))
]

-- no tail begins with a digit
pub tail_is_no_digit : (e : ScheduleEntry) → EntryFits e → IsDigit (get_or (entry_tail e) 0 0) → ⊥
tail_is_no_digit e fits = elim (form_of e fits) [
  | inl a ↦ subst (λ t. IsDigit (get_or t 0 0) → ⊥) (sym a.2) (λ d. omega (arith, d.0))
  | inr o ↦ elim o [
    | inl b ↦ subst (λ t. IsDigit (get_or t 0 0) → ⊥) (sym b.2) (λ d. omega (arith, d.0))
    | inr c ↦ subst (λ t. IsDigit (get_or t 0 0) → ⊥) (sym c.2) (λ d. omega (arith, d.0))
  ]
]

-- the digits of an entry's word, and its tail
pub word_parts : (word : List ℕ) (end : ℕ) (e : ScheduleEntry) → EntryFits e → HasDigits word end → word ≡ entry_word e
    → (take end word ≡ decimal e.event.thread) × (take (length word - end) (drop end word) ≡ entry_tail e)
word_parts word end e fits has is =
    let t = decimal e.event.thread in
    let at : end ≡ length t = digits_end word t (entry_tail e) end is (decimal_digits e.event.thread (omega (arith, fits.thread))) (tail_is_no_digit e fits) has in (
      ap (take end) is ∙ ap (λ k. take k (t ++ entry_tail e)) at ∙ take-append-le (length t) t (entry_tail e) (omega arith) ∙ take_all (length t) t (omega arith),
      rest_of word end has.within ∙ ap (drop end) is ∙ ap (λ k. drop k (t ++ entry_tail e)) at ∙ drop-append_seam t (entry_tail e),
    )

-- ---- entries one after the other

-- These words begin with those of these entries, and so do all entries that spell them.
pub record AreAhead (words : List (List ℕ)) (done : List ScheduleEntry) (left : List (List ℕ)) : Type 0 where
  pub count : length done < 2 ^ 32
  pub fit : AllByRecursion EntryFits done
  pub spelled : words ≡ map entry_word done ++ left
  pub ahead : (es : List ScheduleEntry) → AreEntries es → words ≡ map entry_word es
      → (more : List ScheduleEntry) × (es ≡ done ++ more) × (left ≡ map entry_word more) × AllByRecursion EntryFits more

all_append : (xs ys : List ScheduleEntry) → AllByRecursion EntryFits xs → AllByRecursion EntryFits ys → AllByRecursion EntryFits (xs ++ ys)
all_append [] ys a b = b
all_append (x ∷ xs) ys a b = (a.0, all_append xs ys a.1 b)

pub same_cons : {A : Type 0} (x y : A) (xs ys : List A) → x ∷ xs ≡ y ∷ ys → (x ≡ y) × (xs ≡ ys)
same_cons x y xs ys e = (cc, cc)

same_Some : (e f : ScheduleEntry) → Some e ≡ Some f → e ≡ f
same_Some e f h = cc

all_back : (xs ys : List ScheduleEntry) → AllByRecursion EntryFits (xs ++ ys) → AllByRecursion EntryFits ys
all_back [] ys a = a
all_back (x ∷ xs) ys a = all_back xs ys a.1

step : (words : List (List ℕ)) (done : List ScheduleEntry) (left next : List (List ℕ)) (w : List ℕ) (e : ScheduleEntry) → left ≡ w ∷ next
    → ((f : ScheduleEntry) → EntryFits f → w ≡ entry_word f → Some e ≡ Some f) → (es more : List ScheduleEntry) → es ≡ done ++ more
    → left ≡ map entry_word more → AllByRecursion EntryFits more
    → (others : List ScheduleEntry) × (es ≡ (done ++ e ∷ []) ++ others) × (next ≡ map entry_word others) × AllByRecursion EntryFits others
step words done left next w e l only es [] is spelled fits = absurd (let h : w ∷ next ≡ [] = sym l ∙ spelled in cc)
step words done left next w e l only es (f ∷ fs) is spelled fits =
    let p = same_cons w (entry_word f) next (map entry_word fs) (sym l ∙ spelled) in
    let same : e ≡ f = same_Some e f (only f fits.0 p.0) in
    (fs, is ∙ ap (λ x. done ++ x ∷ fs) (sym same) ∙ sym (append_assoc done (e ∷ []) fs), p.1, fits.1)

pub one_more : (words : List (List ℕ)) (done : List ScheduleEntry) (left next : List (List ℕ)) (w : List ℕ) (e : ScheduleEntry)
    → AreAhead words done left → left ≡ w ∷ next
    → w ≡ entry_word e → EntryFits e → (length done ≡ 4294967295 → ⊥)
    → ((f : ScheduleEntry) → EntryFits f → w ≡ entry_word f → Some e ≡ Some f)
    → (items : List ScheduleEntry) → items ≡ done ++ e ∷ [] → AreAhead words items next
one_more words done left next w e so_far l is fits room only items items_are =
    rw items_are (record {
      count = omega (arith, so_far.count, room, length-append done (e ∷ []));
      fit = all_append done (e ∷ []) so_far.fit (fits, tt);
      spelled = so_far.spelled ∙ ap (λ x. map entry_word done ++ x) (l ∙ ap (λ x. x ∷ next) is) ∙ sym (append_assoc (map entry_word done) (entry_word e ∷ []) next)
          ∙ ap (λ x. x ++ next) (sym (map-append entry_word done (e ∷ [])));
      ahead = λ es. λ are. λ spelled. let p = so_far.ahead es are spelled in step words done left next w e l only es p.0 p.1 p.2 p.3;
    })

nothing_there : (left next : List (List ℕ)) (w : List ℕ) → left ≡ w ∷ next → ((f : ScheduleEntry) → EntryFits f → w ≡ entry_word f → ⊥)
    → (more : List ScheduleEntry) → left ≡ map entry_word more → AllByRecursion EntryFits more → ⊥
nothing_there left next w l none [] spelled fits = absurd (let h : w ∷ next ≡ [] = sym l ∙ spelled in cc)
nothing_there left next w l none (f ∷ fs) spelled fits = none f fits.0 (same_cons w (entry_word f) next (map entry_word fs) (sym l ∙ spelled)).0

pub no_entry : (words : List (List ℕ)) (done : List ScheduleEntry) (left next : List (List ℕ)) (w : List ℕ) → AreAhead words done left
    → left ≡ w ∷ next
    → ((f : ScheduleEntry) → EntryFits f → w ≡ entry_word f → ⊥) → (es : List ScheduleEntry) → AreEntries es → words ≡ map entry_word es → ⊥
no_entry words done left next w so_far l none es are spelled =
    let p = so_far.ahead es are spelled in
    nothing_there left next w l none p.0 p.2 p.3

ends_here : (done es more : List ScheduleEntry) → es ≡ done ++ more → [] ≡ map entry_word more → done ≡ es
ends_here done es [] is spelled = sym (is ∙ append-nil done)
ends_here done es (f ∷ fs) is spelled = absurd cc

pub all_done : (words : List (List ℕ)) (done : List ScheduleEntry) (left : List (List ℕ)) → AreAhead words done left → left ≡ []
    → (es : List ScheduleEntry) → AreEntries es → words ≡ map entry_word es → done ≡ es
all_done words done left so_far l es are spelled =
    let p = so_far.ahead es are spelled in
    ends_here done es p.0 p.1 (sym l ∙ p.2)

-- the word of an entry begins with a digit
pub no_heading : (rest : List (List ℕ)) (es : List ScheduleEntry) → AllByRecursion EntryFits es
    → map entry_word es ≡ codes "#limits" ∷ rest → ⊥
no_heading rest [] fits e = absurd cc
no_heading rest (f ∷ fs) fits e =
    let word : entry_word f ≡ codes "#limits" = (same_cons (entry_word f) (codes "#limits") (map entry_word fs) rest e).0 in
    let small : f.event.thread < 2 ^ 64 = omega (arith, fits.0.thread) in
    let some : 0 < length (decimal f.event.thread) = decimal_nonempty f.event.thread small in
    let digit : IsDigit (get_or (decimal f.event.thread) 0 0) = decimal_digits f.event.thread small 0 some in
    let first : get_or (decimal f.event.thread) 0 0 ≡ 35 = sym (get_or_append_left (decimal f.event.thread) (entry_tail f) 0 0 some) ∙ ap (λ w. get_or w 0 0) word in
    omega (arith, digit.0, first)
