-- The words of lengths.
use Rattle.std.proofs.Common.{◌≡◌, ◌<◌, ◌^◌, ℕ, List, [], ◌∷◌, ◌++◌, length, map, get_or, sym, ap, subst, ◌∙◌, arith, codes, decimal, append_assoc, length-append, Some, inl, inr, refl}
use Rattle.std.specs.List.{AllByRecursion}
use Rattle.std.proofs.lemmas.Fmt.{decimal_injective}
use Rattle.std.proofs.lemmas.List.{append-nil, map-append}
use Rattle.schedule.proofs.schedule_text.EntryLaws.{decimal_digits, same_cons}
use Rattle.schedule.specs.schedule_text.Recordings.{EndLengths}

-- These words begin with those of these lengths, and so do all lengths that spell them up to a word that ends lengths.
pub record AreLengthsAhead (words : List (List ℕ)) (done : List ℕ) (left : List (List ℕ)) : Type 0 where
  pub count : length done < 2 ^ 32
  pub spelled : words ≡ map decimal done ++ left
  pub ahead : (ns : List ℕ) (rest : List (List ℕ)) → AllByRecursion (λ n. n < 2 ^ 64) ns → EndLengths rest → words ≡ map decimal ns ++ rest
      → (more : List ℕ) × (ns ≡ done ++ more) × (left ≡ map decimal more ++ rest) × AllByRecursion (λ n. n < 2 ^ 64) more

-- a word with `#` is no number
pub no_number : (bs : List ℕ) (n : ℕ) → n < 2 ^ 64 → 35 ∷ bs ≡ decimal n → ⊥
no_number bs n small e =
    let d = decimal_digits n small 0 (omega (arith, ap length e)) in
    let first : 35 ≡ get_or (decimal n) 0 0 = ap (λ w. get_or w 0 0) e in
    omega (arith, d.0, first)

pub same_number : (m n : ℕ) → Some m ≡ Some n → m ≡ n
same_number m n h = cc

-- a number ends no lengths
no_end : (n : ℕ) (next : List (List ℕ)) → n < 2 ^ 64 → EndLengths (decimal n ∷ next) → ⊥
no_end n next small (inl events) = no_number _ n small (sym (same_cons (decimal n) (codes "#events") next events.0 events.1).0)
no_end n next small (inr checksums) = no_number _ n small (sym (same_cons (decimal n) (codes "#checksums") next checksums.0 checksums.1).0)

step : (done : List ℕ) (left next : List (List ℕ)) (n : ℕ) → n < 2 ^ 64 → left ≡ decimal n ∷ next → (ns : List ℕ) (rest : List (List ℕ))
    → EndLengths rest → (more : List ℕ) → ns ≡ done ++ more → left ≡ map decimal more ++ rest → AllByRecursion (λ k. k < 2 ^ 64) more
    → (others : List ℕ) × (ns ≡ (done ++ n ∷ []) ++ others) × (next ≡ map decimal others ++ rest) × AllByRecursion (λ k. k < 2 ^ 64) others
step done left next n small l ns rest end [] is spelled fit = absurd (no_end n next small (subst EndLengths (sym spelled ∙ l) end))
step done left next n small l ns rest end (m ∷ ms) is spelled fit =
    let p = same_cons (decimal n) (decimal m) next (map decimal ms ++ rest) (sym l ∙ spelled) in
    let same : n ≡ m = decimal_injective n m small fit.0 p.0 in
    (ms, is ∙ ap (λ x. done ++ x ∷ ms) (sym same) ∙ sym (append_assoc done (n ∷ []) ms), p.1, fit.1)

pub one_more : (words : List (List ℕ)) (done : List ℕ) (left next : List (List ℕ)) (n : ℕ) → AreLengthsAhead words done left
    → n < 2 ^ 64 → left ≡ decimal n ∷ next → (length done ≡ 4294967295 → ⊥)
    → (items : List ℕ) → items ≡ done ++ n ∷ [] → AreLengthsAhead words items next
one_more words done left next n so_far small l room items items_are =
    rw items_are (record {
      count = omega (arith, so_far.count, room, length-append done (n ∷ []));
      spelled = so_far.spelled ∙ ap (λ x. map decimal done ++ x) l ∙ sym (append_assoc (map decimal done) (decimal n ∷ []) next)
          ∙ ap (λ x. x ++ next) (sym (map-append decimal done (n ∷ [])));
      ahead = λ ns rest fit end spelled. let p = so_far.ahead ns rest fit end spelled in step done left next n small l ns rest end p.0 p.1 p.2 p.3;
    })

nothing_there : (left : List (List ℕ)) → (EndLengths left → ⊥) → ((m : ℕ) (rest : List (List ℕ)) → m < 2 ^ 64 → left ≡ decimal m ∷ rest → ⊥)
    → (rest : List (List ℕ)) → EndLengths rest → (more : List ℕ) → left ≡ map decimal more ++ rest → AllByRecursion (λ k. k < 2 ^ 64) more → ⊥
nothing_there left other none rest end [] spelled fit = other (subst EndLengths (sym spelled) end)
nothing_there left other none rest end (m ∷ ms) spelled fit = none m (map decimal ms ++ rest) fit.0 spelled

pub no_length : (words : List (List ℕ)) (done : List ℕ) (left : List (List ℕ)) → AreLengthsAhead words done left → (EndLengths left → ⊥)
    → ((m : ℕ) (rest : List (List ℕ)) → m < 2 ^ 64 → left ≡ decimal m ∷ rest → ⊥)
    → (ns : List ℕ) (rest : List (List ℕ)) → AllByRecursion (λ k. k < 2 ^ 64) ns → EndLengths rest → words ≡ map decimal ns ++ rest → ⊥
no_length words done left so_far other none ns rest fit end spelled =
    let p = so_far.ahead ns rest fit end spelled in
    nothing_there left other none rest end p.0 p.2 p.3

ended_there : (done : List ℕ) (left : List (List ℕ)) → EndLengths left → (ns : List ℕ) (rest : List (List ℕ)) (more : List ℕ)
    → ns ≡ done ++ more → left ≡ map decimal more ++ rest → AllByRecursion (λ k. k < 2 ^ 64) more → (done ≡ ns) × (left ≡ rest)
ended_there done left end ns rest [] is spelled fit = (sym (is ∙ append-nil done), spelled)
ended_there done left end ns rest (m ∷ ms) is spelled fit = absurd (no_end m (map decimal ms ++ rest) fit.0 (subst EndLengths spelled end))

pub ended : (words : List (List ℕ)) (done : List ℕ) (left : List (List ℕ)) → AreLengthsAhead words done left → EndLengths left
    → (ns : List ℕ) (rest : List (List ℕ)) → AllByRecursion (λ k. k < 2 ^ 64) ns → EndLengths rest → words ≡ map decimal ns ++ rest
    → (done ≡ ns) × (left ≡ rest)
ended words done left so_far end ns rest fit ends spelled =
    let p = so_far.ahead ns rest fit ends spelled in
    ended_there done left end ns rest p.0 p.1 p.2 p.3

-- lengths and what ends them are read in one way
pub one_way : (ms ns : List ℕ) (rest more : List (List ℕ)) → AllByRecursion (λ n. n < 2 ^ 64) ms → AllByRecursion (λ n. n < 2 ^ 64) ns
    → EndLengths rest → EndLengths more → map decimal ms ++ rest ≡ map decimal ns ++ more → (ms ≡ ns) × (rest ≡ more)
one_way [] [] rest more a b ends end is = (refl, is)
one_way [] (n ∷ ns) rest more a b ends end is = absurd (no_end n (map decimal ns ++ more) b.0 (subst EndLengths is ends))
one_way (m ∷ ms) [] rest more a b ends end is = absurd (no_end m (map decimal ms ++ rest) a.0 (subst EndLengths (sym is) end))
one_way (m ∷ ms) (n ∷ ns) rest more a b ends end is =
    let h = same_cons (decimal m) (decimal n) (map decimal ms ++ rest) (map decimal ns ++ more) is in
    let others = one_way ms ns rest more a.1 b.1 ends end h.1 in
    (ap (λ x. x ∷ ms) (decimal_injective m n a.0 b.0 h.0) ∙ ap (λ x. n ∷ x) others.0, others.1)
