-- The types of runs, as one type more is looked at.
use Rattle.std.proofs.Common.{◌≡◌, ℕ, zero, suc, ◌<◌, ◌≤◌, ◌+◌, ◌-◌, List, [], ◌∷◌, ◌++◌, length, take, drop, get_or, Option, Some, None, refl, sym, ap, ◌∙◌, subst, arith}
use Rattle.std.specs.Prelude.{replicate, slice_get, slice_set}
use Rattle.std.proofs.lemmas.List.{append_assoc, append-nil, replicate_more, take_more, drop_more, drop_all}
use Rattle.std.proofs.lemmas.Grind.{flat_map-append}
use Rattle.verifier.specs.Packed.{unpacked}
use Rattle.types.specs.declared.verification_type.VerificationType.{VerificationType}
use Rattle.verifier.specs.declared.run.Run.{Run}

module _ (runs : List Run) (types : List VerificationType) (b i : ℕ) (d : VerificationType) (within : i < length types)
    (done : unpacked runs ++ replicate (i - b) (get_or types b d) ≡ take i types) where
  -- it is that of the run
  pub kept : (after : List Run) (c : ℕ) → b ≤ i → after ≡ runs → c ≡ b → get_or types i d ≡ get_or types b d
      → unpacked after ++ replicate (i + 1 - c) (get_or types c d) ≡ take (i + 1) types
  kept after c l e f same =
      let t = get_or types b d in
      let n : i + 1 - b ≡ i - b + 1 = omega arith in
      ap (λ l. unpacked l ++ replicate (i + 1 - c) (get_or types c d)) e
      ∙ (ap (λ k. unpacked runs ++ replicate (i + 1 - k) (get_or types k d)) f
      ∙ (ap (λ k. unpacked runs ++ replicate k t) n
      ∙ (ap (λ l. unpacked runs ++ l) (sym (replicate_more (i - b) t))
      ∙ (sym (append_assoc (unpacked runs) (replicate (i - b) t) (t ∷ []))
      ∙ (ap (λ l. l ++ t ∷ []) done
      ∙ (ap (λ x. take i types ++ x ∷ []) (sym same) ∙ sym (take_more types i d within)))))))

  abbrev run_here : Run
  run_here = record { of = get_or types b d; count = i - b }

  ended : unpacked (runs ++ run_here ∷ []) ≡ take i types
  ended =
      flat_map-append (λ (r : Run). replicate r.count r.of) runs (run_here ∷ [])
      ∙ (ap (λ l. unpacked runs ++ l) (append-nil (replicate (i - b) (get_or types b d))) ∙ done)

  -- a run begins with it
  pub begun : (after : List Run) (c : ℕ) → after ≡ runs ++ run_here ∷ [] → c ≡ i
      → unpacked after ++ replicate (i + 1 - c) (get_or types c d) ≡ take (i + 1) types
  begun after c e f =
      let x = get_or types i d in
      let one : i + 1 - i ≡ 1 = omega arith in
      ap (λ l. unpacked l ++ replicate (i + 1 - c) (get_or types c d)) e
      ∙ (ap (λ k. unpacked (runs ++ run_here ∷ []) ++ replicate (i + 1 - k) (get_or types k d)) f
      ∙ (ap (λ k. unpacked (runs ++ run_here ∷ []) ++ replicate k x) one
      ∙ (ap (λ l. l ++ x ∷ []) ended ∙ sym (take_more types i d within))))

-- ---- another type at a place

abbrev pub set_left : VerificationType → Option ℕ → List VerificationType → List VerificationType
set_left of None types = types
set_left of (Some k) types = slice_set types k of

pub set_front : (n k : ℕ) (t of : VerificationType) (rest : List VerificationType) → k < n
    → slice_set (replicate n t ++ rest) k of ≡ slice_set (replicate n t) k of ++ rest
set_front zero k t of rest l = absurd (omega (arith, l))
set_front (suc n) zero t of rest l = refl
set_front (suc n) (suc k) t of rest l = let m : k < n = omega (arith, l) in ap (λ ts. t ∷ ts) (set_front n k t of rest m)

pub set_back : (n k j : ℕ) (t of : VerificationType) (rest : List VerificationType) → n + j ≡ k
    → slice_set (replicate n t ++ rest) k of ≡ replicate n t ++ slice_set rest j of
set_back zero k j t of rest e = let same : k ≡ j = omega (arith, e) in ap (λ i. slice_set rest i of) same
set_back (suc n) zero j t of rest e = absurd (omega (arith, e))
set_back (suc n) (suc k) j t of rest e = let m : n + j ≡ k = omega (arith, e) in ap (λ ts. t ∷ ts) (set_back n k j t of rest m)

pub set_among : (n k j : ℕ) (t of : VerificationType) → k + suc j ≡ n → slice_set (replicate n t) k of ≡ replicate k t ++ of ∷ replicate j t
set_among zero k j t of e = absurd (omega (arith, e))
set_among (suc n) zero j t of e = let same : n ≡ j = omega (arith, e) in ap (λ i. of ∷ replicate i t) same
set_among (suc n) (suc k) j t of e = let m : k + suc j ≡ n = omega (arith, e) in ap (λ ts. t ∷ ts) (set_among n k j t of m)

-- ---- a run that grows

replicate_both : (m n : ℕ) (t : VerificationType) → replicate (m + n) t ≡ replicate m t ++ replicate n t
replicate_both zero n t = let e : zero + n ≡ n = omega arith in ap (λ k. replicate k t) e
replicate_both (suc m) n t = let e : suc m + n ≡ suc (m + n) = omega arith in ap (λ k. replicate k t) e ∙ ap (λ l. t ∷ l) (replicate_both m n t)

pub grown : (runs : List Run) (last run : Run) (count : ℕ) → slice_get runs (length runs - 1) ≡ Some last → last.of ≡ run.of → count ≡ last.count + run.count
    → unpacked (slice_set runs (length runs - 1) (record { of = last.of; count = count })) ≡ unpacked runs ++ replicate run.count run.of
grown [] last run count at same e = absurd cc
grown (r ∷ []) last run count at same e =
    let is : r ≡ last = cc in
    append-nil (replicate count last.of)
    ∙ (ap (λ n. replicate n last.of) e
    ∙ (replicate_both last.count run.count last.of
    ∙ (ap (λ t. replicate last.count last.of ++ replicate run.count t) same
    ∙ ap (λ l. l ++ replicate run.count run.of) (ap (λ (x : Run). replicate x.count x.of) (sym is) ∙ sym (append-nil (replicate r.count r.of))))))
grown (r ∷ s ∷ rs) last run count at same e =
    let i : length (r ∷ s ∷ rs) - 1 ≡ suc (length (s ∷ rs) - 1) = omega arith in
    let next : Run = record { of = last.of; count = count } in
    let rest = grown (s ∷ rs) last run count (subst (λ k. slice_get (r ∷ s ∷ rs) k ≡ Some last) i at) same e in
    ap (λ k. unpacked (slice_set (r ∷ s ∷ rs) k next)) i
    ∙ (ap (λ l. replicate r.count r.of ++ l) rest ∙ sym (append_assoc (replicate r.count r.of) (unpacked (s ∷ rs)) (replicate run.count run.of)))

-- ---- runs with another type at a place

pub put_between : (a b c d : List VerificationType) (n k : ℕ) (t of : VerificationType) → k < n → b ≡ a ++ replicate k t → c ≡ b ++ replicate 1 of
    → d ≡ c ++ replicate (n - k - 1) t → d ≡ a ++ slice_set (replicate n t) k of
put_between a b c d n k t of l f g h =
    let j = n - k - 1 in
    let e : k + suc j ≡ n = omega (arith, l) in
    h
    ∙ (ap (λ x. x ++ replicate j t) (g ∙ ap (λ x. x ++ replicate 1 of) f)
    ∙ (append_assoc (a ++ replicate k t) (replicate 1 of) (replicate j t)
    ∙ (append_assoc a (replicate k t) (of ∷ replicate j t) ∙ ap (λ x. a ++ x) (sym (set_among n k j t of e)))))

module _ (of : VerificationType) (runs : List Run) (i : ℕ) (d : Run) (within : i < length runs) (made after whole : List VerificationType) where
  abbrev run : Run
  run = get_or runs i d

  abbrev rest : List VerificationType
  rest = unpacked (drop (i + 1) runs)

  next : unpacked (drop i runs) ≡ replicate run.count run.of ++ rest
  next = ap (λ (rs : List Run). unpacked rs) (drop_more runs i d within)

  -- the place is behind
  pub pass_set : made ++ unpacked (drop i runs) ≡ whole → after ≡ made ++ replicate run.count run.of → after ++ rest ≡ whole
  pass_set e f = ap (λ x. x ++ rest) f ∙ (append_assoc made (replicate run.count run.of) rest ∙ (ap (λ x. made ++ x) (sym next) ∙ e))

  -- it is in this run
  pub pass_here : (k : ℕ) → k < run.count → made ++ slice_set (unpacked (drop i runs)) k of ≡ whole
      → after ≡ made ++ slice_set (replicate run.count run.of) k of → after ++ rest ≡ whole
  pass_here k m e f =
      ap (λ x. x ++ rest) f
      ∙ (append_assoc made (slice_set (replicate run.count run.of) k of) rest
      ∙ (ap (λ x. made ++ x) (sym (ap (λ x. slice_set x k of) next ∙ set_front run.count k run.of of rest m)) ∙ e))

  -- it is before us
  pub pass_before : (k j : ℕ) → run.count + j ≡ k → made ++ slice_set (unpacked (drop i runs)) k of ≡ whole → after ≡ made ++ replicate run.count run.of
      → after ++ slice_set rest j of ≡ whole
  pass_before k j m e f =
      ap (λ x. x ++ slice_set rest j of) f
      ∙ (append_assoc made (replicate run.count run.of) (slice_set rest j of)
      ∙ (ap (λ x. made ++ x) (sym (ap (λ x. slice_set x k of) next ∙ set_back run.count k j run.of of rest m)) ∙ e))

  -- ---- the same, by what is left to go

  pub passed_none : (left more : Option ℕ) → left ≡ None → more ≡ left → made ++ set_left of left (unpacked (drop i runs)) ≡ whole
      → after ≡ made ++ replicate run.count run.of → after ++ set_left of more rest ≡ whole
  passed_none left more e f g h =
      ap (λ o. after ++ set_left of o rest) (f ∙ e) ∙ pass_set (ap (λ o. made ++ set_left of o (unpacked (drop i runs))) (sym e) ∙ g) h

  pub passed_here : (left more : Option ℕ) (k : ℕ) → left ≡ Some k → more ≡ None → k < run.count
      → made ++ set_left of left (unpacked (drop i runs)) ≡ whole → after ≡ made ++ slice_set (replicate run.count run.of) k of
      → after ++ set_left of more rest ≡ whole
  passed_here left more k e f l g h =
      ap (λ o. after ++ set_left of o rest) f ∙ pass_here k l (ap (λ o. made ++ set_left of o (unpacked (drop i runs))) (sym e) ∙ g) h

  pub passed_before : (left more : Option ℕ) (k : ℕ) → left ≡ Some k → more ≡ Some (k - run.count) → run.count ≤ k
      → made ++ set_left of left (unpacked (drop i runs)) ≡ whole → after ≡ made ++ replicate run.count run.of → after ++ set_left of more rest ≡ whole
  passed_before left more k e f l g h =
      let m : run.count + (k - run.count) ≡ k = omega (arith, l) in
      ap (λ o. after ++ set_left of o rest) f ∙ pass_before k (k - run.count) m (ap (λ o. made ++ set_left of o (unpacked (drop i runs))) (sym e) ∙ g) h

pub pass_end : (of : VerificationType) (left : Option ℕ) (runs : List Run) (i : ℕ) (made whole : List VerificationType) → length runs ≤ i
    → made ++ set_left of left (unpacked (drop i runs)) ≡ whole → made ≡ whole
pass_end of left runs i made whole l e =
    sym (append-nil made) ∙ (ap (λ x. made ++ x) (sym (ap (λ (rs : List Run). set_left of left (unpacked rs)) (drop_all i runs l) ∙ none left)) ∙ e)
  where
    none : (o : Option ℕ) → set_left of o [] ≡ []
    none None = refl
    none (Some k) = refl
