-- Ways from number to number: one with more steps than there are numbers has been somewhere twice.
use Rattle.std.proofs.Common.{◌≡◌, ◌<◌, ◌≤◌, ◌+◌, ◌⊎◌, inl, inr, ℕ, zero, suc, List, [], ◌∷◌, ◌++◌, length, Option, Some, None, Bool, true, false, ◌||◌, eqb, refl, sym, subst, ◌∙◌, arith}
use Rattle.std.specs.List.{AllByRecursion, IsDistinct, list_any}
use Rattle.std.proofs.lemmas.Bool.{eqb-true}
use Rattle.std.proofs.lemmas.Map.Steps.{length-le_from_distinct_below}
use Rattle.std.proofs.lemmas.Option.{same_Some, none-some}
use Rattle.waiting_circles.specs.Rounds.{next_in, LeadsTo, IsRound, HasRound}

there : (nexts : List (Option ℕ)) (number next : ℕ) → next_in nexts number ≡ Some next → number < length nexts
there [] number next e = absurd cc
there (n ∷ nexts) zero next e = omega arith
there (n ∷ nexts) (suc number) next e = let l = there nexts number next e in omega (arith, l)

module _ (nexts : List (Option ℕ)) where
  -- ---- rounds

  -- one step more
  leads_on : (last number further : ℕ) (others : List ℕ) → LeadsTo nexts last number others → next_in nexts last ≡ Some further
      → LeadsTo nexts further number (others ++ last ∷ [])
  leads_on last number further [] way e = (way, e)
  leads_on last number further (next ∷ others) way e = (way.0, leads_on last next further others way.1 e)

  -- the next number of one in a round is in one
  pub round_on : (first next : ℕ) (others : List ℕ) → IsRound nexts first others → next_in nexts first ≡ Some next
      → (rest : List ℕ) × IsRound nexts next rest
  round_on first next [] round e =
      ([], subst (λ n. IsRound nexts n []) (same_Some first next (sym round ∙ e)) round)
  round_on first next (n ∷ others) round e = (
    others ++ first ∷ [],
    subst (λ m. LeadsTo nexts m m (others ++ first ∷ [])) (same_Some n next (sym round.0 ∙ e))
        (leads_on first n n others round.1 round.0),
  )

  -- a number in a round has a next one
  pub round_next : (first : ℕ) (others : List ℕ) → IsRound nexts first others → next_in nexts first ≡ None → ⊥
  round_next first [] round e = none-some first (sym e ∙ round)
  round_next first (n ∷ others) round e = none-some n (sym e ∙ round.0)

  -- ---- ways

  -- by these numbers, the last one first, a number is reached
  abbrev pub IsWay : (at : ℕ) → List ℕ → Type 0
  IsWay at [] = Unit {0}
  IsWay at (number ∷ past) = (next_in nexts number ≡ Some at) × IsWay number past

  -- a number that was passed leads here
  fresh : (x at : ℕ) (past : List ℕ) → IsWay at past
      → ((others : List ℕ) × LeadsTo nexts at x others) ⊎ AllByRecursion (λ y. eqb x y ≡ false) past
  fresh x at [] way = inr tt
  fresh x at (number ∷ past) way = by (eqb x number) refl (fresh x number past way.1)
    where
      further : ((others : List ℕ) × LeadsTo nexts number x others) ⊎ AllByRecursion (λ y. eqb x y ≡ false) past
          → eqb x number ≡ false
          → ((others : List ℕ) × LeadsTo nexts at x others) ⊎ AllByRecursion (λ y. eqb x y ≡ false) (number ∷ past)
      further (inl found) e = inl (found.0 ++ number ∷ [], leads_on number x at found.0 found.1 way.0)
      further (inr others) e = inr (e, others)

      by : (b : Bool) → eqb x number ≡ b
          → ((others : List ℕ) × LeadsTo nexts number x others) ⊎ AllByRecursion (λ y. eqb x y ≡ false) past
          → ((others : List ℕ) × LeadsTo nexts at x others) ⊎ AllByRecursion (λ y. eqb x y ≡ false) (number ∷ past)
      by true e rest = inl ([], subst (λ n. LeadsTo nexts at n []) (sym (eqb-true x number e)) way.0)
      by false e rest = further rest e

  -- it has a round, or has been nowhere twice
  distinct : (at : ℕ) (past : List ℕ) → IsWay at past → HasRound nexts ⊎ IsDistinct eqb (at ∷ past)
  unfolding IsDistinct
  distinct at [] way = inr (tt, tt)
  distinct at (number ∷ past) way = by (fresh at at (number ∷ past) way) (distinct number past way.1)
    where
      by : ((others : List ℕ) × LeadsTo nexts at at others) ⊎ AllByRecursion (λ y. eqb at y ≡ false) (number ∷ past)
          → HasRound nexts ⊎ IsDistinct eqb (number ∷ past)
          → HasRound nexts ⊎ IsDistinct eqb (at ∷ number ∷ past)
      by (inl found) rest = inl (record { first = at; others = found.0; is = found.1 })
      by (inr apart) (inl round) = inl round
      by (inr apart) (inr others) = inr (apart, others)

  below_by : (at q : ℕ) (past : List ℕ) (b : Bool) → eqb q at ≡ b → at < length nexts
      → (list_any (eqb q) past ≡ true → q < length nexts) → (b || list_any (eqb q) past) ≡ true → q < length nexts
  below_by at q past true e low rest h = subst (λ n. n < length nexts) (sym (eqb-true q at e)) low
  below_by at q past false e low rest h = rest h

  below : (at : ℕ) (past : List ℕ) → IsWay at past → at < length nexts → (q : ℕ) → list_any (eqb q) (at ∷ past) ≡ true
      → q < length nexts
  below at [] way low q h = below_by at q [] (eqb q at) refl low (λ e. absurd cc) h
  below at (number ∷ past) way low q h =
      below_by at q (number ∷ past) (eqb q at) refl low (λ e. below number past way.1 (there nexts number at way.0) q e) h

  -- so one that has gone as many steps as there are numbers, and goes on, has a round
  pub long_way : (at next : ℕ) (past : List ℕ) → IsWay at past → length nexts ≤ length past → next_in nexts at ≡ Some next
      → HasRound nexts
  long_way at next past way many e = by (distinct at past way)
    where
      by : HasRound nexts ⊎ IsDistinct eqb (at ∷ past) → HasRound nexts
      by (inl round) = round
      by (inr apart) =
          let few = length-le_from_distinct_below (at ∷ past) (length nexts) apart (below at past way (there nexts at next e)) in
          absurd (omega (arith, few, many))

  -- ---- so far

  -- so many steps have led here; from a number in a round they lead to one in a round
  pub record IsOn (first at step : ℕ) : Type 0 where
    pub past : List ℕ
    pub way : IsWay at past
    pub count : length past ≡ step
    pub stays : (others : List ℕ) → IsRound nexts first others → (rest : List ℕ) × IsRound nexts at rest

  pub begins : (first : ℕ) → IsOn first first 0
  begins first = record { past = []; way = tt; count = refl; stays = λ others round. (others, round) }

  pub goes_on : (first at step next : ℕ) → IsOn first at step → next_in nexts at ≡ Some next → IsOn first next (step + 1)
  goes_on first at step next on e =
      record {
        past = at ∷ on.past;
        way = (e, on.way);
        count = omega (arith, on.count);
        stays = λ others round. let here = on.stays others round in round_on at next here.0 here.1 e;
      }

  -- an end is reached
  pub ends : (first at step : ℕ) → IsOn first at step → next_in nexts at ≡ None → (others : List ℕ) → IsRound nexts first others → ⊥
  ends first at step on e others round = let here = on.stays others round in round_next at here.0 here.1 e

  -- it goes on behind as many steps as there are numbers
  pub goes_for_ever : (first at step next : ℕ) → IsOn first at step → length nexts ≤ step → next_in nexts at ≡ Some next → HasRound nexts
  goes_for_ever first at step next on all e = long_way at next on.past on.way (omega (arith, on.count, all)) e

  -- ---- all numbers

  round_below : (first : ℕ) (others : List ℕ) → IsRound nexts first others → first < length nexts
  round_below first [] round = there nexts first first round
  round_below first (n ∷ others) round = there nexts first n round.0

  -- none of the first numbers is in one
  pub none_first : (n : ℕ) → length nexts ≤ n → ((k : ℕ) → k < n → (others : List ℕ) → IsRound nexts k others → ⊥) → HasRound nexts → ⊥
  none_first n all none round =
      let low = round_below round.first round.others round.is in
      none round.first (omega (arith, low, all)) round.others round.is
