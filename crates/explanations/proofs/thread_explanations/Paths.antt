-- Paths of threads that wait for each other, and cycles that are sought along them.
use Rattle.std.proofs.Common.{◌≡◌, ◌<◌, ◌≤◌, ◌+◌, inl, inr, ℕ, zero, suc, List, [], ◌∷◌, ◌++◌, length, Some, refl, sym, ap, subst, ◌∙◌, append_assoc, arith}
use Rattle.std.specs.Prelude.{slice_index}
use Rattle.std.specs.List.{All, AllPairs, Contains}
use Rattle.std.proofs.lemmas.Bool.{cases_lt}
use Rattle.std.proofs.lemmas.List.{length-append}
use Rattle.std.proofs.lemmas.List.Elements.{All-get_or, All-push, All-weaker, Contains-append_left, Contains-push}
use Rattle.std.proofs.lemmas.List.Quantifiers.{all_pairs_push}
use Rattle.explanations.specs.declared.thread_explanations.waits.Wait.{Wait}
use Rattle.explanations.specs.thread_explanations.Cycles.{AreAbove, AreCycles, IsBefore, IsCycle, IsPath, next_of}

module _ (waits : List Wait) where
  -- ---- with one thread more

  pub path_push : (from : ℕ) (threads : List ℕ) (at next : ℕ) → IsPath waits from threads at → next_of waits at ≡ Some next
      → IsPath waits from (threads ++ at ∷ []) next
  path_push from [] at next path e = (path, next, e, refl)
  path_push from (thread ∷ threads) at next path e = (path.0, path.1, path.2, path_push path.1 threads at next path.3 e)

  pub above_push : (least : ℕ) (threads : List ℕ) (next : ℕ) → AreAbove least threads → least < next → AreAbove least (threads ++ next ∷ [])
  above_push least [] next above higher = (higher, tt)
  above_push least (thread ∷ threads) next above higher = (above.0, above_push least threads next above.1 higher)

  -- ---- a cycle is the only one with its least thread

  same_next : (x y n m : ℕ) → x ≡ y → next_of waits x ≡ Some n → next_of waits y ≡ Some m → n ≡ m
  same_next x y n m same one other =
      let both : Some n ≡ Some m = sym one ∙ ap (next_of waits) same ∙ other in
      cc

  same_path : (least x : ℕ) (a b : List ℕ) → IsPath waits x a least → AreAbove least a → IsPath waits x b least → AreAbove least b → a ≡ b
  same_path least x [] [] p one q other = refl
  same_path least x [] (z ∷ b) p one q other = absurd (omega (arith, p, q.0, other.0))
  same_path least x (y ∷ a) [] p one q other = absurd (omega (arith, p.0, q, one.0))
  same_path least x (y ∷ a) (z ∷ b) p one q other =
      let first : y ≡ z = sym p.0 ∙ q.0 in
      let next : p.1 ≡ q.1 = same_next y z p.1 q.1 first p.2 q.2 in
      let rest : a ≡ b = same_path least p.1 a b p.3 one.1 (subst (λ n. IsPath waits n b least) (sym next) q.3) other.1 in
      ap (λ n. n ∷ a) first ∙ ap (λ (l : List ℕ). z ∷ l) rest

  pub same_cycle : (least : ℕ) (a b : List ℕ) → IsCycle waits (least ∷ a) → IsCycle waits (least ∷ b) → least ∷ a ≡ least ∷ b
  same_cycle least a b one other =
      let next : one.0.1 ≡ other.0.1 = same_next least least one.0.1 other.0.1 refl one.0.2 other.0.2 in
      ap (λ (l : List ℕ). least ∷ l)
      (same_path least one.0.1 a b one.0.3 one.1 (subst (λ n. IsPath waits n b least) (sym next) other.0.3) other.1)

  -- ---- the threads along which a cycle is sought

  -- they and the one that was reached are the least and others above it
  pub record IsWalk (least : ℕ) (members : List ℕ) (at : ℕ) : Type 0 where
    pub path : IsPath waits least members at
    pub others : List ℕ
    pub are : members ++ at ∷ [] ≡ least ∷ others
    pub above : AreAbove least others

  -- a cycle whose least thread it is begins with them
  pub record GoesOn (least : ℕ) (members : List ℕ) (at : ℕ) (cycle : List ℕ) : Type 0 where
    pub tail : List ℕ
    pub is : cycle ≡ members ++ at ∷ tail
    pub path : IsPath waits at (at ∷ tail) least
    pub above : AreAbove least tail

  abbrev pub Begins : (least : ℕ) → (members : List ℕ) → (at : ℕ) → Type 0
  Begins least members at = (others : List ℕ) → IsCycle waits (least ∷ others) → GoesOn least members at (least ∷ others)

  pub walk_begins : (least : ℕ) → IsWalk least [] least
  walk_begins least = record { path = refl; others = []; are = refl; above = tt }

  pub begins : (least : ℕ) → Begins least [] least
  begins least others cycle = record { tail = others; is = refl; path = cycle.0; above = cycle.1 }

  pub walk_on : (least : ℕ) (members : List ℕ) (at next : ℕ) → IsWalk least members at → next_of waits at ≡ Some next → least < next
      → IsWalk least (members ++ at ∷ []) next
  walk_on least members at next w e higher =
      record {
        path = path_push least members at next w.path e;
        others = w.others ++ next ∷ [];
        are = ap (λ (l : List ℕ). l ++ next ∷ []) w.are;
        above = above_push least w.others next w.above higher;
      }

  -- the cycle ends here, or its next thread is the one for which this one waits
  after : (least : ℕ) (members : List ℕ) (at : ℕ) (cycle : List ℕ) (next : ℕ) → next_of waits at ≡ Some next → least < next → (tail : List ℕ)
      → cycle ≡ members ++ at ∷ tail → IsPath waits at (at ∷ tail) least → AreAbove least tail → GoesOn least (members ++ at ∷ []) next cycle
  after least members at cycle next e higher [] is path above =
      let reached : path.1 ≡ next = same_next at at path.1 next refl path.2 e in
      absurd (omega (arith, reached, path.3, higher))
  after least members at cycle next e higher (y ∷ tail) is path above =
      let reached : path.1 ≡ next = same_next at at path.1 next refl path.2 e in
      let first : y ≡ next = sym path.3.0 ∙ reached in
      record {
        tail = tail;
        is = is ∙ ap (λ n. members ++ at ∷ n ∷ tail) first ∙ sym (append_assoc members (at ∷ []) (next ∷ tail));
        path = (refl, path.3.1, ap (next_of waits) (sym first) ∙ path.3.2, path.3.3);
        above = above.1;
      }

  pub goes_on : (least : ℕ) (members : List ℕ) (at next : ℕ) → Begins least members at → next_of waits at ≡ Some next → least < next
      → Begins least (members ++ at ∷ []) next
  goes_on least members at next b e higher others cycle =
      let g = b others cycle in
      after least members at (least ∷ others) next e higher g.tail g.is g.path g.above

  -- ---- what is found

  pub cycle_is : (least : ℕ) (members : List ℕ) (at : ℕ) (w : IsWalk least members at) → next_of waits at ≡ Some least
      → length members < length waits → IsCycle waits (least ∷ w.others)
  cycle_is least members at w e few =
      let back : IsPath waits least (members ++ at ∷ []) least = path_push least members at least w.path e in
      let count : length members + 1 ≡ length (least ∷ w.others) = sym (length-append members (at ∷ [])) ∙ ap length w.are in
      (subst (λ (l : List ℕ). IsPath waits least l least) w.are back, w.above, omega (arith, count, few))

  -- the thread that was reached waits for none, or for one below the least
  pub none_by : (least : ℕ) (members : List ℕ) (at : ℕ) → Begins least members at
      → ((next : ℕ) → next_of waits at ≡ Some next → next < least) → (others : List ℕ) → IsCycle waits (least ∷ others) → ⊥
  none_by least members at b low others cycle =
      let g = b others cycle in
      by g.tail g.path g.above
    where
      by : (tail : List ℕ) → IsPath waits at (at ∷ tail) least → AreAbove least tail → ⊥
      by [] path above = let l = low path.1 path.2 in absurd (omega (arith, l, path.3))
      by (y ∷ tail) path above = let l = low path.1 path.2 in absurd (omega (arith, l, path.3.0, above.0))

  -- there are as many as all threads
  pub none_within : (least : ℕ) (members : List ℕ) (at : ℕ) → Begins least members at → length waits ≤ length members
      → (others : List ℕ) → IsCycle waits (least ∷ others) → ⊥
  none_within least members at b many others cycle =
      let g = b others cycle in
      let count : length (least ∷ others) ≡ length members + length (at ∷ g.tail) = ap length g.is ∙ length-append members (at ∷ g.tail) in
      let few = cycle.2 in
      absurd (omega (arith, count, many, few))

-- ---- all that are found

-- a thread that waits for another one is there
there : (waits : List Wait) (t next : ℕ) → next_of waits t ≡ Some next → t < length waits
there [] t next e = absurd cc
there (w ∷ waits) zero next e = omega arith
there (w ∷ waits) (suc t) next e = let l = there waits t next e in omega (arith, l)

-- those that are found have all cycles whose least threads are below this one, and no other
abbrev pub AreBelow : List Wait → List (List ℕ) → (n : ℕ) → Type 0
AreBelow waits found n =
    All (IsCycle waits) found
    × AllPairs IsBefore found
    × All (λ (cycle : List ℕ). slice_index cycle 0 < n) found
    × ((least : ℕ) (others : List ℕ) → least < n → IsCycle waits (least ∷ others) → Contains found (least ∷ others))

module _ (waits : List Wait) (found : List (List ℕ)) (n : ℕ) (b : AreBelow waits found n) where
  lower : All (λ (cycle : List ℕ). slice_index cycle 0 < n + 1) found
  lower = All-weaker (λ (cycle : List ℕ). slice_index cycle 0 < n) (λ (cycle : List ℕ). slice_index cycle 0 < n + 1) (λ cycle l. omega (arith, l)) found b.2

  pub one_found : (others : List ℕ) → IsCycle waits (n ∷ others) → AreBelow waits (found ++ (n ∷ others) ∷ []) (n + 1)
  one_found others is = (
    All-push (IsCycle waits) found (n ∷ others) b.0 is,
    all_pairs_push IsBefore found (n ∷ others) b.1 (λ k d few. All-get_or (λ (cycle : List ℕ). slice_index cycle 0 < n) found k d few b.2),
    All-push (λ (cycle : List ℕ). slice_index cycle 0 < n + 1) found (n ∷ others) lower (omega arith),
    below,
  )
    where
      below : (least : ℕ) (rest : List ℕ) → least < n + 1 → IsCycle waits (least ∷ rest) → Contains (found ++ (n ∷ others) ∷ []) (least ∷ rest)
      below least rest low c = elim (cases_lt least n) [
        | inl l ↦ Contains-append_left found ((n ∷ others) ∷ []) (least ∷ rest) (b.3 least rest l c)
        | inr g ↦
            let at : least ≡ n = omega (arith, g, low) in
            let it : n ∷ others ≡ least ∷ rest = same_cycle waits n others rest is (subst (λ k. IsCycle waits (k ∷ rest)) at c) ∙ ap (λ k. k ∷ rest) (sym at) in
            subst (λ (l : List ℕ). Contains (found ++ (n ∷ others) ∷ []) l) it (Contains-push found (n ∷ others))
      ]

  pub none_found : ((others : List ℕ) → IsCycle waits (n ∷ others) → ⊥) → AreBelow waits found (n + 1)
  none_found none = (b.0, b.1, lower, below)
    where
      below : (least : ℕ) (others : List ℕ) → least < n + 1 → IsCycle waits (least ∷ others) → Contains found (least ∷ others)
      below least others low c = elim (cases_lt least n) [
        | inl l ↦ b.3 least others l c
        | inr g ↦
            let at : least ≡ n = omega (arith, g, low) in
            absurd (none others (subst (λ k. IsCycle waits (k ∷ others)) at c))
      ]

  pub all_found : length waits ≤ n → AreCycles waits found
  all_found all = (b.0, b.1, every)
    where
      every : (cycle : List ℕ) → IsCycle waits cycle → Contains found cycle
      every [] c = absurd c
      every (least ∷ others) c =
          let here = there waits least c.0.1 c.0.2 in
          b.3 least others (omega (arith, here, all)) c
