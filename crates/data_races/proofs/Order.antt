-- Happens-before in a run that has one action more.
use Rattle.std.proofs.Common.{◌≡◌, refl, sym, ◌∙◌, ap, subst, ℕ, zero, suc, ◌<◌, ◌⊎◌, inl, inr, List, [], ◌∷◌, ◌++◌, length, arith}
use Rattle.std.specs.Prelude.{Some, slice_get}
use Rattle.std.proofs.lemmas.Option.{slice_get_within}
use Rattle.data_races.specs.HappensBefore.{Relations, Pair, IsProgramOrdered, SynchronizesWith, HappensBefore, InProgramOrder, Synchronized, Through}

-- ---- places

pub get_left : {A : Type 0} (xs ys : List A) (k : ℕ) → k < length xs → slice_get (xs ++ ys) k ≡ slice_get xs k
get_left [] ys k h = absurd (omega arith)
get_left (x ∷ xs) ys zero h = refl
get_left (x ∷ xs) ys (suc k) h = get_left xs ys k (omega arith)

pub get_seam : {A : Type 0} (xs : List A) (x : A) → slice_get (xs ++ x ∷ []) (length xs) ≡ Some x
get_seam [] x = refl
get_seam (y ∷ ys) x = get_seam ys x

-- an action of the longer run is one of the run before, or the last one
pub at_next : {A : Type 0} (run : List A) (s : A) (k : ℕ) (x : A) → slice_get (run ++ s ∷ []) k ≡ Some x
    → ((k < length run) × (slice_get run k ≡ Some x)) ⊎ ((k ≡ length run) × (x ≡ s))
at_next [] s zero x h = let e : x ≡ s = cc in inr (refl, e)
at_next [] s (suc k) x h = absurd (cc)
at_next (y ∷ ys) s zero x h = inl (omega arith, h)
at_next (y ∷ ys) s (suc k) x h = elim (at_next ys s k x h) [ inl p ↦ inl (let l : k < length ys = p.0 in omega arith, p.1) | inr p ↦ inr (ap suc p.0, p.1) ]

-- ---- the order goes onwards

-- at once, by the order of a thread or by what an action left
abbrev pub Precedes : {A : Type 0} → Relations A → List A → ℕ → ℕ → Type 0
Precedes R run i j = IsProgramOrdered R run i j ⊎ SynchronizesWith R run i j

pub onwards : {A : Type 0} (R : Relations A) (run : List A) (i j : ℕ) → HappensBefore R run i j → i < j
onwards R run i j (InProgramOrder _ _ h) = h.pair.earlier
onwards R run i j (Synchronized _ _ h) = h.pair.earlier
onwards R run i j (Through _ k _ h g) =
    let a : i < k = onwards R run i k h in
    let b : k < j = onwards R run k j g in omega arith

pub at_once : {A : Type 0} (R : Relations A) (run : List A) (i j : ℕ) → Precedes R run i j → HappensBefore R run i j
at_once R run i j p = elim p [ inl h ↦ InProgramOrder i j h | inr h ↦ Synchronized i j h ]

-- ---- one action more

abbrev pub with_next : {A : Type 0} → List A → A → List A
with_next run s = run ++ s ∷ []

module _ {A : Type 0} (R : Relations A) (run : List A) (s : A) where
  pub pair_within : (i j : ℕ) → j < length run → Pair (with_next run s) i j → Pair run i j
  pair_within i j h p =
      let l : i < length run = let e : i < j = p.earlier in omega arith in
      record {
        first = p.first;
        second = p.second;
        earlier = p.earlier;
        at_first = sym (get_left run (s ∷ []) i l) ∙ p.at_first;
        at_second = sym (get_left run (s ∷ []) j h) ∙ p.at_second;
      }

  pub pair_longer : (i j : ℕ) → Pair run i j → Pair (with_next run s) i j
  pair_longer i j p =
      record {
        first = p.first;
        second = p.second;
        earlier = p.earlier;
        at_first = get_left run (s ∷ []) i (slice_get_within run i p.first p.at_first) ∙ p.at_first;
        at_second = get_left run (s ∷ []) j (slice_get_within run j p.second p.at_second) ∙ p.at_second;
      }

  program_within : (i j : ℕ) → j < length run → IsProgramOrdered R (with_next run s) i j → IsProgramOrdered R run i j
  unfolding pair_within
  program_within i j h p = record { pair = pair_within i j h p.pair; same = p.same }

  synchronized_within : (i j : ℕ) → j < length run → SynchronizesWith R (with_next run s) i j → SynchronizesWith R run i j
  unfolding pair_within
  synchronized_within i j h p =
      record {
        pair = pair_within i j h p.pair;
        synchronizes = p.synchronizes;
        stays = λ k between a b at. p.stays k between a b (get_left run (s ∷ []) k (omega arith) ∙ at);
      }

  program_longer : (i j : ℕ) → IsProgramOrdered R run i j → IsProgramOrdered R (with_next run s) i j
  unfolding pair_longer
  program_longer i j p = record { pair = pair_longer i j p.pair; same = p.same }

  synchronized_longer : (i j : ℕ) → SynchronizesWith R run i j → SynchronizesWith R (with_next run s) i j
  unfolding pair_longer
  synchronized_longer i j p =
      let h : j < length run = slice_get_within run j p.pair.second p.pair.at_second in
      record {
        pair = pair_longer i j p.pair;
        synchronizes = p.synchronizes;
        stays = λ k between a b at. p.stays k between a b (sym (get_left run (s ∷ []) k (omega arith)) ∙ at);
      }

  -- before its last action nothing changes
  pub within : (i j : ℕ) → HappensBefore R (with_next run s) i j → j < length run → HappensBefore R run i j
  within i j (InProgramOrder _ _ h) l = InProgramOrder i j (program_within i j l h)
  within i j (Synchronized _ _ h) l = Synchronized i j (synchronized_within i j l h)
  within i j (Through _ k _ h g) l =
      let b : k < j = onwards R (with_next run s) k j g in
      Through i k j (within i k h (omega arith)) (within k j g l)

  pub longer : (i j : ℕ) → HappensBefore R run i j → HappensBefore R (with_next run s) i j
  longer i j (InProgramOrder _ _ h) = InProgramOrder i j (program_longer i j h)
  longer i j (Synchronized _ _ h) = Synchronized i j (synchronized_longer i j h)
  longer i j (Through _ k _ h g) = Through i k j (longer i k h) (longer k j g)

  -- what happens before its last action does so by way of one that comes before it at once
  pub to_last : (i n : ℕ) → HappensBefore R (with_next run s) i n → n ≡ length run
      → (k : ℕ) × ((i ≡ k) ⊎ HappensBefore R run i k) × Precedes R (with_next run s) k n
  to_last i n (InProgramOrder _ _ h) e = (i, inl refl, inl h)
  to_last i n (Synchronized _ _ h) e = (i, inl refl, inr h)
  to_last i n (Through _ k _ h g) e =
      let p = to_last k n g e in
      let b : k < n = onwards R (with_next run s) k n g in
      let l : k < length run = omega arith in
      let by : HappensBefore R run i k = within i k h l in (
        p.0,
        elim p.1 [
          | inl same ↦ inr (subst (λ m. HappensBefore R run i m) same by)
          | inr on ↦ inr (Through i k p.0 by on)
        ],
        p.2,
      )

  pub last_by : (i k n : ℕ) → (i ≡ k) ⊎ HappensBefore R run i k → Precedes R (with_next run s) k n → HappensBefore R (with_next run s) i n
  last_by i k n p q =
      elim p [
        | inl same ↦ subst (λ m. HappensBefore R (with_next run s) m n) (sym same) (at_once R (with_next run s) k n q)
        | inr h ↦ Through i k n (longer i k h) (at_once R (with_next run s) k n q)
      ]
