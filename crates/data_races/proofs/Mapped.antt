-- Races of a run whose actions are renamed, as variables and threads are by numbers.
use Rattle.std.proofs.Common.{◌≡◌, refl, sym, ◌∙◌, ap, subst, ℕ, zero, suc, List, [], ◌∷◌, map}
use Rattle.std.specs.Prelude.{Some, slice_get, IsTrue, IsFalse}
use Rattle.data_races.specs.HappensBefore.{Relations, Pair, IsProgramOrdered, SynchronizesWith, HappensBefore, InProgramOrder, Synchronized, Through, IsRace}

-- an action of the run
abbrev pub Has : {A : Type 0} → List A → A → Type 0
Has run a = (k : ℕ) × (slice_get run k ≡ Some a)

-- what is asked of two actions of the run is answered alike of their new names
pub record IsRenaming {A B : Type 0} (R : Relations A) (S : Relations B) (f : A → B) (run : List A) : Type 0 where
  pub one_thread : (a b : A) → Has run a → Has run b → S.is_of_one_thread (f a) (f b) ≡ R.is_of_one_thread a b
  pub synchronizes : (a b : A) → Has run a → Has run b → S.synchronizes (f a) (f b) ≡ R.synchronizes a b
  pub takes_away : (a b : A) → Has run a → Has run b → S.takes_away (f a) (f b) ≡ R.takes_away a b
  pub conflict : (a b : A) → Has run a → Has run b → S.conflict (f a) (f b) ≡ R.conflict a b

map_at : {A B : Type 0} (f : A → B) (run : List A) (k : ℕ) (x : A) → slice_get run k ≡ Some x → slice_get (map f run) k ≡ Some (f x)
map_at f [] k x h = absurd (cc)
map_at f (y ∷ ys) zero x h = let e : y ≡ x = cc in ap (λ z. Some (f z)) e
map_at f (y ∷ ys) (suc k) x h = map_at f ys k x h

before_map : {A B : Type 0} (f : A → B) (run : List A) (k : ℕ) (y : B) → slice_get (map f run) k ≡ Some y → (x : A) × (slice_get run k ≡ Some x) × (f x ≡ y)
before_map f [] k y h = absurd (cc)
before_map f (x ∷ xs) zero y h = let e : f x ≡ y = cc in (x, refl, e)
before_map f (x ∷ xs) (suc k) y h = before_map f xs k y h

module _ {A B : Type 0} (R : Relations A) (S : Relations B) (f : A → B) (run : List A) (same : IsRenaming R S f run) where
  pair_to : (i j : ℕ) → Pair run i j → Pair (map f run) i j
  pair_to i j p =
      record {
        first = f p.first;
        second = f p.second;
        earlier = p.earlier;
        at_first = map_at f run i p.first p.at_first;
        at_second = map_at f run j p.second p.at_second;
      }

  pair_from : (i j : ℕ) → Pair (map f run) i j → Pair run i j
  pair_from i j p =
      let a = before_map f run i p.first p.at_first in
      let b = before_map f run j p.second p.at_second in
      record { first = a.0; second = b.0; earlier = p.earlier; at_first = a.1; at_second = b.1 }

  program_to : (i j : ℕ) → IsProgramOrdered R run i j → IsProgramOrdered S (map f run) i j
  unfolding pair_to
  program_to i j p =
      record {
        pair = pair_to i j p.pair;
        same = same.one_thread p.pair.first p.pair.second (i, p.pair.at_first) (j, p.pair.at_second) ∙ p.same;
      }

  program_from : (i j : ℕ) → IsProgramOrdered S (map f run) i j → IsProgramOrdered R run i j
  unfolding pair_from
  program_from i j p =
      let a = before_map f run i p.pair.first p.pair.at_first in
      let b = before_map f run j p.pair.second p.pair.at_second in
      record {
        pair = pair_from i j p.pair;
        same = sym (same.one_thread a.0 b.0 (i, a.1) (j, b.1))
            ∙ subst (λ y. IsTrue (S.is_of_one_thread (f a.0) y)) (sym b.2) (subst (λ x. IsTrue (S.is_of_one_thread x p.pair.second)) (sym a.2) p.same);
      }

  synchronized_to : (i j : ℕ) → SynchronizesWith R run i j → SynchronizesWith S (map f run) i j
  unfolding pair_to
  synchronized_to i j p =
      record {
        pair = pair_to i j p.pair;
        synchronizes = same.synchronizes p.pair.first p.pair.second (i, p.pair.at_first) (j, p.pair.at_second) ∙ p.synchronizes;
        stays = λ k between l m at.
            let c = before_map f run k between at in
            subst (λ y. IsFalse (S.takes_away (f p.pair.first) y)) c.2
            (same.takes_away p.pair.first c.0 (i, p.pair.at_first) (k, c.1) ∙ p.stays k c.0 l m c.1);
      }

  synchronized_from : (i j : ℕ) → SynchronizesWith S (map f run) i j → SynchronizesWith R run i j
  unfolding pair_from
  synchronized_from i j p =
      let a = before_map f run i p.pair.first p.pair.at_first in
      let b = before_map f run j p.pair.second p.pair.at_second in
      record {
        pair = pair_from i j p.pair;
        synchronizes = sym (same.synchronizes a.0 b.0 (i, a.1) (j, b.1))
            ∙ subst (λ y. IsTrue (S.synchronizes (f a.0) y)) (sym b.2) (subst (λ x. IsTrue (S.synchronizes x p.pair.second)) (sym a.2) p.synchronizes);
        stays = λ k between l m at.
            sym (same.takes_away a.0 between (i, a.1) (k, at))
            ∙ subst (λ x. IsFalse (S.takes_away x (f between))) (sym a.2) (p.stays k (f between) l m (map_at f run k between at));
      }

  pub before_to : (i j : ℕ) → HappensBefore R run i j → HappensBefore S (map f run) i j
  before_to i j (InProgramOrder _ _ h) = InProgramOrder i j (program_to i j h)
  before_to i j (Synchronized _ _ h) = Synchronized i j (synchronized_to i j h)
  before_to i j (Through _ k _ h g) = Through i k j (before_to i k h) (before_to k j g)

  pub before_from : (i j : ℕ) → HappensBefore S (map f run) i j → HappensBefore R run i j
  before_from i j (InProgramOrder _ _ h) = InProgramOrder i j (program_from i j h)
  before_from i j (Synchronized _ _ h) = Synchronized i j (synchronized_from i j h)
  before_from i j (Through _ k _ h g) = Through i k j (before_from i k h) (before_from k j g)

  pub race_to : (i j : ℕ) → IsRace R run i j → IsRace S (map f run) i j
  unfolding pair_to
  race_to i j r =
      record {
        pair = pair_to i j r.pair;
        conflict = same.conflict r.pair.first r.pair.second (i, r.pair.at_first) (j, r.pair.at_second) ∙ r.conflict;
        unordered = λ h. r.unordered (before_from i j h);
      }

  pub race_from : (i j : ℕ) → IsRace S (map f run) i j → IsRace R run i j
  unfolding pair_from
  race_from i j r =
      let a = before_map f run i r.pair.first r.pair.at_first in
      let b = before_map f run j r.pair.second r.pair.at_second in
      record {
        pair = pair_from i j r.pair;
        conflict = sym (same.conflict a.0 b.0 (i, a.1) (j, b.1))
            ∙ subst (λ y. IsTrue (S.conflict (f a.0) y)) (sym b.2) (subst (λ x. IsTrue (S.conflict x r.pair.second)) (sym a.2) r.conflict);
        unordered = λ h. r.unordered (before_to i j h);
      }
