-- What comes out of one event into a next one: where none of its actions leaves anything, it happens before no action of another thread.
use Rattle.std.proofs.Common.{◌≡◌, sym, ◌∙◌, ℕ, ◌<◌, ◌≤◌, inl, inr, List, arith}
use Rattle.std.specs.Prelude.{Some, true, false, slice_get, IsFalse}
use Rattle.std.proofs.lemmas.Bool.Decides.{leb_tells}
use Rattle.data_races.specs.HappensBefore.{Relations, HappensBefore, InProgramOrder, Synchronized, Through}
use Rattle.data_races.proofs.Order.{onwards}

-- between i and m stand actions of one thread, between m and j those of another one
module _ {A : Type 0} (R : Relations A) (run : List A) (i m j : ℕ)
    (silent : (k : ℕ) (c d : A) → i ≤ k → k < m → slice_get run k ≡ Some c → IsFalse (R.synchronizes c d))
    (apart : (k q : ℕ) (c d : A) → i ≤ k → k < m → m ≤ q → q ≤ j → slice_get run k ≡ Some c → slice_get run q ≡ Some d → IsFalse (R.is_of_one_thread c d)) where
  pub stays_within : (x y : ℕ) → HappensBefore R run x y → i ≤ x → x < m → y ≤ j → y < m
  stays_within x y (InProgramOrder _ _ h) low high most =
      elim (leb_tells m y) [
        | inl p ↦
            let g : true ≡ false = sym h.same ∙ apart x y h.pair.first h.pair.second low high p.1 most h.pair.at_first h.pair.at_second in absurd (cc)
        | inr p ↦ p.1
      ]
  stays_within x y (Synchronized _ _ h) low high most =
      let g : true ≡ false = sym h.synchronizes ∙ silent x h.pair.first h.pair.second low high h.pair.at_first in absurd (cc)
  stays_within x y (Through _ k _ h g) low high most =
      let a : x < k = onwards R run x k h in
      let b : k < y = onwards R run k y g in
      let c : k < m = stays_within x k h low high (omega arith) in
      stays_within k y g (omega arith) c most
