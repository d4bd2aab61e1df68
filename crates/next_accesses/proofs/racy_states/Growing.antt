-- What was found of the first threads, and of one more.
use Rattle.std.proofs.Common.{◌≡◌, ℕ, zero, suc, ◌+◌, ◌<◌, List, [], ◌∷◌, ◌++◌, Option, Some, None, length, map, refl, sym, ap, subst, ◌∙◌, arith}
use Rattle.std.specs.Prelude.{◌⊎◌, slice_get}
use Rattle.std.proofs.Common.{inl, inr}
use Rattle.model.specs.Classes.{Program}
use Rattle.linked_code.specs.declared.program.LinkedProgram.{LinkedProgram}
use Rattle.machine_state.specs.declared.state.Shared.{Shared}
use Rattle.race_places.specs.declared.run_actions.Action.{Action}
use Rattle.race_places.specs.declared.run_actions.RunAction.{RunAction}
use Rattle.next_accesses.specs.next_access.Next.{TellsNext}
use Rattle.next_accesses.specs.racy_states.Racy.{next_of, with_accesses, IsNext, IsFound, AreNext}
use Rattle.next_accesses.proofs.racy_states.Places.{MappedFrom, mapped_from, mapped_at}

still_at : {A : Type 0} (xs ys : List A) (y : A) (k : ℕ) → slice_get xs k ≡ Some y → slice_get (xs ++ ys) k ≡ Some y
still_at [] ys y k e = absurd cc
still_at (x ∷ xs) ys y zero e = e
still_at (x ∷ xs) ys y (suc k) e = still_at xs ys y k e

below_or : (u t : ℕ) → u < suc t → (u < t) ⊎ (u ≡ t)
below_or zero zero h = inr refl
below_or zero (suc t) h = inl (omega arith)
below_or (suc u) zero h = absurd (omega (arith, h))
below_or (suc u) (suc t) h = by (below_or u t (omega (arith, h)))
  where
    by : (u < t) ⊎ (u ≡ t) → (suc u < suc t) ⊎ (suc u ≡ suc t)
    by (inl g) = inl (omega (arith, g))
    by (inr g) = inr (ap suc g)

-- ---- what is added for a thread

abbrev news : (t : ℕ) → List Action → List RunAction
news t told = map (next_of t) told

get_right : {A : Type 0} (xs ys : List A) (k : ℕ) → slice_get (xs ++ ys) (length xs + k) ≡ slice_get ys k
get_right [] ys k = let e : 0 + k ≡ k = omega arith in ap (slice_get ys) e
get_right (x ∷ xs) ys k = let e : suc (length xs) + k ≡ suc (length xs + k) = omega arith in ap (slice_get (x ∷ xs ++ ys)) e ∙ get_right xs ys k

left_or_right : {A : Type 0} (xs ys : List A) (y : A) (k : ℕ) → slice_get (xs ++ ys) k ≡ Some y
    → (slice_get xs k ≡ Some y) ⊎ ((j : ℕ) × (slice_get ys j ≡ Some y))
left_or_right [] ys y k e = inr (k, e)
left_or_right (x ∷ xs) ys y zero e = inl e
left_or_right (x ∷ xs) ys y (suc k) e = left_or_right xs ys y k e

module _ (trees : Program) (p : LinkedProgram) (shared : Shared) where
  pub no_threads : AreNext trees p shared 0 []
  no_threads = record { each = λ k a e. absurd (nothing k a e); all = λ t h. absurd (omega (arith, h)) }
    where
      nothing : (k : ℕ) (a : RunAction) → slice_get [] k ≡ Some a → ⊥
      nothing k a e = cc

  module _ (t : ℕ) (found : List RunAction) (h : AreNext trees p shared t found) (told : List Action) (tells : TellsNext trees p shared t told) where
    -- what was found of a thread stays
    found_more : (u : ℕ) → IsFound trees p shared found u → IsFound trees p shared (found ++ news t told) u
    found_more u f =
        record {
          told = f.told;
          tells = f.tells;
          among = λ k a e. let g = f.among k a e in (g.0, still_at found (news t told) (next_of u a) g.0 g.1);
        }

    found_new : IsFound trees p shared (found ++ news t told) t
    found_new =
        record {
          told = told;
          tells = tells;
          among = λ k a e. (length found + k, get_right found (news t told) k ∙ mapped_at (next_of t) told a k e);
        }

    is_new : (b : RunAction) → MappedFrom (next_of t) told b → (b.thread < suc t) × IsNext trees p shared b.thread b.action
    is_new b m =
        subst (λ (c : RunAction). (c.thread < suc t) × IsNext trees p shared c.thread c.action) m.is
        (omega arith, record { told = told; tells = tells; place = m.is_in.place; at = m.is_in.at })

    one_after : AreNext trees p shared (suc t) (found ++ news t told)
    one_after =
        record {
          each = λ k b e. each k b (left_or_right found (news t told) b k e);
          all = λ u below. by u (below_or u t below);
        }
      where
        each : (k : ℕ) (b : RunAction) → (slice_get found k ≡ Some b) ⊎ ((j : ℕ) × (slice_get (news t told) j ≡ Some b))
            → (b.thread < suc t) × IsNext trees p shared b.thread b.action
        each k b (inl e) = let g = h.each k b e in (omega (arith, g.0), g.1)
        each k b (inr e) = is_new b (mapped_from (next_of t) told b e.0 e.1)

        by : (u : ℕ) → (u < t) ⊎ (u ≡ t) → IsFound trees p shared (found ++ news t told) u
        by u (inl g) = found_more u (h.all u g)
        by u (inr g) = subst (IsFound trees p shared (found ++ news t told)) (sym g) found_new

    pub one_more : (new : List RunAction) → new ≡ with_accesses t told found → AreNext trees p shared (t + 1) new
    one_more new is =
        let same : suc t ≡ t + 1 = omega arith in
        subst (λ (n : ℕ). AreNext trees p shared n new) same (subst (AreNext trees p shared (suc t)) (sym is) one_after)
