-- The step of an action, by the place that it finds or leaves or the variable that it reads or writes.
use Rattle.std.proofs.Common.{◌≡◌, refl, sym, ◌∙◌, ap, subst, ℕ, List, [], ◌∷◌, ◌++◌}
use Rattle.std.specs.Prelude.{Option, Some, None, IsTrue, Result, Ok, Err}
use Rattle.race_detection.specs.declared.run_steps.Action.{Action as Numbered}
use Rattle.race_detection.specs.declared.run_steps.Action.TheVariants as numbered
use Rattle.race_places.specs.declared.run_actions.Action.{Action}
use Rattle.race_places.specs.declared.run_actions.Action.TheVariants.{ClearInterrupt}
use Rattle.race_places.specs.declared.run_actions.Key.{Key}
use Rattle.race_places.specs.run_actions.Order.{interrupts_key, cleared_key, left_by, found_by, taken_by, read_by, written_by}
use Rattle.race_places.specs.numbering.Numbers.{NumberingOf, number_in, is_in, numbered_action, HasNumbers, AreIn, IsLonger, IsFound, IsLeft, IsRead, IsWritten, IsNumbered}
use Rattle.race_places.proofs.numbering.Keys.{in_longer, number_longer}

append_none : {A : Type 0} (xs : List A) → xs ≡ xs ++ []
append_none [] = refl
append_none (x ∷ xs) = ap (λ ys. x ∷ ys) (append_none xs)

pub not_longer : (n : NumberingOf) → IsLonger n n
not_longer n = record { places = ([], append_none n.places); variables = ([], append_none n.variables) }

pub same_longer : (old new : NumberingOf) → new ≡ old → IsLonger old new
same_longer old new e = subst (λ n. IsLonger old n) (sym e) (not_longer old)

places_longer : (old new : NumberingOf) (more : List Key) → new.places ≡ old.places ++ more → new.variables ≡ old.variables → IsLonger old new
places_longer old new more p v = record { places = (more, p); variables = ([], v ∙ append_none old.variables) }

none_in : (keys : List Key) (o : Option Key) → o ≡ None → AreIn keys o
none_in keys None e = _
none_in keys (Some k) e = absurd (cc)

some_in : (keys : List Key) (o : Option Key) (k : Key) → o ≡ Some k → IsTrue (is_in keys k) → AreIn keys o
some_in keys None k e h = absurd (cc)
some_in keys (Some l) k e h = let same : l ≡ k = cc in subst (λ m. IsTrue (is_in keys m)) (sym same) h

-- what finds a place, and no more
pub found_numbered : {E : Type 0} (a b : Action) (k : Key) → a ≡ b → found_by b ≡ Some k → left_by b ≡ None → taken_by b ≡ None → read_by b ≡ None
    → written_by b ≡ None → ((n : NumberingOf) → numbered_action n b ≡ numbered.Acquire (number_in n.places k)) → (result : Result Numbered E) (old new : NumberingOf)
    → IsFound result k old new → IsNumbered result a old new
found_numbered {E} a b k same found left taken read written step (Err e) old new h = same_longer old new h
found_numbered {E} a b k same found left taken read written step (Ok x) old new h =
    subst (λ c. IsNumbered {E = E} (Ok x) c old new) (sym same) (
      h.0 ∙ sym (step new),
      record {
        left = none_in new.places (left_by b) left;
        found = some_in new.places (found_by b) k found h.1;
        taken = none_in new.places (taken_by b) taken;
        read = none_in new.variables (read_by b) read;
        written = none_in new.variables (written_by b) written;
      },
      h.2,
    )

-- what leaves something at a place, and no more
pub left_numbered : {E : Type 0} (a b : Action) (k : Key) → a ≡ b → left_by b ≡ Some k → found_by b ≡ None → taken_by b ≡ None → read_by b ≡ None
    → written_by b ≡ None → ((n : NumberingOf) → numbered_action n b ≡ numbered.Release (number_in n.places k)) → (result : Result Numbered E) (old new : NumberingOf)
    → IsLeft result k old new → IsNumbered result a old new
left_numbered {E} a b k same left found taken read written step (Err e) old new h = same_longer old new h
left_numbered {E} a b k same left found taken read written step (Ok x) old new h =
    subst (λ c. IsNumbered {E = E} (Ok x) c old new) (sym same) (
      h.0 ∙ sym (step new),
      record {
        left = some_in new.places (left_by b) k left h.1;
        found = none_in new.places (found_by b) found;
        taken = none_in new.places (taken_by b) taken;
        read = none_in new.variables (read_by b) read;
        written = none_in new.variables (written_by b) written;
      },
      h.2,
    )

-- what reads a variable that is not volatile
pub read_numbered : {E : Type 0} (a b : Action) (k : Key) → a ≡ b → read_by b ≡ Some k → left_by b ≡ None → found_by b ≡ None
    → taken_by b ≡ None → written_by b ≡ None → ((n : NumberingOf) → numbered_action n b ≡ numbered.Read (number_in n.variables k)) → (result : Result Numbered E) (old new : NumberingOf)
    → IsRead result k old new → IsNumbered result a old new
read_numbered {E} a b k same read left found taken written step (Err e) old new h = same_longer old new h
read_numbered {E} a b k same read left found taken written step (Ok x) old new h =
    subst (λ c. IsNumbered {E = E} (Ok x) c old new) (sym same) (
      h.0 ∙ sym (step new),
      record {
        left = none_in new.places (left_by b) left;
        found = none_in new.places (found_by b) found;
        taken = none_in new.places (taken_by b) taken;
        read = some_in new.variables (read_by b) k read h.1;
        written = none_in new.variables (written_by b) written;
      },
      h.2,
    )

-- what writes a variable that is not volatile
pub written_numbered : {E : Type 0} (a b : Action) (k : Key) → a ≡ b → written_by b ≡ Some k → left_by b ≡ None → found_by b ≡ None
    → taken_by b ≡ None → read_by b ≡ None → ((n : NumberingOf) → numbered_action n b ≡ numbered.Write (number_in n.variables k)) → (result : Result Numbered E) (old new : NumberingOf)
    → IsWritten result k old new → IsNumbered result a old new
written_numbered {E} a b k same written left found taken read step (Err e) old new h = same_longer old new h
written_numbered {E} a b k same written left found taken read step (Ok x) old new h =
    subst (λ c. IsNumbered {E = E} (Ok x) c old new) (sym same) (
      h.0 ∙ sym (step new),
      record {
        left = none_in new.places (left_by b) left;
        found = none_in new.places (found_by b) found;
        taken = none_in new.places (taken_by b) taken;
        read = none_in new.variables (read_by b) read;
        written = some_in new.variables (written_by b) k written h.1;
      },
      h.2,
    )

-- ---- a status that is cleared has two places

chain : (a b c more further : List Key) → b ≡ a ++ more → c ≡ b ++ further → c ≡ a ++ (more ++ further)
chain a b c more further e f = f ∙ ap (λ xs. xs ++ further) e ∙ append_again a more further
  where
    append_again : (xs ys zs : List Key) → (xs ++ ys) ++ zs ≡ xs ++ (ys ++ zs)
    append_again [] ys zs = refl
    append_again (x ∷ xs) ys zs = ap (λ ws. x ∷ ws) (append_again xs ys zs)

pub longer_again : (a b c : NumberingOf) → IsLonger a b → IsLonger b c → IsLonger a c
longer_again a b c g h =
    record {
      places = (g.places.0 ++ h.places.0, chain a.places b.places c.places g.places.0 h.places.0 g.places.1 h.places.1);
      variables = (g.variables.0 ++ h.variables.0, chain a.variables b.variables c.variables g.variables.0 h.variables.0 g.variables.1 h.variables.1);
    }

pub clear_numbered : (thread : ℕ) (old mid new : NumberingOf) (taken left : ℕ)
    → (taken ≡ number_in mid.places (interrupts_key thread)) × IsTrue (is_in mid.places (interrupts_key thread)) × IsLonger old mid
    → (left ≡ number_in new.places (cleared_key thread)) × IsTrue (is_in new.places (cleared_key thread)) × IsLonger mid new
    → (numbered.Clear taken left ≡ numbered_action new (ClearInterrupt thread)) × HasNumbers new (ClearInterrupt thread) × IsLonger old new
clear_numbered thread old mid new taken left g h =
    let place = ap (λ keys. number_in keys (interrupts_key thread)) h.2.places.1 ∙ number_longer mid.places h.2.places.0 (interrupts_key thread) g.1 in (
      λ i. numbered.Clear ((g.0 ∙ sym place) i) (h.0 i),
      record {
        left = h.1;
        found = _;
        taken = subst (λ keys. IsTrue (is_in keys (interrupts_key thread))) (sym h.2.places.1) (in_longer mid.places h.2.places.0 (interrupts_key thread) g.1);
        read = _;
        written = _;
      },
      longer_again old mid new g.2 h.2,
    )

-- ---- by the answer

pub ok_numbered : {E : Type 0} (r : Result Numbered E) (x : Numbered) (a : Action) (old new : NumberingOf) → r ≡ Ok x → IsNumbered r a old new
    → (x ≡ numbered_action new a) × HasNumbers new a × IsLonger old new
ok_numbered (Ok y) x a old new e h = let same : y ≡ x = cc in (sym same ∙ h.0, h.1, h.2)
ok_numbered (Err f) x a old new e h = absurd (cc)

pub err_numbered : {E : Type 0} (r : Result Numbered E) (f : E) (a : Action) (old new : NumberingOf) → r ≡ Err f → IsNumbered r a old new → IsLonger old new
err_numbered (Ok y) f a old new e h = absurd (cc)
err_numbered (Err g) f a old new e h = h
