-- Threads, monitors and classes in lists of which one element is set or added.
use Rattle.std.proofs.Common.{◌≡◌, ℕ, zero, suc, List, [], ◌∷◌, ◌++◌, Bool, true, false, refl, sym, ap, ◌∙◌, subst}
use Rattle.std.specs.Prelude.{slice_set, slice_index_or, not, ◌&&◌, ◌==◌, if◌then◌else◌}
use Rattle.std.proofs.lemmas.Bool.{cond_both, eq-eqb, eqb-true}
use Rattle.std.proofs.lemmas.List.{get_or-set_other}
use Rattle.model.specs.Names.{Name, name_eq}
use Rattle.model.specs.State.{ClassStatus, Thread}
use Rattle.model.specs.Worlds.{no_thread}
use Rattle.model.specs.ClassInitialisation.{status_in, with_status_in}
use Rattle.run_laws.proofs.laws.Classes.{names_same}
use Rattle.data_races.specs.EventActions.{is_finished, is_waiting}
use Rattle.event_laws.specs.event_changes.Changes.{class_names}

-- ---- threads

-- what holds of each thread and itself, and of the one that is set and the one before it, holds of all
pub set_relates : {X : Type 0} (R : X → X → Type 0) (d : X) → ((x : X) → R x x) → (xs : List X) (j k : ℕ) (x : X) → R x (slice_index_or xs j d)
    → R (slice_index_or (slice_set xs j x) k d) (slice_index_or xs k d)
set_relates R d same [] j k x h = same d
set_relates R d same (y ∷ ys) zero zero x h = h
set_relates R d same (y ∷ ys) zero (suc k) x h = same (slice_index_or ys k d)
set_relates R d same (y ∷ ys) (suc j) zero x h = same y
set_relates R d same (y ∷ ys) (suc j) (suc k) x h = set_relates R d same ys j k x h

pub added_relates : {X : Type 0} (R : X → X → Type 0) (d : X) → ((x : X) → R x x) → (xs : List X) (k : ℕ) (x : X) → R x d
    → R (slice_index_or (xs ++ x ∷ []) k d) (slice_index_or xs k d)
added_relates R d same [] zero x h = h
added_relates R d same [] (suc k) x h = same d
added_relates R d same (y ∷ ys) zero x h = same y
added_relates R d same (y ∷ ys) (suc k) x h = added_relates R d same ys k x h

and_true : (b : Bool) → b ≡ (b && not false)
and_true true = refl
and_true false = refl

and_false : (b : Bool) → false ≡ (b && not true)
and_false true = refl
and_false false = refl

set_waits : (ts : List Thread) (j : ℕ) (x : Thread) → is_waiting x.status ≡ false → is_waiting (slice_index_or (slice_set ts j x) j no_thread).status ≡ false
set_waits [] j x h = refl
set_waits (y ∷ ys) zero x h = h
set_waits (y ∷ ys) (suc j) x h = set_waits ys j x h

-- a thread that doesn't wait in the place of another one: all others wait as before
pub waits_but_one : (ts : List Thread) (j k : ℕ) (x : Thread) → is_waiting x.status ≡ false
    → is_waiting (slice_index_or (slice_set ts j x) k no_thread).status ≡ (is_waiting (slice_index_or ts k no_thread).status && not (j == k))
waits_but_one ts j k x h = by (j == k) refl
  where
    by : (b : Bool) → (j == k) ≡ b
        → is_waiting (slice_index_or (slice_set ts j x) k no_thread).status ≡ (is_waiting (slice_index_or ts k no_thread).status && not (j == k))
    by true e =
        let same : j ≡ k = eqb-true j k e in
        subst (λ (i : ℕ). is_waiting (slice_index_or (slice_set ts j x) i no_thread).status ≡ false) same (set_waits ts j x h)
        ∙ and_false (is_waiting (slice_index_or ts k no_thread).status)
        ∙ ap (λ b. is_waiting (slice_index_or ts k no_thread).status && not b) (sym e)
    by false e =
        let apart : k ≡ j → ⊥ = λ same. let f : true ≡ false = sym (eq-eqb j k (sym same)) ∙ e in cc in
        ap (λ (y : Thread). is_waiting y.status) (get_or-set_other ts j k x no_thread apart)
        ∙ and_true (is_waiting (slice_index_or ts k no_thread).status)
        ∙ ap (λ b. is_waiting (slice_index_or ts k no_thread).status && not b) (sym e)

-- ---- classes

pub names_stay : (class : Name) (status : ClassStatus) (cs : List (Name × ClassStatus)) → class_names (with_status_in class status cs) ≡ class_names cs
names_stay class status [] = refl
names_stay class status (c ∷ cs) =
    cond_both (name_eq c.0 class) ((c.0, status) ∷ cs) (c ∷ with_status_in class status cs) (λ (l : List (Name × ClassStatus)). class_names l ≡ c.0 ∷ class_names cs)
    (λ e. refl) (λ e. ap (λ (ns : List Name). c.0 ∷ ns) (names_stay class status cs))

by_name : {X : Type 0} (b : Bool) (s t : X) → b ≡ false → (if b then s else t) ≡ t
by_name b s t h = ap (λ x. if x then s else t) h

-- the status of another class stays
pub other_status : (class other : Name) (s : ClassStatus) (cs : List (Name × ClassStatus)) → name_eq class other ≡ false
    → status_in other (with_status_in class s cs) ≡ status_in other cs
other_status class other s [] h = refl
other_status class other s (c ∷ cs) h = by (other_status class other s cs h) (name_eq c.0 class) refl
  where
    by : status_in other (with_status_in class s cs) ≡ status_in other cs → (b : Bool) → name_eq c.0 class ≡ b
        → status_in other (if b then (c.0, s) ∷ cs else c ∷ with_status_in class s cs) ≡ status_in other (c ∷ cs)
    by rest true same =
        let differs : name_eq c.0 other ≡ false = ap (λ n. name_eq n other) (names_same c.0 class same) ∙ h in
        by_name (name_eq c.0 other) s (status_in other cs) differs ∙ sym (by_name (name_eq c.0 other) c.1 (status_in other cs) differs)
    by rest false same = ap (λ t. if name_eq c.0 other then c.1 else t) rest

-- a class that isn't done, with a status of one that isn't
pub still_unfinished : (class : Name) (s : ClassStatus) (cs : List (Name × ClassStatus)) → is_finished s ≡ false → is_finished (status_in class cs) ≡ false
    → is_finished (status_in class (with_status_in class s cs)) ≡ false
still_unfinished class s [] u h = refl
still_unfinished class s (c ∷ cs) u h = by (name_eq c.0 class) refl (λ e. still_unfinished class s cs u e)
  where
    by : (b : Bool) → name_eq c.0 class ≡ b
        → (is_finished (status_in class cs) ≡ false → is_finished (status_in class (with_status_in class s cs)) ≡ false)
        → is_finished (status_in class (if b then (c.0, s) ∷ cs else c ∷ with_status_in class s cs)) ≡ false
    by true same rest = ap (λ x. is_finished (if x then s else status_in class cs)) same ∙ u
    by false same rest =
        ap (λ x. is_finished (if x then c.1 else status_in class (with_status_in class s cs))) same
        ∙ rest (sym (ap (λ x. is_finished (if x then c.1 else status_in class cs)) same) ∙ h)
