-- Places that are added in turn, and the classes that stand there.
use Rattle.std.proofs.Common.{◌≡◌, ◌⊎◌, ◌∙◌, ℕ, zero, suc, ◌+◌, ◌<◌, ◌≤◌, List, [], ◌∷◌, ◌++◌, length, get_or, map, take, Bool, true, false, cond, ◌||◌, Option, Some, None, refl, sym, ap, subst, inl, inr, ⊎_elim, arith, below_more}
use Rattle.std.specs.Prelude.{nat_eq, slice_get}
use Rattle.std.specs.List.{Contains, list_any, flat_map}
use Rattle.std.proofs.lemmas.Bool.{cases_lt, eq-eqb, eqb-true}
use Rattle.std.proofs.lemmas.List.{append-nil, map_more, length-map, length-take-le}
use Rattle.std.proofs.lemmas.List.Elements.{Contains-append_left, Contains-append_right, Contains-append_cases, Contains-get_or}
use Rattle.std.proofs.lemmas.Option.{slice_get-get_or, slice_get_within, get_or_from_slice_get}
use Rattle.model.specs.Names.{Name}
use Rattle.model.specs.Tree.{FileTree}
use Rattle.model.specs.Spells.{Spells}
use Rattle.model.specs.Classes.{Program}
use Rattle.hierarchy.proofs.Finding.{one_at}
use Rattle.hierarchy.proofs.Indices.{get_front}
use Rattle.library_files.specs.Needs.{needed_classes}
use Rattle.library_files.specs.declared.library_class.LibraryClass.{LibraryClass}
use Rattle.library_files.specs.Adding.{LibraryFile, library_file, IsOffered, IsAdded, of_file, of_class, kept_at, AreAdded}
use Rattle.library_files.specs.Offers.{HasPlace, IsNeededPlace, IsClosed, IsTreeAt, AddsPlaces, AddsPlacesAt, IsAddedPlace, AreAddedPlaces, IsSettled, IsTurned, AddsInTurn, is_among}

-- ---- elements

contains_at : {A : Type 0} (xs : List A) (k : ℕ) (x : A) → slice_get xs k ≡ Some x → Contains xs x
contains_at xs k x e = (k, slice_get_within xs k x e, get_or_from_slice_get xs k x x e)

at_contained : {A : Type 0} (xs : List A) (x : A) → Contains xs x → (k : ℕ) × (slice_get xs k ≡ Some x)
at_contained xs x (k, below, is) = (k, slice_get-get_or xs k x below ∙ ap Some is)

contains_flat_map : {A B : Type 0} (f : A → List B) (xs : List A) (x : A) (y : B) → Contains xs x → Contains (f x) y → Contains (flat_map f xs) y
contains_flat_map f [] x y (k, below, is) h = absurd (omega (arith, below))
contains_flat_map {A} {B} f (first ∷ xs) x y (zero, below, is) h = Contains-append_left (f first) (flat_map f xs) y (subst (λ (z : A). Contains (f z) y) (sym is) h)
contains_flat_map f (first ∷ xs) x y (suc k, below, is) h = Contains-append_right (f first) (flat_map f xs) y (contains_flat_map f xs x y (k, omega (arith, below), is) h)

pub from_flat_map : {A B : Type 0} (f : A → List B) (xs : List A) (y : B) → Contains (flat_map f xs) y → (x : A) × Contains xs x × Contains (f x) y
from_flat_map f [] y (k, below, is) = absurd (omega (arith, below))
from_flat_map f (first ∷ xs) y h = ⊎_elim
    (λ l. (first, (zero, omega arith, refl), l))
    (λ r. let rest = from_flat_map f xs y r in (rest.0, (suc rest.1.0, omega (arith, rest.1.1), rest.1.2), rest.2))
    (Contains-append_cases (f first) (flat_map f xs) y h)

pub none_past : {A : Type 0} (xs : List A) (i : ℕ) (d : A) → slice_get xs i ≡ None → length xs ≤ i
none_past xs i d none = ⊎_elim (λ below. let some = slice_get-get_or xs i d below in absurd cc) (λ past. past) (cases_lt i (length xs))

map_push : {A B : Type 0} (f : A → B) (xs : List A) (y : A) → map f (xs ++ y ∷ []) ≡ map f xs ++ f y ∷ []
map_push f [] y = refl
map_push {A} {B} f (x ∷ xs) y = ap (λ (l : List B). f x ∷ l) (map_push f xs y)

kept_push : {A : Type 0} (test : ℕ → Bool) (n : ℕ) (xs : List A) (y : A) → kept_at test n (xs ++ y ∷ []) ≡ kept_at test n xs ++ (cond (test (n + length xs)) (y ∷ []) [])
kept_push {A} test n [] y = let here : n ≡ n + 0 = omega arith in ap (λ (k : ℕ). cond (test k) (y ∷ []) []) here
kept_push {A} test n (x ∷ xs) y =
    let next : suc n + length xs ≡ n + length (x ∷ xs) = omega arith in
    by (test n) (kept_push test (suc n) xs y ∙ ap (λ (k : ℕ). kept_at test (suc n) xs ++ cond (test k) (y ∷ []) []) next)
  where
    by : (b : Bool) → kept_at test (suc n) (xs ++ y ∷ []) ≡ kept_at test (suc n) xs ++ cond (test (n + length (x ∷ xs))) (y ∷ []) []
        → cond b (x ∷ kept_at test (suc n) (xs ++ y ∷ [])) (kept_at test (suc n) (xs ++ y ∷ []))
        ≡ cond b (x ∷ kept_at test (suc n) xs) (kept_at test (suc n) xs) ++ cond (test (n + length (x ∷ xs))) (y ∷ []) []
    by true h = ap (λ (l : List A). x ∷ l) h
    by false h = h

-- the classes up to a place, and the one that stands there
pub kept_more : (test : ℕ → Bool) (classes : List LibraryClass) (i : ℕ) (d : LibraryClass) (kept more : List LibraryClass) (b : Bool) → i < length classes → test i ≡ b
    → more ≡ kept ++ cond b (get_or classes i d ∷ []) [] → map library_file kept ≡ kept_at test 0 (map library_file (take i classes))
    → map library_file more ≡ kept_at test 0 (map library_file (take (i + 1) classes))
kept_more test classes i d kept more b below is are before =
    let place : 0 + length (map library_file (take i classes)) ≡ i = omega (arith, length-map (take i classes) library_file, length-take-le i classes (omega (arith, below))) in
    let one : map library_file (take (i + 1) classes) ≡ map library_file (take i classes) ++ library_file (get_or classes i d) ∷ [] = map_more library_file classes i d below in
    let at : kept_at test 0 (map library_file (take (i + 1) classes)) ≡ kept_at test 0 (map library_file (take i classes)) ++ cond b (library_file (get_or classes i d) ∷ []) [] =
    ap (kept_at test 0) one ∙ kept_push test 0 (map library_file (take i classes)) (library_file (get_or classes i d))
    ∙ ap (λ (c : Bool). kept_at test 0 (map library_file (take i classes)) ++ cond c (library_file (get_or classes i d) ∷ []) []) (ap test place ∙ is) in
    ap (map library_file) are ∙ by b ∙ ap (λ (l : List LibraryFile). l ++ cond b (library_file (get_or classes i d) ∷ []) []) before ∙ sym at
  where
    by : (c : Bool) → map library_file (kept ++ cond c (get_or classes i d ∷ []) []) ≡ map library_file kept ++ cond c (library_file (get_or classes i d) ∷ []) []
    by true = map_push library_file kept (get_or classes i d)
    by false = ap (map library_file) (append-nil kept) ∙ sym (append-nil (map library_file kept))

module _ (library : List LibraryFile) (files : Program) where
  closed_more : (old more : List ℕ) (names : List Name) → IsClosed library files old names → IsClosed library files (old ++ more) names
  closed_more old more names h = λ name class among offered.
      let there = h name class among offered in
      record { place = there.place; among = Contains-append_left old more there.place there.among; stands = there.stands }

  closed_behind : (old new more : List ℕ) (names : List Name) → new ≡ old ++ more → IsClosed library files old names → IsClosed library files new names
  closed_behind old new more names is h = subst (λ (l : List ℕ). IsClosed library files l names) (sym is) (closed_more old more names h)

  -- ---- the places of what files need

  pub files_added : (places : List ℕ) → AddsPlaces library files [] places (flat_map needed_classes files) → AreAddedPlaces library files places
  files_added places h = λ place among. ⊎_elim
      (λ l. absurd (omega (arith, l.1)))
      (λ r.
      let of = from_flat_map needed_classes files r.name r.among in
      record { class = r.offered.class; stands = r.offered.stands; added = of_file of.0 r.name r.offered.class of.1 of.2 r.offered.offered })
      (h.only place among)

  -- ---- turn by turn

  pub no_turn : (places : List ℕ) → AreAddedPlaces library files places → IsTurned library files 0 places places
  no_turn places added = record {
    kept = λ place h. h;
    settled = λ k place below at. absurd (omega (arith, below));
    added = added;
  }

  same_place : (a b : Option LibraryFile) (x y : LibraryFile) → a ≡ Some x → a ≡ Some y → x ≡ y
  same_place a b x y e f = cc

  pub next_turn : (turn place : ℕ) (first old new : List ℕ) → IsTurned library files turn first old → slice_get old turn ≡ Some place
      → AddsPlacesAt library files old new place → IsTurned library files (turn + 1) first new
  next_turn turn place first old new before at adds = record {
    kept = λ p h. subst (λ (l : List ℕ). Contains l p) (sym adds.behind) (Contains-append_left old adds.more p (before.kept p h));
    settled = settled;
    added = λ p h. ⊎_elim
        (λ l. before.added p l)
        (λ r. needed p r.0 r.1 r.2)
        (adds.only p h);
  }
    where
      here : LibraryFile → Type 0
      here class = slice_get library place ≡ Some class

      needed : (p : ℕ) (tree : FileTree) → IsTreeAt library place tree → IsNeededPlace library files (needed_classes tree) p → IsAddedPlace library files p
      needed p tree is n =
          let one = before.added place (contains_at old turn place at) in
          let same : is.0 ≡ one.class = same_place (slice_get library place) None is.0 one.class is.1 one.stands in
          record {
            class = n.offered.class;
            stands = n.offered.stands;
            added = of_class one.class tree n.name n.offered.class one.added (subst (λ (c : LibraryFile). Spells c.bytes tree) same is.2) n.among n.offered.offered;
          }

      settled : (k p : ℕ) → k < turn + 1 → slice_get new k ≡ Some p → IsSettled library files new p
      settled k p below stands = ⊎_elim
          (λ l.
          let within : k < length old = omega (arith, l, slice_get_within old turn place at) in
          let there : slice_get old k ≡ Some p = sym (get_front old adds.more k within) ∙ ap (λ (xs : List ℕ). slice_get xs k) (sym adds.behind) ∙ stands in
          λ tree is. closed_behind old new adds.more (needed_classes tree) adds.behind (before.settled k p l there tree is))
          (λ r.
          let is_turn : k ≡ turn = omega (arith, r, below) in
          let within : turn < length old = slice_get_within old turn place at in
          let there : slice_get old turn ≡ Some p = sym (get_front old adds.more turn within) ∙ ap (λ (xs : List ℕ). slice_get xs turn) (sym adds.behind) ∙ ap (slice_get new) (sym is_turn) ∙ stands in
          let same : place ≡ p = cc (at, there) in
          λ tree is. adds.closed tree (subst (λ (q : ℕ). IsTreeAt library q tree) (sym same) is))
          (cases_lt k turn)

  pub all_turns : (turn : ℕ) (first new : List ℕ) → length new ≤ turn → IsTurned library files turn first new → AddsInTurn library files first new
  all_turns turn first new all h = record {
    kept = h.kept;
    settled = λ place among.
        let at = at_contained new place among in
        h.settled at.0 place (omega (arith, slice_get_within new at.0 place at.1, all)) at.1;
    added = h.added;
  }

  -- ---- all that are added have places

  pub complete : (first places : List ℕ) → AddsPlaces library files [] first (flat_map needed_classes files) → AddsInTurn library files first places
      → (class : LibraryFile) → IsAdded library files class → HasPlace library places class
  complete first places begun turned class (of_file file name other among needs offered) =
      let there = begun.closed name other (contains_flat_map needed_classes files file name among needs) offered in
      record { place = there.place; among = turned.kept there.place there.among; stands = there.stands }
  complete first places begun turned class (of_class other tree name another added spells needs offered) =
      let there = complete first places begun turned other added in
      turned.settled there.place there.among tree (other, there.stands, spells) name another needs offered

  -- ---- those at the places

  kept_there : (test : ℕ → Bool) (n k : ℕ) (xs : List LibraryFile) (class : LibraryFile) → slice_get xs k ≡ Some class → test (n + k) ≡ true
      → Contains (kept_at test n xs) class
  kept_there test n k [] class at so = absurd cc
  kept_there test n zero (x ∷ xs) class at so =
      let here : n + zero ≡ n = omega arith in
      let same : x ≡ class = cc in
      by (test n) (ap test (sym here) ∙ so) same
    where
      by : (b : Bool) → b ≡ true → x ≡ class → Contains (cond b (x ∷ kept_at test (suc n) xs) (kept_at test (suc n) xs)) class
      by true e same = (zero, omega arith, same)
      by false e same = absurd cc
  kept_there test n (suc k) (x ∷ xs) class at so =
      let next : n + suc k ≡ suc n + k = omega arith in
      by (test n) (kept_there test (suc n) k xs class at (ap test (sym next) ∙ so))
    where
      by : (b : Bool) → Contains (kept_at test (suc n) xs) class → Contains (cond b (x ∷ kept_at test (suc n) xs) (kept_at test (suc n) xs)) class
      by true h = (suc h.0, omega (arith, h.1), h.2)
      by false h = h

  abbrev IsKeptOf : (ℕ → Bool) → ℕ → List LibraryFile → LibraryFile → Type 0
  IsKeptOf test n xs class = (k : ℕ) × (slice_get xs k ≡ Some class) × (test (n + k) ≡ true)

  there_further : (test : ℕ → Bool) (n : ℕ) (x : LibraryFile) (xs : List LibraryFile) (class : LibraryFile) → IsKeptOf test (suc n) xs class → IsKeptOf test n (x ∷ xs) class
  there_further test n x xs class rest =
      let next : n + suc rest.0 ≡ suc n + rest.0 = omega arith in
      (suc rest.0, rest.1, ap test next ∙ rest.2)

  there_kept : (test : ℕ → Bool) (n : ℕ) (xs : List LibraryFile) (class : LibraryFile) → Contains (kept_at test n xs) class → IsKeptOf test n xs class
  there_kept test n [] class h = absurd (omega (arith, h.1))
  there_kept test n (x ∷ xs) class h = by (test n) refl (λ later. there_further test n x xs class (there_kept test (suc n) xs class later)) h
    where
      by : (b : Bool) → test n ≡ b → (Contains (kept_at test (suc n) xs) class → IsKeptOf test n (x ∷ xs) class)
          → Contains (cond b (x ∷ kept_at test (suc n) xs) (kept_at test (suc n) xs)) class → IsKeptOf test n (x ∷ xs) class
      by true e further (zero, below, is) = let here : n + zero ≡ n = omega arith in (zero, ap Some is, ap test here ∙ e)
      by true e further (suc k, below, is) = further (k, omega (arith, below), is)
      by false e further h = further h

  any_among : (places : List ℕ) (place : ℕ) → list_any (nat_eq place) places ≡ true → Contains places place
  any_among [] place h = absurd cc
  any_among (p ∷ places) place h = by (nat_eq place p) refl (any_among places place) h
    where
      by : (b : Bool) → nat_eq place p ≡ b → (list_any (nat_eq place) places ≡ true → Contains places place) → (b || list_any (nat_eq place) places) ≡ true
          → Contains (p ∷ places) place
      by true e later h = (zero, omega arith, sym (eqb-true place p e))
      by false e later h = let rest = later h in (suc rest.0, omega (arith, rest.1), rest.2)

  among_any : (places : List ℕ) (place : ℕ) → Contains places place → list_any (nat_eq place) places ≡ true
  among_any places place h = let at = at_contained places place h in one_at (nat_eq place) places at.0 place at.1 (eq-eqb place place refl)

  pub are_added : (first places : List ℕ) (added : List LibraryFile) → AddsPlaces library files [] first (flat_map needed_classes files)
      → AddsInTurn library files first places → added ≡ kept_at (is_among places) 0 library → AreAdded library files added
  are_added first places added begun turned are = record {
    only = λ class h.
        let there = there_kept (is_among places) 0 library class (subst (λ (l : List LibraryFile). Contains l class) are h) in
        let place : 0 + there.0 ≡ there.0 = omega arith in
        let one = turned.added there.0 (any_among places there.0 (ap (is_among places) (sym place) ∙ there.2)) in
        let same : one.class ≡ class = same_place (slice_get library there.0) None one.class class one.stands there.1 in
        subst (λ (c : LibraryFile). IsAdded library files c) same one.added;
    all = λ class h.
        let there = complete first places begun turned class h in
        let place : 0 + there.place ≡ there.place = omega arith in
        subst (λ (l : List LibraryFile). Contains l class) (sym are) (kept_there (is_among places) 0 there.place library class there.stands (ap (is_among places) place ∙ among_any places there.place there.among));
    ordered = (is_among places, are);
  }
