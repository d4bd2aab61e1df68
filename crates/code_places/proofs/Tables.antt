-- Tables of lines, entry by entry.
use Rattle.std.proofs.Common.{◌≡◌, ◌<◌, ◌≤◌, ℕ, ◌+◌, ◌*◌, List, [], ◌∷◌, ◌++◌, Bool, true, false, append_assoc, get_or, length, map, take, refl, sym, ap, subst, ◌∙◌, arith}
use Rattle.std.specs.Prelude.{◌==◌, ◌&&◌, if◌then◌else◌, slice_index_or}
use Rattle.std.specs.List.{flat_map}
use Rattle.std.proofs.lemmas.Grind.{flat_map-append}
use Rattle.std.proofs.lemmas.List.{append-nil, map-append, take_more, take-map}
use Rattle.model.specs.Rows.{counting}
use Rattle.code_places.specs.declared.points.Point.{Point}
use Rattle.code_places.specs.Lines.{begins_line, number_at, start_of}
use Rattle.code_places.specs.Points.{points_at}
use Rattle.code_places.proofs.Counted.{gathered}

-- ---- points of more offsets

pub more_points : (number : ℕ) (a b : List ℕ) (old points new : List Point) → points ≡ old ++ points_at number a → new ≡ points ++ points_at number b
    → new ≡ old ++ points_at number (a ++ b)
more_points number a b old points new are more =
    more ∙ ap (λ l. l ++ points_at number b) are ∙ append_assoc old (points_at number a) (points_at number b)
    ∙ ap (λ l. old ++ l) (sym (map-append (λ (o : ℕ). record { method = number; offset = o }) a b))

no_more : (number : ℕ) (a : List ℕ) (old points : List Point) → points ≡ old ++ points_at number a → points ≡ old ++ points_at number (a ++ [])
no_more number a old points are = are ∙ ap (λ l. old ++ points_at number l) (sym (append-nil a))

-- ---- an entry

module _ (starts : List Bool) (table : List ℕ) (line : ℕ) (number : ℕ) (old points : List Point) (entry : ℕ)
    (so_far : points ≡ old ++ points_at number (flat_map (start_of starts table line) (counting 0 entry))) where
  of_entry : (own : List ℕ) → start_of starts table line entry ≡ own
      → points ++ points_at number own ≡ old ++ points_at number (flat_map (start_of starts table line) (counting 0 (entry + 1)))
  of_entry own is =
      more_points number (flat_map (start_of starts table line) (counting 0 entry)) own old points (points ++ points_at number own) so_far refl
      ∙ ap (λ l. old ++ points_at number (flat_map (start_of starts table line) (counting 0 entry) ++ l)) (sym is)
      ∙ ap (λ l. old ++ points_at number l) (sym (gathered (start_of starts table line) entry))

  pub found : (offset : ℕ) → offset ≡ number_at table (4 * entry + 2) → begins_line starts table line entry ≡ true
      → (new : List Point) → new ≡ points ++ record { method = number; offset = offset } ∷ []
      → new ≡ old ++ points_at number (flat_map (start_of starts table line) (counting 0 (entry + 1)))
  found offset offset_is test new are =
      let own : start_of starts table line entry ≡ offset ∷ [] =
      ap (λ b. if b then number_at table (4 * entry + 2) ∷ [] else []) test ∙ ap (λ n. n ∷ []) (sym offset_is)
      in
      are ∙ of_entry (offset ∷ []) own

  pub passed : begins_line starts table line entry ≡ false
      → points ≡ old ++ points_at number (flat_map (start_of starts table line) (counting 0 (entry + 1)))
  passed test =
      let own : start_of starts table line entry ≡ [] = ap (λ b. if b then number_at table (4 * entry + 2) ∷ [] else []) test in
      sym (append-nil points) ∙ of_entry [] own

-- ---- attributes

pub one_attribute : {A B : Type 0} (view : A → B) (f : B → List ℕ) (number : ℕ) (attributes : List A) (i : ℕ) (item : A) (old points new : List Point) → i < length attributes
    → item ≡ get_or attributes i item → points ≡ old ++ points_at number (flat_map f (map view (take i attributes)))
    → (own : List ℕ) → f (view item) ≡ own → new ≡ points ++ points_at number own
    → new ≡ old ++ points_at number (flat_map f (map view (take (i + 1) attributes)))
one_attribute view f number attributes i item old points new less at so_far own is more =
    let all : map view (take (i + 1) attributes) ≡ map view (take i attributes) ++ view item ∷ [] =
    ap (map view) (take_more attributes i item less ∙ ap (λ a. take i attributes ++ a ∷ []) (sym at)) ∙ map-append view (take i attributes) (item ∷ [])
    in
    let flat : flat_map f (map view (take (i + 1) attributes)) ≡ flat_map f (map view (take i attributes)) ++ own =
    ap (flat_map f) all ∙ flat_map-append f (map view (take i attributes)) (view item ∷ []) ∙ ap (λ l. flat_map f (map view (take i attributes)) ++ l) (append-nil (f (view item)) ∙ is)
    in
    more_points number (flat_map f (map view (take i attributes))) own old points new so_far more ∙ ap (λ l. old ++ points_at number l) (sym flat)
