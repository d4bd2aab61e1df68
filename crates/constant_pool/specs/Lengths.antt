-- The length of what is spelled, summed part by part.
use Rattle.std.specs.Prelude.{◌≡◌, ℕ, ◌+◌, ◌<◌, List, ◌++◌, ◌∷◌, [], length, map, take, get_or}
use Rattle.std.specs.List.{flat_map}
use Rattle.std.proofs.Common.{ap, sym, ◌∙◌, arith, length-append}
use Rattle.std.proofs.lemmas.List.{map_more, append-nil}
use Rattle.std.proofs.lemmas.List.Concat.{flat_map-cons, flat_map-append}
use Rattle.constant_pool.specs.Checking.{saturated}

-- the spelling of the parts up to the next one
pub more_spelled : {X Y : Type 0} (text : Y → List ℕ) (view : X → Y) (xs : List X) (i : ℕ) (d : X) → i < length xs
    → flat_map text (map view (take (i + 1) xs)) ≡ flat_map text (map view (take i xs)) ++ text (view (get_or xs i d))
more_spelled text view xs i d lt =
    ap (flat_map text) (map_more view xs i d lt) ∙ flat_map-append text (map view (take i xs)) (view (get_or xs i d) ∷ [])
    ∙ ap (λ (l : List ℕ). flat_map text (map view (take i xs)) ++ l) (flat_map-cons text (view (get_or xs i d)) [] ∙ append-nil (text (view (get_or xs i d))))

added : (a b s t : ℕ) → s ≡ saturated a → t ≡ saturated b → saturated (s + t) ≡ saturated (a + b)
added a b s t h k = omega (arith, h, k)

-- a sum that is saturated stays so
pub grown : {X Y : Type 0} (text : Y → List ℕ) (view : X → Y) (xs : List X) (i : ℕ) (d : X) (sum part : ℕ) → i < length xs
    → sum ≡ saturated (length (flat_map text (map view (take i xs)))) → part ≡ saturated (length (text (view (get_or xs i d))))
    → saturated (sum + part) ≡ saturated (length (flat_map text (map view (take (i + 1) xs))))
grown text view xs i d sum part lt h k =
    let front = flat_map text (map view (take i xs)) in
    let next = text (view (get_or xs i d)) in
    added (length front) (length next) sum part h k ∙ ap saturated (sym (length-append front next)) ∙ ap (λ (l : List ℕ). saturated (length l)) (sym (more_spelled text view xs i d lt))
