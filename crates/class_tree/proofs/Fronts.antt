-- The length of what stands before a Code.
use Rattle.std.proofs.Common.{◌≡◌, ℕ, suc, ◌+◌, ◌^◌, ◌<◌, ◌≤◌, true, false, List, [], ◌∷◌, ◌++◌, length, map, drop, get_or, refl, sym, ap, ◌∙◌, arith, add-one, drop-cons, length-append}
use Rattle.std.specs.List.{flat_map}
use Rattle.std.proofs.lemmas.List.{length-drop, nil_from_length}
use Rattle.model.specs.Tree.{CodeTree, MethodPart, CodeOf, SkippedOfMethod, MethodTree}
use Rattle.model.specs.Conditions.{is_code_part}
use Rattle.model.specs.Spelling.{sized, table, exception, skipped, code, method_part, method}
use Rattle.constant_pool.specs.Checking.{saturated}
use Rattle.class_tree.specs.CodePlace.{before_parts, before_code, methods_front}

at_code : (p : MethodPart) (parts : List MethodPart) → is_code_part p ≡ true → length (before_code (p ∷ parts)) ≡ 6
at_code (CodeOf name c) parts h = refl
at_code (SkippedOfMethod a) parts h = absurd cc

past_skipped : (p : MethodPart) (parts : List MethodPart) → is_code_part p ≡ false
    → length (before_code (p ∷ parts)) ≡ length (method_part p) + length (before_code parts)
past_skipped (CodeOf name c) parts h = absurd cc
past_skipped (SkippedOfMethod a) parts h = length-append (method_part (SkippedOfMethod a)) (before_code parts)

next_of : {X : Type 0} (view : X → MethodPart) (xs : List X) (i : ℕ) (d : X) → i < length xs
    → map view (drop i xs) ≡ view (get_or xs i d) ∷ map view (drop (i + 1) xs)
next_of view xs i d lt = rw (add-one, drop-cons xs i d) refl

kept : (s p r total : ℕ) (next : ℕ) → next ≡ saturated p → saturated (s + (p + r)) ≡ saturated total
    → saturated (saturated (s + next) + r) ≡ saturated total
kept s p r total next is h = omega (arith, is, h)

pub at_code_ends : {X : Type 0} (view : X → MethodPart) (xs : List X) (i : ℕ) (d : X) (sum total : ℕ) → i < length xs
    → is_code_part (view (get_or xs i d)) ≡ true
    → saturated (sum + length (before_code (map view (drop i xs)))) ≡ saturated total → saturated (sum + 6) ≡ saturated total
at_code_ends view xs i d sum total lt code h =
    ap (λ (n : ℕ). saturated (sum + n)) (sym (ap (λ (l : List MethodPart). length (before_code l)) (next_of view xs i d lt) ∙ at_code (view (get_or xs i d)) (map view (drop (i + 1) xs)) code)) ∙ h

pub past_skipped_goes_on : {X : Type 0} (view : X → MethodPart) (xs : List X) (i : ℕ) (d : X) (sum total next : ℕ) → i < length xs
    → is_code_part (view (get_or xs i d)) ≡ false
    → next ≡ saturated (length (method_part (view (get_or xs i d))))
    → saturated (sum + length (before_code (map view (drop i xs)))) ≡ saturated total
    → saturated (saturated (sum + next) + length (before_code (map view (drop (i + 1) xs)))) ≡ saturated total
past_skipped_goes_on view xs i d sum total next lt other is h =
    let parts = map view (drop (i + 1) xs) in
    let here = view (get_or xs i d) in
    let split : length (before_code (map view (drop i xs))) ≡ length (method_part here) + length (before_code parts) = ap (λ (l : List MethodPart). length (before_code l)) (next_of view xs i d lt) ∙ past_skipped here parts other in
    kept sum (length (method_part here)) (length (before_code parts)) total next is (ap (λ (n : ℕ). saturated (sum + n)) (sym split) ∙ h)

-- behind all attributes
pub all_past : {X : Type 0} (view : X → MethodPart) (xs : List X) (i sum total : ℕ) → length xs ≤ i → sum < 2 ^ 64
    → saturated (sum + length (before_code (map view (drop i xs)))) ≡ saturated total → sum ≡ saturated total
all_past view xs i sum total past small h =
    let none : drop i xs ≡ [] = nil_from_length (drop i xs) (omega (arith, length-drop i xs)) in
    let k : saturated (sum + 0) ≡ saturated total = ap (λ l. saturated (sum + length (before_code (map view l)))) (sym none) ∙ h in
    omega (arith, k)

-- ---- methods

method_at : {X : Type 0} (view : X → MethodTree) (xs : List X) (i : ℕ) (d : X) → i < length xs
    → map view (drop i xs) ≡ view (get_or xs i d) ∷ map view (drop (i + 1) xs)
method_at view xs i d lt = rw (add-one, drop-cons xs i d) refl

front_later : (m : MethodTree) (methods : List MethodTree) (left less : ℕ) → left ≡ suc less
    → length (methods_front (m ∷ methods) left) ≡ length (method m) + length (methods_front methods less)
front_later m methods left less is = ap (λ (n : ℕ). length (methods_front (m ∷ methods) n)) is ∙ length-append (method m) (methods_front methods less)

pub found_method : {X : Type 0} (view : X → MethodTree) (xs : List X) (i : ℕ) (d : X) (left sum total inside : ℕ) → i < length xs → left ≡ 0
    → inside ≡ saturated (length (before_parts (view (get_or xs i d)) ++ before_code (view (get_or xs i d)).parts))
    → saturated (sum + length (methods_front (map view (drop i xs)) left)) ≡ saturated total → saturated (sum + inside) ≡ saturated total
found_method view xs i d left sum total inside lt none is h =
    let here = view (get_or xs i d) in
    let k : saturated (sum + length (before_parts here ++ before_code here.parts)) ≡ saturated total =
    ap (λ (l : List MethodTree). saturated (sum + length (methods_front l 0))) (sym (method_at view xs i d lt)) ∙ ap (λ (n : ℕ). saturated (sum + length (methods_front (map view (drop i xs)) n))) (sym none) ∙ h in
    omega (arith, is, k)

pub past_method : {X : Type 0} (view : X → MethodTree) (xs : List X) (i : ℕ) (d : X) (left less sum total next : ℕ) → i < length xs
    → left ≡ suc less → next ≡ saturated (length (method (view (get_or xs i d))))
    → saturated (sum + length (methods_front (map view (drop i xs)) left)) ≡ saturated total
    → saturated (saturated (sum + next) + length (methods_front (map view (drop (i + 1) xs)) less)) ≡ saturated total
past_method view xs i d left less sum total next lt more is h =
    let here = view (get_or xs i d) in
    let methods = map view (drop (i + 1) xs) in
    let split : length (methods_front (map view (drop i xs)) left) ≡ length (method here) + length (methods_front methods less) = ap (λ (l : List MethodTree). length (methods_front l left)) (method_at view xs i d lt) ∙ front_later here methods left less more in
    kept sum (length (method here)) (length (methods_front methods less)) total next is (ap (λ (n : ℕ). saturated (sum + n)) (sym split) ∙ h)

no_methods : (left : ℕ) → methods_front [] left ≡ []
no_methods left = refl

pub all_methods_past : {X : Type 0} (view : X → MethodTree) (xs : List X) (i left sum total : ℕ) → length xs ≤ i → sum < 2 ^ 64
    → saturated (sum + length (methods_front (map view (drop i xs)) left)) ≡ saturated total → sum ≡ saturated total
all_methods_past view xs i left sum total past small h =
    let none : drop i xs ≡ [] = nil_from_length (drop i xs) (omega (arith, length-drop i xs)) in
    let k : saturated (sum + length (methods_front [] left)) ≡ saturated total = ap (λ l. saturated (sum + length (methods_front (map view l) left))) (sym none) ∙ h in
    let same : length (methods_front [] left) ≡ 0 = ap length (no_methods left) in
    omega (arith, k, same)

pub joined : (xs ys : List ℕ) (s t : ℕ) → s ≡ saturated (length xs) → t ≡ saturated (length ys)
    → saturated (s + t) ≡ saturated (length (xs ++ ys))
joined xs ys s t h k = omega (arith, h, k, length-append xs ys)

-- ---- the length of what a Code holds

code_parts : (c : CodeTree) → length (code c)
    ≡ 12 + length c.code + length (flat_map exception c.exceptions) + length (flat_map skipped c.attributes)
code_parts c =
    let tables = table exception c.exceptions ++ table skipped c.attributes in
    let whole : length (sized c.code ++ tables) ≡ length (sized c.code) + length tables = length-append (sized c.code) tables in
    let both : length tables ≡ length (table exception c.exceptions) + length (table skipped c.attributes) = length-append (table exception c.exceptions) (table skipped c.attributes) in
    omega (arith, whole, both)

sums : (a b d s1 s2 s3 m n total : ℕ) → s1 ≡ saturated (12 + a) → b ≡ saturated m → s2 ≡ saturated (s1 + b) → d ≡ saturated n
    → s3 ≡ saturated (s2 + d) → total ≡ 12 + a + m + n → s3 ≡ saturated total
sums a b d s1 s2 s3 m n total h1 hb h2 hd h3 is = omega (arith, h1, hb, h2, hd, h3, is)

pub code_long : (c : CodeTree) (b d s1 s2 s3 : ℕ) → s1 ≡ saturated (12 + length c.code)
    → b ≡ saturated (length (flat_map exception c.exceptions)) → s2 ≡ saturated (s1 + b)
    → d ≡ saturated (length (flat_map skipped c.attributes)) → s3 ≡ saturated (s2 + d)
    → s3 ≡ saturated (length (code c))
code_long c b d s1 s2 s3 h1 hb h2 hd h3 = sums (length c.code) b d s1 s2 s3 (length (flat_map exception c.exceptions)) (length (flat_map skipped c.attributes)) (length (code c)) h1 hb h2 hd h3 (code_parts c)
