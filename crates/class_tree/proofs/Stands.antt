-- What a Code holds stands behind its front.
use Rattle.std.proofs.Common.{◌≡◌, ℕ, zero, suc, ◌+◌, ◌^◌, ◌<◌, List, [], ◌∷◌, ◌++◌, length, drop, Some, sym, ap, ◌∙◌, append_assoc, arith, length-append}
use Rattle.std.specs.List.{flat_map, slice_get}
use Rattle.std.proofs.lemmas.List.{drop_at}
use Rattle.std.proofs.lemmas.List.Concat.{flat_map-cons}
use Rattle.model.specs.Tree.{CodeTree, MethodPart, CodeOf, SkippedOfMethod, MethodTree, FileTree}
use Rattle.model.specs.Spelling.{u2, table, magic, version, pool, skipped, code, field, method_part, method, file, Layout}
use Rattle.model.specs.Classes.{code_in}
use Rattle.constant_pool.specs.Checking.{saturated}
use Rattle.class_tree.specs.CodePlace.{before_methods, before_parts, before_code, methods_front, front_of_code}
use Rattle.class_tree.specs.CodePlace.{BeginsWith}

Split : List ℕ → List ℕ → CodeTree → Type 0
Split whole front x = (rest : List ℕ) × (whole ≡ front ++ (code x ++ rest))

parts_split : (parts : List MethodPart) (x : CodeTree) → code_in parts ≡ Some x → Split (flat_map method_part parts) (before_code parts) x
unfolding Split
parts_split [] x h = absurd cc
parts_split (CodeOf name c ∷ parts) x h =
    let same : c ≡ x = cc in
    (flat_map method_part parts, flat_map-cons method_part (CodeOf name c) parts ∙ ap (λ (y : CodeTree). before_code (CodeOf name c ∷ parts) ++ (code y ++ flat_map method_part parts)) same)
parts_split (SkippedOfMethod a ∷ parts) x h =
    let r = parts_split parts x h in
    (r.0, flat_map-cons method_part (SkippedOfMethod a) parts ∙ ap (λ (l : List ℕ). method_part (SkippedOfMethod a) ++ l) r.1 ∙ sym (append_assoc (skipped a) (before_code parts) (code x ++ r.0)))

-- sums of lists, in other groups
in_method : (p b c r m : List ℕ) → (p ++ (b ++ (c ++ r))) ++ m ≡ (p ++ b) ++ (c ++ (r ++ m))
in_method p b c r m = simp append_assoc

behind_methods : (b f c r t : List ℕ) → b ++ ((f ++ (c ++ r)) ++ t) ≡ (b ++ f) ++ (c ++ (r ++ t))
behind_methods b f c r t = simp append_assoc

up_to_methods : (a b p f t s i nf fs nm ms r : List ℕ)
    → a ++ (b ++ (p ++ (f ++ (t ++ (s ++ (i ++ ((nf ++ fs) ++ ((nm ++ ms) ++ r))))))))
    ≡ ((a ++ (b ++ (p ++ (f ++ (t ++ (s ++ (i ++ nf))))))) ++ (fs ++ nm)) ++ (ms ++ r)
up_to_methods a b p f t s i nf fs nm ms r = simp append_assoc

methods_split : (methods : List MethodTree) (index : ℕ) (m : MethodTree) (x : CodeTree) → slice_get methods index ≡ Some m
    → code_in m.parts ≡ Some x → Split (flat_map method methods) (methods_front methods index) x
unfolding Split
methods_split [] index m x there h = absurd cc
methods_split (n ∷ methods) zero m x there h =
    let same : n ≡ m = cc in
    let r = parts_split n.parts x (ap (λ (k : MethodTree). code_in k.parts) same ∙ h) in
    (r.0 ++ flat_map method methods, flat_map-cons method n methods ∙ ap (λ (l : List ℕ). (before_parts n ++ l) ++ flat_map method methods) r.1 ∙ in_method (before_parts n) (before_code n.parts) (code x) r.0 (flat_map method methods))
methods_split (n ∷ methods) (suc index) m x there h =
    let r = methods_split methods index m x there h in
    (r.0, flat_map-cons method n methods ∙ ap (λ (l : List ℕ). method n ++ l) r.1 ∙ sym (append_assoc (method n) (methods_front methods index) (code x ++ r.0)))

file_methods : (c : FileTree) → file c ≡ before_methods c ++ (flat_map method c.methods ++ table skipped c.attributes)
file_methods c =
    up_to_methods magic version (pool c.pool) (u2 c.flags) (u2 c.this_class) (u2 c.super_class) (table u2 c.interfaces) (u2 (length c.fields)) (flat_map field c.fields) (u2 (length c.methods)) (flat_map method c.methods) (table skipped c.attributes)

file_split : (c : FileTree) (index : ℕ) (m : MethodTree) (x : CodeTree) → slice_get c.methods index ≡ Some m → code_in m.parts ≡ Some x
    → Split (file c) (front_of_code c index) x
unfolding Split
file_split c index m x there h =
    let r = methods_split c.methods index m x there h in
    (r.0 ++ table skipped c.attributes, file_methods c ∙ ap (λ (l : List ℕ). before_methods c ++ (l ++ table skipped c.attributes)) r.1 ∙ behind_methods (before_methods c) (methods_front c.methods index) (code x) r.0 (table skipped c.attributes))

-- at the offset that is answered of a file in memory the Code stands
pub code_stands : (bytes : List ℕ) (c : FileTree) (index : ℕ) (m : MethodTree) (x : CodeTree) (at : ℕ)
    → at ≡ saturated (length (front_of_code c index)) → Layout bytes c → length bytes < 2 ^ 64 → slice_get c.methods index ≡ Some m
    → code_in m.parts ≡ Some x
    → BeginsWith (code x) (drop at bytes)
unfolding Split
code_stands bytes c index m x at is l small there h =
    let r = file_split c index m x there h in
    let front = front_of_code c index in
    let whole : bytes ≡ front ++ (code x ++ r.0) = l.spelled ∙ r.1 in
    let long : length bytes ≡ length front + length (code x ++ r.0) = ap length whole ∙ length-append front (code x ++ r.0) in
    let here : length front ≡ at = omega (arith, is, long, small) in
    (r.0, ap (λ (b : List ℕ). drop at b) whole ∙ drop_at front (code x ++ r.0) at here)
