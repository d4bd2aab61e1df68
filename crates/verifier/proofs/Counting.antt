-- Steps that are taken: by turns, by methods and by classes.
use Rattle.std.proofs.Common.{◌≡◌, ℕ, zero, suc, ◌+◌, ◌*◌, ◌<◌, ◌≤◌, List, [], ◌∷◌, length, take, false, Option, Some, None, inl, inr, refl, sym, ap, ◌∙◌, arith}
use Rattle.std.specs.Prelude.{replicate, slice_get}
use Rattle.std.specs.Option.{option_and_then, option_map_or}
use Rattle.std.specs.List.{sum_by}
use Rattle.std.proofs.Math.Nat.{suc-mul}
use Rattle.std.proofs.lemmas.List.Sums.{sum_by-cons, sum_by-take-le}
use Rattle.model.specs.Tree.{FileTree, MethodTree}
use Rattle.model.specs.Classes.{Program, Body}
use Rattle.hierarchy.specs.Places.{class_at}
use Rattle.hierarchy.proofs.Indices.{file_behind}
use Rattle.types.specs.method_code.View.{shown_in}
use Rattle.run_laws.specs.typing_search.Weights.{table_weight, marks_weight, places}
use Rattle.link_conditions.specs.declared.refusal.why.Refusal.{Refusal}
use Rattle.verifier.specs.Found.{work_left}
use Rattle.verifier.specs.Worklist.{Tables}
use Rattle.verifier.specs.Steps.{Costs, AreCosts, most_turns, shown_steps, class_steps, all_steps, steps_at, steps_of_class}
use Rattle.verifier.specs.Places.{RefusesPart}

-- ---- where nothing is found yet

module _ (files : Program) (body : Body) (limit : ℕ) where
  none_weight : (n : ℕ) → table_weight files limit (places body) (replicate n None) ≡ n * (places body * suc limit + 2)
  none_weight zero = omega arith
  none_weight (suc n) =
      let r = none_weight n in
      let s = suc-mul n (places body * suc limit + 2) in
      omega (arith, r, s)

  none_waits_weight : (n : ℕ) → marks_weight (replicate n false) ≡ 0
  none_waits_weight zero = refl
  none_waits_weight (suc n) = let r = none_waits_weight n in omega (arith, r)

  pub work_at_first : (tables : Tables) → tables.types ≡ replicate (length body.code.code) None
      → tables.waiting ≡ replicate (length body.code.code) false → work_left files body limit tables ≡ most_turns body limit
  work_at_first tables e f =
      let t = ap (table_weight files limit (places body)) e ∙ none_weight (length body.code.code) in
      let w = ap marks_weight f ∙ none_waits_weight (length body.code.code) in
      omega (arith, t, w)

-- ---- sums

sum_more : {A : Type 0} (f : A → ℕ) (xs : List A) (i : ℕ) → sum_by f (take (suc i) xs) ≡ sum_by f (take i xs) + option_map_or f (slice_get xs i) 0
sum_more f [] zero = omega arith
sum_more f [] (suc i) = omega arith
sum_more f (x ∷ xs) zero = omega (arith, sum_by-cons f x [])
sum_more f (x ∷ xs) (suc i) =
    omega (arith, sum_by-cons f x (take (suc i) xs), sum_by-cons f x (take i xs), sum_more f xs i)

-- the same as a counter goes on
sum_next : {A : Type 0} (f : A → ℕ) (xs : List A) (i : ℕ) → sum_by f (take (i + 1) xs) ≡ sum_by f (take i xs) + option_map_or f (slice_get xs i) 0
sum_next f xs i = let n : suc i ≡ i + 1 = omega arith in sym (ap (λ k. sum_by f (take k xs)) n) ∙ sum_more f xs i

-- ---- methods of a class

abbrev front_steps : ℕ → Costs → FileTree → ℕ
front_steps n costs file = sum_by (λ (m : MethodTree). shown_steps (shown_in file m) costs) (take n file.methods)

-- of the first methods of the class at a place
abbrev pub methods_steps : Program → ℕ → ℕ → Costs → ℕ
methods_steps files class n costs = option_map_or (front_steps n costs) (class_at files class) 0

module _ (costs : Costs) where
  shown_or_none : (file : FileTree) (o : Option MethodTree) → option_map_or (λ (m : MethodTree). shown_steps (shown_in file m) costs) o 0
      ≡ shown_steps (option_and_then (shown_in file) o) costs
  shown_or_none file None = refl
  shown_or_none file (Some m) = refl

  more_in : (k : ℕ) (o : Option FileTree) → option_map_or (front_steps (k + 1) costs) o 0
      ≡ option_map_or (front_steps k costs) o 0 + shown_steps (option_and_then (λ (file : FileTree). option_and_then (shown_in file) (slice_get file.methods k)) o) costs
  more_in k None = omega arith
  more_in k (Some file) =
      sum_next (λ (m : MethodTree). shown_steps (shown_in file m) costs) file.methods k ∙ ap (λ n. front_steps k costs file + n) (shown_or_none file (slice_get file.methods k))

  within : (k : ℕ) (o : Option FileTree)
      → option_map_or (front_steps k costs) o 0 ≤ option_map_or (λ (file : FileTree). class_steps file costs) o 0
  within k None = omega arith
  within k (Some file) = sum_by-take-le (λ (m : MethodTree). shown_steps (shown_in file m) costs) file.methods k

  pub method_more : (files : Program) (class k : ℕ)
      → methods_steps files class (k + 1) costs ≡ methods_steps files class k costs + steps_at files class k costs
  method_more files class k = more_in k (class_at files class)

  pub methods_within : (files : Program) (class k : ℕ) → methods_steps files class k costs ≤ steps_of_class files class costs
  methods_within files class k = within k (class_at files class)

-- ---- classes of files, which stand behind the built-in ones

abbrev pub classes_steps : Program → ℕ → Costs → ℕ
classes_steps files n costs = sum_by (λ (file : FileTree). class_steps file costs) (take n files)

module _ (files : Program) (costs : Costs) where
  pub class_more : (k : ℕ) → classes_steps files (k + 1) costs ≡ classes_steps files k costs + steps_of_class files (37 + k) costs
  class_more k =
      sum_next (λ (file : FileTree). class_steps file costs) files k
      ∙ ap (λ (o : Option FileTree). classes_steps files k costs + option_map_or (λ (file : FileTree). class_steps file costs) o 0) (sym (file_behind files k))

  pub classes_within : (k : ℕ) → classes_steps files k costs ≤ all_steps files costs
  classes_within k = sum_by-take-le (λ (file : FileTree). class_steps file costs) files k

-- ---- refusals of a part, and of the whole

pub refuses_more : (files : Program) (part whole : Costs → ℕ) (left first : ℕ) (refusal : Refusal)
    → ((costs : Costs) → AreCosts files costs → left < part costs → first < whole costs) → RefusesPart files part left refusal
    → RefusesPart files whole first refusal
refuses_more files part whole left first refusal more (inl kind) = inl kind
refuses_more files part whole left first refusal more (inr (inl unverified)) = inr (inl unverified)
refuses_more files part whole left first refusal more (inr (inr long)) =
    inr (inr (record {
      class = long.class;
      method = long.method;
      member = long.member;
      body = long.body;
      stands = long.stands;
      long = λ costs are. more costs are (long.long costs are);
      named = long.named;
      nowhere = long.nowhere;
    }))
