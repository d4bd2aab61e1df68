-- A method that a class declares has a number, and has no code where it is abstract.
use Rattle.std.proofs.Common.{◌≡◌, ◌+◌, ◌⊎◌, inl, inr, ℕ, zero, suc, List, [], ◌∷◌, ◌++◌, length, Bool, true, false, Option, Some, None, cond, if◌then◌else◌, refl, sym, ap, subst, ◌∙◌, arith}
use Rattle.std.specs.Prelude.{find, slice_get}
use Rattle.std.specs.Option.{option_and_then, option_map_or}
use Rattle.std.specs.List.{flat_map}
use Rattle.std.proofs.lemmas.Bool.{true≢false, false≢true}
use Rattle.model.specs.Names.{Member}
use Rattle.model.specs.Tree.{MethodTree}
use Rattle.model.specs.Classes.{Program, Body, classes_of, is_named, is_method, body_of}
use Rattle.model.specs.Lookup.{method_of, is_abstract_method}
use Rattle.model.specs.Outcomes.{AbstractMethod}
use Rattle.model.specs.Calls.{Fails, Runs, if_concrete, is_one}
use Rattle.run_laws.proofs.laws.Homes.{home_of}
use Rattle.run_laws.proofs.laws.Lists.{get_map}
use Rattle.linked_code.specs.declared.method.MethodBody.{MethodBody}
use Rattle.linked_code.specs.declared.method.MethodBody.TheVariants as body
use Rattle.linked_code.specs.declared.program.LinkedProgram.{LinkedProgram}
use Rattle.linked_code.specs.Numbers.{IsMethodAt, member_of, members_of, methods_of}
use Rattle.linked_code.specs.Methods.{IsMethodBody}
use Rattle.thread_stacks.specs.declared.entry.Callee.{Callee}
use Rattle.machine_state.specs.Shown.{IsProgram}
use Rattle.machine_state.specs.method_selection.Rows.{AreMethodsRead}
use Rattle.machine_state.specs.method_selection.Selected.{IsChosenBy}
use Rattle.machine_threads.specs.thread_begins.Callees.{IsCalleeOf, IsCalleeAt}
use Rattle.machine_threads.specs.thread_begins.Runs.{IsRunOf}

-- ---- lists

front : {A : Type 0} (xs ys : List A) (k : ℕ) (x : A) → slice_get xs k ≡ Some x → slice_get (xs ++ ys) k ≡ Some x
front [] ys k x e = absurd cc
front (y ∷ xs) ys zero x e = e
front (y ∷ xs) ys (suc k) x e = front xs ys k x e

behind : {A : Type 0} (xs ys : List A) (k : ℕ) → slice_get (xs ++ ys) (length xs + k) ≡ slice_get ys k
behind [] ys k = let e : 0 + k ≡ k = omega arith in ap (slice_get ys) e
behind (x ∷ xs) ys k = let e : suc (length xs) + k ≡ suc (length xs + k) = omega arith in ap (slice_get (x ∷ (xs ++ ys))) e ∙ behind xs ys k

in_flat : {A B : Type 0} (f : A → List B) (xs : List A) (k : ℕ) (x : A) (j : ℕ) (y : B) → slice_get xs k ≡ Some x
    → slice_get (f x) j ≡ Some y → (n : ℕ) × (slice_get (flat_map f xs) n ≡ Some y)
in_flat f [] k x j y e g = absurd cc
in_flat f (z ∷ xs) zero x j y e g =
    let same : z ≡ x = cc in
    (j, front (f z) (flat_map f xs) j y (subst (λ w. slice_get (f w) j ≡ Some y) (sym same) g))
in_flat f (z ∷ xs) (suc k) x j y e g = let r = in_flat f xs k x j y e g in (length (f z) + r.0, behind (f z) (flat_map f xs) r.0 ∙ r.1)

found_at : {A : Type 0} (p : A → Bool) (xs : List A) (x : A) → find p xs ≡ Some x → (k : ℕ) × (slice_get xs k ≡ Some x)
found_at p [] x e = absurd cc
found_at p (y ∷ xs) x e = by (found_at p xs x) (p y) e
  where
    by : (find p xs ≡ Some x → (k : ℕ) × (slice_get xs k ≡ Some x)) → (b : Bool) → cond b (Some y) (find p xs) ≡ Some x
        → (k : ℕ) × (slice_get (y ∷ xs) k ≡ Some x)
    by later true q = (0, q)
    by later false q = let r = later q in (suc r.0, r.1)

-- ---- methods

numbered : (trees : Program) (method : Member) (tree : MethodTree) → method_of trees method ≡ Some tree
    → (n : ℕ) × IsMethodAt trees n method
unfolding methods_of
numbered trees method tree e =
    let h = home_of trees method tree e in
    let at = found_at (is_named method.class) (classes_of trees) h.file h.is_class in
    let within = found_at (is_method h.file.pool method.name method.descriptor) h.file.methods tree h.is_declared in
    let r = in_flat members_of (classes_of trees) at.0 h.file within.0 (member_of h.file tree) at.1 (get_map (member_of h.file) h.file.methods within.0 tree within.1) in
    let same : member_of h.file tree ≡ method = λ i. record { class = h.named i; name = h.name i; descriptor = h.descriptor i } in
    (r.0, r.1 ∙ ap (λ (m : Member). Some m) same)

module _ (read : AreMethodsRead) (trees : Program) (p : LinkedProgram) (program : IsProgram trees p) where
  -- an abstract method has no code
  abstract_has_none : (method : Member) → is_one is_abstract_method trees method ≡ true → body_of trees method ≡ None
  abstract_has_none method h = by (method_of trees method) refl h
    where
      of_row : (o : Option Body) (b : MethodBody) → IsMethodBody trees p method o b → o ≡ None
      of_row None b r = refl
      of_row (Some x) (body.Code code) r = absurd (true≢false (sym h ∙ r.0))
      of_row (Some x) (body.BuiltIn of) r = absurd r
      of_row (Some x) body.Abstract r = absurd r

      by : (o : Option MethodTree) → method_of trees method ≡ o → option_map_or is_abstract_method o false ≡ true
          → body_of trees method ≡ None
      by None e q = absurd (false≢true q)
      by (Some tree) e q =
          let n = numbered trees method tree e in
          let has = read trees p program.linked n.0 method n.1 in
          of_row (body_of trees method) has.row.body has.linked.runs

  -- what is chosen is the method, or neither has code
  which : (method : Member) (o : Option Member) → if_concrete trees o ≡ if_concrete trees (Some method)
      → (o ≡ Some method) ⊎ ((option_and_then (body_of trees) o ≡ None) × (body_of trees method ≡ None))
  which method None e = by (is_one is_abstract_method trees method) refl e
    where
      by : (a : Bool) → is_one is_abstract_method trees method ≡ a
          → Fails AbstractMethod ≡ (if a then Fails AbstractMethod else Runs method)
          → (None ≡ Some method) ⊎ ((option_and_then (body_of trees) None ≡ None) × (body_of trees method ≡ None))
      by true h q = inr (refl, abstract_has_none method h)
      by false h q = absurd cc
  which method (Some other) e = by (is_one is_abstract_method trees other) (is_one is_abstract_method trees method) refl refl e
    where
      by : (b a : Bool) → is_one is_abstract_method trees other ≡ b → is_one is_abstract_method trees method ≡ a
          → (if b then Fails AbstractMethod else Runs other) ≡ (if a then Fails AbstractMethod else Runs method)
          → (Some other ≡ Some method) ⊎ ((body_of trees other ≡ None) × (body_of trees method ≡ None))
      by true true g h q = inr (abstract_has_none other g, abstract_has_none method h)
      by true false g h q = absurd cc
      by false true g h q = absurd cc
      by false false g h q = let same : other ≡ method = cc in inl (ap (λ (m : Member). Some m) same)

  is_run : (method : Member) (o : Option Member) (object : ℕ) (found : Option Callee) → IsCalleeOf trees p method object found
      → (o ≡ Some method) ⊎ ((option_and_then (body_of trees) o ≡ None) × (body_of trees method ≡ None)) → IsRunOf trees p o object found
  is_run method o object None h (inl same) = ap (option_and_then (body_of trees)) same ∙ h
  is_run method o object None h (inr none) = none.0
  is_run method o object (Some callee) h (inl same) = (method, same, h)
  is_run method o object (Some callee) h (inr none) = let e = sym none.1 ∙ h.is_body in absurd cc

  pub run_found : (number : ℕ) (o : Option Member) → IsChosenBy trees (Some number) (if_concrete trees o) → (object : ℕ)
      (found : Option Callee) → IsCalleeAt p number object found → IsRunOf trees p o object found
  run_found number o chosen object found callee = is_run chosen.method o object found (callee trees program chosen.method chosen.numbered) (which chosen.method o chosen.is)
