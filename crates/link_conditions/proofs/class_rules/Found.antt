-- What is found first.
use Rattle.std.proofs.Common.{◌≡◌, ℕ, ◌<◌, true, false, ◌&&◌, refl, sym, ◌∙◌, subst, Option, Some, None, ⊎_elim}
use Rattle.std.specs.Prelude.{position, slice_get, nat_lt, ◌==◌}
use Rattle.std.specs.Option.{option_and_then, option_map_or}
use Rattle.std.specs.List.{list_any}
use borrow.Author.Tests.{ltb-true, eqb-true}
use Rattle.std.proofs.lemmas.Bool.{or_left, or_right, or_from, and_parts, or_cases}
use Rattle.model.specs.Tree.{CodeTree, MethodTree, FileTree}
use Rattle.model.specs.Classes.{Program, code_in}
use Rattle.link_conditions.specs.declared.class_rules.place.RulePlace.{RulePlace}
use Rattle.link_conditions.specs.declared.class_rules.place.RulePlace.TheVariants.{Class, Method, Exception}
use Rattle.link_conditions.specs.class_rules.Rules.{class_breaks_rule, method_breaks_rule, entry_breaks_rule, breaks_rules, entry_breaks_rule_at, exception_breaks_rule_at, is_broken_at, comes_before, IsFirstBroken}
use Rattle.link_conditions.specs.class_rules.Finding.{first_entry_in, some_entry_in, FindsException}
use Rattle.link_conditions.proofs.class_rules.Lists.{passes, fails_before}
use Rattle.link_conditions.proofs.class_rules.Redeclared.{rules_apart}
use Rattle.constant_pool.proofs.Passing.{any_at, none_at, none_before}
use Rattle.hierarchy.proofs.Indices.{no_position}

module _ (files : Program) (file : FileTree) where
  -- ---- exception entries of a method

  pub no_entry : (m : MethodTree) → first_entry_in files file m ≡ None → some_entry_in files file m ≡ false
  no_entry m h = by (code_in m.parts) h
    where
      by : (o : Option CodeTree) → option_and_then (λ (c : CodeTree). position (entry_breaks_rule files file) c.exceptions) o ≡ None
          → option_map_or (λ (c : CodeTree). list_any (entry_breaks_rule files file) c.exceptions) o false ≡ false
      by None h = refl
      by (Some c) h = no_position (entry_breaks_rule files file) c.exceptions h

  none_there : (m : MethodTree) (entry : ℕ) → some_entry_in files file m ≡ false → exception_breaks_rule_at files file entry m ≡ false
  none_there m entry h = by (code_in m.parts) h
    where
      by : (o : Option CodeTree) → option_map_or (λ (c : CodeTree). list_any (entry_breaks_rule files file) c.exceptions) o false ≡ false
          → option_map_or (entry_breaks_rule_at files file entry) o false ≡ false
      by None h = refl
      by (Some c) h = none_at (entry_breaks_rule files file) c.exceptions entry h

  some_there : (m : MethodTree) (entry : ℕ) → exception_breaks_rule_at files file entry m ≡ true → some_entry_in files file m ≡ true
  some_there m entry h = by (code_in m.parts) h
    where
      by : (o : Option CodeTree) → option_map_or (entry_breaks_rule_at files file entry) o false ≡ true
          → option_map_or (λ (c : CodeTree). list_any (entry_breaks_rule files file) c.exceptions) o false ≡ true
      by None h = absurd cc
      by (Some c) h = any_at (entry_breaks_rule files file) c.exceptions entry h

  entry_there : (m : MethodTree) (entry : ℕ) → first_entry_in files file m ≡ Some entry → exception_breaks_rule_at files file entry m ≡ true
  entry_there m entry h = by (code_in m.parts) h
    where
      by : (o : Option CodeTree) → option_and_then (λ (c : CodeTree). position (entry_breaks_rule files file) c.exceptions) o ≡ Some entry
          → option_map_or (entry_breaks_rule_at files file entry) o false ≡ true
      by None h = absurd cc
      by (Some c) h = passes (entry_breaks_rule files file) c.exceptions entry h

  none_earlier : (m : MethodTree) (entry other : ℕ) → first_entry_in files file m ≡ Some entry → other < entry
      → exception_breaks_rule_at files file other m ≡ false
  none_earlier m entry other h lt = by (code_in m.parts) h
    where
      by : (o : Option CodeTree) → option_and_then (λ (c : CodeTree). position (entry_breaks_rule files file) c.exceptions) o ≡ Some entry
          → option_map_or (entry_breaks_rule_at files file other) o false ≡ false
      by None h = absurd cc
      by (Some c) h = fails_before (entry_breaks_rule files file) c.exceptions entry other h lt

  -- ---- the same of a method that may be there

  none_of : (o : Option MethodTree) (entry : ℕ) → option_map_or (some_entry_in files file) o false ≡ false
      → option_map_or (exception_breaks_rule_at files file entry) o false ≡ false
  none_of None entry h = refl
  none_of (Some m) entry h = none_there m entry h

  entry_of : (o : Option MethodTree) (entry : ℕ) → option_and_then (first_entry_in files file) o ≡ Some entry
      → option_map_or (exception_breaks_rule_at files file entry) o false ≡ true
  entry_of None entry h = absurd cc
  entry_of (Some m) entry h = entry_there m entry h

  some_of : (o : Option MethodTree) (entry : ℕ) → option_map_or (exception_breaks_rule_at files file entry) o false ≡ true
      → option_map_or (some_entry_in files file) o false ≡ true
  some_of None entry h = absurd cc
  some_of (Some m) entry h = some_there m entry h

  none_earlier_of : (o : Option MethodTree) (entry other : ℕ) → option_and_then (first_entry_in files file) o ≡ Some entry → other < entry
      → option_map_or (exception_breaks_rule_at files file other) o false ≡ false
  none_earlier_of None entry other h lt = absurd cc
  none_earlier_of (Some m) entry other h lt = none_earlier m entry other h lt

  -- ---- the whole

  pub by_class : class_breaks_rule files file ≡ true → breaks_rules files file ≡ true
  by_class h = rules_apart files file ∙ or_left (class_breaks_rule files file) _ h

  pub class_first : class_breaks_rule files file ≡ true → IsFirstBroken files file Class
  class_first h = record { broken = h; none_before = before }
    where
      before : (earlier : RulePlace) → comes_before earlier Class ≡ true → is_broken_at files file earlier ≡ false
      before Class e = absurd cc
      before (Method j) e = absurd cc
      before (Exception j other) e = absurd cc

  pub by_method : (k : ℕ) → position (method_breaks_rule files file) file.methods ≡ Some k → breaks_rules files file ≡ true
  by_method k h =
      rules_apart files file
      ∙ or_right (class_breaks_rule files file) _ (or_left (list_any (method_breaks_rule files file) file.methods) _ (any_at (method_breaks_rule files file) file.methods k (passes (method_breaks_rule files file) file.methods k h)))

  pub method_first : (k : ℕ) → class_breaks_rule files file ≡ false → position (method_breaks_rule files file) file.methods ≡ Some k
      → IsFirstBroken files file (Method k)
  method_first k class h = record { broken = passes (method_breaks_rule files file) file.methods k h; none_before = before }
    where
      before : (earlier : RulePlace) → comes_before earlier (Method k) ≡ true → is_broken_at files file earlier ≡ false
      before Class e = class
      before (Method j) e = fails_before (method_breaks_rule files file) file.methods k j h (ltb-true _ _ e)
      before (Exception j other) e = absurd cc

  pub by_exception : (k entry : ℕ) → FindsException files file (Some (k, entry)) → breaks_rules files file ≡ true
  by_exception k entry h =
      rules_apart files file
      ∙ or_right (class_breaks_rule files file) _
      (or_right (list_any (method_breaks_rule files file) file.methods) _
      (any_at (some_entry_in files file) file.methods k (some_of (slice_get file.methods k) entry (entry_of (slice_get file.methods k) entry h.1))))

  pub exception_first : (k entry : ℕ) → class_breaks_rule files file ≡ false → position (method_breaks_rule files file) file.methods ≡ None
      → FindsException files file (Some (k, entry)) → IsFirstBroken files file (Exception k entry)
  exception_first k entry class methods h = record { broken = entry_of (slice_get file.methods k) entry h.1; none_before = before }
    where
      before : (earlier : RulePlace) → comes_before earlier (Exception k entry) ≡ true → is_broken_at files file earlier ≡ false
      before Class e = class
      before (Method j) e = none_at (method_breaks_rule files file) file.methods j (no_position (method_breaks_rule files file) file.methods methods)
      before (Exception j other) e =
          ⊎_elim
          (λ lt. none_of (slice_get file.methods j) other (none_before (some_entry_in files file) file.methods k j (ltb-true _ _ lt) h.0))
          (λ later.
          let same : j ≡ k = eqb-true _ _ (and_parts (j == k) _ later).0 in
          subst (λ (n : ℕ). option_map_or (exception_breaks_rule_at files file other) (slice_get file.methods n) false ≡ false) (sym same)
          (none_earlier_of (slice_get file.methods k) entry other h.1 (ltb-true _ _ (and_parts (j == k) _ later).1)))
          (or_cases (nat_lt j k) (j == k && nat_lt other entry) e)

  pub by_none : class_breaks_rule files file ≡ false → position (method_breaks_rule files file) file.methods ≡ None
      → FindsException files file None → breaks_rules files file ≡ false
  by_none class methods h = rules_apart files file ∙ or_from _ _ class (or_from _ _ (no_position (method_breaks_rule files file) file.methods methods) h)
