use Rattle.std.proofs.Common.{◌≡◌, ◌∙◌, ◌-◌, ◌∷◌, [], ℕ, List, length, false, sym, ap, subst}
use Rattle.std.specs.Prelude.{option_map, ◌==◌}
use Rattle.constant_pool.specs.View.{reference_of}
use Rattle.model.specs.Names.{Name}
use Rattle.model.specs.Classes.{Program, classes_of, all_superinterfaces}
use Rattle.model.specs.Lookup.{method_in_class, any_method, first_found}
use Rattle.hierarchy.specs.declared.rows.Above.TheVariants as above
use Rattle.hierarchy.specs.Above.{rows_of}
use Rattle.hierarchy.specs.Fields.{HasSupertypes}
use Rattle.hierarchy.specs.Numbers.{names_of, named_rows}
use Rattle.hierarchy.specs.Places.{member_in}
use Rattle.hierarchy.proofs.PlaceLaws.{of_sought}
use Rattle.hierarchy.proofs.hierarchy.Hierarchy.method_in_superinterfaces.Goals as goal

-- the rows that are kept
kept : (files : Program) (names : List Name) (rows : List (List ℕ)) → HasSupertypes files (named_rows names rows) → (length rows == 0) ≡ false
    → named_rows names rows ≡ rows_of files above.Supertypes (length (classes_of files) - 1)
kept files names [] h some = absurd cc
kept files names (row ∷ rows) h some = h

pub row_with_superinterfaces-requires-clause-rows : goal.row_with_superinterfaces-requires-clause-rows
row_with_superinterfaces-requires-clause-rows c =
    let inside = c.self.inside in
    ap (named_rows inside.names) c.deref.ensures.value
    ∙ kept inside.set inside.names inside.supertypes.items c.self.invariant.rows.by_supertypes (ap (λ (l : List (List ℕ)). length l == 0) (sym c.deref.ensures.value) ∙ ap (λ n. n == 0) c.deref.ensures.len ∙ sym c.is_empty.ensures ∙ c.if-is_empty.false)

pub row_with_superinterfaces-requires-clause-flat : goal.row_with_superinterfaces-requires-clause-flat
row_with_superinterfaces-requires-clause-flat c = c.self.invariant.rows.by_flat c.if-not-self.false

pub returns-in-Some-clause-found : goal.returns-in-Some-clause-found
returns-in-Some-clause-found c =
    let ref = reference_of c.args.method in
    subst (λ (files : Program). option_map (λ p. member_in files ref p) c.method_among.result ≡ first_found (method_in_class files any_method ref) (all_superinterfaces files c.args.class.now)) c.self.view_is
    (of_sought (λ f n. option_map (λ p. member_in f n p) c.method_among.result ≡ first_found (method_in_class f any_method n) (names_of c.self.inside.names c.in-Some.row.now)) c.sought.result c.self.inside.set ref c.sought.ensures.files c.sought.ensures.member c.method_among.ensures.found
    ∙ c.in-Some.ensures)
