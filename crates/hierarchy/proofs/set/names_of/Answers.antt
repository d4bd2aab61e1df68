use Rattle.std.proofs.Common.{◌≡◌, ◌∙◌, ℕ, ◌++◌, [], ◌∷◌, true, false, Bool, cond, List, map, take, get_or, sym, ap}
use Rattle.std.specs.List.{list_any}
use Rattle.std.proofs.lemmas.Bool.{not-false, not-true}
use Rattle.model.specs.Names.{Name, name_eq}
use Rattle.model.specs.Classes.{name_of, is_named}
use Rattle.class_tree.specs.declared.tree.ClassFile.{ClassFile}
use Rattle.class_tree.specs.View.{file_of}
use Rattle.hierarchy.specs.Set.{trees_of}
use Rattle.hierarchy.proofs.SetLaws.{among_by_name}
use Rattle.hierarchy.proofs.Adding.{names_more, differ_more, again_at}
use Rattle.hierarchy.proofs.set.names_of.Goals as goal

-- whether the name stands before, by the set of names
before : {K : Type 0} (items : K → Name) (keys : List K) (classes : List ClassFile) (i : ℕ) (class : ClassFile) (text : Name) (b : Bool)
    → map items keys ≡ map name_of (trees_of (take i classes)) → text ≡ name_of (file_of class) → class ≡ get_or classes i class
    → list_any (λ k. name_eq text (items k)) keys ≡ b
    → list_any (is_named (name_of (file_of (get_or classes i class)))) (trees_of (take i classes)) ≡ b
before items keys classes i class text b named is at h =
    ap (λ (n : Name). list_any (is_named n) (trees_of (take i classes))) (sym (is ∙ ap (λ (c : ClassFile). name_of (file_of c)) at)) ∙ sym (among_by_name items keys (trees_of (take i classes)) text named) ∙ h

pub overflow_sub-result : goal.overflow_sub-result
overflow_sub-result c =
    let class = c.index-classes-place.result in
    let text : c.in_ok-name.name.items ≡ name_of (file_of class) = c.in_ok-name.ensures.items ∙ c.class_name.ensures in
    let found = before (λ name. name.items) c.classes.names.keys c.args.classes.now c.classes.place class c.in_ok-name.name.items true c.classes.invariant.named text c.index-classes-place.is (not-false _ (sym c.in_ok-insert.ensures.added ∙ c.if-not-branch.true)) in
    (again_at c.args.classes.now c.classes.place c.args.built_in class c.classes-test.true c.requires.count c.requires.whole found).0

pub returns-then-not-branch-clause-refused : goal.returns-then-not-branch-clause-refused
returns-then-not-branch-clause-refused c =
    let class = c.index-classes-place.result in
    let text : c.in_ok-name.name.items ≡ name_of (file_of class) = c.in_ok-name.ensures.items ∙ c.class_name.ensures in
    let found = before (λ name. name.items) c.classes.names.keys c.args.classes.now c.classes.place class c.in_ok-name.name.items true c.classes.invariant.named text c.index-classes-place.is (not-false _ (sym c.in_ok-insert.ensures.added ∙ c.if-not-branch.true)) in
    let again = again_at c.args.classes.now c.classes.place c.args.built_in class c.classes-test.true c.requires.count c.requires.whole found in
    (again.1, again.2)

pub classes-preserved : goal.classes-preserved
classes-preserved c =
    let class = c.index-classes-place.result in
    let classes = c.args.classes.now in
    let i = c.classes.place in
    let text : c.in_ok-name.name.items ≡ name_of (file_of class) = c.in_ok-name.ensures.items ∙ c.class_name.ensures in
    let at : c.in_ok-name.name.items ≡ name_of (file_of (get_or classes i class)) = text ∙ ap (λ (k : ClassFile). name_of (file_of k)) c.index-classes-place.is in
    let new = not-true _ (sym c.in_ok-insert.ensures.added ∙ c.if-not-branch.false) in
    let none = before (λ name. name.items) c.classes.names.keys classes i class c.in_ok-name.name.items false c.classes.invariant.named text c.index-classes-place.is new in
    let keys : c.insert.new.self.keys ≡ c.classes.names.keys ++ c.in_ok-name.name ∷ [] = c.in_ok-insert.ensures.keys ∙ ap (λ b. cond b c.classes.names.keys (c.classes.names.keys ++ c.in_ok-name.name ∷ [])) new in
    record {
      named = ap (λ l. map (λ name. name.items) l) keys ∙ names_more (λ name. name.items) c.classes.names.keys c.in_ok-name.name classes i class c.classes-test.true c.classes.invariant.named at;
      differ = differ_more classes i class c.classes-test.true c.classes.invariant.differ none;
    }
