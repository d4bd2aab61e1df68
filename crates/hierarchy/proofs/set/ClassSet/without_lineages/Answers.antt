use Rattle.std.proofs.Common.{◌≡◌, ◌∙◌, ◌<◌, ℕ, List, [], length, map, sym, ap, subst, arith}
use Rattle.model.specs.Classes.{Program, classes_of, name_of}
use Rattle.model.specs.Linkable.{two_of_one_name}
use Rattle.class_tree.specs.declared.tree.ClassFile.{ClassFile}
use Rattle.hierarchy.specs.Set.{trees_of, files_of, IsRefused}
use Rattle.hierarchy.proofs.Adding.{new_trees, its_files, is_whole, all_differ}
use Rattle.hierarchy.proofs.KeyLaws.{no_keys}
use Rattle.hierarchy.proofs.set.ClassSet.without_lineages.Goals as goal

-- the empty table has no place
none_within : {A : Type 0} (place : ℕ) (xs : List A) → xs ≡ [] → place < length xs → ⊥
none_within place xs e l = omega (arith, l, ap length e)

pub names_of-requires-clause-whole : goal.names_of-requires-clause-whole
names_of-requires-clause-whole c =
    let all = new_trees c.in_ok-classes.classes.items c.args.files.items c.append.new.self.items c.in_ok-append.ensures.items c.in_ok-classes.ensures in
    subst (λ (l : List ClassFile). classes_of (files_of (trees_of l)) ≡ trees_of l) (sym c.deref.ensures.value) (is_whole c.append.new.self.items (trees_of c.args.files.items) all)

pub invariant_of-result : goal.invariant_of-result
invariant_of-result c =
    let all = new_trees c.in_ok-classes.classes.items c.args.files.items c.append.new.self.items c.in_ok-append.ensures.items c.in_ok-classes.ensures in
    record {
      whole = is_whole c.append.new.self.items (trees_of c.args.files.items) all;
      named = c.in-Ok.ensures.named ∙ ap (λ (l : List ClassFile). map name_of (trees_of l)) c.deref.ensures.value;
      lineages = λ place l. absurd (none_within place c.new.result.items c.new.ensures.items l);
      keyed = no_keys (files_of (trees_of c.append.new.self.items)) c.no_member_keys.result.texts c.no_member_keys.result.classes.items c.no_member_keys.ensures;
    }

pub returns-in-Ok-clause-set : goal.returns-in-Ok-clause-set
returns-in-Ok-clause-set c =
    its_files c.append.new.self.items (trees_of c.args.files.items) (new_trees c.in_ok-classes.classes.items c.args.files.items c.append.new.self.items c.in_ok-append.ensures.items c.in_ok-classes.ensures)

pub returns-in-Ok-clause-differ : goal.returns-in-Ok-clause-differ
returns-in-Ok-clause-differ c =
    let all = new_trees c.in_ok-classes.classes.items c.args.files.items c.append.new.self.items c.in_ok-append.ensures.items c.in_ok-classes.ensures in
    all_differ c.append.new.self.items (trees_of c.args.files.items) all (ap (λ (l : List ClassFile). two_of_one_name (trees_of l)) (sym c.deref.ensures.value) ∙ c.in-Ok.ensures.differ)

pub returns-clause-refused : goal.returns-clause-refused
returns-clause-refused c =
    let all = new_trees c.in_ok-classes.classes.items c.args.files.items c.append.new.self.items c.in_ok-append.ensures.items c.in_ok-classes.ensures in
    let files : files_of (trees_of c.deref.result.now) ≡ trees_of c.args.files.items = ap (λ (l : List ClassFile). files_of (trees_of l)) c.deref.ensures.value ∙ its_files c.append.new.self.items (trees_of c.args.files.items) all in
    subst (λ (fs : Program). IsRefused fs c.in-Err.refusal) files c.in-Err.ensures.refused
