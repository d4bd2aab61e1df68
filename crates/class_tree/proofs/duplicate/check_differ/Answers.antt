use Rattle.std.proofs.Common.{◌≡◌, ◌∙◌, sym, ap, subst, refl, true, false, take, get_or}
use Rattle.std.specs.List.{list_any}
use Rattle.std.proofs.lemmas.Bool.{not-false, not-true}
use Rattle.model.specs.Conditions.{name_and_descriptor_at}
use Rattle.class_tree.specs.declared.duplicate.Firsts.{Firsts}
use Rattle.class_tree.proofs.Differ.{is_key, key_at, key_of, key_is, any_same, more_keys, more_differ, found_again}
use Rattle.class_tree.proofs.duplicate.check_differ.Goals as goal

pub returns-then-not-branch : goal.returns-then-not-branch
returns-then-not-branch g c =
    let pool = c.args.firsts.now in
    let name = g.T.Member.name_index in
    let descriptor = g.T.Member.descriptor_index in
    let members = c.args.members.now in
    let i = c.members.member-index in
    let item = c.member-item.result in
    let key : Firsts = key_of c.first.result c.first-in-members.result in
    let here : key ≡ key_at pool (name item) (descriptor item) = key_is pool c.first.result c.first-in-members.result c.name.result c.descriptor.result (name item) (descriptor item) c.first.ensures.value c.name.ensures c.first-in-members.ensures.value c.descriptor.ensures in
    let is : key ≡ key_at pool (name (get_or members i item)) (descriptor (get_or members i item)) = here ∙ ap (λ m. key_at pool (name m) (descriptor m)) c.member-item.is in
    let old : list_any (is_key key) c.members.seen.keys ≡ true = not-false _ (sym c.in_ok-insert.ensures.added ∙ c.if-not-branch.true) in
    let again : list_any (λ m. is_key key (key_at pool (name m) (descriptor m))) (take i members) ≡ true = sym (c.members.invariant.0 key) ∙ old in
    let same : list_any (λ m. is_key (key_at pool (name (get_or members i item)) (descriptor (get_or members i item))) (key_at pool (name m) (descriptor m))) (take i members) ≡ true =
    subst (λ (k : Firsts). list_any (λ m. is_key k (key_at pool (name m) (descriptor m))) (take i members) ≡ true) is again in
    (found_again (λ m. name_and_descriptor_at pool (name m) (descriptor m)) members i item c.members-test.true (sym (any_same pool name descriptor (get_or members i item) (take i members)) ∙ same), refl)

pub members-preserved : goal.members-preserved
members-preserved g c =
    let pool = c.args.firsts.now in
    let name = g.T.Member.name_index in
    let descriptor = g.T.Member.descriptor_index in
    let members = c.args.members.now in
    let i = c.members.member-index in
    let item = c.member-item.result in
    let key : Firsts = key_of c.first.result c.first-in-members.result in
    let here : key ≡ key_at pool (name item) (descriptor item) = key_is pool c.first.result c.first-in-members.result c.name.result c.descriptor.result (name item) (descriptor item) c.first.ensures.value c.name.ensures c.first-in-members.ensures.value c.descriptor.ensures in
    let is : key ≡ key_at pool (name (get_or members i item)) (descriptor (get_or members i item)) = here ∙ ap (λ m. key_at pool (name m) (descriptor m)) c.member-item.is in
    let new : list_any (is_key key) c.members.seen.keys ≡ false = not-true _ (sym c.in_ok-insert.ensures.added ∙ c.if-not-branch.false) in
    let first : list_any (λ m. is_key key (key_at pool (name m) (descriptor m))) (take i members) ≡ false = sym (c.members.invariant.0 key) ∙ new in
    let apart : list_any (λ m. is_key (key_at pool (name (get_or members i item)) (descriptor (get_or members i item))) (key_at pool (name m) (descriptor m))) (take i members) ≡ false =
    subst (λ (k : Firsts). list_any (λ m. is_key k (key_at pool (name m) (descriptor m))) (take i members) ≡ false) is first in (
      λ q. more_keys (λ m. key_at pool (name m) (descriptor m)) q key (list_any (is_key q) c.members.seen.keys) (list_any (is_key q) c.insert.new.self.keys) members i item c.members-test.true is (c.members.invariant.0 q) (c.in_ok-insert.ensures.updates.0 q),
      more_differ (λ m. name_and_descriptor_at pool (name m) (descriptor m)) members i item c.members-test.true c.members.invariant.1 (sym (any_same pool name descriptor (get_or members i item) (take i members)) ∙ apart),
    )
