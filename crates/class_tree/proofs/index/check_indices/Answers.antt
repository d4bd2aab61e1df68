use Rattle.std.proofs.Common.{◌≡◌, true, subst, List}
use Rattle.std.specs.List.{list_all}
use Rattle.std.proofs.lemmas.List.{map-id}
use Rattle.model.specs.Tree.{Entry}
use Rattle.constant_pool.specs.declared.reading.fault.Cause.TheVariants as causes
use Rattle.model.specs.Conditions.{entry_indices, names_class}
use Rattle.class_tree.proofs.Both.{met_first}
use Rattle.class_tree.proofs.index.check_indices.Goals as goal

pub returns : goal.returns
returns c =
    let file = c.args.file.now in
    let pool = file.pool in
    let entries : list_all (entry_indices pool) pool ≡ true = c.in_ok-check_indices.ensures in
    let this : names_class pool file.this_class ≡ true = rw c.requires at c.in_ok-class.ensures in
    let super : names_class pool file.super_class ≡ true = rw c.requires at c.in_ok-class-2.ensures in
    let listed : list_all (names_class c.args.texts.now) file.interfaces.items ≡ true = rw (c.deref.ensures.value, map-id) at c.in_ok-behind.ensures in
    let interfaces : list_all (names_class pool) file.interfaces.items ≡ true = subst (λ (p : List Entry). list_all (names_class p) file.interfaces.items ≡ true) c.requires listed in
    met_first causes.Index c.check_members.result _ _ entries (met_first causes.Index c.check_members.result _ _ this (met_first causes.Index c.check_members.result _ _ super (met_first causes.Index c.check_members.result _ _ interfaces c.check_members.ensures)))
