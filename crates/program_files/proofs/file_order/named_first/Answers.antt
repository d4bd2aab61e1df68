use Rattle.std.proofs.Common.{◌≡◌, ◌∙◌, ap, map, string_bytes, subst, sym}
use Rattle.std.specs.Prelude.{None, Some, position}
use Rattle.std.proofs.lemmas.List.{get_or_read}
use Rattle.std.proofs.lemmas.List.Quantifiers.{position-Some}
use Rattle.program_files.specs.Handed.{AreClasses, has_main, is_named, slashed}
use Rattle.program_files.proofs.HandedLemmas.{found_within}
use Rattle.program_files.proofs.file_order.named_first.Goals as goal

pub put_first-requires : goal.put_first-requires
put_first-requires g c =
    let held = g.F.Folder.held c.args.folder.now in
    let classes = c.in_ok-classes.classes.items in
    let are = subst (λ given. AreClasses held (map string_bytes given) classes) c.deref.ensures.value c.in_ok-classes.ensures.classes in
    found_within held (is_named c.as_slice.result.now) c.args.given.items classes c.in-Some.place are
    (ap (position (is_named c.as_slice.result.now)) (sym c.deref-2.ensures.value) ∙ sym c.place_of.ensures ∙ c.in-Some.is)

pub returns-clause-order : goal.returns-clause-order
returns-clause-order g c =
    let held = g.F.Folder.held c.args.folder.now in
    let classes = c.in_ok-classes.classes.items in
    let place = c.in-Some.place in
    let wanted : c.as_slice.result.now ≡ slashed c.args.name.now = c.as_slice.ensures.value ∙ c.in_ok-wanted.ensures in
    let found : position (is_named (slashed c.args.name.now)) classes ≡ Some place =
    ap (λ name. position (is_named name) classes) (sym wanted) ∙ ap (position (is_named c.as_slice.result.now)) (sym c.deref-2.ensures.value)
    ∙ sym c.place_of.ensures ∙ c.in-Some.is in
    let within = (position-Some (is_named (slashed c.args.name.now)) classes place None found).0 in
    record {
      classes = classes;
      are = subst (λ given. AreClasses held (map string_bytes given) classes) c.deref.ensures.value c.in_ok-classes.ensures.classes;
      place = place;
      found = found;
      mains = ap has_main (sym (get_or_read classes place c.index.result.now within c.index.ensures None)) ∙ sym c.has_main.ensures ∙ c.if-not-has_main.false;
      first = c.in_ok-put_first.ensures;
    }
