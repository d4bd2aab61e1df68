use Rattle.std.proofs.Common.{rules, arith, ◌≡◌, ◌+◌, ◌++◌, ◌∙◌, List, ℕ, sym, ap, length, drop, flat_map}
use Rattle.std.specs.List.{filter}
use Rattle.classfile.specs.View.{file_of}
use Rattle.model.specs.AccessFlags.{is_static_field}
use Rattle.model.specs.Opening.{static_fields_in}
use Rattle.linker.specs.field_links.Slots.{static_ends}
use Rattle.linker.proofs.field_links.Loops.{end_pushed, end_within}
use Rattle.linker.proofs.field_links.Bounds.{statics_fit}
use Rattle.linker.proofs.field_links.statics.static_ends.Goals as goal

pub loop-number-init : goal.loop-number-init
loop-number-init c = record {
  ends = ap (λ (l : List ℕ). l ++ static_ends 0 c.args.set.now) c.new-ends.ensures.items;
  total = omega arith;
}

pub overflow_add-end : goal.overflow_add-end
overflow_add-end c =
    let files = c.args.set.now in
    let file = file_of c.in-Some.file.now in
    let counted : c.static_count-end.result ≡ length (filter is_static_field file.fields) = search rules in
    let after = end_within files c.loop-number.number file (sym c.in-Some.ensures) c.loop-number.end _ c.loop-number.invariant.total in
    omega (arith, counted, after, statics_fit files c.requires)

pub loop-number-preserved : goal.loop-number-preserved
loop-number-preserved c =
    let files = c.args.set.now in
    let file = file_of c.in-Some.file.now in
    let counted : c.static_count-end.result ≡ length (filter is_static_field file.fields) = search rules in
    record {
      ends = end_pushed files c.loop-number.number file (sym c.in-Some.ensures) c.loop-number.ends.items c.push.new.self.items (static_ends 0 files) c.loop-number.end _ (ap (λ n. c.loop-number.end + n) counted) c.in_ok-push.ensures.items c.loop-number.invariant.ends;
      total = ap (λ n. (c.loop-number.end + n) + length (flat_map static_fields_in (drop (c.loop-number.number + 1) files))) counted ∙ end_within files c.loop-number.number file (sym c.in-Some.ensures) c.loop-number.end _ c.loop-number.invariant.total;
    }
