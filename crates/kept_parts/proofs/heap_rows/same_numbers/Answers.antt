use Rattle.std.proofs.Common.{Some, ap, sym, ◌∙◌, arith}
use Rattle.std.proofs.lemmas.Option.{slice_get-get_or}
use Rattle.kept_parts.proofs.Numbers.{goes_on}
use Rattle.kept_parts.proofs.heap_rows.same_numbers.Goals as goal

pub same-preserved : goal.same-preserved
same-preserved c =
    goes_on c.args.heap.now c.args.before c.args.object c.same.at c.in-Some.number.now c.args.numbers.now.items c.same.numbers.items c.push.new.row.items
    (omega (arith, c.same-test.true, c.same_until-until.ensures.there c.requires.there)) c.requires.monitors
    (c.same_until-until.ensures.same c.same.at c.same.invariant.from (omega (arith, c.same-test.true))) c.same.invariant
    (slice_get-get_or c.args.before.objects.now c.same.at c.in-Some.number.now c.in-Some.ensures.lookup.3.0 ∙ ap Some (sym c.in-Some.ensures.lookup.1))
    c.in_ok-push-in-Some.ensures
