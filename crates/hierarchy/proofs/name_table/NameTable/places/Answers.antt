use Rattle.std.proofs.Common.{◌≡◌, length, drop, map, sym, arith}
use Rattle.hierarchy.specs.Places.{place_of}
use Rattle.hierarchy.proofs.RowLaws.{row_pushed, all_pushed, drop_past, drop_all}
use Rattle.hierarchy.proofs.name_table.NameTable.places.Goals as goal

pub loop-number-preserved : goal.loop-number-preserved
loop-number-preserved c =
    let names = c.args.self.now in
    row_pushed (place_of c.args.set.now) c.loop-number.places.items c.push.new.self.items c.place_of.result names c.loop-number.number c.in-Some.name.now (map (place_of c.args.set.now) names)
    (sym c.in-Some.ensures) c.place_of.ensures.place c.in_ok-push.ensures.items c.loop-number.invariant

pub returns-in_default : goal.returns-in_default
returns-in_default c =
    let names = c.args.self.now in
    all_pushed (place_of c.args.set.now) c.loop-number.places.items (map (place_of c.args.set.now) names) (drop c.loop-number.number names) (drop_past names c.loop-number.number (sym c.in_default.ensures)) c.loop-number.invariant

pub returns : goal.returns
returns c =
    let names = c.args.self.now in
    let end : c.loop-number.number ≡ length names = omega (arith, c.loop-number-test.false, c.loop-number.auto.number-end, c.count-number-end.ensures) in
    all_pushed (place_of c.args.set.now) c.loop-number.places.items (map (place_of c.args.set.now) names) (drop c.loop-number.number names) (drop_all names c.loop-number.number end) c.loop-number.invariant
