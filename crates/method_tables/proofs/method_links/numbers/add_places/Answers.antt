use Rattle.std.proofs.Common.{◌++◌}
use Rattle.method_tables.specs.method_links.Numbers.{places_in}
use Rattle.method_tables.proofs.method_links.Numbering.{place_pushed}
use Rattle.method_tables.proofs.method_links.numbers.add_places.Goals as goal

pub loop-member-preserved : goal.loop-member-preserved
loop-member-preserved c =
    place_pushed c.loop-member.places.items c.push.new.self.items (c.args.places.now.items ++ places_in c.args.class 0 c.args.count) c.args.class c.loop-member.member c.args.count
    c.loop-member-test.true c.in_ok-push.ensures.items c.loop-member.invariant
