use Rattle.std.proofs.Common.{◌≡◌, Some, sym, subst, arith}
use Rattle.std.specs.Prelude.{IfSome}
use Rattle.hierarchy.specs.Places.{name_at}
use Rattle.hierarchy.specs.Lineages.{depth_in, IsRaised}
use Rattle.hierarchy.proofs.LineageWalks.{raised_depth, join_of_first_raised, join_of_second_raised}
use Rattle.hierarchy.proofs.climb.common_superclass.Goals as goal

pub meeting-requires-clause-level : goal.meeting-requires-clause-level
meeting-requires-clause-level c =
    let files = c.args.set.now in
    let table = c.args.table.now in
    let r : IsRaised files table (depth_in table c.args.c) c.args.d c.in-Some.level = subst (λ k. IsRaised files table k c.args.d c.in-Some.level) c.depth_in-depth_c.ensures c.in-Some.ensures in
    record {
      of_first = c.if-c-table.false;
      of_second = r.within;
      level = sym (raised_depth files table c.requires.told (depth_in table c.args.c) c.args.d c.in-Some.level c.if-d-table.false (omega (arith, c.if-depth_c-depth_d.true, c.depth_in-depth_c.ensures, c.depth_in-depth_d.ensures)) r);
    }

pub returns-then-depth_c-depth_d : goal.returns-then-depth_c-depth_d
returns-then-depth_c-depth_d c =
    let files = c.args.set.now in
    let table = c.args.table.now in
    let r : IsRaised files table (depth_in table c.args.c) c.args.d c.in-Some.level = subst (λ k. IsRaised files table k c.args.d c.in-Some.level) c.depth_in-depth_c.ensures c.in-Some.ensures in
    subst (λ o. IfSome c.meeting.result (λ p. o ≡ Some (name_at files p)))
    (sym (join_of_second_raised files table c.requires.told c.args.c c.args.d c.in-Some.level c.if-c-table.false c.if-d-table.false (omega (arith, c.if-depth_c-depth_d.true, c.depth_in-depth_c.ensures, c.depth_in-depth_d.ensures)) r))
    c.meeting.ensures

pub meeting-requires-2-clause-level : goal.meeting-requires-2-clause-level
meeting-requires-2-clause-level c =
    let files = c.args.set.now in
    let table = c.args.table.now in
    let level = c.in-Some-raised.level in
    let r : IsRaised files table (depth_in table c.args.d) c.args.c level = subst (λ k. IsRaised files table k c.args.c level) c.depth_in-depth_d.ensures c.in-Some-raised.ensures in
    record {
      of_first = r.within;
      of_second = c.if-d-table.false;
      level = raised_depth files table c.requires.told (depth_in table c.args.d) c.args.c level c.if-c-table.false (omega (arith, c.if-depth_c-depth_d.false, c.depth_in-depth_c.ensures, c.depth_in-depth_d.ensures)) r;
    }

pub returns : goal.returns
returns c =
    let files = c.args.set.now in
    let table = c.args.table.now in
    let level = c.in-Some-raised.level in
    let r : IsRaised files table (depth_in table c.args.d) c.args.c level = subst (λ k. IsRaised files table k c.args.c level) c.depth_in-depth_d.ensures c.in-Some-raised.ensures in
    subst (λ o. IfSome c.meeting-2.result (λ p. o ≡ Some (name_at files p)))
    (sym (join_of_first_raised files table c.requires.told c.args.c c.args.d level c.if-c-table.false c.if-d-table.false (omega (arith, c.if-depth_c-depth_d.false, c.depth_in-depth_c.ensures, c.depth_in-depth_d.ensures)) r))
    c.meeting-2.ensures
