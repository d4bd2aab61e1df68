use Rattle.std.proofs.Common.{◌≡◌, ◌-◌, ◌<◌, ◌≤◌, length, sym, subst}
use Rattle.hierarchy.specs.Places.{name_at}
use Rattle.hierarchy.specs.Lineages.{depth_in, skip_in, class_above}
use Rattle.hierarchy.proofs.LineageLaws.{skipped}
use Rattle.hierarchy.proofs.LineageWalks.{raised_by_skip, raised_by_one}
use Rattle.hierarchy.proofs.climb.class_toward.Goals as goal

pub returns-then-depth-depth_in-clause-within : goal.returns-then-depth-depth_in-clause-within
returns-then-depth-depth_in-clause-within c =
    subst (λ p. p < length c.args.table.now) (sym c.skip_in-skip.ensures) (skipped c.args.set.now c.args.table.now c.requires.told c.args.place c.requires.within).within

pub returns-then-depth-depth_in-clause-above : goal.returns-then-depth-depth_in-clause-above
returns-then-depth-depth_in-clause-above c =
    let files = c.args.set.now in
    let table = c.args.table.now in
    let far : c.args.depth ≤ depth_in table (skip_in table c.args.place) = subst (λ p. c.args.depth ≤ depth_in table p) c.skip_in-skip.ensures (subst (λ n. c.args.depth ≤ n) c.depth_in.ensures c.if-depth-depth_in.true) in
    subst (λ p. class_above files (depth_in table c.args.place - c.args.depth) (name_at files c.args.place) ≡ class_above files (depth_in table p - c.args.depth) (name_at files p)) (sym c.skip_in-skip.ensures)
    (raised_by_skip files table c.requires.told c.args.place c.args.depth c.requires.within far)

pub returns-clause-within : goal.returns-clause-within
returns-clause-within c =
    subst (λ p. p < length c.args.table.now) (sym c.superclass_in.ensures) (raised_by_one c.args.set.now c.args.table.now c.requires.told c.args.place c.args.depth c.requires.within c.requires.deeper).0

pub returns-clause-above : goal.returns-clause-above
returns-clause-above c =
    let files = c.args.set.now in
    let table = c.args.table.now in
    subst (λ p. class_above files (depth_in table c.args.place - c.args.depth) (name_at files c.args.place) ≡ class_above files (depth_in table p - c.args.depth) (name_at files p)) (sym c.superclass_in.ensures)
    (raised_by_one files table c.requires.told c.args.place c.args.depth c.requires.within c.requires.deeper).1
