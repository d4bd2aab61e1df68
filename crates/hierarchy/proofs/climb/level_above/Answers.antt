use Rattle.std.proofs.Common.{◌≡◌, ◌<◌, length, sym, ap, ◌∙◌, subst}
use Rattle.model.specs.TypeJoin.{class_join}
use Rattle.hierarchy.specs.Places.{name_at}
use Rattle.hierarchy.specs.Lineages.{depth_in, skip_in, superclass_in}
use Rattle.hierarchy.proofs.LineageLaws.{skipped}
use Rattle.hierarchy.proofs.LineageWalks.{met_by_skip, met_by_one}
use Rattle.hierarchy.proofs.climb.level_above.Goals as goal

pub returns-then-depth_in-clause-level : goal.returns-then-depth_in-clause-level
returns-then-depth_in-clause-level c =
    let files = c.args.set.now in
    let table = c.args.table.now in
    record {
      of_first = subst (λ p. p < length table) (sym c.skip_in-first.ensures) (skipped files table c.requires.told c.args.level.first c.requires.level.of_first).within;
      of_second = subst (λ p. p < length table) (sym c.skip_in-second.ensures) (skipped files table c.requires.told c.args.level.second c.requires.level.of_second).within;
      level = sym c.depth_in.ensures ∙ c.if-depth_in.true ∙ c.depth_in-then-first-second.ensures;
    }

pub returns-then-depth_in-clause-join : goal.returns-then-depth_in-clause-join
returns-then-depth_in-clause-join c =
    let files = c.args.set.now in
    let table = c.args.table.now in
    let a = c.args.level.first in
    let b = c.args.level.second in
    let deep : depth_in table (skip_in table a) ≡ depth_in table (skip_in table b) =
    ap (depth_in table) (sym c.skip_in-first.ensures) ∙ sym c.depth_in.ensures ∙ c.if-depth_in.true ∙ c.depth_in-then-first-second.ensures ∙ ap (depth_in table) c.skip_in-second.ensures in
    met_by_skip files table c.requires.told a b c.requires.level.of_first c.requires.level.of_second c.requires.level.level (λ e. c.if-first-second.true (c.skip_in-first.ensures ∙ e ∙ sym c.skip_in-second.ensures)) deep
    ∙ ap (λ p. class_join files (name_at files p) (name_at files (skip_in table b))) (sym c.skip_in-first.ensures)
    ∙ ap (λ p. class_join files (name_at files c.skip_in-first.result) (name_at files p)) (sym c.skip_in-second.ensures)

pub returns-clause-level : goal.returns-clause-level
returns-clause-level c =
    let table = c.args.table.now in
    let met = met_by_one c.args.set.now table c.requires.told c.args.level.first c.args.level.second c.requires.level.of_first c.requires.level.of_second c.requires.level.level c.requires.differ c.requires.deep in
    record {
      of_first = subst (λ p. p < length table) (sym c.superclass_in.ensures) met.of_a;
      of_second = subst (λ p. p < length table) (sym c.superclass_in-2.ensures) met.of_b;
      level = ap (depth_in table) c.superclass_in.ensures ∙ met.level ∙ ap (depth_in table) (sym c.superclass_in-2.ensures);
    }

pub returns-clause-join : goal.returns-clause-join
returns-clause-join c =
    let files = c.args.set.now in
    let table = c.args.table.now in
    let met = met_by_one files table c.requires.told c.args.level.first c.args.level.second c.requires.level.of_first c.requires.level.of_second c.requires.level.level c.requires.differ c.requires.deep in
    met.join
    ∙ ap (λ p. class_join files (name_at files p) (name_at files (superclass_in table c.args.level.second))) (sym c.superclass_in.ensures)
    ∙ ap (λ p. class_join files (name_at files c.superclass_in.result) (name_at files p)) (sym c.superclass_in-2.ensures)
