use Rattle.std.proofs.Common.{length}
use Rattle.model.specs.Classes.{classes_of}
use Rattle.linked_program.specs.type_tables.Rows.{AreCatchesIn}
use Rattle.std.proofs.Common.{◌≡◌, arith, ap, ◌∙◌}
use Rattle.linked_program.proofs.type_tables.PoolRows.{none_before, more_before, all_rows}
use Rattle.linked_program.proofs.type_tables.pool_rows.catch_rows.Goals as goal

pub loop-class-init : goal.loop-class-init
loop-class-init c = (omega arith, none_before c.args.linked.now (AreCatchesIn c.args.linked.now) c.new-rows.result.items c.new-rows.ensures.items)

pub loop-class-preserved : goal.loop-class-preserved
loop-class-preserved c =
    let files = c.args.linked.now in
    let count : c.count-class-end.result ≡ length (classes_of files) = c.count-class-end.ensures ∙ ap (λ f. length (classes_of f)) c.set.ensures.same in (
      omega (arith, count, c.loop-class-test.true),
      more_before files (AreCatchesIn c.args.linked.now) c.loop-class.rows.items c.push.new.self.items c.loop-class.class c.in_ok-catches_of.field-0 c.loop-class.invariant.1 c.in_ok-push.ensures.items
          (λ file at. (c.in_ok-catches_of.ensures.right file at, c.in_ok-catches_of.ensures.all file at)),
    )

pub returns : goal.returns
returns c =
    let files = c.args.linked.now in
    let count : c.count-class-end.result ≡ length (classes_of files) = c.count-class-end.ensures ∙ ap (λ f. length (classes_of f)) c.set.ensures.same in
    all_rows files (AreCatchesIn c.args.linked.now) c.loop-class.rows.items c.loop-class.class (omega (arith, count, c.loop-class-test.false, c.loop-class.invariant.0)) c.loop-class.invariant.1
