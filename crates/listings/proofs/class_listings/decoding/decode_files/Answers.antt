use Rattle.std.proofs.Common.{◌≡◌, ◌++◌, [], ◌∷◌, ◌∙◌, map, ap}
use Rattle.std.specs.Prelude.{if◌then◌else◌}
use Rattle.std.proofs.lemmas.Result.{err_from_is_err_and}
use Rattle.classfile.specs.View.{file_of}
use Rattle.listings.proofs.class_listings.Listed.{refused_at, spelled_next}
use Rattle.listings.proofs.class_listings.decoding.decode_files.Goals as goal

pub returns-in_err-tree-clause-refused : goal.returns-in_err-tree-clause-refused
returns-in_err-tree-clause-refused c =
    let p = err_from_is_err_and c.from_residual.result c.from_residual.ensures.1 in
    rw (p.1, p.2) (refused_at c.args.files.now c.loop-number.number c.index-files-number.result c.deref.result.now (map file_of c.loop-number.trees.items) c.in_err-tree.field-0.0
    c.loop-number-test.true c.index-files-number.is c.deref.ensures.value c.loop-number.invariant.spelled c.in_err-tree.ensures.refused)

pub loop-number-preserved : goal.loop-number-preserved
loop-number-preserved c =
    let trees = c.loop-number.trees.items in
    let pushed : c.push.new.self.items ≡ trees ++ c.in_ok-tree.tree ∷ [] =
    c.push.ensures.items ∙ ap (λ b. if b then trees ++ c.in_ok-tree.tree ∷ [] else trees) c.if-is_err.ensures.negation in
    record {
      spelled = spelled_next c.args.files.now c.loop-number.number c.index-files-number.result c.deref.result.now trees c.push.new.self.items c.in_ok-tree.tree
          c.loop-number-test.true c.index-files-number.is c.deref.ensures.value c.loop-number.invariant.spelled c.in_ok-tree.ensures.spelled pushed;
    }
