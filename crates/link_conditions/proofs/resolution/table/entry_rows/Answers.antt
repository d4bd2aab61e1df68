use Rattle.std.proofs.Common.{rules, arith, ◌≡◌, ◌+◌, ◌∷◌, [], ◌++◌, List, length, ap, sym, subst}
use Rattle.std.proofs.lemmas.List.{length-append, length-map}
use Rattle.constant_pool.specs.View.{entry_of}
use Rattle.classfile.specs.View.{file_of}
use Rattle.link_conditions.specs.declared.resolution.table.Row.{Row}
use Rattle.link_conditions.specs.resolution.Rows.{row_of}
use Rattle.link_conditions.proofs.resolution.Rows.{Told, one_more, all_told}
use Rattle.link_conditions.proofs.resolution.table.entry_rows.Goals as goal

pub loop-index-preserved : goal.loop-index-preserved
loop-index-preserved c =
    let files = c.args.hierarchy.now in
    let file = file_of c.args.file.now in
    let rows = c.loop-index.rows.items in
    let pushed : c.push.new.self.items ≡ rows ++ c.entry_row.result ∷ [] = c.in_ok-push.ensures.items in
    let is_so : c.entry_row.result ≡ row_of files file c.loop-index.index = search rules in
    record {
      count = omega (arith, ap length pushed, length-append rows (c.entry_row.result ∷ []), c.loop-index.invariant.count);
      said = subst (λ (rs : List Row). Told files file rs (c.loop-index.index + 1)) (sym pushed) (one_more files file rows c.loop-index.index c.entry_row.result c.loop-index.invariant.count c.loop-index.invariant.said is_so);
    }

pub returns : goal.returns
returns c =
    let files = c.args.hierarchy.now in
    let file = file_of c.args.file.now in
    let entries : length c.constants.result.now ≡ length file.pool = omega (arith, ap length c.constants.ensures, length-map c.constants.result.now entry_of) in
    λ k below. all_told files file c.loop-index.rows.items c.loop-index.index c.loop-index.invariant.count c.loop-index.invariant.said k
    (λ above. omega (arith, below, above, entries, c.min-indices.ensures, c.loop-index-test.false))
