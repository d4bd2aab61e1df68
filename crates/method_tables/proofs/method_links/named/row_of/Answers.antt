use Rattle.std.proofs.Common.{rules, arith, ◌≡◌, ◌+◌, ◌<◌, ◌∷◌, [], ◌++◌, ℕ, List, Option, None, length, get_or, ap, sym, subst}
use Rattle.std.proofs.lemmas.List.{length-append, length-map}
use Rattle.constant_pool.specs.View.{entry_of}
use Rattle.method_tables.specs.method_links.Methods.{Names}
use Rattle.method_tables.specs.method_links.Named.{named_in}
use Rattle.method_tables.proofs.method_links.Naming.{each_more, all_named}
use Rattle.method_tables.proofs.method_links.named.row_of.Goals as goal

pub loop-index-preserved : goal.loop-index-preserved
loop-index-preserved c =
    let files = c.args.hierarchy.now in
    let pool = c.args.file.now.pool in
    let row = c.loop-index.row.items in
    let number = c.named_by_entry.result in
    let pushed : c.push.new.self.items ≡ row ++ number ∷ [] = c.in_ok-push.ensures.items in
    let is_so : Names files number (named_in files pool c.loop-index.index) = search rules in
    record {
      count = omega (arith, ap length pushed, length-append row (number ∷ []), c.loop-index.invariant.count);
      said = subst (λ (l : List (Option ℕ)). (k : ℕ) → k < c.loop-index.index + 1 → Names files (get_or l k None) (named_in files pool k)) (sym pushed)
          (each_more None (λ k o. Names files o (named_in files pool k)) row c.loop-index.index number c.loop-index.invariant.count c.loop-index.invariant.said is_so);
    }

pub returns : goal.returns
returns c =
    let files = c.args.hierarchy.now in
    let pool = c.args.file.now.pool in
    let entries : length c.constants.result.now ≡ length pool = omega (arith, ap length c.constants.ensures, length-map c.constants.result.now entry_of) in
    λ k below. all_named files pool c.loop-index.row.items c.loop-index.index c.loop-index.invariant.count c.loop-index.invariant.said k
    (λ above. omega (arith, below, above, entries, c.min-indices.ensures, c.loop-index-test.false))
