use Rattle.std.proofs.Common.{rules, arith, ◌≡◌, ℕ, length, ap, None}
use Rattle.std.specs.Option.{option_and_then}
use Rattle.std.proofs.lemmas.List.{length-map}
use Rattle.model.specs.Pool.{class_name_at, class_name_of}
use Rattle.constant_pool.specs.View.{entry_of}
use Rattle.hierarchy.specs.Places.{place_of}
use Rattle.linker.proofs.field_links.RowLaws.{told_more, told_all, no_entry}
use Rattle.linker.proofs.field_links.class_numbers.number_row.Goals as goal

pub loop-index-preserved : goal.loop-index-preserved
loop-index-preserved c =
    let files = c.args.set.now in
    let pool = c.args.file.now.pool in
    let is_so : c.number_of.result ≡ option_and_then (place_of files) (class_name_at pool c.loop-index.index) = search rules in
    told_more None (λ (k : ℕ). option_and_then (place_of files) (class_name_at pool k)) c.loop-index.row.items c.push.new.self.items c.loop-index.index c.number_of.result c.loop-index.invariant c.in_ok-push.ensures.items is_so

pub returns : goal.returns
returns c =
    let files = c.args.set.now in
    let pool = c.args.file.now.pool in
    let entries : length c.constants.result.now ≡ length pool = omega (arith, ap length c.constants.ensures, length-map c.constants.result.now entry_of) in
    λ k below. told_all None (λ (k : ℕ). option_and_then (place_of files) (class_name_at pool k)) c.loop-index.row.items c.loop-index.index c.loop-index.invariant k
    (λ above. ap (λ e. option_and_then (place_of files) (class_name_of pool e)) (no_entry pool k (omega (arith, below, above, entries, c.min-indices.ensures, c.loop-index-test.false))))
