use Rattle.std.proofs.Common.{◌≡◌, Some, arith, length, ap}
use Rattle.std.proofs.lemmas.List.{length-map}
use Rattle.constant_pool.specs.View.{entry_of}
use Rattle.model.specs.Pool.{class_name_at}
use Rattle.linker.specs.linked_types.Components.{IsInPool}
use Rattle.classfile.specs.View.{file_of}
use Rattle.linker.proofs.linked_types.ComponentTypes.{grows_more, grows_then, named_more, named_all, only_then}
use Rattle.linker.proofs.linked_types.components.add_pool.Goals as goal

pub loop-index-preserved : goal.loop-index-preserved
loop-index-preserved c =
    let files = c.args.set.now in
    let i = c.loop-index.index in
    let before = c.loop-index.components in
    let after = c.add_named.new.components in
    let so = c.loop-index.invariant in (
      omega (arith, c.loop-index-test.true, c.min-indices.ensures),
      grows_then files c.args.components.now after before i 1 so.1 c.in_ok-add_named.ensures.grows,
      named_more files (file_of c.args.file.now) i before after 1 c.in_ok-add_named.ensures.grows so.2 c.in_ok-add_named.ensures.there,
      only_then c.args.components.now before after (IsInPool (file_of c.args.file.now)) (λ name. class_name_at c.args.file.now.pool i ≡ Some name) (IsInPool (file_of c.args.file.now)) so.3 c.in_ok-add_named.ensures.only (λ name is. is) (λ name is. (i, is)),
    )

pub returns-clause-grows : goal.returns-clause-grows
returns-clause-grows c =
    let so = c.loop-index.invariant in
    grows_more c.args.set.now c.args.components.now c.loop-index.components c.loop-index.index 0x10000 so.0 so.1

pub returns-clause-there : goal.returns-clause-there
returns-clause-there c =
    let pool = c.args.file.now.pool in
    let entries : length c.constants.result.now ≡ length pool = omega (arith, ap length c.constants.ensures, length-map c.constants.result.now entry_of) in
    named_all c.args.set.now (file_of c.args.file.now) c.loop-index.index c.loop-index.components c.loop-index.invariant.2
    (λ k above below. omega (arith, below, above, entries, c.min-indices.ensures, c.loop-index-test.false))
