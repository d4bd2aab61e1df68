use Rattle.std.proofs.Common.{arith, ◌+◌, ◌∙◌, ◌++◌, List, ap, sym}
use Rattle.model.specs.Names.{Name}
use Rattle.constant_pool.specs.View.{entry_of}
use Rattle.library_files.specs.Names.{names_of_entry}
use Rattle.library_files.proofs.Naming.{names_more}
use Rattle.library_files.proofs.names.names_of.Goals as goal

pub loop-place-preserved : goal.loop-place-preserved
loop-place-preserved c =
    let texts = c.args.texts.now in
    let one = c.index-pool-place.result in
    c.in_ok-push_names.ensures
    ∙ ap (λ (l : List Name). l ++ names_of_entry texts (c.loop-place.place + 1) (entry_of one)) c.loop-place.invariant
    ∙ sym (names_more texts c.args.pool.now c.loop-place.place one (omega (arith, c.loop-place-test.true)) c.index-pool-place.is)
