use Rattle.std.proofs.Common.{◌+◌, ◌*◌, ◌≤◌, arith, length, sym}
use Rattle.classfile.specs.View.{file_of}
use Rattle.model.specs.Classes.{classes_of}
use Rattle.linker.specs.linked_types.Components.{IsInPool, IsInProgram}
use Rattle.linker.proofs.linked_types.ComponentTypes.{grows_more, grows_then, all_more, all_named, only_then}
use Rattle.linker.proofs.linked_types.components.add_pools.Goals as goal

pub loop-place-preserved : goal.loop-place-preserved
loop-place-preserved c =
    let files = c.args.set.now in
    let place = c.loop-place.place in
    let old = c.args.components.now in
    let before = c.loop-place.components in
    let after = c.add_pool.new.components in
    let file = file_of c.in-Some.file.now in
    let so = c.loop-place.invariant in
    let most : place * 0x10000 + 0x10000 ≤ (place + 1) * 0x10000 = omega arith in (
      omega (arith, c.loop-place-test.true, c.count-place-end.ensures),
      grows_more files old after (place * 0x10000 + 0x10000) ((place + 1) * 0x10000) most (grows_then files old after before (place * 0x10000) 0x10000 so.1 c.in_ok-add_pool.ensures.grows),
      all_more files place file before after 0x10000 (sym c.in-Some.ensures) c.in_ok-add_pool.ensures.grows so.2 c.in_ok-add_pool.ensures.there,
      only_then old before after (IsInProgram files) (IsInPool file) (IsInProgram files) so.3 c.in_ok-add_pool.ensures.only (λ name is. is) (λ name is. (place, file, sym c.in-Some.ensures, is)),
    )

pub returns-clause-there : goal.returns-clause-there
returns-clause-there c =
    let files = c.args.set.now in
    let whole : length (classes_of files) ≤ c.loop-place.place = omega (arith, c.count-place-end.ensures, c.loop-place-test.false) in
    all_named files c.loop-place.place c.loop-place.components whole c.loop-place.invariant.2
