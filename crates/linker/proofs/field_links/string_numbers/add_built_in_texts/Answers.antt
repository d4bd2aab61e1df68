use Rattle.std.proofs.Common.{arith, ◌≤◌, ◌<◌, sym}
use Rattle.classfile.specs.View.{file_of}
use Rattle.linker.proofs.field_links.TextNumbers.{built_in_at, built_in_there, texts_behind, texts_done}
use Rattle.linker.proofs.field_links.string_numbers.add_built_in_texts.Goals as goal

pub loop-place-preserved : goal.loop-place-preserved
loop-place-preserved c =
    let i = c.loop-place.place in
    let file = file_of c.in-Some.class.now in
    let below : i < 37 = omega (arith, c.loop-place-test.true) in
    texts_behind c.loop-place.texts _ i c.loop-place.invariant _ file (built_in_at c.args.set.now i file below (sym c.in-Some.ensures)) c.in_ok-add_texts.ensures

pub returns-in_default : goal.returns-in_default
returns-in_default c =
    let below : c.loop-place.place < 37 = omega (arith, c.loop-place-test.true) in
    absurd (built_in_there c.args.set.now c.loop-place.place below (sym c.in_default.ensures))

pub returns : goal.returns
returns c =
    let past : 37 ≤ c.loop-place.place = omega (arith, c.loop-place-test.false) in
    texts_done c.loop-place.texts _ c.loop-place.place c.loop-place.invariant past
