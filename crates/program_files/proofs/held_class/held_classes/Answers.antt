use Rattle.std.proofs.Common.{arith, ◌<◌, length, map, string_bytes, subst, subst₂, sym, take}
use Rattle.program_files.specs.Folders.{Reads}
use Rattle.program_files.specs.Handed.{AreClasses, IsHeld}
use Rattle.program_files.proofs.GivenLemmas.{map_more}
use Rattle.program_files.proofs.HandedLemmas.{classes_on}
use Rattle.program_files.proofs.held_class.held_classes.Goals as goal

pub loop-path-preserved : goal.loop-path-preserved
loop-path-preserved g c =
    let held = g.F.Folder.held c.args.folder.now in
    let paths = c.args.paths.now in
    let i = c.loop-path.path-index in
    let item = c.path-item.result in
    let class = c.in_ok-held_class.field-0 in
    let within : i < length paths = omega (arith, c.loop-path-test.true) in
    let reads = subst (λ path. Reads (held path) c.in_ok-bytes.bytes.items) c.as_str.ensures.value c.in_ok-bytes.ensures.read in
    let holds = subst (λ bytes. IsHeld bytes class) c.as_slice.ensures.value c.in_ok-held_class.ensures in
    subst₂ (AreClasses held) (sym (map_more string_bytes paths i item within c.path-item.is)) (sym c.in_ok-push.ensures.items)
    (classes_on held (map string_bytes (take i paths)) c.loop-path.classes.items (string_bytes item) class c.loop-path.invariant
    (c.in_ok-bytes.bytes.items, reads, holds))
