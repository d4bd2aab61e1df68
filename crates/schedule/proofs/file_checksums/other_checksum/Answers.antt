use Rattle.std.proofs.Common.{vec_items, ap, ◌∙◌}
use Rattle.schedule.specs.Files.{checksum_of}
use Rattle.schedule.proofs.FileNumbers.{number_differs}
use Rattle.schedule.proofs.file_checksums.other_checksum.Goals as goal

pub returns-then-checksum-checksums-clause-same : goal.returns-then-checksum-checksums-clause-same
returns-then-checksum-checksums-clause-same c =
    let file = c.index-files-number.result in
    let at_place = c.checksum.ensures ∙ ap checksum_of c.as_slice.ensures.value ∙ ap (λ v. checksum_of (vec_items v)) c.index-files-number.is in (
      (λ none. absurd cc),
      (λ same. absurd (number_differs checksum_of vec_items c.args.files.now c.args.checksums.now c.files.number file c.files-test.true (λ e. c.if-checksum-checksums.true (at_place ∙ e)) same)),
    )
