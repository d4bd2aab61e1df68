use Rattle.std.proofs.Common.{◌≡◌, length, vec_items, ap, ◌∙◌, arith}
use Rattle.std.specs.Prelude.{vec_len}
use Rattle.schedule.proofs.FileNumbers.{number_differs}
use Rattle.schedule.proofs.file_checksums.other_length.Goals as goal

pub returns-then-len-lengths-clause-same : goal.returns-then-len-lengths-clause-same
returns-then-len-lengths-clause-same c =
    let file = c.index-files-number.result in
    let long : vec_len file ≡ length (vec_items file) = omega (arith, file.ok.0) in
    let at_place = c.len.ensures ∙ long ∙ ap (λ v. length (vec_items v)) c.index-files-number.is in (
      (λ none. absurd cc),
      (λ same. absurd (number_differs length vec_items c.args.files.now c.args.lengths.now c.files.number file c.files-test.true (λ e. c.if-len-lengths.true (at_place ∙ e)) same)),
    )
