use Rattle.std.proofs.Common.{◌≡◌, ◌∙◌, drop, map, take, vec_items, ap, sym}
use Rattle.std.proofs.lemmas.List.{drop-map, take-map}
use Rattle.std.proofs.lemmas.Result.{IfOk-weaker}
use Rattle.schedule.specs.Files.{recording_of}
use Rattle.engines.proofs.recording.recording_over.Goals as goal

pub returns : goal.returns
returns c =
    let files = c.args.files.now in
    let given : map vec_items c.given_files.result.now ≡ take c.args.given (map vec_items files) = ap (map vec_items) c.given_files.ensures ∙ sym (take-map vec_items c.args.given files) in
    let added : map vec_items c.added_files.result.now ≡ drop c.args.given (map vec_items files) = ap (map vec_items) c.added_files.ensures ∙ sym (drop-map vec_items c.args.given files) in
    IfOk-weaker c.of_files.result _ _ (λ r is. is ∙ ap (λ f. recording_of c.args.limits f (map vec_items c.added_files.result.now)) given ∙ ap (recording_of c.args.limits (take c.args.given (map vec_items files))) added) c.of_files.ensures
