use Rattle.std.proofs.Common.{◌≡◌, ◌∙◌, ap, sym, List, ℕ, Some, map}
use Rattle.std.proofs.lemmas.Result.{err_from_is_err_and}
use Rattle.schedule.specs.Files.{Recording}
use Rattle.schedule.proofs.schedule_text.LimitLaws.{is_told, same_pair}
use Rattle.schedule.specs.schedule_text.Text.{entry_word}
use Rattle.schedule.proofs.schedule_text.recordings.recorded.Goals as goal

pub returns-in_err-recording-clause-only : goal.returns-in_err-recording-clause-only
returns-in_err-recording-clause-only c = λ r. λ es. λ fits. λ are. λ is.
    let p = err_from_is_err_and c.from_residual.result c.from_residual.ensures.1 in
    let told = is_told c.args.words.now r es (c.begins_with.ensures.is c.if-begins_with.true) fits are is in
    rw (p.1, p.2) (c.in_err-recording.ensures.only told.0 (map entry_word es) told.2 told.3)

pub returns-in_ok-recording-clause-only : goal.returns-in_ok-recording-clause-only
returns-in_ok-recording-clause-only c = λ r. λ es. λ fits. λ are. λ is.
    let told = is_told c.args.words.now r es (c.begins_with.ensures.is c.if-begins_with.true) fits are is in
    let read = c.in_ok-recording.ensures.only told.0 (map entry_word es) told.2 told.3 in
    let one : c.in_ok-recording.field-0 ≡ told.0 = ap (λ (p : Recording × List (List ℕ)). p.0) read in
    let left : c.recording.new.words ≡ map entry_word es = ap (λ (p : Recording × List (List ℕ)). p.1) read in
    same_pair _ _ _ _ (ap Some one ∙ sym told.1) left
