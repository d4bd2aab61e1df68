use Rattle.std.proofs.Common.{◌+◌, ◌∙◌, ap, inr, map, subst, sym, vec_items}
use Rattle.std.specs.Prelude.{sum_by}
use Rattle.std.specs.Arc.{arc_value}
use Rattle.std.proofs.lemmas.Result.{err_from_is_err_and}
use Rattle.model.specs.Accepted.{IsAccepted}
use Rattle.model.specs.Classes.{Program}
use Rattle.model.specs.Schedule.{events_of}
use Rattle.engines.specs.Engines.{CountsWith}
use Rattle.engines.specs.Recordings.{Disagrees, FitsFiles}
use Rattle.engines.specs.Refusals.{IsRefused}
use Rattle.engines.proofs.PlaceLemmas.{unfollowed_counts, unfollowed_is_after, unfollowed_is_kept, unread_is_kept, words_give, words_spell}
use Rattle.engines.proofs.opening.open.Goals as goal

pub returns-in_err-words-clause-kept : goal.returns-in_err-words-clause-kept
returns-in_err-words-clause-kept g c =
    let p = err_from_is_err_and c.from_residual.result c.from_residual.ensures.1 in
    rw (p.1, p.2) (unread_is_kept _ _ _ _ c.in_err-words.ensures.kept)

pub returns-in_err-limits-clause-schedule_first : goal.returns-in_err-limits-clause-schedule_first
returns-in_err-limits-clause-schedule_first g c =
    let p = err_from_is_err_and c.from_residual-in_err-limits.result c.from_residual-in_err-limits.ensures.1 in
    let words = c.in_ok-words.ensures.read in
    let spells = words_spell words.0 c.in_ok-words.recorded c.in_ok-words.words words.2 in
    let disagrees = subst (λ files. Disagrees c.in_ok-words.recorded (map vec_items files) c.args.conditions.now c.in_err-limits.field-0.0) c.as_slice.ensures.value c.in_err-limits.ensures.refused in
    rw (p.1, p.2) (λ _. inr (words.0, _, _, words.1, c.in_ok-files.ensures.read, spells, disagrees))

pub returns-in_err-limits-clause-kept : goal.returns-in_err-limits-clause-kept
returns-in_err-limits-clause-kept g c =
    let p = err_from_is_err_and c.from_residual-in_err-limits.result c.from_residual-in_err-limits.ensures.1 in
    let words = c.in_ok-words.ensures.read in
    let spells = words_spell words.0 c.in_ok-words.recorded c.in_ok-words.words words.2 in
    let disagrees = subst (λ files. Disagrees c.in_ok-words.recorded (map vec_items files) c.args.conditions.now c.in_err-limits.field-0.0) c.as_slice.ensures.value c.in_err-limits.ensures.refused in
    rw (p.1, p.2) (inr (inr (words.0, _, _, words.1, c.in_ok-files.ensures.read, spells, disagrees)))

pub returns-in_err-accepted-clause-kept : goal.returns-in_err-accepted-clause-kept
returns-in_err-accepted-clause-kept g c =
    let p = err_from_is_err_and c.from_residual-in_err-accepted.result c.from_residual-in_err-accepted.ensures.1 in
    let words = c.in_ok-words.ensures.read in
    let options = c.args.conditions.now in
    let fits = subst (λ files. FitsFiles options.any_files options.given c.in_ok-words.recorded (map vec_items files)) c.as_slice.ensures.value c.in_ok-limits.ensures.files in
    let refused = subst (λ files. IsRefused (map vec_items files) c.in_err-accepted.field-0.0) c.as_slice-2.ensures.value c.in_err-accepted.ensures.refused in
    rw (p.1, p.2)
    (inr (record {
      schedule = words.0;
      files = map vec_items c.in_ok-files.files.items;
      recorded = c.in_ok-words.recorded;
      read = words.1;
      read_files = c.in_ok-files.ensures.read;
      given = words_spell words.0 c.in_ok-words.recorded c.in_ok-words.words words.2;
      fits_files = fits;
      fits_options = c.in_ok-limits.ensures.options;
      refused = refused;
    }))

pub returns-in_err-given-clause-kept : goal.returns-in_err-given-clause-kept
returns-in_err-given-clause-kept g c =
    let p = err_from_is_err_and c.from_residual-in_err-given.result c.from_residual-in_err-given.ensures.1 in
    let words = c.in_ok-words.ensures.read in
    let files = map vec_items c.in_ok-files.files.items in
    let trees = arc_value c.in_ok-verified.verified in
    let value = subst (λ all. IsAccepted (map vec_items all) c.in_ok-accepted.field-0) c.as_slice-2.ensures.value c.in_ok-accepted.ensures.accepted in
    let accepted = subst (λ (t : Program). IsAccepted files t) (sym c.in_ok-verified.ensures.ok) value in
    rw (p.1, p.2)
    (unfollowed_is_kept _ _ c.args.conditions.now words.0 files c.in_ok-words.recorded trees words.1 c.in_ok-files.ensures.read accepted c.in_ok-words.words
    c.in_err-given.field-0.0 words.2 c.in_err-given.ensures.missing)

pub returns-in_err-given-clause-schedule_first : goal.returns-in_err-given-clause-schedule_first
returns-in_err-given-clause-schedule_first g c =
    let p = err_from_is_err_and c.from_residual-in_err-given.result c.from_residual-in_err-given.ensures.1 in
    let words = c.in_ok-words.ensures.read in
    let files = map vec_items c.in_ok-files.files.items in
    let trees = arc_value c.in_ok-verified.verified in
    let value = subst (λ all. IsAccepted (map vec_items all) c.in_ok-accepted.field-0) c.as_slice-2.ensures.value c.in_ok-accepted.ensures.accepted in
    let accepted = subst (λ (t : Program). IsAccepted files t) (sym c.in_ok-verified.ensures.ok) value in
    rw (p.1, p.2)
    (λ of_schedule. inr (unfollowed_is_after _ _ c.args.conditions.now words.0 files c.in_ok-words.recorded trees words.1 c.in_ok-files.ensures.read accepted c.in_ok-words.words
    c.in_err-given.field-0.0 words.2 c.in_err-given.ensures.missing of_schedule))

pub returns-in_err-given-clause-counted : goal.returns-in_err-given-clause-counted
returns-in_err-given-clause-counted g c =
    let p = err_from_is_err_and c.from_residual-in_err-given.result c.from_residual-in_err-given.ensures.1 in
    let failures = g.S.Source.failures in
    let fault = c.in_err-given.field-0.0 in
    let old = failures c.args.schedule.now + sum_by failures c.args.files.now in
    let same = ap (λ n. n + sum_by failures c.read_class_files.new.files) c.in_ok-words.ensures.counted ∙ ap (λ n. failures c.args.schedule.now + n) c.in_ok-files.ensures.counted in
    rw (p.1, p.2)
    (subst (λ n. CountsWith fault old n) (sym same) (unfollowed_counts c.in_ok-words.words (arc_value c.in_ok-verified.verified) fault old c.in_err-given.ensures.missing))

pub returns-clause-opened : goal.returns-clause-opened
returns-clause-opened g c =
    let words = c.in_ok-words.ensures.read in
    let options = c.args.conditions.now in
    let files = map vec_items c.in_ok-files.files.items in
    let trees = arc_value c.in_ok-verified.verified in
    let value = subst (λ all. IsAccepted (map vec_items all) c.in_ok-accepted.field-0) c.as_slice-2.ensures.value c.in_ok-accepted.ensures.accepted in
    let accepted = subst (λ (t : Program). IsAccepted files t) (sym c.in_ok-verified.ensures.ok) value in
    let fits = subst (λ all. FitsFiles options.any_files options.given c.in_ok-words.recorded (map vec_items all)) c.as_slice.ensures.value c.in_ok-limits.ensures.files in
    let run = c.in_ok-given in (
      words.0,
      words.1,
      c.in_ok-files.ensures.read,
      record {
        recorded = c.in_ok-words.recorded;
        given = words_give words.0 trees c.in_ok-limits.limits options.budget c.in_ok-words.recorded c.in_ok-words.words (events_of run.given.schedule) run.given.gives_up words.2 run.ensures.gives;
        fits_files = fits;
        fits_options = c.in_ok-limits.ensures.options;
        limited = c.in_ok-limits.ensures.limits;
        accepted = accepted;
      },
    )
