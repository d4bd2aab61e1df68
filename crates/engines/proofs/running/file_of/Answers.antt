use Rattle.std.proofs.Common.{◌∙◌, subst}
use Rattle.std.specs.Option.{option_map}
use Rattle.std.proofs.lemmas.Result.{IfOk-weaker}
use Rattle.model.specs.Schedule.{events_of}
use Rattle.schedule.specs.Joined.{RecordedFile}
use Rattle.engines.proofs.running.file_of.Goals as goal

pub returns : goal.returns
returns c =
    IfOk-weaker c.write_schedule.result _ _
    (λ bytes is. subst (λ told. RecordedFile bytes.items told (events_of c.args.schedule.now)) (c.as_ref.ensures.value ∙ c.in_ok-told.ensures)
    (subst (λ es. RecordedFile bytes.items (option_map (λ r. r.now) c.as_ref.result) es) c.in_ok-joined.ensures.same is))
    (c.write_schedule.ensures.joined c.in_ok-joined.ensures.joined)
