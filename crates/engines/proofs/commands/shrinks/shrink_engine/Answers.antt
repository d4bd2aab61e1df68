use Rattle.std.proofs.Common.{inl, inr, map, refl, subst, vec_items}
use Rattle.std.proofs.lemmas.Result.{err_from_is_err_and}
use Rattle.std.specs.Arc.{arc_value}
use Rattle.std.specs.Io.KnownBytes.{Appends}
use Rattle.model.specs.Devices.{AppendsFront}
use Rattle.model.specs.Schedule.{events_of}
use Rattle.engines.specs.Opening.{IsKeptBy, IsOpened}
use Rattle.engines.specs.declared.recording.Conditions.{Conditions}
use Rattle.engines.proofs.ShrinkLemmas.{kept_is_unshrunk, part_is_unshrunk}
use Rattle.engines.proofs.commands.shrinks.shrink_engine.Goals as goal

pub returns-in_err-opened-clause-faulty : goal.returns-in_err-opened-clause-faulty
returns-in_err-opened-clause-faulty g c =
    let p = err_from_is_err_and c.from_residual.result c.from_residual.ensures.1 in
    let remaining = g.S.Source.remaining in
    let kept = subst (λ (conditions : Conditions). IsKeptBy (remaining c.args.schedule.now) (map remaining c.args.files.now) conditions c.in_err-opened.field-0.0)
    c.conditions_of.ensures c.in_err-opened.ensures.kept in
    rw (p.1, p.2) (kept_is_unshrunk _ _ _ _ _ _ _ _ kept)

pub returns-in_err-found-clause-faulty : goal.returns-in_err-found-clause-faulty
returns-in_err-found-clause-faulty g c =
    let p = err_from_is_err_and c.from_residual-in_err-found.result c.from_residual-in_err-found.ensures.1 in
    rw (p.1, p.2) (inl (refl, refl))

pub returns-in_err-write_all-clause-faulty : goal.returns-in_err-write_all-clause-faulty
returns-in_err-write_all-clause-faulty g c =
    let p = err_from_is_err_and c.from_residual-in_err-write_all.result c.from_residual-in_err-write_all.ensures.1 in
    let opened = c.in_ok-opened.ensures.opened in
    let given = c.in_ok-opened.opened in
    let of_options = subst (λ (conditions : Conditions). IsOpened opened.0 (map vec_items given.files.items) conditions (arc_value given.verified) (events_of given.schedule) given.limits given.gives_up)
    c.conditions_of.ensures opened.3 in
    let shrunk = c.in_ok-found.ensures opened.0 of_options in
    let contents = g.W.Sink.contents in
    let front = subst (AppendsFront (contents c.args.text.now) (contents c.write_all.new.self)) c.as_slice.ensures.value c.in_err-write_all.ensures.part in
    rw (p.1, p.2) (part_is_unshrunk _ _ _ _ _ _ _ _ _ _ (inr (_, _, (opened.0, _, opened.1, opened.2, shrunk), front)))

pub returns-clause-shrunk : goal.returns-clause-shrunk
returns-clause-shrunk g c =
    let opened = c.in_ok-opened.ensures.opened in
    let given = c.in_ok-opened.opened in
    let of_options = subst (λ (conditions : Conditions). IsOpened opened.0 (map vec_items given.files.items) conditions (arc_value given.verified) (events_of given.schedule) given.limits given.gives_up)
    c.conditions_of.ensures opened.3 in
    let shrunk = c.in_ok-found.ensures opened.0 of_options in
    let contents = g.W.Sink.contents in
    let written = subst (Appends (contents c.args.text.now) (contents c.write_all.new.self)) c.as_slice.ensures.value c.in_ok-write_all.ensures.written in
    (_, (opened.0, _, opened.1, opened.2, shrunk), written)
