use Rattle.std.proofs.Common.{arith, ◌<◌, length, map, vec_items, inl, inr, refl, subst}
use Rattle.std.proofs.lemmas.List.{length-map}
use Rattle.std.proofs.lemmas.Result.{err_from_is_err_and}
use Rattle.std.specs.Io.KnownBytes.{Appends}
use Rattle.model.specs.Accepted.{IsAccepted}
use Rattle.model.specs.Devices.{AppendsFront}
use Rattle.engines.specs.Refusals.{IsRefused}
use Rattle.engines.specs.Sweeps.{IsSwept}
use Rattle.engines.proofs.RunLemmas.{few_files}
use Rattle.engines.proofs.SweepLemmas.{part_is_unswept, unread_is_unswept}
use Rattle.engines.proofs.sweep_runs.sweep_engine.Goals as goal

pub returns-in_err-read-clause-faulty : goal.returns-in_err-read-clause-faulty
returns-in_err-read-clause-faulty g c =
    let p = err_from_is_err_and c.from_residual.result c.from_residual.ensures.1 in
    let of_file = c.in_err-read.ensures.of_file in
    let remaining = g.S.Source.remaining in
    let within : of_file.0 < length (map remaining c.args.files.now) = omega (arith, of_file.1, length-map c.args.files.now remaining) in
    rw (p.1, p.2) (unread_is_unswept _ _ _ _ _ _ _ _ of_file.0 within of_file.2)

pub returns-in_err-verified-clause-faulty : goal.returns-in_err-verified-clause-faulty
returns-in_err-verified-clause-faulty g c =
    let p = err_from_is_err_and c.from_residual-in_err-verified.result c.from_residual-in_err-verified.ensures.1 in
    let refused = subst (λ files. IsRefused (map vec_items files) c.in_err-verified.field-0.0) c.as_slice-files.ensures.value c.in_err-verified.ensures.refused in
    rw (p.1, p.2) (refl, inr (map vec_items c.in_ok-read.read.items, c.in_ok-read.ensures.read, refused))

pub returns-in_err-told-clause-faulty : goal.returns-in_err-told-clause-faulty
returns-in_err-told-clause-faulty g c =
    let p = err_from_is_err_and c.from_residual-in_err-told.result c.from_residual-in_err-told.ensures.1 in
    rw (p.1, p.2) (inl refl)

pub returns-in_err-write_all-clause-faulty : goal.returns-in_err-write_all-clause-faulty
returns-in_err-write_all-clause-faulty g c =
    let p = err_from_is_err_and c.from_residual-in_err-write_all.result c.from_residual-in_err-write_all.ensures.1 in
    let trees = c.in_ok-verified.verified in
    let accepted = subst (λ files. IsAccepted (map vec_items files) trees) c.as_slice-files.ensures.value c.in_ok-verified.ensures.accepted in
    let told = c.in_ok-told.told in
    let task = c.args.task in
    let whole = subst (λ files. IsSwept task.given (map vec_items files) trees task.options.now task.sweep.now (g.P.Watch.may_stop c.args.watch.now) task.wanted.now told.text.items
    (map vec_items told.swept.schedules.items) told.swept.status) c.as_slice-files.ensures.value c.in_ok-told.ensures in
    let contents = g.W.Sink.contents in
    let written = subst (AppendsFront (contents c.args.report.now) (contents c.write_all.new.self)) c.as_slice.ensures.value c.in_err-write_all.ensures.part in
    rw (p.1, p.2) (part_is_unswept _ _ _ _ _ _ _ _ _ (inr (
      _,
      _,
      _,
      record { files = map vec_items c.in_ok-read.read.items; read = c.in_ok-read.ensures.read; trees = trees; accepted = accepted; swept = whole },
      written,
    )))

pub returns-clause-swept : goal.returns-clause-swept
returns-clause-swept g c =
    let trees = c.in_ok-verified.verified in
    let accepted = subst (λ files. IsAccepted (map vec_items files) trees) c.as_slice-files.ensures.value c.in_ok-verified.ensures.accepted in
    let told = c.in_ok-told.told in
    let task = c.args.task in
    let whole = subst (λ files. IsSwept task.given (map vec_items files) trees task.options.now task.sweep.now (g.P.Watch.may_stop c.args.watch.now) task.wanted.now told.text.items
    (map vec_items told.swept.schedules.items) told.swept.status) c.as_slice-files.ensures.value c.in_ok-told.ensures in
    let contents = g.W.Sink.contents in
    let written = subst (Appends (contents c.args.report.now) (contents c.write_all.new.self)) c.as_slice.ensures.value c.in_ok-write_all.ensures.written in
    (_, record { files = map vec_items c.in_ok-read.read.items; read = c.in_ok-read.ensures.read; trees = trees; accepted = accepted; swept = whole }, written)

pub swept-requires-after_bounds : goal.swept-requires-after_bounds
swept-requires-after_bounds g c = λ κs bounds.
    let files = c.as_slice-files.result.now in
    omega (arith, few_files (map vec_items files) c.in_ok-verified.verified c.in_ok-verified.ensures.accepted, length-map files vec_items)
