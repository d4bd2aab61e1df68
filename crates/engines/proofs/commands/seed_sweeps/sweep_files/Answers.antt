use Rattle.std.proofs.Common.{None, inl, inr, map, refl, subst, take, vec_items}
use Rattle.std.proofs.lemmas.Result.{err_from_is_err_and}
use Rattle.engines.specs.Files.{IsWith}
use Rattle.engines.specs.OutcomeFiles.{written_in}
use Rattle.engines.proofs.SweepLemmas.{unable_of}
use Rattle.engines.proofs.commands.seed_sweeps.sweep_files.Goals as goal

pub returns-in_err-try_outcomes-clause-faulty : goal.returns-in_err-try_outcomes-clause-faulty
returns-in_err-try_outcomes-clause-faulty g c =
    let p = err_from_is_err_and c.from_residual.result c.from_residual.ensures.1 in
    rw (p.1, p.2) (None, inl (unable_of c.in_err-try_outcomes.field-0.0, refl, refl), λ path. refl)

pub returns-in_err-wanted-clause-faulty : goal.returns-in_err-wanted-clause-faulty
returns-in_err-wanted-clause-faulty g c =
    let p = err_from_is_err_and c.from_residual-in_err-wanted.result c.from_residual-in_err-wanted.ensures.1 in
    rw (p.1, p.2) (None, inl (c.in_err-wanted.ensures.unable, refl, refl), λ path. refl)

pub returns-in_err-swept-clause-faulty : goal.returns-in_err-swept-clause-faulty
returns-in_err-swept-clause-faulty g c =
    let p = err_from_is_err_and c.from_residual-in_err-swept.result c.from_residual-in_err-swept.ensures.1 in
    rw (p.1, p.2) (
      None,
      inr (inl (record { want = c.in_ok-wanted.wanted; asked = c.in_ok-wanted.ensures.asked; unswept = c.in_err-swept.ensures.faulty; recorded = refl })),
      λ path. refl,
    )

pub returns-in_err-store_outcomes-clause-faulty : goal.returns-in_err-store_outcomes-clause-faulty
returns-in_err-store_outcomes-clause-faulty g c =
    let p = err_from_is_err_and c.from_residual-in_err-store_outcomes.result c.from_residual-in_err-store_outcomes.ensures.1 in
    let held = g.F.Folder.held in
    let options = c.args.options.now in
    let swept = c.in_ok-swept.ensures.swept in
    let schedules = map vec_items c.in_ok-swept.swept.schedules.items in
    let front = c.in_err-store_outcomes.ensures.front in
    let with = subst (λ items. IsWith (held c.args.folder.now) (held c.store_outcomes.new.folder) (written_in options.record (take front.0 (map vec_items items)))) c.as_slice-schedules.ensures.value front.1 in
    rw (p.1, p.2) (
      written_in options.record (take front.0 schedules),
      inr (inr (record {
        want = c.in_ok-wanted.wanted;
        asked = c.in_ok-wanted.ensures.asked;
        text = swept.0;
        schedules = schedules;
        status = c.in_ok-swept.swept.status;
        sweeps = swept.1;
        appends = swept.2;
        unable = unable_of c.in_err-store_outcomes.field-0.0;
        count = front.0;
        recorded = refl;
      })),
      with,
    )

pub returns-clause-done : goal.returns-clause-done
returns-clause-done g c =
    let held = g.F.Folder.held in
    let options = c.args.options.now in
    let swept = c.in_ok-swept.ensures.swept in
    let schedules = map vec_items c.in_ok-swept.swept.schedules.items in (
      swept.0,
      written_in options.record schedules,
      record { want = c.in_ok-wanted.wanted; asked = c.in_ok-wanted.ensures.asked; schedules = schedules; sweeps = swept.1; recorded = refl },
      swept.2,
      subst (λ items. IsWith (held c.args.folder.now) (held c.store_outcomes.new.folder) (written_in options.record (map vec_items items))) c.as_slice-schedules.ensures.value
          c.in_ok-store_outcomes.ensures.stored,
    )
