use Rattle.std.proofs.Common.{arith, [], ◌∷◌, Some, refl, subst, vec_items}
use Rattle.std.proofs.lemmas.Result.{err_from_is_err_and}
use Rattle.engines.specs.Files.{IsWith}
use Rattle.engines.specs.OutcomeFiles.{outcome_path}
use Rattle.engines.proofs.OutcomeFileLemmas.{stored_all, stored_front, stored_more}
use Rattle.engines.proofs.commands.outcome_files.store_each.Goals as goal

pub loop-bytes-preserved : goal.loop-bytes-preserved
loop-bytes-preserved g c =
    let held = g.F.Folder.held in
    let with = subst (λ bytes. IsWith (held c.loop-bytes.folder) (held c.store_outcome.new.folder) (Some ((outcome_path c.args.at.now c.loop-bytes.number, bytes) ∷ [])))
    c.deref.ensures.value c.in_ok-store_outcome.ensures.stored in (
      stored_more vec_items c.args.at.now c.args.schedules.now (held c.args.folder.now) (held c.loop-bytes.folder) (held c.store_outcome.new.folder) c.loop-bytes.bytes-index c.loop-bytes.invariant.0
          c.loop-bytes.number c.bytes-item.result (omega (arith, c.loop-bytes-test.true)) c.bytes-item.is c.loop-bytes.invariant.1 with,
      omega (arith, c.loop-bytes.invariant.1),
    )

pub returns-in_err-store_outcome-clause-front : goal.returns-in_err-store_outcome-clause-front
returns-in_err-store_outcome-clause-front g c =
    let held = g.F.Folder.held in
    let p = err_from_is_err_and c.from_residual.result c.from_residual.ensures.1 in
    rw (p.1) (
      c.loop-bytes.bytes-index,
      stored_front vec_items c.args.at.now c.args.schedules.now (held c.args.folder.now) (held c.loop-bytes.folder) (held c.store_outcome.new.folder) c.loop-bytes.bytes-index c.loop-bytes.invariant.0
          c.in_err-store_outcome.ensures.same,
    )

pub returns-clause-stored : goal.returns-clause-stored
returns-clause-stored g c =
    let held = g.F.Folder.held in
    stored_all vec_items c.args.at.now c.args.schedules.now (held c.args.folder.now) (held c.loop-bytes.folder) (held c.loop-bytes.folder) c.loop-bytes.bytes-index c.loop-bytes.invariant.0
    (omega (arith, c.loop-bytes-test.false)) refl
