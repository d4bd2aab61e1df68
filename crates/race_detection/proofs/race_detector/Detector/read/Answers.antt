use Rattle.std.proofs.Common.{refl, sym, subst}
use Rattle.std.proofs.lemmas.Result.{err_from_is_err_and}
use Rattle.race_detection.specs.declared.last_accesses.Access.{Access}
use Rattle.race_detection.specs.last_accesses.Accesses.{IsReadKept}
use Rattle.race_detection.specs.race_detector.Watched.{DetectorOf, Watches}
use Rattle.race_detection.proofs.race_detector.Watching.{not_told}
use Rattle.race_detection.proofs.race_detector.Steps.{read_told}
use Rattle.race_detection.proofs.race_detector.Detector.read.Goals as goal

pub returns-in_err-keep_read : goal.returns-in_err-keep_read
returns-in_err-keep_read c =
    let p = err_from_is_err_and c.from_residual.result c.from_residual.ensures.1 in
    record {
      watched = not_told c.from_residual.result p.0 p.1 c.args.step
          (record { position = c.self.inside.position; threads = c.self.inside.threads.items; places = c.self.inside.places.items; variables = c.self.inside.variables.items })
          c.args.self.now _ c.self.view_is
          (record { position = refl; threads = λ k t. refl; places = λ k t. refl; variables = c.in_err-keep_read.ensures });
    }

pub returns : goal.returns
returns c =
    record {
      watched = λ run w. read_told run c.args.step
          (record { position = c.self.inside.position; threads = c.self.inside.threads.items; places = c.self.inside.places.items; variables = c.self.inside.variables.items })
          _ (subst (λ (d : DetectorOf). Watches run d) (sym c.self.view_is) w) refl (λ k t. refl) (λ k t. refl) c.args.variable c.requires.is
          (subst (λ (a : Access). IsReadKept c.self.inside.variables.items c.keep_read.new.variables.items c.args.variable a) c.access_of.ensures c.in_ok-keep_read.ensures)
          c.deref.result.now c.deref-2.result.now c.deref.ensures.value c.deref-2.ensures.value c.unknown_write-written.result c.unknown_write-written.ensures
          c.told_of.result c.told_of.ensures;
    }
