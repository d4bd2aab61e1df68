use Rattle.std.proofs.Common.{refl, sym, ◌∙◌, subst, ap}
use Rattle.std.specs.Prelude.{Option}
use Rattle.std.specs.Option.{option_map, option_or}
use Rattle.std.proofs.lemmas.Result.{err_from_is_err_and}
use Rattle.race_detection.specs.declared.run_steps.Step.{Step}
use Rattle.race_detection.specs.declared.last_accesses.Access.{Access}
use Rattle.race_detection.specs.last_accesses.Accesses.{IsWriteKept}
use Rattle.race_detection.specs.declared.run_steps.Action.TheVariants.{Write}
use Rattle.race_detection.specs.race_detector.Watched.{DetectorOf, Watches, step_with}
use Rattle.race_detection.proofs.race_detector.Watching.{not_told}
use Rattle.race_detection.proofs.race_detector.Steps.{write_told}
use Rattle.race_detection.proofs.race_detector.Detector.write.Goals as goal

pub returns-in_err-keep_write : goal.returns-in_err-keep_write
returns-in_err-keep_write c =
    let p = err_from_is_err_and c.from_residual.result c.from_residual.ensures.1 in
    record {
      watched = not_told c.from_residual.result p.0 p.1 c.args.step
          (record { position = c.self.inside.position; threads = c.self.inside.threads.items; places = c.self.inside.places.items; variables = c.self.inside.variables.items })
          c.args.self.now _ c.self.view_is
          (record { position = refl; threads = λ k t. refl; places = λ k t. refl; variables = c.in_err-keep_write.ensures });
    }

pub returns : goal.returns
returns c =
    record {
      watched = λ run w. write_told run c.args.step
          (record { position = c.self.inside.position; threads = c.self.inside.threads.items; places = c.self.inside.places.items; variables = c.self.inside.variables.items })
          _ (subst (λ (d : DetectorOf). Watches run d) (sym c.self.view_is) w) refl (λ k t. refl) (λ k t. refl) c.args.variable c.requires.is
          (subst (λ (a : Access). IsWriteKept c.self.inside.variables.items c.keep_write.new.variables.items c.args.variable a) c.access_of.ensures c.in_ok-keep_write.ensures)
          c.deref.result.now c.deref-3.result.now c.deref-2.result.now c.deref-4.result.now c.deref.ensures.value c.deref-3.ensures.value
          c.deref-2.ensures.value c.deref-4.ensures.value c.unknown_write-written.result c.unknown_read-read.result c.unknown_write-written.ensures c.unknown_read-read.ensures
          c.told_first.result
          (c.told_first.ensures ∙ ap (λ (o : Option Step). option_or o c.told_of-2.result) c.told_of.ensures
          ∙ ap (λ (o : Option Step). option_or (option_map (step_with (Write c.args.variable)) c.unknown_write-written.result) o) c.told_of-2.ensures);
    }
