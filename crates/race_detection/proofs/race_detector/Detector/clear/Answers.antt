use Rattle.std.proofs.Common.{refl, sym, subst, ℕ, List}
use Rattle.std.proofs.lemmas.Result.{err_from_is_err_and}
use Rattle.race_detection.specs.vector_clocks.Times.{time_in, IsRaised}
use Rattle.race_detection.specs.race_detector.Watched.{DetectorOf, Watches}
use Rattle.race_detection.proofs.race_detector.Watching.{not_told}
use Rattle.race_detection.proofs.race_detector.Steps.{cleared}
use Rattle.race_detection.proofs.race_detector.Detector.clear.Goals as goal

pub returns-in_err-make_release : goal.returns-in_err-make_release
returns-in_err-make_release c =
    let p = err_from_is_err_and c.from_residual.result c.from_residual.ensures.1 in
    record {
      watched = not_told c.from_residual.result p.0 p.1 c.args.step
          (record { position = c.self.inside.position; threads = c.self.inside.threads.items; places = c.self.inside.places.items; variables = c.self.inside.variables.items })
          c.args.self.now _ c.self.view_is
          (record { position = refl; threads = λ k t. refl; places = c.in_err-make_release.ensures.same; variables = λ v. refl });
    }

pub returns : goal.returns
returns c =
    record {
      watched = λ run w. cleared run c.args.step
          (record { position = c.self.inside.position; threads = c.self.inside.threads.items; places = c.self.inside.places.items; variables = c.self.inside.variables.items })
          _ (subst (λ (d : DetectorOf). Watches run d) (sym c.self.view_is) w) refl (λ v. refl) c.args.taken c.args.left c.make_release.new.clocks.items c.reset_clock.new.clocks.items c.join_clock.new.clocks.items c.requires.is
          c.in_ok-make_release.ensures.same c.reset_clock.ensures.reset
          (subst (λ (xs : List (List ℕ)). IsRaised c.reset_clock.new.clocks.items c.join_clock.new.clocks.items c.args.left (time_in xs c.args.step.thread)) c.deref-2.ensures.value c.join_clock.ensures.raised)
          c.stamp_clock.ensures.stamped
          (λ k t. refl);
    }
