use Rattle.std.proofs.Common.{refl, sym, subst, ℕ, List}
use Rattle.std.proofs.lemmas.Result.{err_from_is_err_and}
use Rattle.race_detection.specs.vector_clocks.Times.{time_in, IsRaised}
use Rattle.race_detection.specs.race_detector.Watched.{DetectorOf, Watches}
use Rattle.race_detection.proofs.race_detector.Watching.{not_told}
use Rattle.race_detection.proofs.race_detector.Steps.{acquired}
use Rattle.race_detection.proofs.race_detector.Detector.acquire.Goals as goal

pub returns-in_err-make_join : goal.returns-in_err-make_join
returns-in_err-make_join c =
    let p = err_from_is_err_and c.from_residual.result c.from_residual.ensures.1 in
    record {
      watched = not_told c.from_residual.result p.0 p.1 c.args.step
          (record { position = c.self.inside.position; threads = c.self.inside.threads.items; places = c.self.inside.places.items; variables = c.self.inside.variables.items })
          c.args.self.now _ c.self.view_is
          (record { position = refl; threads = c.in_err-make_join.ensures.same; places = λ k t. refl; variables = λ v. refl });
    }

pub returns : goal.returns
returns c =
    record {
      watched = λ run w. acquired run c.args.step
          (record { position = c.self.inside.position; threads = c.self.inside.threads.items; places = c.self.inside.places.items; variables = c.self.inside.variables.items })
          _ (subst (λ (d : DetectorOf). Watches run d) (sym c.self.view_is) w) refl (λ v. refl) c.args.place c.make_join.new.clocks.items c.requires.is c.in_ok-make_join.ensures.same
          (subst (λ (xs : List (List ℕ)). IsRaised c.make_join.new.clocks.items c.join_clock.new.clocks.items c.args.step.thread (time_in xs c.args.place)) c.deref-2.ensures.value c.join_clock.ensures.raised)
          (λ k t. refl);
    }
