use Rattle.std.proofs.Common.{◌≡◌, true, Option, ap, refl, subst, sym, ◌∙◌}
use Rattle.std.proofs.lemmas.Option.{same_Some}
use Rattle.traces.specs.declared.traced_events.frames.FrameBefore.{FrameBefore}
use Rattle.traces.specs.traced_events.Places.{IsSeenOf}
use Rattle.program_runs.specs.traced_runs.Windows.{is_told}
use Rattle.program_runs.proofs.traced_runs.folds.next_in.Goals as goal

pub returns-in-Some : goal.returns-in-Some
returns-in-Some c = λ frame is.
    let m = c.args.machine.now in
    let t = c.args.thread in
    let seen = c.look.new.self in
    let same : c.in-Some.frame ≡ frame = same_Some c.in-Some.frame frame is in
    let by_program = subst (λ p. IsSeenOf p c.shared.result.now t seen.frame seen.class) (c.deref.ensures ∙ c.program.ensures) c.in_ok-look.ensures in
    let by_shared = subst (λ shared. IsSeenOf m.program shared t seen.frame seen.class) c.shared.ensures.same by_program in
    let told : is_told c.args.window c.args.number t ≡ true = cc in
    record {
      told = told;
      local = c.if-not-is_next_local.ensures refl;
      class = seen.class;
      seen = subst (λ (o : Option FrameBefore). IsSeenOf m.program m.shared t o seen.class) (c.in-Some.is ∙ is) by_shared;
      same = ap (λ (f : FrameBefore). f.method) (sym same) ∙ c.if-frame-method.true;
    }
