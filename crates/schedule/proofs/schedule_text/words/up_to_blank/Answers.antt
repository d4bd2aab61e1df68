use Rattle.std.proofs.Common.{◌≡◌, ◌∙◌, ◌-◌, ◌+◌, arith, drop, false, subst, sym}
use Rattle.schedule.specs.schedule_text.Text.{has_blank}
use Rattle.schedule.proofs.schedule_text.GrowingLaws.{last_blank, no_blank}
use Rattle.schedule.proofs.schedule_text.words.up_to_blank.Goals as goal

pub returns-then-is_blank : goal.returns-then-is_blank
returns-then-is_blank c =
    let next : c.bytes.at ≡ c.bytes.at - 1 + 1 = omega (arith, c.bytes-test.true) in
    let behind : has_blank (drop (c.bytes.at - 1 + 1) c.args.bytes.now) ≡ false =
    subst (λ k. has_blank (drop k c.args.bytes.now) ≡ false) next c.bytes.invariant in
    sym (last_blank c.args.bytes.now (c.bytes.at - 1) (omega (arith, c.bytes-test.true, c.bytes.auto.at)) (sym c.is_blank.ensures ∙ c.if-is_blank.true) behind)

pub returns : goal.returns
returns c =
    let first : c.bytes.at ≡ 0 = omega (arith, c.bytes-test.false) in
    let none : has_blank c.args.bytes.now ≡ false = subst (λ k. has_blank (drop k c.args.bytes.now) ≡ false) first c.bytes.invariant in
    sym (no_blank c.args.bytes.now none)
