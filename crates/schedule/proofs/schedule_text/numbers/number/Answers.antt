use Rattle.std.proofs.Common.{◌≡◌, ap, sym, subst, ◌∙◌, Ok, decimal}
use Rattle.std.specs.Str.{IsAscii}
use Rattle.std.proofs.lemmas.Str.{IsUtf8-from_ascii}
use Rattle.std.proofs.lemmas.Fmt.{IsAscii-decimal, parse-decimal}
use Rattle.std.proofs.lemmas.Slice.Eq.{bytes_eq-Decides}
use Rattle.schedule.proofs.schedule_text.numbers.number.Goals as goal

pub returns-in_default-clause-only : goal.returns-in_default-clause-only
returns-in_default-clause-only c = λ n. λ small. λ e. absurd (c.in_default.ensures.cases.0 (IsUtf8-from_ascii c.args.bytes.now (subst IsAscii (sym e) (IsAscii-decimal n small))))

pub returns-in_default-parse-clause-only : goal.returns-in_default-parse-clause-only
returns-in_default-parse-clause-only c = λ n. λ small. λ e.
    absurd (c.in_default-parse.not-Ok n (parse-decimal 64 n c.in-Ok.text.now c.parse.result small small (c.in-Ok.ensures.cases.0 ∙ e) c.parse.ensures.value.0))

pub returns-then-eq-clause-only : goal.returns-then-eq-clause-only
returns-then-eq-clause-only c = λ n. λ small. λ e.
    let is : c.parse.result ≡ Ok n = parse-decimal 64 n c.in-Ok.text.now c.parse.result small small (c.in-Ok.ensures.cases.0 ∙ e) c.parse.ensures.value.0 in
    let same : Ok c.in-Ok-parse.number ≡ Ok n = sym c.in-Ok-parse.is ∙ is in
    cc

pub returns-else-eq-clause-only : goal.returns-else-eq-clause-only
returns-else-eq-clause-only c = λ n. λ small. λ e.
    let is : c.parse.result ≡ Ok n = parse-decimal 64 n c.in-Ok.text.now c.parse.result small small (c.in-Ok.ensures.cases.0 ∙ e) c.parse.ensures.value.0 in
    let same : Ok c.in-Ok-parse.number ≡ Ok n = sym c.in-Ok-parse.is ∙ is in
    let number : c.in-Ok-parse.number ≡ n = cc in
    let texts : c.as_bytes.result.now ≡ c.args.bytes.now = c.as_bytes.ensures.value ∙ c.format.ensures.text ∙ ap decimal number ∙ sym e in
    let yes = (bytes_eq-Decides c.as_bytes.result.now c.args.bytes.now).1 texts in
    let no = sym c.eq.ensures ∙ c.if-eq.false in
    absurd cc
