use Rattle.std.proofs.Common.{◌<◌, inr, length, subst}
use Rattle.std.proofs.lemmas.Result.{IfOk-weaker}
use Rattle.engines.proofs.paging.lines_of.Goals as goal

pub returns-clause-traced : goal.returns-clause-traced
returns-clause-traced c =
    let whole = c.in_ok-whole.whole in
    let long = subst (λ lines. 900000 < length lines) c.bytes.ensures c.if-bytes-le-MOST_BYTES.false in
    IfOk-weaker c.traced_lines-2.result _ _
    (λ made traced. inr (
      record { report = whole.1; end = whole.2; lines = whole.0.bytes.items; traced = c.in_ok-whole.ensures.traced; long = long },
      traced,
    )) c.traced_lines-2.ensures.traced
