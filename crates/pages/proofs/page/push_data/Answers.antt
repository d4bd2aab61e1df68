use Rattle.std.proofs.Common.{◌∙◌, ◌++◌, ap, arith, refl, string_bytes}
use Rattle.std.proofs.lemmas.List.Elements.{All-from_get_or}
use Rattle.std.proofs.lemmas.Result.{on_ok_weaker}
use Rattle.percent_encoding.proofs.PercentLemmas.{All-percent_encode, IsByte, round_trip}
use Rattle.percent_encoding.specs.Percent.{percent_encode}
use Rattle.pages.specs.Pages.{IsTextByte, StandsFor}
use Rattle.pages.specs.declared.page.TheConstants.{ESCAPED}
use Rattle.pages.proofs.Kept.{escape_byte, kept_byte}
use Rattle.pages.proofs.page.push_data.Goals as goal

pub returns : goal.returns
returns c =
    let bytes = c.args.bytes.now in
    let small = All-from_get_or IsByte bytes 0 (λ i within. omega (arith, c.type_inv.bytes i)) in
    let stands : StandsFor (percent_encode ESCAPED bytes) bytes = (All-percent_encode IsTextByte ESCAPED bytes kept_byte escape_byte, round_trip ESCAPED bytes refl small) in
    on_ok_weaker c.append_to.result (λ written. (percent_encode ESCAPED bytes, written ∙ ap (λ l. string_bytes c.args.page.now ++ l) c.percent_encode.ensures.text, stands)) c.append_to.ensures.ok
