use Rattle.std.proofs.Common.{◌≡◌, ℕ, List, [], Vec, Global, map, sym, subst}
use Rattle.link_conditions.specs.limits_of_linking.Texts.{with_texts}
use Rattle.advice.specs.declared.told.Told.{Told}
use Rattle.advice.specs.Advice.{IsAdvice, TellsAll, text_of, words_of}
use Rattle.advice.specs.Reading.{bytes_of}
use Rattle.advice.proofs.TellingLaws.{if_ok_then}
use Rattle.advice.proofs.TextLaws.{all_said}
use Rattle.advice.proofs.advising.advice.Goals as goal

pub returns : goal.returns
returns c =
    let files = map bytes_of c.args.files.now in
    let told = c.deref.result.now in
    let lines = with_texts [] (map words_of told) in
    let all : TellsAll files told = subst (λ (l : List Told). TellsAll files l) (sym c.deref.ensures.value) c.in_ok-told.ensures in
    if_ok_then (λ (text : Vec ℕ Global). text.items ≡ text_of told lines) (λ (text : Vec ℕ Global). IsAdvice files text.items) c.text_of.result
    (λ text h. record { told = told; lines = lines; all = all; said = all_said told; text_is = h }) c.text_of.ensures
