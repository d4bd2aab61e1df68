use Rattle.std.proofs.Common.{arith, ◌≡◌, ◌≤◌, ◌∙◌, ◌++◌, ◌∷◌, [], List, take, length, map, Vec, Global, ℕ, sym, ap}
use Rattle.std.proofs.lemmas.List.{map-append, map_push}
use Rattle.std.proofs.lemmas.Option.{slice_get_past}
use Rattle.model.specs.Texts.{Text, decoded}
use Rattle.hierarchy.proofs.Indices.{take_one_more, take_whole}
use Rattle.linker.proofs.field_links.string_numbers.decoded_texts.Goals as goal

pub loop-number-preserved : goal.loop-number-preserved
loop-number-preserved c =
    let texts = c.args.texts.now in
    let i = c.loop-number.number in
    let before = map decoded (take i texts) in
    ap (map (λ (text : Vec ℕ Global). text.items)) c.in_ok-push.ensures.items ∙ map_push (λ (text : Vec ℕ Global). text.items) c.loop-number.all.items c.in_ok-decode.field-0
    ∙ ap (λ (l : List Text). l ++ c.in_ok-decode.field-0.items ∷ []) c.loop-number.invariant
    ∙ ap (λ (t : Text). before ++ t ∷ []) c.in_ok-decode.ensures
    ∙ sym (ap (map decoded) (take_one_more texts i c.in-Some.bytes.now (sym c.in-Some.ensures)) ∙ map_push decoded (take i texts) c.in-Some.bytes.now)

pub returns-in_default : goal.returns-in_default
returns-in_default c = c.loop-number.invariant ∙ ap (map decoded) (take_whole c.args.texts.now c.loop-number.number (sym c.in_default.ensures))

pub returns : goal.returns
returns c =
    let texts = c.args.texts.now in
    let count : length texts ≤ c.loop-number.number = omega (arith, c.count-number-end.ensures, c.loop-number-test.false) in
    c.loop-number.invariant ∙ ap (map decoded) (take_whole texts c.loop-number.number (slice_get_past texts c.loop-number.number count))
