use Rattle.std.proofs.Common.{◌≡◌, ◌+◌, ◌==◌, rules, sym, ap, ◌∙◌, drop}
use Rattle.std.specs.Option.{option_map}
use Rattle.std.specs.List.{position_from}
use Rattle.string_methods.proofs.AlongTexts.{behind, no_place, place_is}
use Rattle.string_methods.proofs.questions.place_from.Goals as goal

pub returns-in_err-rest : goal.returns-in_err-rest
returns-in_err-rest c =
    c.from_residual.ensures ∙ sym (no_place c.args.text.now 0 c.args.least c.args.unit (search (rules, c.in_err-rest.ensures.lookup)))

pub returns-in_err-place : goal.returns-in_err-place
returns-in_err-place c =
    let rest_is : c.in_ok-rest.rest.now ≡ drop c.args.least c.args.text.now = behind c.args.text.now c.in_ok-rest.rest.now c.args.least c.in_ok-rest.ensures.lookup.0.2 in
    c.from_residual-in_err-place.ensures
    ∙ sym (place_is c.args.text.now c.args.least c.args.unit
    ∙ ap (λ l. option_map (λ p. c.args.least + p) (position_from (λ u. u == c.args.unit) 0 l)) (sym rest_is)
    ∙ ap (option_map (λ p. c.args.least + p)) (sym c.in_err-place.ensures.place))

pub returns : goal.returns
returns c =
    let rest_is : c.in_ok-rest.rest.now ≡ drop c.args.least c.args.text.now = behind c.args.text.now c.in_ok-rest.rest.now c.args.least c.in_ok-rest.ensures.lookup.0.2 in
    sym (place_is c.args.text.now c.args.least c.args.unit
    ∙ ap (λ l. option_map (λ p. c.args.least + p) (position_from (λ u. u == c.args.unit) 0 l)) (sym rest_is)
    ∙ ap (option_map (λ p. c.args.least + p)) (sym c.in_ok-place.ensures.place))
