use Rattle.std.proofs.Common.{◌≡◌, ℕ, suc, ◌<◌, ◌∙◌, List, [], ◌∷◌, ◌++◌, length, map, take, get_or, refl, sym, ap, arith}
use Rattle.model.specs.Spelling.{text_of}
use Rattle.constant_pool.specs.declared.constant.Constant.{Constant}
use Rattle.constant_pool.specs.View.{entry_of, entries_of}
use Rattle.constant_pool.specs.Texts.{texts, first_place}
use Rattle.constant_pool.proofs.TextLaws.{no_places, text_count, next_text, more_texts}
use Rattle.constant_pool.proofs.first.firsts_of.Goals as goal

pub constants-init : goal.constants-init
constants-init c =
    let all = texts (entries_of c.args.constants.now) in
    let some : 0 < length all = omega (arith, text_count c.args.constants.now) in
    let first = c.in_ok-place_of.ensures all some refl (no_places all c.new-seen.result c.new-seen.ensures.empty) in
    let place : c.in_ok-place_of.field-0 ≡ 0 = first.0 in
    (refl, c.in_ok-push.ensures.items ∙ rw (c.in_ok-firsts.ensures.items, place) refl, first.1)

pub constants-preserved : goal.constants-preserved
constants-preserved c =
    let constants = c.args.constants.now in
    let i = c.constants.constant-index in
    let item = c.constant-item.result in
    let all = texts (entries_of constants) in
    let place = c.in_ok-place_of-2.field-0 in
    let here : c.constants.here ≡ suc i = omega (arith, c.constants.invariant.0) in
    let inside : c.constants.here < length all = omega (arith, here, c.constants-test.true, text_count constants) in
    let text : c.text.result.now ≡ text_of (entry_of (get_or constants i item)) = c.text.ensures ∙ ap (λ (x : Constant). text_of (entry_of x)) c.constant-item.is in
    let at : get_or all c.constants.here [] ≡ c.text.result.now = ap (λ (n : ℕ). get_or all n []) here ∙ next_text constants i item c.constants-test.true ∙ sym text in
    let first = c.in_ok-place_of-2.ensures all inside at c.constants.invariant.2 in
    let front : List ℕ = map (first_place all) (texts (entries_of (take i constants))) in
    let is : place ≡ first_place all (text_of (entry_of (get_or constants i item))) = first.0 ∙ ap (first_place all) text in (
      omega (arith, here),
      c.in_ok-push-2.ensures.items ∙ ap (λ (l : List ℕ). l ++ place ∷ []) c.constants.invariant.1 ∙ ap (λ (n : ℕ). front ++ n ∷ []) is ∙ sym (more_texts (first_place all) constants i item c.constants-test.true),
      first.1,
    )
