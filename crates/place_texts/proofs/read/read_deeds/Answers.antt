use Rattle.std.proofs.Common.{inr, ◌∙◌, sym, ap}
use Rattle.std.specs.List.{list_any}
use Rattle.place_texts.specs.declared.words.TextWord.{TextWord}
use Rattle.place_texts.specs.Reading.{is_marked}
use Rattle.place_texts.proofs.Spelled.{marked_texts}
use Rattle.place_texts.proofs.read.read_deeds.Goals as goal

pub returns-then-not-has_place-clause-marked : goal.returns-then-not-has_place-clause-marked
returns-then-not-has_place-clause-marked c =
    sym c.if-not-has_place.true ∙ c.has_place.ensures ∙ ap (list_any (λ (w : TextWord). is_marked w.bytes.items)) c.as_slice.ensures.value ∙ marked_texts c.in_ok-words.words.items
    ∙ ap (list_any is_marked) c.in_ok-words.ensures

pub returns-in-Ok-clause-marked : goal.returns-in-Ok-clause-marked
returns-in-Ok-clause-marked c =
    sym c.if-not-has_place.false ∙ c.has_place.ensures ∙ ap (list_any (λ (w : TextWord). is_marked w.bytes.items)) c.as_slice.ensures.value ∙ marked_texts c.in_ok-words.words.items
    ∙ ap (list_any is_marked) c.in_ok-words.ensures

pub returns-clause-refused : goal.returns-clause-refused
returns-clause-refused c =
    inr (sym (ap (list_any is_marked) c.in_ok-words.ensures) ∙ sym (marked_texts c.in_ok-words.words.items) ∙ ap (list_any (λ (w : TextWord). is_marked w.bytes.items)) (sym c.as_slice.ensures.value)
    ∙ sym c.has_place.ensures ∙ c.if-not-has_place.false)
