-- Words that spell what a schedule with places does.
use Rattle.std.proofs.Common.{◌≡◌, ℕ, List, [], ◌∷◌, ◌++◌, ◌+◌, ◌<◌, false, Option, Some, None, get_or, length, take, refl, sym, ap, subst, ◌∙◌, arith}
use Rattle.std.proofs.lemmas.List.{map-append, take_more}
use Rattle.std.specs.Prelude.{◌||◌, is_some, slice_get}
use Rattle.std.specs.List.{list_any}
use Rattle.model.specs.declared.event.ScheduleEntry.{ScheduleEntry}
use Rattle.schedule.specs.Files.{Recording}
use Rattle.schedule.specs.schedule_text.Text.{SpellsSchedule}
use Rattle.place_texts.specs.declared.words.TextWord.{TextWord}
use Rattle.place_texts.specs.Reading.{is_marked, texts}
use Rattle.place_texts.specs.declared.place.PlacedDeed.{PlacedDeed}
use Rattle.place_texts.specs.Places.{DeedOf, deed_of, deeds_of}
use Rattle.place_texts.specs.Texts.{SpellDeeds, SpellsDeed}

pub one_more : (words : List (List ℕ)) (deeds : List DeedOf) (word : List ℕ) (deed : DeedOf) → SpellDeeds words deeds → SpellsDeed word deed
    → SpellDeeds (words ++ word ∷ []) (deeds ++ deed ∷ [])
one_more [] [] word deed spell spells = (spells, tt)
one_more (w ∷ words) (d ∷ deeds) word deed spell spells = (spell.0, one_more words deeds word deed spell.1 spells)
one_more [] (d ∷ deeds) word deed spell spells = absurd spell
one_more (w ∷ words) [] word deed spell spells = absurd spell

pub longer : (words : List TextWord) (i : ℕ) (word : TextWord) (deeds new : List PlacedDeed) (p : PlacedDeed) → i < length words → word ≡ get_or words i word
    → SpellDeeds (texts (take i words)) (deeds_of deeds) → new ≡ deeds ++ p ∷ [] → SpellsDeed word.bytes.items (deed_of p.deed)
    → SpellDeeds (texts (take (i + 1) words)) (deeds_of new)
longer words i word deeds new p less at so_far are spells =
    let all : take (i + 1) words ≡ take i words ++ word ∷ [] = take_more words i word less ∙ ap (λ (w : TextWord). take i words ++ w ∷ []) (sym at) in
    let text : texts (take (i + 1) words) ≡ texts (take i words) ++ word.bytes.items ∷ [] = ap texts all ∙ map-append (λ (w : TextWord). w.bytes.items) (take i words) (word ∷ []) in
    let stands : deeds_of new ≡ deeds_of deeds ++ deed_of p.deed ∷ [] = ap deeds_of are ∙ map-append (λ (w : PlacedDeed). deed_of w.deed) deeds (p ∷ []) in
    let both : SpellDeeds (texts (take i words) ++ word.bytes.items ∷ []) (deeds_of deeds ++ deed_of p.deed ∷ []) = one_more (texts (take i words)) (deeds_of deeds) word.bytes.items (deed_of p.deed) so_far spells in
    subst (λ l. SpellDeeds l (deeds_of new)) (sym text) (subst (λ l. SpellDeeds (texts (take i words) ++ word.bytes.items ∷ []) l) (sym stands) both)

-- a text that spells one entry
pub of_one : (word : List ℕ) (recorded : Option Recording) (entries : List ScheduleEntry) (e : ScheduleEntry) → SpellsSchedule word recorded entries
    → is_some recorded ≡ false → length entries ≡ 1 → slice_get entries 0 ≡ Some e → SpellsSchedule word None (e ∷ [])
of_one word (Some r) entries e spells none one is = absurd cc
of_one word None [] e spells none one is = absurd (omega arith)
of_one word None (x ∷ y ∷ entries) e spells none one is = absurd (omega arith)
of_one word None (x ∷ []) e spells none one is =
    let same : x ≡ e = cc in
    subst (λ (entry : ScheduleEntry). SpellsSchedule word None (entry ∷ [])) same spells

-- ---- marks

pub marked_texts : (words : List TextWord) → list_any (λ (w : TextWord). is_marked w.bytes.items) words ≡ list_any is_marked (texts words)
marked_texts [] = refl
marked_texts (w ∷ words) = ap (λ b. is_marked w.bytes.items || b) (marked_texts words)
