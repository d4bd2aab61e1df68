use Rattle.std.proofs.Common.{◌≡◌, ℕ, List, [], ◌∷◌, ◌++◌, false, length, sym, ap, ◌∙◌, refl}
use Rattle.std.specs.Prelude.{◌==◌}
use Rattle.std.proofs.lemmas.List.{map-append}
use Rattle.schedule.specs.schedule_text.Text.{with_word}
use Rattle.place_texts.specs.declared.words.TextWord.{TextWord}
use Rattle.place_texts.specs.Reading.{texts}
use Rattle.place_texts.proofs.words.end_word.Goals as goal

some_word : (word : List ℕ) → (length word == 0) ≡ false → with_word word [] ≡ word ∷ []
some_word [] e = absurd cc
some_word (b ∷ bs) e = refl

added : (old new : List TextWord) (word : TextWord) (bytes : List ℕ) → new ≡ old ++ word ∷ [] → word.bytes.items ≡ bytes
    → (length bytes == 0) ≡ false → texts new ≡ texts old ++ with_word bytes []
added old new word bytes are is some =
    ap texts are ∙ map-append (λ (w : TextWord). w.bytes.items) old (word ∷ []) ∙ ap (λ l. texts old ++ l ∷ []) is
    ∙ ap (λ l. texts old ++ l) (sym (some_word bytes some))

pub returns-clause-ended : goal.returns-clause-ended
returns-clause-ended c =
    added c.args.words.now.items c.push.new.self.items (record { bytes = c.in_ok-bytes.bytes; line = c.args.line }) c.args.word.now.items c.in_ok-push.ensures.items
    (c.in_ok-bytes.ensures.items ∙ c.as_slice-read.ensures.value) (ap (λ (l : List ℕ). length l == 0) (sym c.as_slice-read.ensures.value) ∙ sym c.is_empty.ensures ∙ c.if-is_empty.false)
