-- Words of texts as they are read.
use Rattle.std.specs.Prelude.{ℕ, List, Bool, ◌==◌, map}
use Rattle.std.specs.List.{list_any}
use Rattle.place_texts.specs.declared.words.TextWord.{TextWord}

abbrev pub texts : List TextWord → List (List ℕ)
texts words = map (λ (w : TextWord). w.bytes.items) words

-- a byte stands among others
abbrev pub has : ℕ → List ℕ → Bool
has mark bytes = list_any (λ b. b == mark) bytes

-- a word has the mark of a place, an `@`
abbrev pub is_marked : List ℕ → Bool
is_marked word = has 64 word
