-- Lines, each once, and their text.
use Rattle.std.proofs.Common.{◌≡◌, ℕ, zero, suc, ◌+◌, ◌<◌, List, [], ◌∷◌, ◌++◌, map, length, take, get_or, Bool, true, false, cond, refl, sym, ap, subst, ◌∙◌, arith, append_assoc}
use Rattle.std.specs.Prelude.{◌||◌, codes}
use Rattle.std.specs.List.{Contains, list_any}
use Rattle.std.proofs.lemmas.List.{append-nil, map_more}
use Rattle.std.proofs.lemmas.List.Elements.{Contains-append_left, Contains-push}
use Rattle.std.proofs.lemmas.Grind.{flat_map-append}
use Rattle.model.specs.Names.{Name, name_eq}
use Rattle.model.specs.Report.{line}
use Rattle.hierarchy.proofs.SetLaws.{same_name}
use Rattle.link_conditions.proofs.limits_of_linking.TextLaws.{with_texts-append}
use Rattle.link_conditions.specs.limits_of_linking.Texts.{with_text, with_texts}
use Rattle.listings.specs.printed_names.Printed.{printed}
use Rattle.advice.specs.declared.told.Told.{Told}
use Rattle.advice.specs.Advice.{AreSaid, Shows, head, indented, text_of, words_of}

-- ---- which lines there are

any_contains : (t : Name) (lines : List Name) → list_any (name_eq t) lines ≡ true → Contains lines t
any_contains t [] h = absurd cc
any_contains t (x ∷ lines) h = by (λ g. any_contains t lines g) (name_eq t x) refl
  where
    by : (list_any (name_eq t) lines ≡ true → Contains lines t) → (b : Bool) → name_eq t x ≡ b → Contains (x ∷ lines) t
    by rest true e = (0, omega arith, sym (same_name t x e))
    by rest false e =
        let found = rest (sym (ap (λ b. b || list_any (name_eq t) lines) e) ∙ h) in
        (suc found.0, omega (arith, found.1), found.2)

added : (lines : List Name) (t : Name) → Contains (with_text lines t) t
added lines t = by (list_any (name_eq t) lines) refl
  where
    by : (b : Bool) → list_any (name_eq t) lines ≡ b → Contains (cond b lines (lines ++ t ∷ [])) t
    by true e = any_contains t lines e
    by false e = Contains-push lines t

kept_one : (lines : List Name) (t x : Name) → Contains lines x → Contains (with_text lines t) x
kept_one lines t x h = by (list_any (name_eq t) lines)
  where
    by : (b : Bool) → Contains (cond b lines (lines ++ t ∷ [])) x
    by true = h
    by false = Contains-append_left lines (t ∷ []) x h

kept_all : (lines more : List Name) (x : Name) → Contains lines x → Contains (with_texts lines more) x
kept_all lines [] x h = h
kept_all lines (t ∷ more) x h = kept_all (with_text lines t) more x (kept_one lines t x h)

said_from : (lines : List Name) (told : List Told) (t : Told) (k : ℕ) → k < length told → get_or told k t ≡ t
    → Contains (with_texts lines (map words_of told)) (words_of t)
said_from lines [] t k lt e = absurd (omega (arith, lt))
said_from lines (u ∷ told) t zero lt e =
    let same : words_of u ≡ words_of t = ap words_of e in
    subst (λ (w : Name). Contains (with_texts (with_text lines (words_of u)) (map words_of told)) w) same (kept_all (with_text lines (words_of u)) (map words_of told) (words_of u) (added lines (words_of u)))
said_from lines (u ∷ told) t (suc k) lt e = said_from (with_text lines (words_of u)) told t k (omega (arith, lt)) e

pub all_said : (told : List Told) → AreSaid told (with_texts [] (map words_of told))
all_said told t h = said_from [] told t h.0 h.1 h.2

-- the lines of one thing more that is told
pub lines_more : (told : List Told) (i : ℕ) (d : Told) → i < length told
    → with_texts [] (map words_of (take (i + 1) told)) ≡ with_text (with_texts [] (map words_of (take i told))) (words_of (get_or told i d))
lines_more told i d lt =
    ap (with_texts []) (map_more words_of told i d lt) ∙ with_texts-append [] (map words_of (take i told)) (words_of (get_or told i d) ∷ [])

-- ---- how they are shown

pub indented_more : (by : List ℕ) (lines : List Name) (words : Name) → indented by (lines ++ words ∷ []) ≡ indented by lines ++ line (by ++ printed words)
indented_more by lines words =
    flat_map-append (λ (w : Name). line (by ++ printed w)) lines (words ∷ []) ∙ ap (λ (l : List ℕ). indented by lines ++ l) (append-nil (line (by ++ printed words)))

pub shown_once : (text after : List ℕ) (lines : List Name) (words : Name) → list_any (name_eq words) lines ≡ false
    → after ≡ text ++ line (codes "    " ++ printed words) → Shows text lines after (with_text lines words)
shown_once text after lines words new e front shows =
    let more : with_text lines words ≡ lines ++ words ∷ [] = ap (λ b. cond b lines (lines ++ words ∷ [])) new in
    e ∙ ap (λ (l : List ℕ). l ++ line (codes "    " ++ printed words)) shows
    ∙ append_assoc front (indented (codes "    ") lines) (line (codes "    " ++ printed words))
    ∙ ap (λ (l : List ℕ). front ++ l) (sym (indented_more (codes "    ") lines words))
    ∙ ap (λ (ls : List Name). front ++ indented (codes "    ") ls) (sym more)

pub shown_before : (text : List ℕ) (lines : List Name) (words : Name) → list_any (name_eq words) lines ≡ true
    → Shows text lines text (with_text lines words)
shown_before text lines words there front shows =
    shows ∙ ap (λ b. front ++ indented (codes "    ") (cond b lines (lines ++ words ∷ []))) (sym there)

pub text_whole : (told : List Told) (text start : List ℕ) (lines : List Name) → (told ≡ [] → ⊥) → start ≡ line (codes "  " ++ printed head)
    → text ≡ start ++ indented (codes "    ") lines → text ≡ text_of told lines
text_whole [] text start lines some begin whole = absurd (some refl)
text_whole (t ∷ told) text start lines some begin whole = whole ∙ ap (λ (l : List ℕ). l ++ indented (codes "    ") lines) begin
