-- Steps of the methods that answer ints, along a text.
use Rattle.std.proofs.Common.{◌≡◌, ◌<◌, ◌≤◌, ◌+◌, ◌-◌, ◌*◌, ◌%◌, ◌^◌, ◌==◌, ◌&&◌, nat_le, ℕ, zero, suc, List, [], ◌∷◌, Bool, true, false, Some, None, cond, if◌then◌else◌, length, length-drop, take, drop, rules, arith, refl, sym, ap, ◌∙◌}
use Rattle.std.proofs.Math.ListN.{get_or}
use Rattle.std.proofs.lemmas.List.{drop_more}
use Rattle.std.proofs.Math.Seq.{drop-length, take-length}
use Rattle.std.specs.List.{slice_range}
use Rattle.std.specs.List.{position_from}
use Rattle.std.specs.Option.{option_map}
use Rattle.model.specs.StringMethods.{hash_after, compared, difference, place_from}

-- ---- hashCode

pub hash_more : (text : List ℕ) (i hash : ℕ) → i < length text
    → hash_after hash (drop i text) ≡ hash_after ((31 * hash + get_or text i 0) % 2 ^ 32) (drop (i + 1) text)
hash_more text i hash h = ap (hash_after hash) (drop_more text i 0 h)

-- ---- compareTo

along : (text other : List ℕ) (i : ℕ) → i < length text → i < length other
    → compared (drop i text) (drop i other)
    ≡ (if get_or text i 0 == get_or other i 0 then compared (drop (i + 1) text) (drop (i + 1) other)
    else difference (get_or text i 0) (get_or other i 0))
along text other i h k = λ j. compared (drop_more text i 0 h j) (drop_more other i 0 k j)

-- units that are equal
pub compared_same : (text other : List ℕ) (i : ℕ) → i < length text → i < length other
    → (get_or text i 0 == get_or other i 0) ≡ true
    → compared (drop (i + 1) text) (drop (i + 1) other) ≡ compared (drop i text) (drop i other)
compared_same text other i h k e =
    sym (along text other i h k
    ∙ ap (λ b. if b then compared (drop (i + 1) text) (drop (i + 1) other) else difference (get_or text i 0) (get_or other i 0)) e)

-- units that differ
pub compared_other : (text other : List ℕ) (i : ℕ) → i < length text → i < length other
    → (get_or text i 0 == get_or other i 0) ≡ false
    → difference (get_or text i 0) (get_or other i 0) ≡ compared (drop i text) (drop i other)
compared_other text other i h k e =
    sym (along text other i h k
    ∙ ap (λ b. if b then compared (drop (i + 1) text) (drop (i + 1) other) else difference (get_or text i 0) (get_or other i 0)) e)

-- where the other text ends
nothing_left : (text : List ℕ) → 0 < length text → compared text [] ≡ length text % 2 ^ 32
nothing_left [] h = absurd (omega (arith, h))
nothing_left (unit ∷ text) h = refl

pub compared_longer : (text other : List ℕ) (at : ℕ) → at ≡ length other → length other < length text
    → compared (drop at text) (drop at other) ≡ (length text - length other) % 2 ^ 32
compared_longer text other at e h =
    let left : length (drop (length other) text) ≡ length text - length other = length-drop (length other) text in
    ap (λ n. compared (drop n text) (drop n other)) e
    ∙ ap (compared (drop (length other) text)) (drop-length other)
    ∙ nothing_left (drop (length other) text) (omega (arith, left, h))
    ∙ ap (λ n. n % 2 ^ 32) left

-- ---- indexOf

is_least : (least at : ℕ) → least ≤ at → nat_le least at ≡ true
is_least least at h = search (rules, h)

is_below : (least at : ℕ) → at < least → nat_le least at ≡ false
is_below least at h = search (rules, h)

from_least : (text : List ℕ) (at least unit : ℕ) → least ≤ at
    → place_from at least unit text ≡ position_from (λ u. u == unit) at text
from_least [] at least unit h = refl
from_least (u ∷ text) at least unit h =
    ap (λ b. if b && u == unit then Some at else place_from (at + 1) least unit text) (is_least least at h)
    ∙ ap (λ rest. if u == unit then Some at else rest) (from_least text (at + 1) least unit (omega (arith, h)))

-- places below the least are passed over
pub passed_over : (more at unit : ℕ) (text : List ℕ)
    → place_from at (at + more) unit text ≡ position_from (λ u. u == unit) (at + more) (drop more text)
passed_over zero at unit text =
    let none : at + zero ≡ at = omega arith in
    ap (λ n. place_from at n unit text) none ∙ from_least text at at unit (omega arith) ∙ ap (λ n. position_from (λ u. u == unit) n text) (sym none)
passed_over (suc more) at unit [] = refl
passed_over (suc more) at unit (u ∷ text) =
    let next : at + 1 + more ≡ at + suc more = omega arith in
    ap (λ b. if b && u == unit then Some at else place_from (at + 1) (at + suc more) unit text) (is_below (at + suc more) at (omega arith))
    ∙ ap (λ n. place_from (at + 1) n unit text) (sym next)
    ∙ passed_over more (at + 1) unit text
    ∙ ap (λ n. position_from (λ u. u == unit) n (drop more text)) next

-- a place counted from another one
shifted : (test : ℕ → Bool) (at more : ℕ) (text : List ℕ)
    → position_from test (at + more) text ≡ option_map (λ place. at + place) (position_from test more text)
shifted test at more [] = refl
shifted test at more (u ∷ text) = by (shifted test at (more + 1) text) (test u)
  where
    by : position_from test (at + (more + 1)) text ≡ option_map (λ place. at + place) (position_from test (more + 1) text)
        → (b : Bool) → cond b (Some (at + more)) (position_from test (at + more + 1) text)
        ≡ option_map (λ place. at + place) (cond b (Some more) (position_from test (more + 1) text))
    by rest true = refl
    by rest false = let next : at + more + 1 ≡ at + (more + 1) = omega arith in ap (λ n. position_from test n text) next ∙ rest

pub place_is : (text : List ℕ) (least unit : ℕ)
    → place_from 0 least unit text ≡ option_map (λ place. least + place) (position_from (λ u. u == unit) 0 (drop least text))
place_is text least unit =
    let none : 0 + least ≡ least = omega arith in
    let all : least + 0 ≡ least = omega arith in
    ap (λ n. place_from 0 n unit text) (sym none) ∙ passed_over least 0 unit text
    ∙ ap (λ n. position_from (λ u. u == unit) n (drop least text)) (none ∙ sym all)
    ∙ shifted (λ u. u == unit) least 0 (drop least text)

-- what is behind a place
pub behind : (text rest : List ℕ) (least : ℕ) → rest ≡ slice_range text least (length text) → rest ≡ drop least text
behind text rest least e =
    e ∙ ap (λ n. take n (drop least text)) (sym (length-drop least text)) ∙ take-length (drop least text)

-- past the end there is none
pub no_place : (text : List ℕ) (at least unit : ℕ) → at + length text < least → place_from at least unit text ≡ None
no_place [] at least unit h = refl
no_place (u ∷ text) at least unit h =
    ap (λ b. if b && u == unit then Some at else place_from (at + 1) least unit text) (is_below least at (omega (arith, h)))
    ∙ no_place text (at + 1) least unit (omega (arith, h))
