-- Strings that get their texts, and copies of objects.
use Rattle.std.proofs.Common.{◌≡◌, ◌≤◌, ◌+◌, ℕ, zero, suc, List, [], ◌∷◌, ◌++◌, Option, Some, None, Bool, true, false, if◌then◌else◌, ◌&&◌, ◌==◌, length, drop, nat_le, refl, sym, ap, subst, ◌∙◌, arith, eqb-true}
use Rattle.std.specs.Prelude.{sum_by, slice_get, slice_index_or, slice_set}
use Rattle.std.proofs.lemmas.Bool.{false≢true, true≢false, and_parts, leb-true}
use Rattle.std.proofs.lemmas.List.Sums.{sum_by-cons}
use Rattle.std.proofs.lemmas.Option.{get_or_from_slice_get, same_Some}
use Rattle.model.specs.declared.end.RunCause.TheVariants as cause
use Rattle.model.specs.BuiltInNumbers.{string_number}
use Rattle.model.specs.Names.{Name, name_eq, java_lang_string}
use Rattle.model.specs.Classes.{Program, name_of}
use Rattle.model.specs.Linkable.{IsLinkable}
use Rattle.model.specs.State.{ObjectOf, Instance, Primitives, References, Characters, WorldOf}
use Rattle.model.specs.LimitStands.{Bounds, opening_count}
use Rattle.model.specs.TextMethods.{with_text_at}
use Rattle.model.specs.Texts.{Text}
use Rattle.model.specs.Worlds.{cells_of, no_object, object_at, text_of, with_text}
use Rattle.heap.specs.declared.kind.ObjectKind.{ObjectKind}
use Rattle.heap.specs.declared.kind.ObjectKind.TheVariants as kind
use Rattle.heap.specs.declared.refusal.AllocRefusal.TheVariants as refusal
use Rattle.heap.specs.Heap.{Object, changed, extended, with_more, with_words}
use Rattle.linked_code.specs.declared.program.LinkedProgram.{LinkedProgram}
use Rattle.linked_code.specs.declared.types.LinkedType.{LinkedType}
use Rattle.linked_code.specs.Numbers.{IsClassAt}
use Rattle.machine_state.specs.shown_objects.Shown as shown
use Rattle.machine_state.specs.shown_objects.Shown.{AreUnits, IsKindOf, ShowsObject, ShowsObjects}
use Rattle.machine_state.proofs.shown_objects.Strings.{string_at}
use Rattle.machine_state.proofs.type_tests.Numbered.{string_numbered}
use Rattle.machine_state.specs.declared.state.Shared.{Shared}
use Rattle.machine_state.specs.Shown.{IsProgram, Represents}
use Rattle.machine_state.specs.allocations.Filled.{is_string_kind, is_empty_string, is_unfilled, AreCopiesMade, AreFilled, AreFillsRefused}
use Rattle.machine_state.proofs.allocations.Allocating.{made_one, cells_fit, cells_pass}

pub copies_made : AreCopiesMade
copies_made trees p bounds inflated world old new r one object cells shows cells_are fits opened objects room is =
    made_one trees p bounds inflated world old new r one (length old.heap.objects) cells refl fits opened objects room is object shows cells_are

-- ---- what has no text yet

-- what kind and words show of a String that is empty
module _ (files : List (List ℕ)) (trees : Program) (linkable : IsLinkable files trees) (components : List LinkedType) where
  -- the class of that number is String
  named_string : (number : ℕ) (class : Name) → IsClassAt trees number class → (number == string_number) ≡ true → class ≡ java_lang_string
  named_string number class at e =
      let string = string_at trees in
      let same : at.0 ≡ string.0 = same_Some at.0 string.0 (sym at.1 ∙ ap (slice_get _) (eqb-true number string_number e) ∙ string.1) in
      sym at.2 ∙ ap name_of same ∙ string.2

  -- a String is empty exactly where its words are none
  empty_by : (k : ObjectKind) (m : ObjectOf ℕ) (ws : List ℕ) → IsKindOf trees components k m → ws ≡ shown.cells_of m
      → (is_string_kind k && (length ws == 0)) ≡ true → m ≡ Characters []
  empty_by (kind.Instance number) (Instance class fields) ws is e h =
      let named = named_string number class is.0 (and_parts (number == string_number) (length ws == 0) h).0 in
      absurd (true≢false (ap (λ c. name_eq c java_lang_string) (sym named) ∙ is.2))
  empty_by (kind.Instance number) (Characters []) ws is e h = refl
  empty_by (kind.Instance number) (Characters (unit ∷ text)) ws is e h =
      let none : length ws ≡ 0 = eqb-true (length ws) 0 (and_parts (number == string_number) (length ws == 0) h).1 in
      let long : length ws ≡ suc (length text) = ap length e in
      absurd (omega (arith, none, long))
  empty_by (kind.Instance number) (Primitives of elements) ws is e h = absurd is
  empty_by (kind.Instance number) (References of elements) ws is e h = absurd is
  empty_by kind.Ints m ws is e h = absurd (false≢true h)
  empty_by (kind.Narrow narrow) m ws is e h = absurd (false≢true h)
  empty_by (kind.References number) m ws is e h = absurd (false≢true h)

  -- and what is no such String stays where it would get a text
  stays_by : (k : ObjectKind) (m : ObjectOf ℕ) (ws : List ℕ) → IsKindOf trees components k m → ws ≡ shown.cells_of m
      → (is_string_kind k && (length ws == 0)) ≡ false → (length (text_of m) == 0) ≡ true → (text : Text) → with_text text m ≡ m
  stays_by k (Instance class fields) ws is e h blank text = refl
  stays_by k (Primitives of elements) ws is e h blank text = refl
  stays_by k (References of elements) ws is e h blank text = refl
  stays_by (kind.Instance number) (Characters units) ws is e h blank text =
      let number_is = string_numbered files trees linkable number is.0 in
      let both : (is_string_kind (kind.Instance number) && (length ws == 0)) ≡ true =
      (λ i. (number_is i == string_number) && (length (e i) == 0)) ∙ blank in
      absurd (true≢false (sym both ∙ h))
  stays_by kind.Ints (Characters units) ws is e h blank text = absurd is
  stays_by (kind.Narrow narrow) (Characters units) ws is e h blank text = absurd is
  stays_by (kind.References number) (Characters units) ws is e h blank text = absurd is

-- ---- among all objects

module _ (files : List (List ℕ)) (trees : Program) (linkable : IsLinkable files trees) (components : List LinkedType) where
  -- the String that is empty
  empty_at : (os : List Object) (ms : List (ObjectOf ℕ)) → ShowsObjects trees components os ms → (r : ℕ)
      → is_empty_string (slice_get os r) ≡ true → slice_get ms r ≡ Some (Characters [])
  empty_at [] [] h r e = absurd (false≢true e)
  empty_at [] (m ∷ ms) h r e = absurd h
  empty_at (o ∷ os) [] h r e = absurd h
  empty_at (o ∷ os) (m ∷ ms) h zero e =
      ap (λ (x : ObjectOf ℕ). Some x) (empty_by files trees linkable components o.kind m o.words h.0.kind h.0.words e)
  empty_at (o ∷ os) (m ∷ ms) h (suc r) e = empty_at os ms h.1 r e

  -- another object stays
  stays_at : (os : List Object) (ms : List (ObjectOf ℕ)) → ShowsObjects trees components os ms → (r : ℕ)
      → is_empty_string (slice_get os r) ≡ false → (length (text_of (slice_index_or ms r no_object)) == 0) ≡ true → (text : Text)
      → slice_set ms r (with_text text (slice_index_or ms r no_object)) ≡ ms
  stays_at [] [] h r e blank text = refl
  stays_at [] (m ∷ ms) h r e blank text = absurd h
  stays_at (o ∷ os) [] h r e blank text = absurd h
  stays_at (o ∷ os) (m ∷ ms) h zero e blank text =
      ap (λ (x : ObjectOf ℕ). x ∷ ms) (stays_by files trees linkable components o.kind m o.words h.0.kind h.0.words e blank text)
  stays_at (o ∷ os) (m ∷ ms) h (suc r) e blank text = ap (λ l. m ∷ l) (stays_at os ms h.1 r e blank text)

  -- an empty String with a text
  shown_filled : (os : List Object) (ms : List (ObjectOf ℕ)) → ShowsObjects trees components os ms → (r : ℕ) (text : Text) → AreUnits text
      → is_empty_string (slice_get os r) ≡ true
      → ShowsObjects trees components (extended os r text) (slice_set ms r (Characters text))
  shown_filled [] [] h r text units e = absurd (false≢true e)
  shown_filled [] (m ∷ ms) h r text units e = absurd h
  shown_filled (o ∷ os) [] h r text units e = absurd h
  shown_filled (o ∷ os) (m ∷ ms) h zero text units e =
      let empty = empty_by files trees linkable components o.kind m o.words h.0.kind h.0.words e in
      let none : o.words ≡ [] = h.0.words ∙ ap shown.cells_of empty in
      let is : IsKindOf trees components o.kind (Characters []) = subst (λ (x : ObjectOf ℕ). IsKindOf trees components o.kind x) empty h.0.kind in
      (record { kind = text_kind o.kind is; words = ap (λ l. l ++ text) none }, h.1)
    where
      text_kind : (k : ObjectKind) → IsKindOf trees components k (Characters []) → IsKindOf trees components k (Characters text)
      text_kind (kind.Instance number) is = (is.0, units)
      text_kind kind.Ints is = absurd is
      text_kind (kind.Narrow narrow) is = absurd is
      text_kind (kind.References number) is = absurd is
  shown_filled (o ∷ os) (m ∷ ms) h (suc r) text units e =
      subst (λ l. ShowsObjects trees components l (m ∷ slice_set ms r (Characters text))) (sym (later (slice_get os r)))
      (h.0, shown_filled os ms h.1 r text units e)
    where
      later : (x : Option Object) → changed (o ∷ os) (suc r) (with_more text) x ≡ o ∷ changed os r (with_more text) x
      later None = refl
      later (Some x) = refl

-- ---- cells

-- a text in the place of an empty one
more_cells : (ms : List (ObjectOf ℕ)) (n r : ℕ) (text : Text) → n ≤ r → slice_get ms r ≡ Some (Characters [])
    → sum_by cells_of (drop n (slice_set ms r (Characters text))) ≡ sum_by cells_of (drop n ms) + length text
more_cells [] n r text low e = absurd cc
more_cells (m ∷ ms) zero zero text low e =
    let is : m ≡ Characters [] = cc in
    let none : cells_of m ≡ 0 = ap cells_of is in
    sum_by-cons cells_of (Characters text) ms ∙ swapped (cells_of m) (sum_by cells_of ms) (length text) none
    ∙ ap (λ k. k + length text) (sym (sum_by-cons cells_of m ms))
  where
    swapped : (a s t : ℕ) → a ≡ 0 → t + s ≡ a + s + t
    swapped a s t e = omega (arith, e)
more_cells (m ∷ ms) zero (suc r) text low e =
    sum_by-cons cells_of m (slice_set ms r (Characters text))
    ∙ lifted (cells_of m) (sum_by cells_of (slice_set ms r (Characters text))) (sum_by cells_of ms) (length text) (more_cells ms zero r text (omega arith) e)
    ∙ ap (λ k. k + length text) (sym (sum_by-cons cells_of m ms))
  where
    lifted : (a s from t : ℕ) → s ≡ from + t → a + s ≡ a + from + t
    lifted a s from t e = omega (arith, e)
more_cells (m ∷ ms) (suc n) zero text low e = absurd (omega (arith, low))
more_cells (m ∷ ms) (suc n) (suc r) text low e = more_cells ms n r text (omega (arith, low)) e

-- ---- a machine

module _ (trees : Program) (p : LinkedProgram) (bounds : Bounds) (inflated : List ℕ) (world : WorldOf ℕ) (old : Shared)
    (program : IsProgram trees p) (r : Represents trees p bounds old world) (string : ℕ) (text : Text) (units : AreUnits text) where
  opened : old.heap.opening ≡ opening_count trees
  opened = r.limits.opening

  abbrev objects : List Object
  objects = old.heap.objects

  -- by whether the String is one of the run that has no text
  after : (low empty : Bool) → nat_le old.heap.opening string ≡ low → is_empty_string (slice_get objects string) ≡ empty
      → Represents trees p bounds (record old { heap = if low && empty then with_words old.heap string text else old.heap })
      (with_text_at (opening_count trees) world string text)
  after false empty low is =
      subst (λ (w : WorldOf ℕ). Represents trees p bounds old w) (sym same) r
    where
      same : with_text_at (opening_count trees) world string text ≡ world
      same =
          ap (λ b. if b && (length (text_of (object_at world string)) == 0) then record world { heap = slice_set world.heap string (with_text text (object_at world string)) } else world)
          (ap (λ n. nat_le n string) (sym opened) ∙ low)
  after true false low is = subst (λ (w : WorldOf ℕ). Represents trees p bounds old w) (sym (same (length (text_of (object_at world string)) == 0) refl)) r
    where
      at_start : nat_le (opening_count trees) string ≡ true
      at_start = ap (λ n. nat_le n string) (sym opened) ∙ low

      same : (blank : Bool) → (length (text_of (object_at world string)) == 0) ≡ blank
          → with_text_at (opening_count trees) world string text ≡ world
      same true e =
          (λ i. if at_start i && e i then record world { heap = slice_set world.heap string (with_text text (object_at world string)) } else world)
          ∙ ap (λ l. record world { heap = l })
          (stays_at program.files trees program.linkable p.components.items objects world.heap r.world_is.objects string is e text)
      same false e = λ i. if at_start i && e i then record world { heap = slice_set world.heap string (with_text text (object_at world string)) } else world
  after true true low is =
      subst (λ (w : WorldOf ℕ). Represents trees p bounds (record old { heap = with_words old.heap string text }) w) (sym world_is)
      (record {
        world_is = record {
          objects = shown_filled program.files trees program.linkable p.components.items objects world.heap r.world_is.objects string text units is;
          counted =
              (λ i. r.world_is.counted i + length text)
              ∙ sym (more_cells world.heap (opening_count trees) string text (omega (arith, at_or_behind, opened)) there);
          monitors = r.world_is.monitors;
          statics = r.world_is.statics;
          statuses = r.world_is.statuses;
          ready = r.world_is.ready;
          threads = r.world_is.threads;
          printed = r.world_is.printed;
          interned = r.world_is.interned;
          unnamed = r.world_is.unnamed;
        };
        limits = record {
          opening = r.limits.opening;
          objects = r.limits.objects;
          cells = r.limits.cells;
          monitors = r.limits.monitors;
          threads = r.limits.threads;
        };
      })
    where
      at_or_behind : old.heap.opening ≤ string
      at_or_behind = leb-true old.heap.opening string low

      there : slice_get world.heap string ≡ Some (Characters [])
      there = empty_at program.files trees program.linkable p.components.items objects world.heap r.world_is.objects string is

      object_is : object_at world string ≡ Characters []
      object_is = get_or_from_slice_get world.heap string (Characters []) no_object there

      world_is : with_text_at (opening_count trees) world string text ≡ record world { heap = slice_set world.heap string (Characters text) }
      world_is =
          (λ i. if nat_le (sym opened i) string && (length (text_of (object_is i)) == 0)
          then record world { heap = slice_set world.heap string (with_text text (object_is i)) } else world)
          ∙ ap (λ b. if b then record world { heap = slice_set world.heap string (Characters text) } else world) (ap (λ b. b && true) low)

  -- no lock is touched
  locks_kept : (b : Bool) → (if b then with_words old.heap string text else old.heap).locks.fat ≡ old.heap.locks.fat
  locks_kept true = refl
  locks_kept false = refl

pub are_filled : AreFilled
are_filled trees p bounds inflated world old new program r string text units room is =
    record {
      within = ap (λ (b : Bool). if b then Some cause.Cells else None) (cells_fit trees p bounds world old r (length text) room);
      represents = subst (λ (s : Shared). Represents trees p bounds s (with_text_at (opening_count trees) world string text)) (sym is)
          (after trees p bounds inflated world old program r string text units (nat_le old.heap.opening string) (is_empty_string (slice_get old.heap.objects string)) refl refl);
      flags = ap (λ (s : Shared). s.heap.locks.fat) is ∙ locks_kept trees p bounds inflated world old program r string text units (is_unfilled old.heap string);
    }

pub fills_refused : AreFillsRefused
fills_refused trees p bounds inflated world old new r count refusal.Objects why = absurd why
fills_refused trees p bounds inflated world old new r count refusal.Cells why =
    (ap (λ (b : Bool). if b then Some cause.Cells else None) (cells_pass trees p bounds world old r count why.0), why.1)
fills_refused trees p bounds inflated world old new r count refusal.Memory why = (refl, why.1)
