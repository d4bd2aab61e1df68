-- What an event takes that its frames do not have.
use Rattle.std.proofs.Common.{◌≡◌, ◌<◌, ◌-◌, ◌||◌, ℕ, zero, suc, List, [], ◌∷◌, Bool, true, false, length, map, drop, refl, sym, ap, subst, ◌∙◌, arith}
use Rattle.std.specs.Prelude.{nat_lt, slice_index, slice_index_or}
use Rattle.std.proofs.lemmas.Bool.{false≢true, lt-ltb}
use Rattle.std.proofs.lemmas.List.{length-map}
use Rattle.model.specs.Classes.{Program}
use Rattle.model.specs.LimitStands.{Bounds}
use Rattle.model.specs.Operands.{word_of}
use Rattle.model.specs.Outcomes.{Cost}
use Rattle.model.specs.State as model
use Rattle.model.specs.State.{FrameOf, StackOf, WorldOf, State}
use Rattle.model.specs.Step.{SteppedOf, NotEnabled, WrongKind, Next, PartOf}
use Rattle.model.specs.Words.{map_stack, words_of}
use Rattle.run_laws.specs.word_runs.Words.{map_stepped}
use Rattle.linked_code.specs.declared.program.LinkedProgram.{LinkedProgram}
use Rattle.thread_stacks.specs.declared.entry.Phase.{Phase}
use Rattle.thread_stacks.specs.Stacks.{ShownFrame, ShownEntry, Invocation, Initialisation, in_phase}
use Rattle.machine_state.specs.shown_stacks.Shown.{ShowsStack}
use Rattle.machine_state.specs.declared.refusals.EventRefusal.{EventRefusal}
use Rattle.machine_state.specs.declared.refusals.EventRefusal.TheVariants as refusal
use Rattle.machine_state.specs.Events.{MayBeRefused, IsRefused}
use Rattle.machine_state.specs.Memory.{takes_shared, operand_counts, shown_counts, has_grown, takes_memory, takes_memory_by}

-- ---- one of them

pub or_left : (a b : Bool) → a ≡ true → (a || b) ≡ true
or_left true b e = refl
or_left false b e = absurd (false≢true e)

pub or_right : (a b : Bool) → b ≡ true → (a || b) ≡ true
or_right true b e = refl
or_right false b e = e

-- what may be refused for want of memory by less may be refused by more
pub refused_if : (trees : Program) (bounds : Bounds) (inflated : List ℕ) (world : WorldOf ℕ) (cost : Cost) (a b : Bool) → (a ≡ true → b ≡ true)
    → (told : EventRefusal)
    → MayBeRefused trees bounds inflated world cost a told → MayBeRefused trees bounds inflated world cost b told
refused_if trees bounds inflated world cost a b on refusal.Objects may = may
refused_if trees bounds inflated world cost a b on refusal.Cells may = may
refused_if trees bounds inflated world cost a b on refusal.Monitors may = may
refused_if trees bounds inflated world cost a b on refusal.Threads may = may
refused_if trees bounds inflated world cost a b on refusal.LockCount may = may
refused_if trees bounds inflated world cost a b on refusal.Memory may = on may

-- ---- what is kept has as many operands as what it shows

pub counts_shown : (trees : Program) (p : LinkedProgram) (from : List ShownEntry) (own : StackOf ℕ) → ShowsStack trees p from own
    → shown_counts from ≡ operand_counts own
counts_shown trees p [] [] s = refl
counts_shown trees p [] (entry ∷ own) s = absurd s
counts_shown trees p (entry ∷ from) [] s = absurd s
counts_shown trees p (Invocation shown ∷ from) (model.Invocation frame ∷ own) s =
    λ i. length (sym s.0.operands i) ∷ counts_shown trees p from own s.1 i
counts_shown trees p (Initialisation number at ∷ from) (model.Initialisation class phase ∷ own) s =
    ap (λ l. 0 ∷ l) (counts_shown trees p from own s.1)
counts_shown trees p (Invocation shown ∷ from) (model.Initialisation class phase ∷ own) s = absurd s.0
counts_shown trees p (Initialisation number at ∷ from) (model.Invocation frame ∷ own) s = absurd s.0

-- a phase is no operand
pub counts_phased : (to : Phase) (from : List ShownEntry) → shown_counts (in_phase to from) ≡ shown_counts from
counts_phased to [] = refl
counts_phased to (Invocation frame ∷ from) = refl
counts_phased to (Initialisation class phase ∷ from) = refl

-- of stacks with as many operands the same may be refused
pub refused_from : (trees : Program) (bounds : Bounds) (inflated : List ℕ) (world : WorldOf ℕ) (from other : List ShownEntry)
    (stepped : SteppedOf (PartOf ℕ)) (told : EventRefusal) → shown_counts from ≡ shown_counts other
    → IsRefused trees bounds inflated world from stepped told → IsRefused trees bounds inflated world other stepped told
refused_from trees bounds inflated world from other stepped told same r =
    record {
      cost = r.cost;
      next = r.next;
      is = r.is;
      may = subst (λ counts. MayBeRefused trees bounds inflated world r.cost (takes_memory world counts r.cost r.next) told) same r.may;
    }

-- ---- a stack that grows

pub grown_higher : (old new : List ℕ) → length old < length new → has_grown old new ≡ true
grown_higher old new more = or_left _ _ (lt-ltb (length old) (length new) more)

-- one entry more, over as many as there were
pub grown_by_one : (trees : Program) (p : LinkedProgram) (from : List ShownEntry) (own : StackOf ℕ) → ShowsStack trees p from own
    → (entry : model.StackEntryOf ℕ) (rest : StackOf ℕ) → length rest ≡ length own
    → has_grown (shown_counts from) (operand_counts (entry ∷ rest)) ≡ true
grown_by_one trees p from own s entry rest level =
    let before : length (shown_counts from) ≡ length own = ap length (counts_shown trees p from own s) ∙ length-map own _ in
    let after : length (operand_counts rest) ≡ length rest = length-map rest _ in
    grown_higher (shown_counts from) (operand_counts (entry ∷ rest)) (omega (arith, before, after, level))

-- what is on top has more operands
pub grown_on_top : (a b : ℕ) (rest : List ℕ) → a < b → has_grown (a ∷ rest) (b ∷ rest) ≡ true
grown_on_top a b rest more =
    or_right _ _ (subst (λ k. nat_lt (slice_index (drop k (a ∷ rest)) 0) b ≡ true) (sym none) (lt-ltb a b more))
  where
    none : length (a ∷ rest) - length (b ∷ rest) ≡ 0
    none = omega arith

-- what was under the top has
pub grown_under : (top a b : ℕ) (rest : List ℕ) → a < b → has_grown (top ∷ a ∷ rest) (b ∷ rest) ≡ true
grown_under top a b rest more =
    or_right _ _ (subst (λ k. nat_lt (slice_index (drop k (top ∷ a ∷ rest)) 0) b ≡ true) (sym one) (lt-ltb a b more))
  where
    one : length (top ∷ a ∷ rest) - length (b ∷ rest) ≡ 1
    one = omega arith

-- the frame on top has more operands then
pub grown_frame : (trees : Program) (p : LinkedProgram) (shown : ShownFrame) (others : List ShownEntry) (rest : StackOf ℕ) → ShowsStack trees p others rest
    → (from : List ShownEntry) → from ≡ Invocation shown ∷ others
    → (frame : FrameOf ℕ) → length shown.operands < length frame.place.slots.stack
    → has_grown (shown_counts from) (operand_counts (model.Invocation frame ∷ rest)) ≡ true
grown_frame trees p shown others rest s from is frame more =
    subst (λ l. has_grown (shown_counts l) (operand_counts (model.Invocation frame ∷ rest)) ≡ true) (sym is)
    (subst (λ counts. has_grown (length shown.operands ∷ counts) (operand_counts (model.Invocation frame ∷ rest)) ≡ true) (sym (counts_shown trees p others rest s))
    (grown_on_top (length shown.operands) (length frame.place.slots.stack) (operand_counts rest) more))

pub takes_by_growth : (world : WorldOf ℕ) (counts : List ℕ) (cost : Cost) (next : PartOf ℕ) → has_grown counts (operand_counts next.stack) ≡ true
    → takes_memory world counts cost next ≡ true
takes_by_growth world counts cost next grown = or_right _ _ (or_left _ _ grown)

pub takes_by_print : (world : WorldOf ℕ) (counts : List ℕ) (cost : Cost) (next : PartOf ℕ) → length world.printed < length next.world.printed
    → takes_memory world counts cost next ≡ true
takes_by_print world counts cost next more =
    or_right _ _ (or_right _ _ (or_left _ _ (lt-ltb (length world.printed) (length next.world.printed) more)))

pub takes_by_interning : (world : WorldOf ℕ) (counts : List ℕ) (cost : Cost) (next : PartOf ℕ) → length world.interned < length next.world.interned
    → takes_memory world counts cost next ≡ true
takes_by_interning world counts cost next more =
    let strings = nat_lt (length world.interned) (length next.world.interned) in
    let printed = nat_lt (length world.printed) (length next.world.printed) in
    let grown = has_grown counts (operand_counts next.stack) in
    or_right (takes_shared cost) (grown || (printed || strings))
    (or_right grown (printed || strings) (or_right printed strings (lt-ltb (length world.interned) (length next.world.interned) more)))

-- ---- words and values

counts_mapped : {A B : Type 0} (f : A → B) (stack : StackOf A) → operand_counts (map_stack f stack) ≡ operand_counts stack
counts_mapped f [] = refl
counts_mapped f (model.Invocation frame ∷ stack) = λ i. length-map frame.place.slots.stack f i ∷ counts_mapped f stack i
counts_mapped f (model.Initialisation class phase ∷ stack) = ap (λ l. 0 ∷ l) (counts_mapped f stack)

counts_at : {A B : Type 0} (f : A → B) (stacks : List (StackOf A)) (t : ℕ)
    → operand_counts (slice_index_or (map (map_stack f) stacks) t []) ≡ operand_counts (slice_index_or stacks t [])
counts_at f [] t = refl
counts_at f (stack ∷ stacks) zero = counts_mapped f stack
counts_at f (stack ∷ stacks) (suc t) = counts_at f stacks t

pub takes_as_values : (s : State) (t : ℕ) (y : SteppedOf State) → takes_memory_by (words_of s) t (map_stepped words_of y) ≡ takes_memory_by s t y
takes_as_values s t NotEnabled = refl
takes_as_values s t WrongKind = refl
takes_as_values s t (Next cost next) = λ i.
    takes_shared cost || (has_grown (counts_at word_of s.stacks t i) (counts_at word_of next.stacks t i) || (nat_lt (length s.world.printed) (length next.world.printed) || nat_lt (length s.world.interned) (length next.world.interned)))
