-- Outcomes of runs that have ended: which of them are wanted, and lists of them (own).
use Rattle.std.specs.Prelude.{◌≡◌, ◌⊎◌, ℕ, ℤ, List, [], Option, Some, None, Bool, false, IsTrue, map}
use Rattle.std.specs.Cmp.Lexicographic.{slice_cmp}
use Rattle.std.specs.List.{flat_map, insert, list_any}
use Rattle.std.specs.List.Sorted.{IsStrictlySortedBy}
use Rattle.std.specs.BTreeSet.{insert_key}
use Rattle.std.specs.Ordering.{eq_by_cmp, nat_cmp, ordering_then}
use Rattle.std.specs.declared.cmp.Ordering.{Ordering}
use Rattle.model.specs.Report.{ThreadEnd, Ended, Threw, Blocked, Waiting, Joining, Initialising, Runnable, end_state_of}
use Rattle.model.specs.Texts.{Text, number_line, printed_lines}
use Rattle.run_laws.specs.interleavings.Ends.{Outcome, Has}
use Rattle.search.specs.run_outcomes.Lines.{text_cmp}
use Rattle.search.specs.declared.run_outcomes.outcomes.Outcome.{Outcome as TheOutcome}
use Rattle.search.specs.declared.run_outcomes.wanted.Wanted.{Wanted}
use Rattle.search.specs.declared.run_outcomes.wanted.Wanted.TheVariants as wanted

-- what an outcome tells
abbrev pub told_by : TheOutcome → Outcome
told_by o = record { printed = o.printed.items; ends = map end_state_of o.threads.items }

-- ---- what is wanted

-- a thread waits for ever
abbrev pub is_stuck : ThreadEnd → Bool
is_stuck Ended = false
is_stuck (Threw name) = false
is_stuck Blocked = Bool.true
is_stuck Waiting = Bool.true
is_stuck Joining = Bool.true
is_stuck Initialising = Bool.true
is_stuck Runnable = false

-- a thread ended with an exception that nothing caught
abbrev pub has_thrown : ThreadEnd → Bool
has_thrown (Threw name) = Bool.true
has_thrown end = false

-- the text of ints that are printed, each on a line
abbrev pub printed_text : List ℤ → Text
printed_text ints = flat_map number_line ints

abbrev pub IsWanted : Wanted → Outcome → Type 0
IsWanted wanted.Nothing o = ⊥
IsWanted wanted.Stuck o = IsTrue (list_any is_stuck o.ends)
IsWanted wanted.Uncaught o = IsTrue (list_any has_thrown o.ends)
IsWanted (wanted.Printed text) o = o.printed ≡ text.items
IsWanted (wanted.PrintedOther text) o = printed_lines o.printed ≡ text.items → ⊥

-- ---- their order

-- the words of a report are listed in this order
abbrev pub rank_of : ThreadEnd → ℕ
rank_of Ended = 0
rank_of (Threw name) = 1
rank_of Blocked = 2
rank_of Waiting = 3
rank_of Joining = 4
rank_of Initialising = 5
rank_of Runnable = 6

-- the name of the exception's class, where there is one
abbrev pub exception_of : ThreadEnd → List ℕ
exception_of (Threw name) = name
exception_of end = []

abbrev pub end_cmp : ThreadEnd → ThreadEnd → Ordering
end_cmp one other = ordering_then (nat_cmp (rank_of one) (rank_of other)) (slice_cmp nat_cmp (exception_of one) (exception_of other))

-- by what was printed, and by how the threads stand, the first that differ
abbrev pub outcome_cmp : Outcome → Outcome → Ordering
outcome_cmp one other = ordering_then (text_cmp one.printed other.printed) (slice_cmp end_cmp one.ends other.ends)

-- whether they are the same, where neither comes first
abbrev pub is_same : Outcome → Outcome → Bool
is_same = eq_by_cmp outcome_cmp

-- ---- lists of them

-- each is before those after it, and so each stands once
abbrev pub AreInOrder : List Outcome → Type 0
AreInOrder outcomes = IsStrictlySortedBy outcome_cmp outcomes

-- the outcome is listed, and so is each that was; and no other
pub record IsAdded (outcome : Outcome) (old new : List Outcome) : Type 0 where
  pub has : Has new outcome
  pub kept : (o : Outcome) → Has old o → Has new o
  pub only : (o : Outcome) → Has new o → Has old o ⊎ (o ≡ outcome)

-- where the outcome is to be inserted among others that are in order; nowhere, where it stands there
abbrev pub IsPlace : (outcomes : List Outcome) → Outcome → Option ℕ → Type 0
IsPlace outcomes outcome None = insert_key outcome_cmp outcomes outcome ≡ outcomes
IsPlace outcomes outcome (Some at) = insert_key outcome_cmp outcomes outcome ≡ insert outcomes at outcome
