-- By which rule the event of a thread goes, by what is kept of the thread (JVMS 2.6, 2.10, 5.2, 5.5; JLS 17).
use Rattle.std.specs.Prelude.{◌≡◌, ℕ, List, [], ◌∷◌, Option, Some, None}
use Rattle.model.specs.State.{ThreadStatus, Running, Waiting, Relock, Ended, Thread}
use Rattle.heap.specs.declared.java_threads.status.WakeCause.{WakeCause}
use Rattle.heap.specs.java_threads.Statuses.{cause_of}
use Rattle.thread_stacks.specs.Stacks.{ShownEntry, Invocation, Initialisation}
use Rattle.thread_rules.specs.declared.next_rules.NextRule.{NextRule}
use Rattle.thread_rules.specs.declared.next_rules.NextRule.TheVariants as rule

abbrev pub IsGoing : List ShownEntry → NextRule → Type 0
IsGoing [] told = told ≡ rule.Begin
IsGoing (Invocation frame ∷ stack) told = told ≡ rule.Bytecode
IsGoing (Initialisation class phase ∷ stack) told = told ≡ rule.Initialisation class phase

abbrev pub IsRunningRule : Option ℕ → List ShownEntry → NextRule → Type 0
IsRunningRule None stack told = IsGoing stack told
IsRunningRule (Some exception) stack told = told ≡ rule.Pending exception

abbrev pub IsRuleBy : ThreadStatus → Option ℕ → List ShownEntry → NextRule → Type 0
IsRuleBy Running pending stack told = IsRunningRule pending stack told
IsRuleBy (Waiting object count) pending stack told = told ≡ rule.NoEvent
IsRuleBy (Relock object count cause) pending stack told = (why : WakeCause) × (told ≡ rule.Relock object count why) × (cause_of why ≡ cause)
IsRuleBy (Ended exception) pending stack told = told ≡ rule.NoEvent

abbrev pub IsRule : Thread → List ShownEntry → NextRule → Type 0
IsRule thread stack told = IsRuleBy thread.status thread.pending stack told
