-- Words of seeds, and the events of runs by policies, over two classes that javac wrote, whose main starts a thread: as docs/REFERENCE.md
-- has the words, and as oracle/seeds.py makes the events by what stands there.
use Rattle.std.specs.Prelude.{◌≡◌, ℕ, List, [], ◌∷◌, ◌++◌, take}
use Rattle.rand_core.specs.Stream.{Stream, next_u64}
use Rattle.model.specs.declared.event.Event.{Event}
use Rattle.run_laws.specs.examples.AcceptedThreads.{files}
use Rattle.run_laws.specs.examples.Reports.{times, usual}
use Rattle.program_runs.specs.declared.policies.policy.Policy.{Policy}
use Rattle.program_runs.specs.declared.policies.policy.Policy.TheVariants as policy
use Rattle.program_runs.specs.policies.Runs.{events_by, words_of}

-- the first four words
abbrev pub four_words : Stream → List ℕ
four_words s =
    let second = next_u64 (next_u64 s).1 in
    let third = next_u64 second.1 in
    (next_u64 s).0 ∷ second.0 ∷ third.0 ∷ (next_u64 third.1).0 ∷ []

-- the events of a run, of at most a hundred
abbrev pub run_by : Policy → List Event
run_by p = events_by p files usual 100

-- an event of the other thread and one of main's, five times, and one more of the other thread
abbrev pub by_turns : List Event
by_turns = times 1 1 ++ times 1 0 ++ times 1 1 ++ times 1 0 ++ times 1 1 ++ times 1 0 ++ times 1 1 ++ times 1 0 ++ times 1 1 ++ times 1 0 ++ times 1 1

pub record SeedExamples : Type 0 where
  pub word_of_0 : take 1 (four_words (words_of 0)) ≡ 0x53175d61490b23df ∷ []
  pub words_of_1 : four_words (words_of 1) ≡ 0xcfc5d07f6f03c29b ∷ 0xbf424132963fe08d ∷ 0x19a37d5757aaf520 ∷ 0xbf08119f05cd56d6 ∷ []
  pub mixed_by_1 : run_by (policy.Mixed 1) ≡ times 30 0 ++ times 6 1
  pub mixed_by_3 : run_by (policy.Mixed 3) ≡ times 20 0 ++ by_turns ++ times 5 0
  pub random_by_2 : run_by (policy.Random 2) ≡ times 20 0 ++ times 4 1 ++ times 5 0 ++ times 2 1 ++ times 5 0
  pub turns_of_1 : run_by (policy.Rotation 1) ≡ times 20 0 ++ by_turns ++ times 5 0
  pub turns_of_5 : run_by (policy.Rotation 5) ≡ times 20 0 ++ times 5 1 ++ times 5 0 ++ times 1 1 ++ times 5 0
