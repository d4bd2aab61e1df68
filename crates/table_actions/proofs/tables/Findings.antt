-- What the tables of threads and monitors say of the world that they are of.
use Rattle.std.proofs.Common.{◌≡◌, refl, sym, ◌∙◌, subst, ℕ, List, [], ◌∷◌, ◌++◌, map}
use Rattle.std.specs.Prelude.{Option, Some, None, Bool, true, false}
use Rattle.model.specs.State.{World}
use Rattle.model.specs.Worlds as worlds
use Rattle.model.specs.Worlds.{is_of_object}
use Rattle.model.specs.Monitors.{monitor_at, owns}
use Rattle.model.specs.BuiltInMethods as model
use Rattle.model.specs.BuiltInMethods.{ObjectWait}
use Rattle.linked_code.specs.declared.method.BuiltInMethod.{BuiltInMethod as Called}
use Rattle.linked_code.specs.declared.method.BuiltInMethod.TheVariants as called
use Rattle.linked_code.specs.Methods.{built_in_of}
use Rattle.heap.specs.Heap.{Heap}
use Rattle.heap.specs.java_threads.Table.{ThreadTable, thread_at, number_of}
use Rattle.race_places.specs.declared.run_actions.Action.{Action}
use Rattle.race_places.specs.declared.run_actions.Action.TheVariants as action
use Rattle.race_places.specs.named_actions.Names.{named_action}
use Rattle.data_races.specs.Actions.{Action as NamedAction}
use Rattle.data_races.specs.EventActions.{found_alive, found_by_join, found_on, found_own, found_status, interrupts_on, is_over, of_thread}
use Rattle.table_actions.specs.declared.findings.Findings.{Findings}
use Rattle.table_actions.specs.tables.Told.{AreOf, Tells, all_found, found_of, interrupt_of, listed}

module _ (heap : Heap) (table : ThreadTable) where
  -- ---- a test, and what it tells

  over : (world : World) (u : ℕ) (b : Bool) → AreOf heap table world → b ≡ worlds.has_ended (thread_at table.threads u).status → is_over world u ≡ b
  over world u b are e = rw (← are.threads) (sym e)

  interrupted : (world : World) (t : ℕ) (b : Bool) → AreOf heap table world → b ≡ (thread_at table.threads t).interrupted
      → (worlds.thread_at world t).interrupted ≡ b
  interrupted world t b are e = rw (← are.threads) (sym e)

  owning : (world : World) (t object : ℕ) (b : Bool) → AreOf heap table world → b ≡ owns t (monitor_at heap.locks.monitors object).owner
      → worlds.is_owner world t object ≡ b
  owning world t object b are e = rw (← are.monitors) (sym e)

  number : (world : World) (object : ℕ) (o : Option ℕ) → AreOf heap table world → o ≡ number_of table.threads object → worlds.thread_of world object ≡ o
  number world object o are e = rw (← are.threads) (sym e)

  -- ---- what is found of one thread

  pub finished_told : (u : ℕ) (b : Bool) → b ≡ worlds.has_ended (thread_at table.threads u).status → b ≡ true
      → Tells heap table (action.FindFinished u ∷ []) (λ world. found_alive world u)
  finished_told u b e t names world are = let h : is_over world u ≡ true = over world u b are e ∙ t in rw h

  pub alive_told : (u : ℕ) (b : Bool) → b ≡ worlds.has_ended (thread_at table.threads u).status → b ≡ false
      → Tells heap table (action.FindStarted u ∷ []) (λ world. found_alive world u)
  alive_told u b e t names world are = let h : is_over world u ≡ false = over world u b are e ∙ t in rw h

  pub set_told : (u : ℕ) (b : Bool) → b ≡ (thread_at table.threads u).interrupted → b ≡ true
      → Tells heap table (action.FindInterrupted u ∷ []) (λ world. found_status world u)
  set_told u b e t names world are = let h : (worlds.thread_at world u).interrupted ≡ true = interrupted world u b are e ∙ t in rw h

  pub clear_told : (u : ℕ) (b : Bool) → b ≡ (thread_at table.threads u).interrupted → b ≡ false
      → Tells heap table (action.FindNotInterrupted u ∷ []) (λ world. found_status world u)
  clear_told u b e t names world are = let h : (worlds.thread_at world u).interrupted ≡ false = interrupted world u b are e ∙ t in rw h

  pub own_told : (u : ℕ) (b : Bool) → b ≡ (thread_at table.threads u).interrupted → b ≡ true
      → Tells heap table (action.FindInterrupted u ∷ []) (λ world. found_own world u)
  own_told u b e t names world are = let h : (worlds.thread_at world u).interrupted ≡ true = interrupted world u b are e ∙ t in rw h

  pub no_own_told : (u : ℕ) (b : Bool) → b ≡ (thread_at table.threads u).interrupted → b ≡ false
      → Tells heap table [] (λ world. found_own world u)
  no_own_told u b e t names world are = let h : (worlds.thread_at world u).interrupted ≡ false = interrupted world u b are e ∙ t in rw h

  pub interrupts_told : (u : ℕ) (b : Bool) → b ≡ worlds.has_ended (thread_at table.threads u).status → b ≡ false
      → Tells heap table (action.Interrupt u ∷ []) (λ world. interrupt_of world u)
  interrupts_told u b e t names world are = let h : is_over world u ≡ false = over world u b are e ∙ t in rw h

  pub no_interrupt_told : (u : ℕ) (b : Bool) → b ≡ worlds.has_ended (thread_at table.threads u).status → b ≡ true
      → Tells heap table [] (λ world. interrupt_of world u)
  no_interrupt_told u b e t names world are = let h : is_over world u ≡ true = over world u b are e ∙ t in rw h

  -- ---- of a join

  pub joined_told : (t u : ℕ) (b : Bool) → b ≡ worlds.has_ended (thread_at table.threads u).status → b ≡ true → (findings : Findings)
      → all_found findings ≡ action.FindFinished u ∷ [] → Tells heap table (all_found findings) (λ world. found_by_join world t u)
  joined_told t u b e y findings f names world are =
      let h : is_over world u ≡ true = over world u b are e ∙ y in rw (f, h)

  map_append : {A B : Type 0} (f : A → B) (xs ys : List A) → map f (xs ++ ys) ≡ map f xs ++ map f ys
  map_append f [] ys = refl
  map_append f (x ∷ xs) ys = rw (map_append f xs ys)

  pub unjoined_told : (t u : ℕ) (b : Bool) → b ≡ worlds.has_ended (thread_at table.threads u).status → b ≡ false → (own : Option Action)
      → Tells heap table (listed own) (λ world. found_own world t)
      → Tells heap table (listed own ++ action.FindStarted u ∷ []) (λ world. found_by_join world t u)
  unjoined_told t u b e n own told names world are =
      let h : is_over world u ≡ false = over world u b are e ∙ n in
      rw (map_append (named_action names) (listed own) (action.FindStarted u ∷ []), told names world are, h)

  -- ---- of a wait

  pub owner_told : (t object : ℕ) (b : Bool) → b ≡ owns t (monitor_at heap.locks.monitors object).owner → b ≡ true → (own : Option Action)
      → Tells heap table (listed own) (λ world. found_own world t) → (findings : Findings) → all_found findings ≡ listed own
      → Tells heap table (all_found findings) (λ world. found_on world t object ObjectWait)
  owner_told t object b e y own told findings f names world are =
      let h : worlds.is_owner world t object ≡ true = owning world t object b are e ∙ y in rw (f, told names world are, h)

  pub stranger_told : (t object : ℕ) (b : Bool) → b ≡ owns t (monitor_at heap.locks.monitors object).owner → b ≡ false → (findings : Findings)
      → all_found findings ≡ [] → Tells heap table (all_found findings) (λ world. found_on world t object ObjectWait)
  stranger_told t object b e n findings f names world are =
      let h : worlds.is_owner world t object ≡ false = owning world t object b are e ∙ n in rw (f, h)

  -- ---- of the thread of an object

  pub at_number : (object other : ℕ) → Some other ≡ number_of table.threads object → (actions : World → ℕ → List NamedAction) (told : List Action)
      → Tells heap table told (λ world. actions world other) → Tells heap table told (λ world. of_thread (worlds.thread_of world object) (actions world))
  at_number object other e actions told h names world are =
      let g : worlds.thread_of world object ≡ Some other = number world object (Some other) are e in rw g (h names world are)

  pub at_none : (object : ℕ) → None ≡ number_of table.threads object → (actions : World → ℕ → List NamedAction) (told : List Action) → told ≡ []
      → Tells heap table told (λ world. of_thread (worlds.thread_of world object) (actions world))
  at_none object e actions told h names world are =
      let g : worlds.thread_of world object ≡ None = number world object None are e in rw (g, h)

-- ---- by the built-in method

nobody : (o : Option ℕ) → [] ≡ of_thread o (λ u. [])
nobody None = refl
nobody (Some u) = refl

pub nothing_of : (world : World) (t u : ℕ) (b : Called) → (b ≡ called.ThreadStart → ⊥) → (b ≡ called.ThreadInterrupt → ⊥) → (b ≡ called.ThreadIsAlive → ⊥)
    → (b ≡ called.ThreadIsInterrupted → ⊥) → (b ≡ called.ThreadJoin → ⊥) → found_of world t u (built_in_of b) ≡ []
nothing_of world t u called.Construct a e i s j = refl
nothing_of world t u called.ConstructWithMessage a e i s j = refl
nothing_of world t u called.ConstructWithCause a e i s j = refl
nothing_of world t u called.ObjectWait a e i s j = refl
nothing_of world t u called.ObjectNotify a e i s j = refl
nothing_of world t u called.ObjectNotifyAll a e i s j = refl
nothing_of world t u called.ThreadStart a e i s j = absurd (a refl)
nothing_of world t u called.ThreadInterrupt a e i s j = absurd (e refl)
nothing_of world t u called.ThreadIsInterrupted a e i s j = absurd (s refl)
nothing_of world t u called.ThreadInterrupted a e i s j = refl
nothing_of world t u called.ThreadYield a e i s j = refl
nothing_of world t u called.ThreadCurrentThread a e i s j = refl
nothing_of world t u called.ThreadJoin a e i s j = absurd (j refl)
nothing_of world t u called.ThreadIsAlive a e i s j = absurd (i refl)
nothing_of world t u (called.PrintStreamPrints print) a e i s j = refl
nothing_of world t u (called.StringAnswers method) a e i s j = refl
nothing_of world t u (called.StringBuilderBuilds method) a e i s j = refl
nothing_of world t u (called.ObjectAnswers method) a e i s j = refl
nothing_of world t u called.ObjectClone a e i s j = refl
nothing_of world t u (called.ThreadNames method) a e i s j = refl
nothing_of world t u (called.StringWrites method) a e i s j = refl

pub on_thread : (world : World) (t object : ℕ) (b : Called) → (b ≡ called.ObjectWait → ⊥) → (b ≡ called.ThreadInterrupted → ⊥)
    → found_on world t object (built_in_of b) ≡ of_thread (worlds.thread_of world object) (λ u. found_of world t u (built_in_of b))
on_thread world t object called.Construct w i = nobody (worlds.thread_of world object)
on_thread world t object called.ConstructWithMessage w i = nobody (worlds.thread_of world object)
on_thread world t object called.ConstructWithCause w i = nobody (worlds.thread_of world object)
on_thread world t object called.ObjectWait w i = absurd (w refl)
on_thread world t object called.ObjectNotify w i = nobody (worlds.thread_of world object)
on_thread world t object called.ObjectNotifyAll w i = nobody (worlds.thread_of world object)
on_thread world t object called.ThreadStart w i = refl
on_thread world t object called.ThreadInterrupt w i = refl
on_thread world t object called.ThreadIsInterrupted w i = refl
on_thread world t object called.ThreadInterrupted w i = absurd (i refl)
on_thread world t object called.ThreadYield w i = nobody (worlds.thread_of world object)
on_thread world t object called.ThreadCurrentThread w i = nobody (worlds.thread_of world object)
on_thread world t object called.ThreadJoin w i = refl
on_thread world t object called.ThreadIsAlive w i = refl
on_thread world t object (called.PrintStreamPrints print) w i = nobody (worlds.thread_of world object)
on_thread world t object (called.StringAnswers method) w i = nobody (worlds.thread_of world object)
on_thread world t object (called.StringBuilderBuilds method) w i = nobody (worlds.thread_of world object)
on_thread world t object (called.ObjectAnswers method) w i = nobody (worlds.thread_of world object)
on_thread world t object called.ObjectClone w i = nobody (worlds.thread_of world object)
on_thread world t object (called.ThreadNames method) w i = nobody (worlds.thread_of world object)
on_thread world t object (called.StringWrites method) w i = nobody (worlds.thread_of world object)

pub no_interrupt_on : (world : World) (object : ℕ) (b : Called) → (b ≡ called.ThreadInterrupt → ⊥) → interrupts_on world object (built_in_of b) ≡ []
no_interrupt_on world object called.Construct n = refl
no_interrupt_on world object called.ConstructWithMessage n = refl
no_interrupt_on world object called.ConstructWithCause n = refl
no_interrupt_on world object called.ObjectWait n = refl
no_interrupt_on world object called.ObjectNotify n = refl
no_interrupt_on world object called.ObjectNotifyAll n = refl
no_interrupt_on world object called.ThreadStart n = refl
no_interrupt_on world object called.ThreadInterrupt n = absurd (n refl)
no_interrupt_on world object called.ThreadIsInterrupted n = refl
no_interrupt_on world object called.ThreadInterrupted n = refl
no_interrupt_on world object called.ThreadYield n = refl
no_interrupt_on world object called.ThreadCurrentThread n = refl
no_interrupt_on world object called.ThreadJoin n = refl
no_interrupt_on world object called.ThreadIsAlive n = refl
no_interrupt_on world object (called.PrintStreamPrints print) n = refl
no_interrupt_on world object (called.StringAnswers method) n = refl
no_interrupt_on world object (called.StringBuilderBuilds method) n = refl
no_interrupt_on world object (called.ObjectAnswers method) n = refl
no_interrupt_on world object called.ObjectClone n = refl
no_interrupt_on world object (called.ThreadNames method) n = refl
no_interrupt_on world object (called.StringWrites method) n = refl

-- what is told in place of other actions, or of another method
module _ (heap : Heap) (table : ThreadTable) where
  pub told_so : (told others : List Action) (actions : World → List NamedAction) → told ≡ others → Tells heap table others actions → Tells heap table told actions
  told_so told others actions e h = subst (λ l. Tells heap table l actions) (sym e) h

  pub by_method : (told : List Action) (actions : World → model.BuiltInMethod → List NamedAction) (b method : Called) → b ≡ method
      → Tells heap table told (λ world. actions world (built_in_of method)) → Tells heap table told (λ world. actions world (built_in_of b))
  by_method told actions b method e h = subst (λ (x : Called). Tells heap table told (λ world. actions world (built_in_of x))) (sym e) h

  pub on_some : (told : List Action) (t object other : ℕ) (b : Called) → Some other ≡ number_of table.threads object
      → (b ≡ called.ObjectWait → ⊥) → (b ≡ called.ThreadInterrupted → ⊥) → Tells heap table told (λ world. found_of world t other (built_in_of b))
      → Tells heap table told (λ world. found_on world t object (built_in_of b))
  on_some told t object other b e w i h names world are =
      at_number heap table object other e (λ world u. found_of world t u (built_in_of b)) told h names world are ∙ sym (on_thread world t object b w i)

  pub on_none : (told : List Action) (t object : ℕ) (b : Called) → None ≡ number_of table.threads object
      → (b ≡ called.ObjectWait → ⊥) → (b ≡ called.ThreadInterrupted → ⊥) → told ≡ [] → Tells heap table told (λ world. found_on world t object (built_in_of b))
  on_none told t object b e w i h names world are =
      at_none heap table object e (λ world u. found_of world t u (built_in_of b)) told h names world are ∙ sym (on_thread world t object b w i)
