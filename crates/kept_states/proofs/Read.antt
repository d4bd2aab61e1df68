-- A state that is read by the numbers of its parts.
use Rattle.std.proofs.Common.{◌≡◌, ℕ, List, refl, sym, subst}
use Rattle.model.specs.declared.limits.Limits.{Limits}
use Rattle.heap.specs.Heap.{Heap}
use Rattle.word_table.specs.Lists.{StandsFor}
use Rattle.kept_parts.specs.Rows.{flags_row}
use Rattle.kept_parts.specs.Heaps.{IsHeapRead}
use Rattle.machine_state.specs.declared.state.Shared.{Shared}
use Rattle.kept_states.specs.declared.globals.Globals.{Globals}
use Rattle.kept_states.specs.Rows.{statuses_row}
use Rattle.kept_states.specs.States.{AreThreads, IsSharedRead}

pub heap_read : (parts : List (List ℕ)) (limits : Limits) (opening before counted : ℕ) (objects fat : List ℕ) (old new : Heap)
    → IsHeapRead parts limits opening before objects fat old → new ≡ record old { counted = counted }
    → IsHeapRead parts limits opening counted objects fat new
heap_read parts limits opening before counted objects fat old new read is =
    subst (λ heap. IsHeapRead parts limits opening counted objects fat heap) (sym is) (record {
      are = read.are;
      fat_is = read.fat_is;
      opening_is = read.opening_is;
      counted_is = refl;
      objects_limited = read.objects_limited;
      cells_limited = read.cells_limited;
      monitors_limited = read.monitors_limited;
    })

pub shared_read : (parts : List (List ℕ)) (g : Globals) (objects threads fat : List ℕ) (s : Shared) → IsHeapRead parts g.limits g.opening g.counted objects fat s.heap
    → StandsFor parts g.numbers.statics s.statics.items → StandsFor parts g.numbers.statuses (statuses_row s.statuses.items)
    → StandsFor parts g.numbers.ready (flags_row s.ready.items) → StandsFor parts g.numbers.printed s.printed.items
    → StandsFor parts g.numbers.interned s.interned.items → s.unnamed ≡ g.unnamed
    → AreThreads parts threads s.threads.threads s.stacks.items → s.threads.limit ≡ g.limits.threads → IsSharedRead parts g objects threads fat s
shared_read parts g objects threads fat s heap statics statuses ready printed interned unnamed are limit = record {
  heap = heap;
  each = record { statics = statics; statuses = statuses; ready = ready; printed = printed; interned = interned };
  limit = limit;
  unnamed = unnamed;
  threads_are = are;
}
