-- A row stands for one part.
use Rattle.std.proofs.Common.{◌≡◌, ℕ, zero, suc, List, [], ◌∷◌, ◌++◌, length, drop, refl, sym, ◌∙◌, ap, Option, Some, None, Bool, true, false, arith, append_assoc, subst}
use Rattle.model.specs.State as model
use Rattle.model.specs.State.{Monitor, Waiter, Thread}
use Rattle.heap.specs.declared.kind.NarrowKind.TheVariants as narrow
use Rattle.heap.specs.declared.kind.ObjectKind.{ObjectKind}
use Rattle.heap.specs.declared.kind.ObjectKind.TheVariants as kind
use Rattle.heap.specs.Heap.{Object}
use Rattle.thread_stacks.specs.declared.entry.Phase.TheVariants as phase
use Rattle.thread_stacks.specs.declared.entry.EntryKind.{EntryKind}
use Rattle.thread_stacks.specs.declared.entry.EntryKind.TheVariants as entry_kind
use Rattle.thread_stacks.specs.declared.entry.Entry.{Entry}
use Rattle.thread_stacks.specs.Stacks.{ShownEntry, shown}
use Rattle.kept_parts.specs.Rows.{option_row, flag_code, flags_row}
use Rattle.kept_parts.specs.Objects.{kind_row, owner_code, waiters_row, monitor_row, object_row}
use Rattle.kept_parts.specs.Stacks.{entry_kind_row, entry_row, entries_row, stack_row, IsStackRow}
use Rattle.kept_parts.specs.Threads.{status_row, thread_row, IsThreadRow}

-- ---- lists

pub head_is : {A : Type 0} (x y : A) (xs ys : List A) → x ∷ xs ≡ y ∷ ys → x ≡ y
head_is x y xs ys h = cc

pub tail_is : {A : Type 0} (x y : A) (xs ys : List A) → x ∷ xs ≡ y ∷ ys → xs ≡ ys
tail_is x y xs ys h = cc

-- of two that begin with lists cs long
pub front_is : (xs ys cs ds : List ℕ) → length xs ≡ length ys → xs ++ cs ≡ ys ++ ds → (xs ≡ ys) × (cs ≡ ds)
front_is [] [] cs ds n h = (refl, h)
front_is [] (y ∷ ys) cs ds n h = absurd (omega (arith, n))
front_is (x ∷ xs) [] cs ds n h = absurd (omega (arith, n))
front_is (x ∷ xs) (y ∷ ys) cs ds n h =
    let rest : (xs ≡ ys) × (cs ≡ ds) = front_is xs ys cs ds (omega (arith, n)) (tail_is x y (xs ++ cs) (ys ++ ds) h) in
    let first : x ≡ y = head_is x y (xs ++ cs) (ys ++ ds) h in
    let others : xs ≡ ys = rest.0 in (cc, rest.1)

-- ---- options and flags

pub option_one : (o p : Option ℕ) (cs ds : List ℕ) → option_row o ++ cs ≡ option_row p ++ ds → (o ≡ p) × (cs ≡ ds)
option_one None None cs ds h = (refl, tail_is 0 0 cs ds h)
option_one None (Some y) cs ds h = absurd (omega (arith, head_is 0 1 cs (y ∷ ds) h))
option_one (Some x) None cs ds h = absurd (omega (arith, head_is 1 0 (x ∷ cs) ds h))
option_one (Some x) (Some y) cs ds h =
    let rest : x ∷ cs ≡ y ∷ ds = tail_is 1 1 (x ∷ cs) (y ∷ ds) h in
    (ap (λ (z : ℕ). Some z) (head_is x y cs ds rest), tail_is x y cs ds rest)

pub flag_one : (a b : Bool) → flag_code a ≡ flag_code b → a ≡ b
flag_one false false h = refl
flag_one false true h = absurd (omega (arith, h))
flag_one true false h = absurd (omega (arith, h))
flag_one true true h = refl

pub flags_one : (xs ys : List Bool) → flags_row xs ≡ flags_row ys → xs ≡ ys
flags_one [] [] h = refl
flags_one [] (y ∷ ys) h = absurd (cc)
flags_one (x ∷ xs) [] h = absurd (cc)
flags_one (x ∷ xs) (y ∷ ys) h =
    let first : x ≡ y = flag_one x y (head_is (flag_code x) (flag_code y) (flags_row xs) (flags_row ys) h) in
    let rest : xs ≡ ys = flags_one xs ys (tail_is (flag_code x) (flag_code y) (flags_row xs) (flags_row ys) h) in
    cc

-- ---- objects

-- what two words say of an object
abbrev kind_named : ℕ → ℕ → ObjectKind
kind_named zero n = kind.Instance n
kind_named (suc zero) n = kind.References n
kind_named (suc (suc zero)) n = kind.Ints
kind_named (suc (suc (suc zero))) n = kind.Narrow narrow.Boolean
kind_named (suc (suc (suc (suc zero)))) n = kind.Narrow narrow.Char
kind_named (suc (suc (suc (suc (suc zero))))) n = kind.Narrow narrow.Byte
kind_named (suc (suc (suc (suc (suc (suc t)))))) n = kind.Narrow narrow.Short

abbrev kind_first : List ℕ → ObjectKind
kind_first (t ∷ n ∷ rest) = kind_named t n
kind_first [] = kind.Ints
kind_first (t ∷ []) = kind.Ints

kind_back : (k : ObjectKind) (cs : List ℕ) → kind_first (kind_row k ++ cs) ≡ k
kind_back (kind.Instance class) cs = refl
kind_back (kind.References of) cs = refl
kind_back kind.Ints cs = refl
kind_back (kind.Narrow narrow.Boolean) cs = refl
kind_back (kind.Narrow narrow.Char) cs = refl
kind_back (kind.Narrow narrow.Byte) cs = refl
kind_back (kind.Narrow narrow.Short) cs = refl

kind_rest : (k : ObjectKind) (cs : List ℕ) → drop 2 (kind_row k ++ cs) ≡ cs
kind_rest (kind.Instance class) cs = refl
kind_rest (kind.References of) cs = refl
kind_rest kind.Ints cs = refl
kind_rest (kind.Narrow narrow.Boolean) cs = refl
kind_rest (kind.Narrow narrow.Char) cs = refl
kind_rest (kind.Narrow narrow.Byte) cs = refl
kind_rest (kind.Narrow narrow.Short) cs = refl

pub kind_one : (k j : ObjectKind) (cs ds : List ℕ) → kind_row k ++ cs ≡ kind_row j ++ ds → (k ≡ j) × (cs ≡ ds)
kind_one k j cs ds h = (
  sym (kind_back k cs) ∙ ap kind_first h ∙ kind_back j ds,
  sym (kind_rest k cs) ∙ ap (λ (xs : List ℕ). drop 2 xs) h ∙ kind_rest j ds,
)

owner_one : (o p : Option ℕ) → owner_code o ≡ owner_code p → o ≡ p
owner_one None None h = refl
owner_one None (Some y) h = absurd (omega (arith, h))
owner_one (Some x) None h = absurd (omega (arith, h))
owner_one (Some x) (Some y) h = let same : x ≡ y = omega (arith, h) in ap (λ (z : ℕ). Some z) same

abbrev waiter_of : (thread count : ℕ) → Waiter
waiter_of thread count = record { thread = thread; count = count }

abbrev monitor_of : Option ℕ → ℕ → List Waiter → Monitor
monitor_of owner count waiters = record { owner = owner; count = count; waiters = waiters }

monitor_is : (m n : Monitor) → m.owner ≡ n.owner → m.count ≡ n.count → m.waiters ≡ n.waiters → m ≡ n
monitor_is m n a b c =
    ap (λ (x : Option ℕ). monitor_of x m.count m.waiters) a
    ∙ ap (λ (x : ℕ). monitor_of n.owner x m.waiters) b
    ∙ ap (λ (x : List Waiter). monitor_of n.owner n.count x) c

abbrev object_of : ObjectKind → List ℕ → Object
object_of kind words = record { kind = kind; words = words }

object_is : (o p : Object) → o.kind ≡ p.kind → o.words ≡ p.words → o ≡ p
object_is o p a b = ap (λ (x : ObjectKind). object_of x o.words) a ∙ ap (λ (x : List ℕ). object_of p.kind x) b

waiters_one : (xs ys : List Waiter) (cs ds : List ℕ) → length xs ≡ length ys → waiters_row xs ++ cs ≡ waiters_row ys ++ ds → (xs ≡ ys) × (cs ≡ ds)
waiters_one [] [] cs ds n h = (refl, h)
waiters_one [] (y ∷ ys) cs ds n h = absurd (omega (arith, n))
waiters_one (x ∷ xs) [] cs ds n h = absurd (omega (arith, n))
waiters_one (x ∷ xs) (y ∷ ys) cs ds n h =
    let thread : x.thread ≡ y.thread = head_is _ _ _ _ h in
    let then : x.count ∷ (waiters_row xs ++ cs) ≡ y.count ∷ (waiters_row ys ++ ds) = tail_is _ _ _ _ h in
    let count : x.count ≡ y.count = head_is _ _ _ _ then in
    let rest : (xs ≡ ys) × (cs ≡ ds) = waiters_one xs ys cs ds (omega (arith, n)) (tail_is _ _ _ _ then) in
    let same : x ≡ y = waiter_is x y thread count in
    let others : xs ≡ ys = rest.0 in
    (cc, rest.1)
  where
    waiter_is : (a b : Waiter) → a.thread ≡ b.thread → a.count ≡ b.count → a ≡ b
    waiter_is a b t c = ap (λ (x : ℕ). waiter_of x a.count) t ∙ ap (λ (x : ℕ). waiter_of b.thread x) c

pub monitor_one : (m n : Monitor) (cs ds : List ℕ) → monitor_row m ++ cs ≡ monitor_row n ++ ds → (m ≡ n) × (cs ≡ ds)
monitor_one m n cs ds h =
    let owner : owner_code m.owner ≡ owner_code n.owner = head_is _ _ _ _ h in
    let then : m.count ∷ length m.waiters ∷ (waiters_row m.waiters ++ cs) ≡ n.count ∷ length n.waiters ∷ (waiters_row n.waiters ++ ds) = tail_is _ _ _ _ h in
    let count : m.count ≡ n.count = head_is _ _ _ _ then in
    let last : length m.waiters ∷ (waiters_row m.waiters ++ cs) ≡ length n.waiters ∷ (waiters_row n.waiters ++ ds) = tail_is _ _ _ _ then in
    let many : length m.waiters ≡ length n.waiters = head_is _ _ _ _ last in
    let rest : (m.waiters ≡ n.waiters) × (cs ≡ ds) = waiters_one m.waiters n.waiters cs ds many (tail_is _ _ _ _ last) in
    (monitor_is m n (owner_one m.owner n.owner owner) count rest.0, rest.1)

pub object_one : (o p : Object) (m n : Monitor) → object_row o m ≡ object_row p n → (o ≡ p) × (m ≡ n)
object_one o p m n h =
    let kinds : (o.kind ≡ p.kind) × (length o.words ∷ (o.words ++ monitor_row m) ≡ length p.words ∷ (p.words ++ monitor_row n)) = kind_one o.kind p.kind _ _ h in
    let many : length o.words ≡ length p.words = head_is _ _ _ _ kinds.1 in
    let words : (o.words ≡ p.words) × (monitor_row m ≡ monitor_row n) = front_is o.words p.words _ _ many (tail_is _ _ _ _ kinds.1) in
    let monitors : (m ≡ n) × ([] ≡ []) = monitor_one m n [] [] (ap (λ (xs : List ℕ). xs ++ []) words.1) in
    (object_is o p kinds.0 words.0, monitors.0)

-- ---- threads

abbrev status_named : ℕ → ℕ → ℕ → model.ThreadStatus
status_named zero o c = model.Running
status_named (suc zero) o c = model.Waiting o c
status_named (suc (suc zero)) o c = model.Relock o c model.Notified
status_named (suc (suc (suc zero))) o c = model.Relock o c model.Interrupted
status_named (suc (suc (suc (suc zero)))) o c = model.Ended None
status_named (suc (suc (suc (suc (suc t))))) o c = model.Ended (Some o)

abbrev status_first : List ℕ → model.ThreadStatus
status_first (t ∷ o ∷ c ∷ rest) = status_named t o c
status_first [] = model.Running
status_first (t ∷ []) = model.Running
status_first (t ∷ o ∷ []) = model.Running

status_back : (k : model.ThreadStatus) (cs : List ℕ) → status_first (status_row k ++ cs) ≡ k
status_back model.Running cs = refl
status_back (model.Waiting object count) cs = refl
status_back (model.Relock object count model.Notified) cs = refl
status_back (model.Relock object count model.Interrupted) cs = refl
status_back (model.Ended None) cs = refl
status_back (model.Ended (Some exception)) cs = refl

status_rest : (k : model.ThreadStatus) (cs : List ℕ) → drop 3 (status_row k ++ cs) ≡ cs
status_rest model.Running cs = refl
status_rest (model.Waiting object count) cs = refl
status_rest (model.Relock object count model.Notified) cs = refl
status_rest (model.Relock object count model.Interrupted) cs = refl
status_rest (model.Ended None) cs = refl
status_rest (model.Ended (Some exception)) cs = refl

pub status_one : (k j : model.ThreadStatus) (cs ds : List ℕ) → status_row k ++ cs ≡ status_row j ++ ds → (k ≡ j) × (cs ≡ ds)
status_one k j cs ds h = (
  sym (status_back k cs) ∙ ap status_first h ∙ status_back j ds,
  sym (status_rest k cs) ∙ ap (λ (xs : List ℕ). drop 3 xs) h ∙ status_rest j ds,
)

abbrev entry_kind_named : ℕ → ℕ → EntryKind
entry_kind_named zero n = entry_kind.Invocation
entry_kind_named (suc zero) n = entry_kind.Initialisation n phase.Super
entry_kind_named (suc (suc t)) n = entry_kind.Initialisation n phase.End

abbrev entry_kind_first : List ℕ → EntryKind
entry_kind_first (t ∷ n ∷ rest) = entry_kind_named t n
entry_kind_first [] = entry_kind.Invocation
entry_kind_first (t ∷ []) = entry_kind.Invocation

entry_kind_back : (k : EntryKind) (cs : List ℕ) → entry_kind_first (entry_kind_row k ++ cs) ≡ k
entry_kind_back entry_kind.Invocation cs = refl
entry_kind_back (entry_kind.Initialisation class phase.Super) cs = refl
entry_kind_back (entry_kind.Initialisation class phase.End) cs = refl

entry_kind_rest : (k : EntryKind) (cs : List ℕ) → drop 2 (entry_kind_row k ++ cs) ≡ cs
entry_kind_rest entry_kind.Invocation cs = refl
entry_kind_rest (entry_kind.Initialisation class phase.Super) cs = refl
entry_kind_rest (entry_kind.Initialisation class phase.End) cs = refl

pub entry_kind_one : (k j : EntryKind) (cs ds : List ℕ) → entry_kind_row k ++ cs ≡ entry_kind_row j ++ ds → (k ≡ j) × (cs ≡ ds)
entry_kind_one k j cs ds h = (
  sym (entry_kind_back k cs) ∙ ap entry_kind_first h ∙ entry_kind_back j ds,
  sym (entry_kind_rest k cs) ∙ ap (λ (xs : List ℕ). drop 2 xs) h ∙ entry_kind_rest j ds,
)

-- one entry of a stack
abbrev after_kind : Entry → List ℕ → List ℕ
after_kind e cs = e.method ∷ (option_row e.entered ++ (e.place ∷ e.locals ∷ e.operands ∷ cs))

entry_split : (e : Entry) (cs : List ℕ) → entry_row e ++ cs ≡ entry_kind_row e.kind ++ after_kind e cs
entry_split e cs =
    append_assoc (entry_kind_row e.kind) (e.method ∷ (option_row e.entered ++ (e.place ∷ e.locals ∷ e.operands ∷ []))) cs
    ∙ ap (λ (xs : List ℕ). entry_kind_row e.kind ++ e.method ∷ xs) (append_assoc (option_row e.entered) (e.place ∷ e.locals ∷ e.operands ∷ []) cs)

abbrev entry_of : EntryKind → ℕ → Option ℕ → (place locals operands : ℕ) → Entry
entry_of kind method entered place locals operands =
    record { kind = kind; method = method; entered = entered; place = place; locals = locals; operands = operands }

entry_is : (e f : Entry) → e.kind ≡ f.kind → e.method ≡ f.method → e.entered ≡ f.entered → e.place ≡ f.place → e.locals ≡ f.locals
    → e.operands ≡ f.operands → e ≡ f
entry_is e f a b c d g h =
    ap (λ (x : EntryKind). entry_of x e.method e.entered e.place e.locals e.operands) a
    ∙ ap (λ (x : ℕ). entry_of f.kind x e.entered e.place e.locals e.operands) b
    ∙ ap (λ (x : Option ℕ). entry_of f.kind f.method x e.place e.locals e.operands) c
    ∙ ap (λ (x : ℕ). entry_of f.kind f.method f.entered x e.locals e.operands) d
    ∙ ap (λ (x : ℕ). entry_of f.kind f.method f.entered f.place x e.operands) g
    ∙ ap (λ (x : ℕ). entry_of f.kind f.method f.entered f.place f.locals x) h

after_one : (e f : Entry) (cs ds : List ℕ) → e.kind ≡ f.kind → after_kind e cs ≡ after_kind f ds → (e ≡ f) × (cs ≡ ds)
after_one e f cs ds kinds h =
    let method : e.method ≡ f.method = head_is _ _ _ _ h in
    let options : (e.entered ≡ f.entered) × (e.place ∷ e.locals ∷ e.operands ∷ cs ≡ f.place ∷ f.locals ∷ f.operands ∷ ds) =
    option_one e.entered f.entered _ _ (tail_is _ _ _ _ h) in
    let place : e.place ≡ f.place = head_is _ _ _ _ options.1 in
    let second : e.locals ∷ e.operands ∷ cs ≡ f.locals ∷ f.operands ∷ ds = tail_is _ _ _ _ options.1 in
    let locals : e.locals ≡ f.locals = head_is _ _ _ _ second in
    let third : e.operands ∷ cs ≡ f.operands ∷ ds = tail_is _ _ _ _ second in
    let operands : e.operands ≡ f.operands = head_is _ _ _ _ third in
    (entry_is e f kinds method options.0 place locals operands, tail_is _ _ _ _ third)

pub entry_one : (e f : Entry) (cs ds : List ℕ) → entry_row e ++ cs ≡ entry_row f ++ ds → (e ≡ f) × (cs ≡ ds)
entry_one e f cs ds h =
    let kinds : (e.kind ≡ f.kind) × (after_kind e cs ≡ after_kind f ds) =
    entry_kind_one e.kind f.kind (after_kind e cs) (after_kind f ds) (sym (entry_split e cs) ∙ h ∙ entry_split f ds) in
    after_one e f cs ds kinds.0 kinds.1

entries_one : (es fs : List Entry) (cs ds : List ℕ) → length es ≡ length fs → entries_row es ++ cs ≡ entries_row fs ++ ds → (es ≡ fs) × (cs ≡ ds)
entries_one [] [] cs ds n h = (refl, h)
entries_one [] (f ∷ fs) cs ds n h = absurd (omega (arith, n))
entries_one (e ∷ es) [] cs ds n h = absurd (omega (arith, n))
entries_one (e ∷ es) (f ∷ fs) cs ds n h =
    let first : (e ≡ f) × (entries_row es ++ cs ≡ entries_row fs ++ ds) =
    entry_one e f (entries_row es ++ cs) (entries_row fs ++ ds) (sym (append_assoc (entry_row e) (entries_row es) cs) ∙ h ∙ append_assoc (entry_row f) (entries_row fs) ds) in
    let rest : (es ≡ fs) × (cs ≡ ds) = entries_one es fs cs ds (omega (arith, n)) first.1 in
    let one : e ≡ f = first.0 in
    let others : es ≡ fs = rest.0 in
    (cc, rest.1)

pub stack_one : (row : List ℕ) (s t : List ShownEntry) → IsStackRow row s → IsStackRow row t → s ≡ t
stack_one row s t a b =
    let rows : stack_row a.entries a.words ≡ stack_row b.entries b.words = sym a.row_is ∙ b.row_is in
    let many : length a.entries ≡ length b.entries = head_is _ _ _ _ rows in
    let parts : (a.entries ≡ b.entries) × (a.words ≡ b.words) = entries_one a.entries b.entries a.words b.words many (tail_is _ _ _ _ rows) in
    a.shown_is
    ∙ ap (λ (ws : List ℕ). shown (length ws) ws a.entries) parts.1
    ∙ ap (λ (es : List Entry). shown (length b.words) b.words es) parts.0
    ∙ sym b.shown_is

abbrev after_status : Thread → List ℕ → List ℕ
after_status t cs = t.object ∷ flag_code t.begun ∷ flag_code t.interrupted ∷ (option_row t.pending ++ cs)

thread_split : (t : Thread) (cs : List ℕ) → thread_row t ++ cs ≡ status_row t.status ++ after_status t cs
thread_split t cs = append_assoc (status_row t.status) (t.object ∷ flag_code t.begun ∷ flag_code t.interrupted ∷ option_row t.pending) cs

abbrev thread_of : ℕ → Bool → Option ℕ → Bool → model.ThreadStatus → Thread
thread_of object begun pending interrupted status =
    record { object = object; begun = begun; pending = pending; interrupted = interrupted; status = status }

thread_is : (t u : Thread) → t.object ≡ u.object → t.begun ≡ u.begun → t.pending ≡ u.pending → t.interrupted ≡ u.interrupted
    → t.status ≡ u.status → t ≡ u
thread_is t u a b c d e =
    ap (λ (x : ℕ). thread_of x t.begun t.pending t.interrupted t.status) a
    ∙ ap (λ (x : Bool). thread_of u.object x t.pending t.interrupted t.status) b
    ∙ ap (λ (x : Option ℕ). thread_of u.object u.begun x t.interrupted t.status) c
    ∙ ap (λ (x : Bool). thread_of u.object u.begun u.pending x t.status) d
    ∙ ap (λ (x : model.ThreadStatus). thread_of u.object u.begun u.pending u.interrupted x) e

after_status_one : (t u : Thread) (cs ds : List ℕ) → t.status ≡ u.status → after_status t cs ≡ after_status u ds → (t ≡ u) × (cs ≡ ds)
after_status_one t u cs ds status h =
    let object : t.object ≡ u.object = head_is _ _ _ _ h in
    let second : flag_code t.begun ∷ flag_code t.interrupted ∷ (option_row t.pending ++ cs)
    ≡ flag_code u.begun ∷ flag_code u.interrupted ∷ (option_row u.pending ++ ds) = tail_is _ _ _ _ h in
    let begun : t.begun ≡ u.begun = flag_one t.begun u.begun (head_is _ _ _ _ second) in
    let third : flag_code t.interrupted ∷ (option_row t.pending ++ cs) ≡ flag_code u.interrupted ∷ (option_row u.pending ++ ds) = tail_is _ _ _ _ second in
    let interrupted : t.interrupted ≡ u.interrupted = flag_one t.interrupted u.interrupted (head_is _ _ _ _ third) in
    let rest : (t.pending ≡ u.pending) × (cs ≡ ds) = option_one t.pending u.pending cs ds (tail_is _ _ _ _ third) in
    (thread_is t u object begun rest.0 interrupted status, rest.1)

pub thread_one : (row : List ℕ) (t u : Thread) (s r : List ShownEntry) → IsThreadRow row t s → IsThreadRow row u r → (t ≡ u) × (s ≡ r)
thread_one row t u s r a b =
    let rows : thread_row t ++ a.stack_words ≡ thread_row u ++ b.stack_words = sym a.row_is ∙ b.row_is in
    let status : (t.status ≡ u.status) × (after_status t a.stack_words ≡ after_status u b.stack_words) =
    status_one t.status u.status (after_status t a.stack_words) (after_status u b.stack_words) (sym (thread_split t a.stack_words) ∙ rows ∙ thread_split u b.stack_words) in
    let parts : (t ≡ u) × (a.stack_words ≡ b.stack_words) = after_status_one t u a.stack_words b.stack_words status.0 status.1 in
    let again : IsStackRow a.stack_words r = subst (λ (ws : List ℕ). IsStackRow ws r) (sym parts.1) b.is_stack in
    (parts.0, stack_one a.stack_words s r a.is_stack again)
