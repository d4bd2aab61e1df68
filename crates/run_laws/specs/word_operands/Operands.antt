-- What the instruction of a frame finds at the words of a well-typed state (JVMS 2.6.1, 2.6.2, 4.10.1): that it means something,
-- and which local variables and operands are there for it.
use Rattle.std.specs.Prelude.{◌≡◌, ℕ, zero, suc, ◌+◌, ◌<◌, ◌≤◌, List, ◌∷◌, Some, None, Bool, true, false, nat_lt, length, map, take, drop, slice_get, IsTrue}
use Rattle.std.specs.Option.{option_map_or}
use Rattle.std.specs.List.{AllByRecursion}
use Rattle.model.specs.declared.value.Value.{Value}
use Rattle.model.specs.declared.value.Value.TheVariants as value
use Rattle.model.specs.Names.{Member}
use Rattle.model.specs.Pool.{integers_of}
use Rattle.model.specs.Classes.{Program, Body, body_of}
use Rattle.model.specs.InstructionStarts.{is_start}
use Rattle.model.specs.Linkable.{IsLinkable}
use Rattle.model.specs.ReferenceTypes.{ReferenceType, ClassType, is_assignable}
use Rattle.model.specs.Types.{Want, AnyWord, AnInt, AnyReference, AReference, AReceiver, AnOwner, AnArray, AByteArray, is_array_type, is_byte_array_type, value_meets}
use Rattle.model.specs.TypeOrder.{pairwise}
use Rattle.model.specs.Operands.{Slots, Wants, words, over_words, word_of, is_ready}
use Rattle.model.specs.Rows.{Out, Row, local_row}
use Rattle.model.specs.State.{ObjectOf, types_of, Running, FrameOf, Invocation, StackOf, StateOf}
use Rattle.model.specs.Worlds.{thread_at}
use Rattle.model.specs.Sites.{MeaningOf, Site, site_at}
use Rattle.model.specs.Meanings.{meaning_of}
use Rattle.model.specs.Words.{AreWellTypedWords}

-- a thread runs, with no exception pending, and a frame is on top of its stack
pub record IsOnTop {A : Type 0} (state : StateOf A) (t : ℕ) (frame : FrameOf A) : Type 0 where
  pub rest : StackOf A
  pub stack : slice_get state.stacks t ≡ Some (Invocation frame ∷ rest)
  pub runs : (thread_at state.world t).status ≡ Running
  pub pending : (thread_at state.world t).pending ≡ None

-- ---- the instruction

-- a frame stands at an instruction of its method, which means something
pub record HasMeaning (files : Program) (frame : FrameOf ℕ) : Type 0 where
  pub body : Body
  pub is_body : body_of files frame.method ≡ Some body
  pub starts : IsTrue (is_start body.code.code frame.place.offset)
  pub site : Site
  pub is_site : site_at frame.method body frame.place.offset ≡ Some site
  pub meaning : MeaningOf ℕ
  pub means : meaning_of words files site ≡ Some meaning

-- so does each frame that is on top, at words of a well-typed state of files that link
abbrev pub AreMeant : Type 0
AreMeant =
    (files : List (List ℕ)) (trees : Program) → IsLinkable files trees → (state : StateOf ℕ) → AreWellTypedWords trees state
    → (t : ℕ) (frame : FrameOf ℕ) → IsOnTop state t frame → HasMeaning trees frame

-- ---- operands by their words

-- 0, which is null, or the word of a reference to an object whose type passes a test
abbrev pub is_word_with : List ReferenceType → (ReferenceType → Bool) → ℕ → Bool
is_word_with objects test zero = true
is_word_with objects test (suc r) = option_map_or test (slice_get objects r) false

-- a word is as wanted, as far as words tell: of an int nothing is asked, and what is wanted as a reference is null or an object
-- that is there
abbrev pub word_meets : Program → List ReferenceType → Want → ℕ → Bool
word_meets files objects AnyWord w = true
word_meets files objects AnInt w = true
word_meets files objects AnyReference w = is_word_with objects (λ t. true) w
word_meets files objects (AReference want) w = is_word_with objects (λ t. is_assignable files t want) w
word_meets files objects (AReceiver class) w = is_word_with objects (λ t. is_assignable files t (ClassType class)) w
word_meets files objects (AnOwner class) w = is_word_with objects (λ t. is_assignable files t (ClassType class)) w
word_meets files objects AnArray w = is_word_with objects is_array_type w
word_meets files objects AByteArray w = is_word_with objects is_byte_array_type w

-- ---- operands by the values whose words they are

-- an int, null, or a reference to one of so many objects
abbrev pub is_value_in : ℕ → Value → Bool
is_value_in objects value.Unset = false
is_value_in objects (value.Int bits) = true
is_value_in objects value.Null = true
is_value_in objects (value.Reference r) = nat_lt r objects

-- words on a stack are those of values that are as wanted, and whose references are to objects that are there
pub record AreFoundIn (files : Program) (heap : List (ObjectOf ℕ)) (wants : List Want) (stack : List ℕ) : Type 0 where
  pub found : List Value
  pub are : map word_of found ≡ take (length wants) stack
  pub meet : IsTrue (pairwise (value_meets files (types_of heap)) wants found)
  pub there : AllByRecursion (λ v. IsTrue (is_value_in (length heap) v)) found

-- ---- what an instruction finds

pub record Finds (files : Program) (heap : List (ObjectOf ℕ)) (body : Body) (wants : Wants) (slots : Slots ℕ) : Type 0 where
  -- what it pops is there (JVMS 2.6.2)
  pub pops : length wants.pops ≤ length slots.stack
  -- there are as many local variables as the method says, and those that it reads are among them (JVMS 2.6.1)
  pub locals : length slots.locals ≡ body.code.max_locals
  pub reads : AllByRecursion (λ (read : ℕ × Want). read.0 < body.code.max_locals) wants.reads
  -- the operand stack has no more words than the method says, before it and with what it leaves (JVMS 4.7.3)
  pub depth : length slots.stack ≤ body.code.max_stack
  pub room : length (drop (length wants.pops) slots.stack) + wants.grows ≤ body.code.max_stack
  -- the one test of operands, read over words; a return is of the kind of its method
  pub ready : IsTrue (is_ready (word_meets files (types_of heap)) over_words wants body.code.max_stack slots)
  -- what it pops are the words of values that are as wanted
  pub found : AreFoundIn files heap wants.pops slots.stack

-- so does the instruction of each frame that is on top, at words of a well-typed state of files that link
abbrev pub AreOperandsFound : Type 0
AreOperandsFound =
    (files : List (List ℕ)) (trees : Program) → IsLinkable files trees → (state : StateOf ℕ) → AreWellTypedWords trees state
    → (t : ℕ) (frame : FrameOf ℕ) → IsOnTop state t frame
    → (body : Body) (site : Site) (meaning : MeaningOf ℕ)
    → body_of trees frame.method ≡ Some body → site_at frame.method body frame.place.offset ≡ Some site
    → meaning_of words trees site ≡ Some meaning
    → Finds trees state.world.heap body meaning.wants frame.place.slots

-- ---- the local variables of a local instruction

-- a row reads and writes no other local variables than those of its frame
pub record IsInFrame (body : Body) (row : Row) : Type 0 where
  pub reads : AllByRecursion (λ (read : ℕ × Want). read.0 < body.code.max_locals) row.reads
  pub writes : AllByRecursion (λ (write : ℕ × Out). write.0 < body.code.max_locals) row.writes

-- so does each local instruction of a method of files that link (JVMS 4.9.1), in whatever state; what is not local does neither
abbrev pub AreRowsInFrames : Type 0
AreRowsInFrames =
    (files : List (List ℕ)) (trees : Program) → IsLinkable files trees
    → (method : Member) (body : Body) (offset : ℕ) (site : Site) (row : Row)
    → body_of trees method ≡ Some body → IsTrue (is_start body.code.code offset) → site_at method body offset ≡ Some site
    → local_row (integers_of site.body.pool) site.body.code.code site.offset site.next site.instr ≡ Some row
    → IsInFrame body row
