-- Which elements methods of String without code read and write, by the words of a frame (JLS 17.4.1; the API of String).
use Rattle.std.specs.Prelude.{ℕ, ◌+◌, ◌-◌, List, [], Option, Some, None, Bool, true, false, ◌&&◌, if◌then◌else◌, nat_le, length, map, slice_get, slice_index_or}
use Rattle.std.specs.Option.{option_and_then, option_map_or}
use Rattle.model.specs.declared.text_method.TextMethod.{TextMethod}
use Rattle.model.specs.declared.text_method.TextMethod.TheVariants.{ConstructEmpty, ConstructOfString, ConstructOfChars, GetChars, Intern}
use Rattle.model.specs.Rows.{counting}
use Rattle.model.specs.StringMethods.{is_at_most}
use Rattle.model.specs.Texts.{Text}
use Rattle.heap.specs.Heap.{Object}
use Rattle.machine_instructions.specs.thread_methods.Texts.{text_in}
use Rattle.machine_instructions.specs.thread_methods.TextWrites.{elements_in}
use Rattle.race_places.specs.declared.run_actions.Action.{Action}
use Rattle.race_places.specs.declared.run_actions.Action.TheVariants as action
use Rattle.race_places.specs.declared.run_actions.Variable.TheVariants as variable
use Rattle.next_accesses.specs.accesses.Accesses.{object_under}
use Rattle.next_accesses.specs.declared.element_ranges.ElementRange.{ElementRange}

-- ---- the accesses of a range

abbrev pub access_of : Bool → (array index : ℕ) → Action
access_of true array index = action.Write (variable.Element array index) false
access_of false array index = action.Read (variable.Element array index) false

abbrev pub element_action : ElementRange → ℕ → Action
element_action range index = access_of range.is_written range.array index

abbrev pub range_actions : ElementRange → List Action
range_actions range = map (element_action range) (counting range.first (range.end - range.first))

abbrev pub actions_if : Option ElementRange → List Action
actions_if range = option_map_or range_actions range []

-- ---- by the operands of a call

-- the units of the String to which the operand under so many others refers; none of null, and of another object
abbrev pub text_under : List Object → List ℕ → ℕ → Option Text
text_under objects operands place = option_and_then (λ r. text_in (slice_get objects r)) (object_under operands place)

-- so many elements from an index on
abbrev pub part_of : (array first count : ℕ) → Bool → ElementRange
part_of array first count is_written = record { array = array; first = first; end = first + count; is_written = is_written }

-- the chars of a part of an array, of so many elements, if it has the part
abbrev pub read_in : (array elements first count : ℕ) → Option ElementRange
read_in array elements first count =
    if is_at_most elements count && is_at_most (elements - count) first then Some (part_of array first count false) else None

abbrev pub chars_read : List Object → List ℕ → Option ElementRange
chars_read objects operands =
    option_and_then (λ array. read_in array (length (elements_in (slice_get objects array))) (slice_index_or operands 1 0) (slice_index_or operands 0 0))
    (object_under operands 2)

-- as many elements as there are units from begin to end, if the text has these, and the array has room for them
abbrev pub room_in : (array elements first count : ℕ) → Option ElementRange
room_in array elements first count =
    if nat_le count elements && is_at_most (elements - count) first then Some (part_of array first count true) else None

abbrev pub written_in : (units begin end : ℕ) → (array elements first : ℕ) → Option ElementRange
written_in units begin end array elements first =
    if is_at_most units end && is_at_most end begin then room_in array elements first (end - begin) else None

abbrev pub written_to : List Object → List ℕ → Text → ℕ → Option ElementRange
written_to objects operands text array =
    written_in (length text) (slice_index_or operands 3 0) (slice_index_or operands 2 0) array (length (elements_in (slice_get objects array)))
    (slice_index_or operands 0 0)

abbrev pub chars_written : List Object → List ℕ → Option ElementRange
chars_written objects operands =
    option_and_then (λ text. option_and_then (written_to objects operands text) (object_under operands 1)) (text_under objects operands 4)

abbrev pub chars_accessed : List Object → List ℕ → TextMethod → Option ElementRange
chars_accessed objects operands ConstructEmpty = None
chars_accessed objects operands ConstructOfString = None
chars_accessed objects operands ConstructOfChars = chars_read objects operands
chars_accessed objects operands GetChars = chars_written objects operands
chars_accessed objects operands Intern = None
