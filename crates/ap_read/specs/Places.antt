-- Where a description stands after its first statements, in a few numbers, and what may follow there.
use Rattle.std.specs.Prelude.{◌≡◌, ℕ, ◌+◌, ◌≤◌, ◌==◌, ◌&&◌, ◌||◌, nat_le, nat_lt, Bool, false, IsTrue, List, length, count_by, if◌then◌else◌, Option, Some, None}
use Rattle.std.specs.List.{list_any}
use Rattle.ap_desc.specs.declared.fault.Fault.{Fault}
use Rattle.ap_desc.specs.declared.fault.Fault.TheVariants as f
use Rattle.ap_desc.specs.declared.statement.Statement.{Statement}
use Rattle.ap_desc.specs.declared.statement.Statement.TheVariants as s
use Rattle.ap_desc.specs.Limits.{max_registers, max_files, max_memories, max_inputs, max_units, max_formats, max_fields, max_instructions, max_micro_operations}
use Rattle.ap_desc.specs.Order.{section, is_header, is_instr, is_micro, is_inside, inside_after, micros_after, is_late_for, is_out_of_order, is_one_too_many, micro_count}
use Rattle.ap_read.specs.declared.place.Place.{Place}

-- the statement comes too late, where all sections below this number were begun
abbrev pub is_late_at : ℕ → Statement → Bool
is_late_at begun statement = if is_header statement then nat_lt (section statement) begun else nat_lt (section statement + 1) begun

-- how many of the statement's section stand before this place
abbrev pub count_at : Place → Statement → ℕ
count_at place statement = if nat_lt (section statement) place.begun then place.count else 0

-- the statement, one of its fields or the micro-operation would be the first beyond its limit here
abbrev pub is_past_limit : Place → Statement → Bool
is_past_limit place (s.Reg name width reset) = count_at place (s.Reg name width reset) == max_registers
is_past_limit place (s.File name width cells reads writes) = count_at place (s.File name width cells reads writes) == max_files
is_past_limit place (s.Mem name address width) = count_at place (s.Mem name address width) == max_memories
is_past_limit place (s.In name width) = count_at place (s.In name width) == max_inputs
is_past_limit place (s.Unit name kind width) = count_at place (s.Unit name kind width) == max_units
is_past_limit place (s.Format name fields) = (count_at place (s.Format name fields) == max_formats) || nat_lt max_fields (length fields)
is_past_limit place (s.Instr name format fixed) = place.instructions == max_instructions
is_past_limit place statement = is_micro statement && (place.micros == max_micro_operations)

-- the numbers are those of the place after these statements
pub record IsPlaceAfter (earlier : List Statement) (place : Place) : Type 0 where
  pub late : (statement : Statement) → list_any (is_late_for statement) earlier ≡ is_late_at place.begun statement
  pub latest : (number : ℕ) → place.begun ≡ number + 1 → count_by (λ other. section other == number) earlier ≡ place.count
  pub later : (number : ℕ) → place.begun ≤ number → count_by (λ other. section other == number) earlier ≡ 0
  pub instructions : count_by is_instr earlier ≡ place.instructions
  pub inside : is_inside earlier ≡ place.inside
  pub micros : micro_count earlier ≡ place.micros
  pub few_count : place.count ≤ length earlier
  pub few_instructions : place.instructions ≤ length earlier
  pub few_micros : place.micros ≤ length earlier

-- the place after one more statement
abbrev pub place_after : Place → Statement → Place
place_after place statement = record {
  begun = if nat_le place.begun (section statement) then section statement + 1 else place.begun;
  count = if nat_le place.begun (section statement) then 1 else place.count + 1;
  instructions = if is_instr statement then place.instructions + 1 else place.instructions;
  inside = inside_after place.inside statement;
  micros = micros_after place.micros statement;
}

-- the fault of a statement that follows these, if it has one: of two the lower one
abbrev pub IsFaultAfter : List Statement → Statement → Option Fault → Type 0
IsFaultAfter earlier statement None = (is_out_of_order earlier statement ≡ false) × (is_one_too_many earlier statement ≡ false)
IsFaultAfter earlier statement (Some f.BadOrder) = IsTrue (is_out_of_order earlier statement)
IsFaultAfter earlier statement (Some f.TooMany) = (is_out_of_order earlier statement ≡ false) × IsTrue (is_one_too_many earlier statement)
IsFaultAfter earlier statement (Some _) = ⊥

-- the fault of a statement that stands at this place, if it has one
abbrev pub IsFaultAt : Place → Statement → Option Fault → Type 0
IsFaultAt place statement fault = (earlier : List Statement) → IsPlaceAfter earlier place → IsFaultAfter earlier statement fault
