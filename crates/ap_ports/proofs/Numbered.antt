-- The lines of a sound design's instructions have ports of numbers, and two lines share a port where the numbers are the same.
use Rattle.std.proofs.Common.{◌≡◌, ℕ, ◌+◌, ◌*◌, ◌<◌, ◌≤◌, true, false, List, [], ◌∷◌, length, Option, Some, None, refl, sym, ap, ◌∙◌, arith, eqb-true}
use Rattle.std.specs.Prelude.{◌==◌, ◌&&◌, nat_le, Contains, slice_get}
use Rattle.std.specs.List.{list_all}
use Rattle.std.specs.Option.{option_map_or}
use Rattle.std.proofs.lemmas.Bool.{and_from, and_parts, eq-eqb, leb-true}
use Rattle.std.proofs.lemmas.Option.{same_Some, slice_get_within}
use Rattle.ap_desc.specs.Designs.{AreInRange, IsInRange, IsInstr, IsReadPort, IsRight, IsWritePort, assigned_count, is_between, is_cell_count, is_file_within, is_reg_within, is_mem_within, is_width}
use Rattle.ap_desc.specs.Ports.{Port, file_read, file_write, is_same_port, mem_read, mem_write, port_of, reg_write, share_port, transfer, unit}
use Rattle.ap_desc.specs.Sound.{IsSound}
use Rattle.ap_desc.specs.declared.design.Design.{Design}
use Rattle.ap_desc.specs.declared.design.Field.{Field}
use Rattle.ap_desc.specs.declared.design.File.{File}
use Rattle.ap_desc.specs.declared.design.Format.{Format}
use Rattle.ap_desc.specs.declared.design.Instr.{Instr}
use Rattle.ap_desc.specs.declared.design.Micro.{Micro}
use Rattle.ap_desc.specs.declared.design.Unit.{Unit as Resource}
use Rattle.ap_desc.specs.declared.design.Act.{Act}
use Rattle.ap_desc.specs.declared.design.Act.TheVariants as act
use Rattle.ap_ports.specs.Numbered.{AreNumbered}
use Rattle.ap_ports.specs.Numbers.{IsNumbered, port_number}
use Rattle.ap_ports.proofs.Members.{each_get, passes_at, place_of, some_and}

-- a file of the design has few ports
few_ports : (design : Design) → IsSound design → (place : ℕ) (file : File) → slice_get design.files place ≡ Some file → (place < 8) × (file.reads ≤ 4) × (file.writes ≤ 2)
few_ports design sound place file at =
    let few = and_parts (nat_le (length design.files) 8) (list_all is_file_within design.files) sound.within.files in
    let within = passes_at is_file_within design.files few.1 place file at in
    let ends = and_parts (is_width file.width && is_cell_count file.cells && is_between 1 4 file.reads) (is_between 1 2 file.writes) within in
    let reads = and_parts (is_width file.width && is_cell_count file.cells) (is_between 1 4 file.reads) ends.0 in
    let most = leb-true file.reads 4 (and_parts (nat_le 1 file.reads) (nat_le file.reads 4) reads.1).1 in
    let most_writes = leb-true file.writes 2 (and_parts (nat_le 1 file.writes) (nat_le file.writes 2) ends.1).1 in
    let count = leb-true (length design.files) 8 few.0 in
    let low = slice_get_within design.files place file at in
    (omega arith, most, most_writes)

read_port : (design : Design) → IsSound design → (file port : ℕ) → IsReadPort design file port → (file < 8) × (port < 4)
read_port design sound file port h =
    let (found, at, low) = some_and (λ (f : File). port < f.reads) (slice_get design.files file) h in
    let few = few_ports design sound file found at in
    (few.0, let most : found.reads ≤ 4 = few.1 in omega arith)

write_port : (design : Design) → IsSound design → (file port : ℕ) → IsWritePort design file port → (file < 8) × (port < 2)
write_port design sound file port h =
    let (found, at, low) = some_and (λ (f : File). port < f.writes) (slice_get design.files file) h in
    let few = few_ports design sound file found at in
    (few.0, let most : found.writes ≤ 2 = few.2 in omega arith)

few_units : (design : Design) → IsSound design → length design.units ≤ 32
few_units design sound = leb-true (length design.units) 32 (and_parts (nat_le (length design.units) 32) (list_all (λ (u : Resource). is_width u.width) design.units) sound.within.units).0

few_regs : (design : Design) → IsSound design → length design.regs ≤ 64
few_regs design sound = leb-true (length design.regs) 64 (and_parts (nat_le (length design.regs) 64) (list_all is_reg_within design.regs) sound.within.regs).0

few_mems : (design : Design) → IsSound design → length design.mems ≤ 4
few_mems design sound = leb-true (length design.mems) 4 (and_parts (nat_le (length design.mems) 4) (list_all is_mem_within design.mems) sound.within.mems).0

numbered_act : (design : Design) → IsSound design → (locals : ℕ) (fields : List Field) (a : Act) → IsInRange design locals fields a → IsNumbered a
numbered_act design sound locals fields (act.Compute u op a b) h = let few = few_units design sound in let low : u < length design.units = h.0 in omega arith
numbered_act design sound locals fields (act.ReadFile file port index) h = read_port design sound file port h.0
numbered_act design sound locals fields (act.ReadMem mem at) h = let few = few_mems design sound in let low : mem < length design.mems = h.0 in omega arith
numbered_act design sound locals fields (act.WriteFile file port index value guard) h = write_port design sound file port h.0
numbered_act design sound locals fields (act.WriteReg reg value guard) h = let few = few_regs design sound in let low : reg < length design.regs = h.0 in omega arith
numbered_act design sound locals fields (act.WriteMem mem at value guard) h = let few = few_mems design sound in let low : mem < length design.mems = h.0 in omega arith
numbered_act design sound locals fields _ h = tt

numbered_lines : (design : Design) → IsSound design → (locals : ℕ) (fields : List Field) (micros : List Micro) → AreInRange design locals fields micros → AreNumbered micros
numbered_lines design sound locals fields [] h = tt
numbered_lines design sound locals fields (m ∷ micros) h = (numbered_act design sound locals fields m.act h.0, numbered_lines design sound (locals + assigned_count m.act) fields micros h.1)

pub sound_numbered : (design : Design) → IsSound design → (number : ℕ) (instr : Instr) → slice_get design.instrs number ≡ Some instr → AreNumbered instr.micros
sound_numbered design sound number instr at =
    let (format, is_there, right) = some_and (λ (f : Format). IsInstr design f.fields instr) (slice_get design.formats instr.format) (each_get (IsRight design) design.instrs number instr sound.instrs at) in
    numbered_lines design sound 0 format.fields instr.micros right.range

pub contained_numbered : (design : Design) → IsSound design → (instr : Instr) → Contains design.instrs instr → AreNumbered instr.micros
contained_numbered design sound instr there = let (number, at) = place_of design.instrs instr there in sound_numbered design sound number instr at

-- Numbers of ports differ.

abbrev number : Port → ℕ
number (unit u) = u
number (file_read file port) = 32 + 4 * file + port
number (mem_read mem) = 64 + mem
number (file_write file port) = 68 + 2 * file + port
number (reg_write reg) = 84 + reg
number (mem_write mem) = 148 + mem
number transfer = 152

abbrev IsLow : Port → Type 0
IsLow (unit u) = u < 32
IsLow (file_read file port) = (file < 8) × (port < 4)
IsLow (mem_read mem) = mem < 4
IsLow (file_write file port) = (file < 8) × (port < 2)
IsLow (reg_write reg) = reg < 64
IsLow (mem_write mem) = mem < 4
IsLow transfer = Unit {0}

both : (a b c d : ℕ) → a ≡ b → c ≡ d → ((a == b) && (c == d)) ≡ true
both a b c d e f = and_from (a == b) (c == d) (eq-eqb a b e) (eq-eqb c d f)

-- ports of one number are the same
one_number : (p q : Port) → IsLow p → IsLow q → number p ≡ number q → is_same_port p q ≡ true
one_number (unit a) (unit b) low high e = eq-eqb a b e
one_number (file_read a c) (file_read b d) low high e = (let c_low = low.1 in let d_low = high.1 in both a b c d (omega arith) (omega arith))
one_number (file_write a c) (file_write b d) low high e = (let c_low = low.1 in let d_low = high.1 in both a b c d (omega arith) (omega arith))
one_number (reg_write a) (reg_write b) low high e = eq-eqb a b (omega arith)
one_number (mem_read a) (mem_read b) low high e = eq-eqb a b (omega arith)
one_number (mem_write a) (mem_write b) low high e = eq-eqb a b (omega arith)
one_number transfer transfer low high e = refl
one_number _ _ low high e = absurd (omega arith)

-- the same ports have one number
same_number : (p q : Port) → is_same_port p q ≡ true → number p ≡ number q
same_number (unit a) (unit b) e = eqb-true a b e
same_number (file_read a c) (file_read b d) e = (let parts = and_parts (a == b) (c == d) e in let one = eqb-true a b parts.0 in let two = eqb-true c d parts.1 in omega arith)
same_number (file_write a c) (file_write b d) e = (let parts = and_parts (a == b) (c == d) e in let one = eqb-true a b parts.0 in let two = eqb-true c d parts.1 in omega arith)
same_number (reg_write a) (reg_write b) e = (let one = eqb-true a b e in omega arith)
same_number (mem_read a) (mem_read b) e = (let one = eqb-true a b e in omega arith)
same_number (mem_write a) (mem_write b) e = (let one = eqb-true a b e in omega arith)
same_number transfer transfer e = refl
same_number _ _ e = absurd cc

-- the number of a line's port
abbrev Numbers : Option Port → Option ℕ → Type 0
Numbers None n = n ≡ None
Numbers (Some p) n = IsLow p × (n ≡ Some (number p))

numbers_of : (a : Act) → IsNumbered a → Numbers (port_of a) (port_number a)
numbers_of (act.Compute u op a b) low = (low, refl)
numbers_of (act.ReadFile file port index) low = (low, refl)
numbers_of (act.ReadMem mem at) low = (low, refl)
numbers_of (act.WriteFile file port index value guard) low = (low, refl)
numbers_of (act.WriteReg reg value guard) low = (low, refl)
numbers_of (act.WriteMem mem at value guard) low = (low, refl)
numbers_of (act.Branch cond target) low = (tt, refl)
numbers_of (act.Jump target) low = (tt, refl)
numbers_of _ low = refl

share_by : (p q : Option Port) (m n : Option ℕ) (k : ℕ) → Numbers p m → Numbers q n → m ≡ Some k → n ≡ Some k → option_map_or (λ a. option_map_or (is_same_port a) q false) p false ≡ true
share_by None q m n k h g e f = absurd cc
share_by (Some p) None m n k h g e f = absurd cc
share_by (Some p) (Some q) m n k h g e f =
    let one : number p ≡ k = same_Some (number p) k (sym h.1 ∙ e) in
    let other : number q ≡ k = same_Some (number q) k (sym g.1 ∙ f) in
    one_number p q h.0 g.0 (one ∙ sym other)

shared_by : (p q : Option Port) (m n : Option ℕ) → Numbers p m → Numbers q n → option_map_or (λ a. option_map_or (is_same_port a) q false) p false ≡ true → (k : ℕ) × (m ≡ Some k) × (n ≡ Some k)
shared_by None q m n h g e = absurd cc
shared_by (Some p) None m n h g e = absurd cc
shared_by (Some p) (Some q) m n h g e = (number p, h.1, g.1 ∙ ap Some (sym (same_number p q e)))

-- lines of one number share their port
pub share_from : (a b : Act) (k : ℕ) → IsNumbered a → IsNumbered b → port_number a ≡ Some k → port_number b ≡ Some k → share_port a b ≡ true
share_from a b k low high e f = share_by (port_of a) (port_of b) (port_number a) (port_number b) k (numbers_of a low) (numbers_of b high) e f

pub share_to : (a b : Act) → IsNumbered a → IsNumbered b → share_port a b ≡ true → (k : ℕ) × (port_number a ≡ Some k) × (port_number b ≡ Some k)
share_to a b low high e = shared_by (port_of a) (port_of b) (port_number a) (port_number b) (numbers_of a low) (numbers_of b high) e
