-- The inputs of a cycle, and rows one after another.
use Rattle.std.proofs.Common.{◌≡◌, ℕ, zero, suc, ◌+◌, ◌-◌, ◌*◌, ◌≤◌, ◌<◌, Bool, true, false, cond, List, [], ◌∷◌, ◌++◌, length, map, filter, flat_map, reverse, replicate, Some, None, slice_get, is_some, refl, ap, sym, ◌∙◌, arith, length-append, suc-mul, leb-true, le_trans}
use Rattle.std.proofs.lemmas.Bool.{and_parts}
use Rattle.std.proofs.lemmas.List.{length-reverse, map-append}
use Rattle.std.specs.List.{list_all, range_with_len}
use Rattle.std.specs.Option.{option_map_or}
use Rattle.ap_bits.specs.declared.card.Card.{Card}
use Rattle.ap_model.specs.Runnable.{IsRunnable}
use Rattle.ap_desc.specs.Designs.{is_file_within}
use Rattle.ap_desc.specs.declared.design.Design.{Design}
use Rattle.ap_desc.specs.declared.design.File.{File}
use Rattle.ap_model.specs.Ports.{file_groups, file_ports, is_used, is_used_in, mem_ports, reg_ports, row_ports, stages_from_last, write_groups}
use Rattle.ap_model.specs.declared.storage.WritePort.TheVariants as port
use Rattle.ap_model.specs.Cycles.{CycleControl, cycle_entries}
use Rattle.ap_model.specs.ShownRows.{control_row, group_writes}
use Rattle.ap_image.specs.declared.row.Row.{Row}
use Rattle.ap_image.specs.declared.row.Write.{Write}
use Rattle.ap_model.specs.declared.state.Entry.{Entry}
use Rattle.ap_model.specs.declared.state.State.{State}
use Rattle.ap_model.specs.declared.storage.PortWrite.{PortWrite}
use Rattle.ap_model.specs.declared.storage.WritePort.{WritePort}
use Rattle.ap_plain.proofs.PortLists.{range_more}
use Rattle.ap_image.specs.FitsShape.{idle, line_among}
use Rattle.ap_image.specs.declared.trace.TraceLine.{TraceLine}

pub line_there : (lines : List TraceLine) (inputs : List ℕ) (j : ℕ) (line : TraceLine) → Some line ≡ slice_get lines j → line ≡ line_among lines inputs j
line_there [] inputs j line at = cc
line_there (l ∷ lines) inputs zero line at = cc
line_there (l ∷ lines) inputs (suc j) line at = line_there lines inputs j line at

pub line_beyond : (lines : List TraceLine) (inputs : List ℕ) (j : ℕ) → None ≡ slice_get lines j → idle inputs ≡ line_among lines inputs j
line_beyond [] inputs j at = refl
line_beyond (l ∷ lines) inputs zero at = cc
line_beyond (l ∷ lines) inputs (suc j) at = line_beyond lines inputs j at

-- one empty stage more
pub empty_more : {X : Type 0} (n : ℕ) (x : X) → replicate n x ++ x ∷ [] ≡ replicate (n + 1) x
empty_more zero x = refl
empty_more (suc n) x =
    let more : suc (n + 1) ≡ suc n + 1 = omega arith in
    ap (λ rest. x ∷ rest) (empty_more n x) ∙ ap (λ k. replicate k x) more

-- one row more
pub rows_more : {X : Type 0} (f : ℕ → X) (n : ℕ) → map f (range_with_len 0 n) ++ f n ∷ [] ≡ map f (range_with_len 0 (n + 1))
rows_more f n =
    let here : 0 + n ≡ n = omega arith in
    sym (ap (map f) (range_more 0 n ∙ ap (λ k. range_with_len 0 n ++ k ∷ []) here) ∙ map-append f (range_with_len 0 n) (n ∷ []))

-- There are few write groups.

filter_few : {X : Type 0} (test : X → Bool) (xs : List X) → length (filter test xs) ≤ length xs
filter_few test [] = omega arith
filter_few {X} test (x ∷ xs) = go (test x) (filter_few test xs)
  where
    go : (b : Bool) → length (filter test xs) ≤ length xs → length (cond b (x ∷ filter test xs) (filter test xs)) ≤ suc (length xs)
    go true h = omega (arith, h)
    go false h = omega (arith, h)

length_map : {X Y : Type 0} (f : X → Y) (xs : List X) → length (map f xs) ≡ length xs
length_map f [] = refl
length_map f (x ∷ xs) = ap suc (length_map f xs)

length_range : (a n : ℕ) → length (range_with_len a n) ≡ n
length_range a zero = refl
length_range a (suc n) = ap suc (length_range (a + 1) n)

length_reverse_few : (n : ℕ) → length (reverse (range_with_len 1 n)) ≤ n
length_reverse_few n = omega (arith, length-reverse (range_with_len 1 n), length_range 1 n)

flat_few : {X Y : Type 0} (f : X → List Y) (limit : ℕ) (xs : List X) → ((x : X) → length (f x) ≤ limit) → length (flat_map f xs) ≤ length xs * limit
flat_few f limit [] each = omega arith
flat_few f limit (x ∷ xs) each =
    let rest = flat_few f limit xs each in
    let here = each x in
    let split : suc (length xs) * limit ≡ length xs * limit + limit = suc-mul (length xs) limit in
    omega (arith, length-append (f x) (flat_map f xs), rest, here, split)

writes_few : (files : List File) (file : ℕ) → list_all is_file_within files ≡ true → option_map_or (λ (f : File). f.writes) (slice_get files file) 0 ≤ 2
writes_few [] file all = omega arith
writes_few (f ∷ files) zero all = leb-true _ _ (and_parts _ _ (and_parts _ _ (and_parts _ _ all).0).1).1
writes_few (f ∷ files) (suc file) all = writes_few files file (and_parts _ _ all).1

file_ports_few : (design : Design) (file : ℕ) → list_all is_file_within design.files ≡ true → length (file_ports design file) ≤ 2
file_ports_few design file all =
    let writes = option_map_or (λ (f : File). f.writes) (slice_get design.files file) 0 in
    let few = writes_few design.files file all in
    omega (arith, length_map (λ number. port.Cell file number) (range_with_len 0 writes), length_range 0 writes, few)

file_groups_few : (design : Design) (file : ℕ) → ((stage : ℕ) → length (filter (is_used_in design stage) (file_ports design file)) ≤ 2) → length (stages_from_last design) ≤ design.stages - 1 → design.stages ≤ 8 → length (file_groups design file) ≤ 14
file_groups_few design file of_stage reversed stages =
    let groups = flat_few (λ stage. filter (is_used_in design stage) (file_ports design file)) 2 (stages_from_last design) of_stage in
    omega (arith, groups, reversed, stages)

pub row_ports_few : (design : Design) (cards : List Card) → IsRunnable design cards → length (row_ports design) < 1000
unfolding write_groups
row_ports_few design cards fits =
    let within = fits.sound.within in
    let regs : length design.regs ≤ 64 = leb-true _ _ (and_parts _ _ within.regs).0 in
    let files : length design.files ≤ 8 = leb-true _ _ (and_parts _ _ within.files).0 in
    let mems : length design.mems ≤ 4 = leb-true _ _ (and_parts _ _ within.mems).0 in
    let stages : design.stages ≤ 8 = leb-true _ _ (and_parts _ _ within.stages).1 in
    let all = (and_parts _ _ within.files).1 in
    let of_stage : (file stage : ℕ) → length (filter (is_used_in design stage) (file_ports design file)) ≤ 2 = λ file stage. le_trans (filter_few (is_used_in design stage) (file_ports design file)) (file_ports_few design file all) in
    let reversed = length_reverse_few (design.stages - 1) in
    let of_file : (file : ℕ) → length (file_groups design file) ≤ 14 = λ file. file_groups_few design file (of_stage file) reversed stages in
    let of_files = flat_few (file_groups design) 14 (range_with_len 0 (length design.files)) of_file in
    let count_files = length_range 0 (length design.files) in
    let of_regs = filter_few (is_used design) (reg_ports design) in
    let count_regs = length_map (λ reg. port.Register reg) (range_with_len 0 (length design.regs)) ∙ length_range 0 (length design.regs) in
    let count_mems = length_map (λ mem. port.Memory mem) (range_with_len 0 (length design.mems)) ∙ length_range 0 (length design.mems) in
    let groups = length-append (filter (is_used design) (reg_ports design)) (flat_map (file_groups design) (range_with_len 0 (length design.files))) in
    let both = length-append (write_groups design) (mem_ports design) in
    omega (arith, regs, files, mems, of_files, count_files, of_regs, count_regs, count_mems, groups, both)

-- a row, part by part
pub control_row_is : (design : Design) (cards : List Card) (inputs : TraceLine) (state : State) (control : CycleControl) (stall kill : Bool) (shown : List Write) (ports : List WritePort) (writes : List PortWrite) (entries : List Entry)
    → stall ≡ control.held 0 → kill ≡ is_some control.taken → ports ≡ row_ports design → entries ≡ cycle_entries design cards inputs state control → writes ≡ map (λ (e : Entry). e.write) entries
    → shown ≡ [] ++ group_writes 0 ports writes
    → ◌≡◌ {A = Row} (record { stall = stall; kill = kill; writes = shown }) (control_row design cards inputs state control)
unfolding control_row
control_row_is design cards inputs state control stall kill shown ports writes entries is_stall is_kill is_ports is_entries is_writes is_shown =
    let all = is_shown ∙ ap (λ ps. group_writes 0 ps writes) is_ports ∙ ap (group_writes 0 (row_ports design)) (is_writes ∙ ap (map (λ (e : Entry). e.write)) is_entries) in
    λ i. record { stall = is_stall i; kill = is_kill i; writes = all i }
