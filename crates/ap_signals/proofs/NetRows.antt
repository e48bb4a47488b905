-- The row that a netlist shows is the row of its signals.
use Rattle.std.proofs.Common.{◌≡◌, ℕ, suc, ◌+◌, ◌==◌, Bool, true, false, if◌then◌else◌, List, [], ◌∷◌, ◌++◌, length, map, filter, flat_map, codes, is_some, Option, Some, None, slice_get, refl, ap, sym, ◌∙◌, arith, append_assoc}
use Rattle.std.specs.List.{AllByRecursion as Each, range_with_len}
use Rattle.std.specs.Option.{option_map_or}
use Rattle.ap_desc.specs.declared.design.Design.{Design}
use Rattle.ap_desc.specs.declared.design.File.{File}
use Rattle.ap_desc.specs.declared.design.Mem.{Mem}
use Rattle.ap_desc.specs.declared.design.Reg.{Reg}
use Rattle.ap_image.specs.declared.row.Write.{Write}
use Rattle.ap_image.specs.declared.shape.MemShape.{MemShape}
use Rattle.ap_model.specs.declared.storage.PortWrite.{PortWrite}
use Rattle.ap_model.specs.declared.storage.WritePort.{WritePort}
use Rattle.ap_model.specs.declared.storage.WritePort.TheVariants as port
use Rattle.ap_model.specs.PortForms.{shown_ports, shown_through}
use Rattle.ap_model.specs.Ports.{file_groups, file_ports, is_used, is_used_in, mem_ports, reg_ports, stages_from_last, write_groups}
use Rattle.ap_model.specs.ShownRows.{shown_write}
use Rattle.ap_model.proofs.ListLemmas.{each_all, each_both, each_flat_map, each_kept, each_of_map}
use Rattle.ap_net.specs.Outside.{Group, group_name, mem_name}
use Rattle.ap_net.specs.Rows.{group_writes, index_of, mem_writes}
use Rattle.ap_net.specs.Rows as net
use Rattle.ap_cycle.specs.Signals.{shown_row}
use Rattle.ap_signals.specs.DesignOutside.{group_of, group_of_file, mem_at, mem_shape, outside_of, reg_group}
use Rattle.ap_signals.specs.NetRuns.{NetRun, net_value, pc_name, taken_value}
use Rattle.ap_signals.specs.NetSignals.{net_signals, net_write}

-- a write that is shown where a net is 1
shown_one : (b : Bool) (n : ℕ) (w : Write) (pw : PortWrite) → w ≡ shown_write n pw → (rest : List Write) → (if b then w ∷ rest else rest) ≡ shown_through n (if b then Some pw else None) ++ rest
shown_one true n w pw same rest = ap (λ x. x ∷ rest) same
shown_one false n w pw same rest = refl

-- The groups.

abbrev IsGroup : WritePort → Type 0
IsGroup (port.Register reg) = Unit {0}
IsGroup (port.Cell file number) = Unit {0}
IsGroup (port.Memory mem) = ⊥

each_group : {X : Type 0} (f : X → WritePort) → ((x : X) → IsGroup (f x)) → (xs : List X) → Each IsGroup (map f xs)
each_group f is xs = each_of_map IsGroup f xs (each_all (λ x. IsGroup (f x)) is xs)

groups_are : (design : Design) → Each IsGroup (write_groups design)
unfolding write_groups
groups_are design =
    let files = range_with_len 0 (length design.files) in
    each_both IsGroup (filter (is_used design) (reg_ports design)) (flat_map (file_groups design) files)
    (each_kept IsGroup (is_used design) (reg_ports design) (each_group port.Register (λ reg. tt) (range_with_len 0 (length design.regs))))
    (each_flat_map IsGroup (file_groups design) files
    (each_all (λ file. Each IsGroup (file_groups design file)) (λ file. each_flat_map IsGroup (λ stage. filter (is_used_in design stage) (file_ports design file)) (stages_from_last design)
    (each_all (λ stage. Each IsGroup (filter (is_used_in design stage) (file_ports design file))) (λ stage. each_kept IsGroup (is_used_in design stage) (file_ports design file) (each_group (port.Cell file) (λ number. tt) (range_with_len 0 _))) (stages_from_last design))) files))

module _ (design : Design) (run : NetRun) (j : ℕ) where
  abbrev value : List ℕ → ℕ
  value name = net_value run j name

  reg_index : (o : Option Reg) (d : Group) → d.port ≡ None → index_of run.flat.nets (run.values j) (option_map_or reg_group o d) (option_map_or reg_group o d).port ≡ None
  reg_index None d none = ap (index_of run.flat.nets (run.values j) d) none
  reg_index (Some r) d none = refl

  file_index : (number : ℕ) (o : Option File) → index_of run.flat.nets (run.values j) (group_of_file number o) (group_of_file number o).port ≡ Some (value (group_name (group_of_file number o) (codes "x")))
  file_index number None = refl
  file_index number (Some f) = refl

  groups_shown : (n : ℕ) (ports : List WritePort) → Each IsGroup ports → group_writes run.flat.nets (run.values j) n (map (group_of design) ports) ≡ shown_ports (net_write design run j) n ports
  groups_shown n [] each = refl
  groups_shown n (port.Register reg ∷ ports) each =
      let g = group_of design (port.Register reg) in
      let same : record { group = n; index = index_of run.flat.nets (run.values j) g g.port; value = value (group_name g (codes "v")) } ≡ shown_write n (record { port = port.Register reg; at = 0; value = value (group_name g (codes "v")) })
      = λ i. record { group = n; index = reg_index (slice_get design.regs reg) (record { storage = []; port = None; width = 0 }) refl i; value = value (group_name g (codes "v")) } in
      shown_one (value (group_name g (codes "e")) == 1) n _ _ same (group_writes run.flat.nets (run.values j) (n + 1) (map (group_of design) ports))
      ∙ ap (λ rest. shown_through n (net_write design run j (port.Register reg)) ++ rest) (groups_shown (n + 1) ports each.1)
  groups_shown n (port.Cell file number ∷ ports) each =
      let g = group_of design (port.Cell file number) in
      let same : record { group = n; index = index_of run.flat.nets (run.values j) g g.port; value = value (group_name g (codes "v")) }
      ≡ shown_write n (record { port = port.Cell file number; at = value (group_name g (codes "x")); value = value (group_name g (codes "v")) })
      = λ i. record { group = n; index = file_index number (slice_get design.files file) i; value = value (group_name g (codes "v")) } in
      shown_one (value (group_name g (codes "e")) == 1) n _ _ same (group_writes run.flat.nets (run.values j) (n + 1) (map (group_of design) ports))
      ∙ ap (λ rest. shown_through n (net_write design run j (port.Cell file number)) ++ rest) (groups_shown (n + 1) ports each.1)
  groups_shown n (port.Memory mem ∷ ports) each = absurd each.0

  -- The memories.

  mem_write : ℕ → MemShape → Option PortWrite
  mem_write k m = if value (mem_name m (codes "we")) == 1 then Some (record { port = port.Memory k; at = value (mem_name m (codes "wa")); value = value (mem_name m (codes "wd")) }) else None

  mems_shown : (n k : ℕ) (mems : List Mem) → ((i : ℕ) → slice_get design.mems (k + i) ≡ slice_get mems i) → mem_writes run.flat.nets (run.values j) n (map mem_shape mems) ≡ shown_ports (net_write design run j) n (map port.Memory (range_with_len k (length mems)))
  unfolding mem_write
  mems_shown n k [] at = refl
  mems_shown n k (m ∷ mems) at =
      let none : k ≡ k + 0 = omega arith in
      let here : mem_at design k ≡ mem_shape m = ap (λ o. option_map_or mem_shape o (record { name = []; address = 0; width = 0 })) (ap (slice_get design.mems) none ∙ at 0) in
      let later = λ (i : ℕ). let more : k + 1 + i ≡ k + suc i = omega arith in ap (slice_get design.mems) more ∙ at (suc i) in
      shown_one (value (mem_name (mem_shape m) (codes "we")) == 1) n _ (record { port = port.Memory k; at = value (mem_name (mem_shape m) (codes "wa")); value = value (mem_name (mem_shape m) (codes "wd")) }) refl
      (mem_writes run.flat.nets (run.values j) (n + 1) (map mem_shape mems))
      ∙ (λ i. shown_through n (mem_write k (sym here i)) ++ mems_shown (n + 1) (k + 1) mems later i)

  -- All.

  ports_appended : (n : ℕ) (xs ys : List WritePort) → shown_ports (net_write design run j) n (xs ++ ys) ≡ shown_ports (net_write design run j) n xs ++ shown_ports (net_write design run j) (n + length xs) ys
  ports_appended n [] ys = let none : n ≡ n + 0 = omega arith in ap (λ k. shown_ports (net_write design run j) k ys) none
  ports_appended n (x ∷ xs) ys =
      let more : n + 1 + length xs ≡ n + suc (length xs) = omega arith in
      ap (λ rest. shown_through n (net_write design run j x) ++ rest) (ports_appended (n + 1) xs ys ∙ ap (λ k. shown_ports (net_write design run j) (n + 1) xs ++ shown_ports (net_write design run j) k ys) more)
      ∙ sym (append_assoc (shown_through n (net_write design run j x)) (shown_ports (net_write design run j) (n + 1) xs) (shown_ports (net_write design run j) (n + suc (length xs)) ys))

length_mapped : {X Y : Type 0} (f : X → Y) (xs : List X) → length (map f xs) ≡ length xs
length_mapped f [] = refl
length_mapped f (x ∷ xs) = ap suc (length_mapped f xs)

is_taken : (b : Bool) (x : ℕ) → b ≡ is_some (if b then Some x else None)
is_taken true x = refl
is_taken false x = refl

pub net_rows : (design : Design) (run : NetRun) (j : ℕ) → net.shown_row (outside_of design) run.flat (run.values j) ≡ shown_row design (net_signals design run j)
net_rows design run j =
    let groups = groups_shown design run j 0 (write_groups design) (groups_are design) in
    let mems = mems_shown design run j (0 + length (write_groups design)) 0 design.mems (λ i. let none : 0 + i ≡ i = omega arith in ap (slice_get design.mems) none) in
    let count : length (map (group_of design) (write_groups design)) ≡ 0 + length (write_groups design) = let same = length_mapped (group_of design) (write_groups design) in omega (arith, same) in
    let writes = (λ i. groups i ++ mem_writes run.flat.nets (run.values j) (count i) (map mem_shape design.mems)) ∙ ap (λ ws. shown_ports (net_write design run j) 0 (write_groups design) ++ ws) mems ∙ sym (ports_appended design run j 0 (write_groups design) (mem_ports design)) in
    λ i. record { stall = net_value run j (codes "stall") == 1; kill = is_taken (net_value run j (codes "kill") == 1) (taken_value run j pc_name) i; writes = writes i }
