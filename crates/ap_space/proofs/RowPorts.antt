-- A row's writes, storage by storage, are those of its cycle: of each storage they stand in one order.
use Rattle.std.proofs.Common.{◌≡◌, ℕ, suc, ◌+◌, ◌≤◌, ◌<◌, ◌==◌, ◌&&◌, Bool, true, false, if◌then◌else◌, List, [], ◌∷◌, ◌++◌, filter, filter_map, flat_map, length, map, slice_get, Option, Some, None, option_map, option_to_list, unwrap_or, ◌⊎◌, inl, inr, refl, sym, ap, ◌∙◌, arith, append-nil}
use Rattle.std.proofs.lemmas.Bool.{cases_lt, eqb-true}
use Rattle.std.proofs.lemmas.List.Elements.{filter-append}
use Rattle.std.specs.List.{AllByRecursion as Each, cons_option, range_with_len}
use Rattle.ap_desc.specs.Designs.{IsRight}
use Rattle.ap_desc.specs.declared.design.Design.{Design}
use Rattle.ap_model.proofs.ListLemmas.{each_in_range, filter_flat_map, filter_map_is, filter_swap, flat_map_none, flat_map_same, flat_map_same_on, range_one}
use Rattle.ap_model.proofs.PortsOnce.{all_ports, file_among_all, is_of_file, same_port, test_through, used_among_all}
use Rattle.ap_model.proofs.UsedPorts.{used_is_port}
use Rattle.ap_model.proofs.WritesApart.{WritesApart}
use Rattle.ap_model.specs.declared.storage.PortWrite.{PortWrite}
use Rattle.ap_model.specs.declared.storage.Storage.{Storage}
use Rattle.ap_model.specs.declared.storage.Storage.TheVariants as storage
use Rattle.ap_model.specs.declared.storage.WritePort.{WritePort}
use Rattle.ap_model.specs.declared.storage.WritePort.TheVariants as port
use Rattle.ap_model.specs.PortForms.{GoesThroughPorts, Writing, shown_ports, shown_through, stage_ports, through}
use Rattle.ap_model.specs.Ports.{file_groups, file_ports, is_same_port, is_used, is_used_in, mem_ports, reg_ports, row_ports, stages_from_last, write_count, write_groups, write_ports}
use Rattle.ap_model.specs.ShownRows.{shown_index, shown_write}
use Rattle.ap_model.specs.WritesOf.{goes_to, row_write}
use Rattle.ap_space.proofs.Fired.{each_passes}

-- Ports that pass a test.

none_mapped : {X : Type 0} (t : WritePort → Bool) (f : X → WritePort) → ((x : X) → t (f x) ≡ false) → (xs : List X) → filter t (map f xs) ≡ []
none_mapped t f none xs = filter_map_is t f xs ∙ flat_map_same _ (λ x. []) (λ x. ap (λ b. if b then f x ∷ [] else []) (none x)) xs ∙ flat_map_none (λ x. []) (λ x. refl) xs

no_cells : (t : WritePort → Bool) (design : Design) → ((file number : ℕ) → t (port.Cell file number) ≡ false) → (file : ℕ) → filter t (file_ports design file) ≡ []
no_cells t design none file = none_mapped t (port.Cell file) (none file) (range_with_len 0 (write_count design file))

no_groups : (t : WritePort → Bool) (design : Design) → ((file number : ℕ) → t (port.Cell file number) ≡ false) → (file : ℕ) → filter t (file_groups design file) ≡ []
no_groups t design none file =
    filter_flat_map t (λ stage. filter (is_used_in design stage) (file_ports design file)) (stages_from_last design)
    ∙ flat_map_none (λ stage. filter t (filter (is_used_in design stage) (file_ports design file)))
    (λ stage. filter_swap t (is_used_in design stage) (file_ports design file) ∙ ap (filter (is_used_in design stage)) (no_cells t design none file)) (stages_from_last design)

-- a row's ports, by kinds
row_kinds : (t : WritePort → Bool) (design : Design) → filter t (row_ports design) ≡ (filter t (filter (is_used design) (reg_ports design)) ++ filter t (flat_map (file_groups design) (range_with_len 0 (length design.files)))) ++ filter t (mem_ports design)
unfolding write_groups
row_kinds t design =
    filter-append t (filter (is_used design) (reg_ports design) ++ flat_map (file_groups design) (range_with_len 0 (length design.files))) (mem_ports design)
    ∙ ap (λ front. front ++ filter t (mem_ports design)) (filter-append t (filter (is_used design) (reg_ports design)) (flat_map (file_groups design) (range_with_len 0 (length design.files))))

write_kinds : (t : WritePort → Bool) (design : Design) → filter t (write_ports design) ≡ (filter t (reg_ports design) ++ filter t (flat_map (file_ports design) (range_with_len 0 (length design.files)))) ++ filter t (mem_ports design)
unfolding write_ports
write_kinds t design =
    filter-append t (reg_ports design ++ flat_map (file_ports design) (range_with_len 0 (length design.files))) (mem_ports design)
    ∙ ap (λ front. front ++ filter t (mem_ports design)) (filter-append t (reg_ports design) (flat_map (file_ports design) (range_with_len 0 (length design.files))))

no_files : (t : WritePort → Bool) (design : Design) → ((file number : ℕ) → t (port.Cell file number) ≡ false) → (files : List ℕ) → filter t (flat_map (file_ports design) files) ≡ []
no_files t design none files = filter_flat_map t (file_ports design) files ∙ flat_map_none (λ file. filter t (file_ports design file)) (no_cells t design none) files

no_file_groups : (t : WritePort → Bool) (design : Design) → ((file number : ℕ) → t (port.Cell file number) ≡ false) → (files : List ℕ) → filter t (flat_map (file_groups design) files) ≡ []
no_file_groups t design none files = filter_flat_map t (file_groups design) files ∙ flat_map_none (λ file. filter t (file_groups design file)) (no_groups t design none) files

-- a register's port stands once among a row's, where it is used
reg_in_row : (design : Design) (reg : ℕ) → filter (is_same_port (port.Register reg)) (write_ports design) ≡ port.Register reg ∷ [] → is_used design (port.Register reg) ≡ true → filter (is_same_port (port.Register reg)) (row_ports design) ≡ port.Register reg ∷ []
reg_in_row design reg once used =
    let t = is_same_port (port.Register reg) in
    let mems = none_mapped t port.Memory (λ mem. refl) (range_with_len 0 (length design.mems)) in
    let regs : filter t (reg_ports design) ≡ port.Register reg ∷ [] =
    sym (append-nil (filter t (reg_ports design))) ∙ sym (append-nil (filter t (reg_ports design) ++ []))
    ∙ (λ i. (filter t (reg_ports design) ++ sym (no_files t design (λ file number. refl) (range_with_len 0 (length design.files))) i) ++ sym mems i)
    ∙ sym (write_kinds t design) ∙ once in
    row_kinds t design
    ∙ (λ i. (filter t (filter (is_used design) (reg_ports design)) ++ no_file_groups t design (λ file number. refl) (range_with_len 0 (length design.files)) i) ++ mems i)
    ∙ append-nil (filter t (filter (is_used design) (reg_ports design)) ++ [])
    ∙ append-nil (filter t (filter (is_used design) (reg_ports design)))
    ∙ filter_swap t (is_used design) (reg_ports design)
    ∙ ap (filter (is_used design)) regs
    ∙ ap (λ b. if b then port.Register reg ∷ [] else []) used

mem_in_row : (design : Design) (mem : ℕ) → filter (is_same_port (port.Memory mem)) (write_ports design) ≡ port.Memory mem ∷ [] → filter (is_same_port (port.Memory mem)) (row_ports design) ≡ port.Memory mem ∷ []
mem_in_row design mem once =
    let t = is_same_port (port.Memory mem) in
    let regs = none_mapped t port.Register (λ reg. refl) (range_with_len 0 (length design.regs)) in
    let used_regs : filter t (filter (is_used design) (reg_ports design)) ≡ [] = filter_swap t (is_used design) (reg_ports design) ∙ ap (filter (is_used design)) regs in
    row_kinds t design
    ∙ (λ i. (used_regs i ++ no_file_groups t design (λ file number. refl) (range_with_len 0 (length design.files)) i) ++ filter t (mem_ports design))
    ∙ (λ i. (sym regs i ++ sym (no_files t design (λ file number. refl) (range_with_len 0 (length design.files))) i) ++ filter t (mem_ports design))
    ∙ sym (write_kinds t design) ∙ once

-- The ports of a file.

of_other : (design : Design) (file other : ℕ) → filter (is_of_file file) (file_ports design other) ≡ (if file == other then file_ports design other else [])
of_other design file other = by_numbers (file == other) refl (range_with_len 0 (write_count design other))
  where
    by_numbers : (b : Bool) → (file == other) ≡ b → (numbers : List ℕ) → filter (is_of_file file) (map (λ number. port.Cell other number) numbers) ≡ (if b then map (λ number. port.Cell other number) numbers else [])
    by_numbers true e [] = refl
    by_numbers false e [] = refl
    by_numbers true e (n ∷ numbers) =
        ap (λ b. if b then port.Cell other n ∷ filter (is_of_file file) (map (λ number. port.Cell other number) numbers) else filter (is_of_file file) (map (λ number. port.Cell other number) numbers)) e
        ∙ ap (λ rest. port.Cell other n ∷ rest) (filter_all_of numbers)
      where
        filter_all_of : (ns : List ℕ) → filter (is_of_file file) (map (λ number. port.Cell other number) ns) ≡ map (λ number. port.Cell other number) ns
        filter_all_of [] = refl
        filter_all_of (k ∷ ns) = ap (λ b. if b then port.Cell other k ∷ filter (is_of_file file) (map (λ number. port.Cell other number) ns) else filter (is_of_file file) (map (λ number. port.Cell other number) ns)) e ∙ ap (λ rest. port.Cell other k ∷ rest) (filter_all_of ns)
    by_numbers false e (n ∷ numbers) = none_mapped (is_of_file file) (port.Cell other) (λ number. e) (n ∷ numbers)

groups_of_other : (design : Design) (file other : ℕ) → filter (is_of_file file) (file_groups design other) ≡ (if file == other then file_groups design other else [])
groups_of_other design file other =
    filter_flat_map (is_of_file file) (λ stage. filter (is_used_in design stage) (file_ports design other)) (stages_from_last design)
    ∙ flat_map_same _ _ (λ stage. filter_swap (is_of_file file) (is_used_in design stage) (file_ports design other) ∙ ap (filter (is_used_in design stage)) (of_other design file other)) (stages_from_last design)
    ∙ by_same (file == other)
  where
    by_same : (b : Bool) → flat_map (λ stage. filter (is_used_in design stage) (if b then file_ports design other else [])) (stages_from_last design) ≡ (if b then file_groups design other else [])
    by_same true = refl
    by_same false = flat_map_none (λ stage. []) (λ stage. refl) (stages_from_last design)

none_beyond : {Y : Type 0} (f : ℕ → List Y) (k n : ℕ) → n ≤ k → flat_map (λ j. if k == j then f j else []) (range_with_len 0 n) ≡ []
none_beyond {Y} f k n ge =
    flat_map_same_on (λ j. if k == j then f j else []) (λ j. []) (range_with_len 0 n)
    (each_in_range (λ j. (if k == j then f j else []) ≡ []) 0 n (λ j low high. by_test j (k == j) refl (omega arith)))
    ∙ flat_map_none (λ j. []) (λ j. refl) (range_with_len 0 n)
  where
    by_test : (j : ℕ) (b : Bool) → (k == j) ≡ b → j < k → (if b then f j else []) ≡ []
    by_test j true e less = let same = eqb-true k j e in absurd (omega arith)
    by_test j false e less = refl

file_in_row : (design : Design) (file : ℕ) → filter (is_of_file file) (row_ports design) ≡ filter (is_of_file file) (all_ports design)
file_in_row design file = in_row ∙ by_file (cases_lt file (length design.files))
  where
    mems : filter (is_of_file file) (mem_ports design) ≡ []
    mems = none_mapped (is_of_file file) port.Memory (λ mem. refl) (range_with_len 0 (length design.mems))

    regs : filter (is_of_file file) (reg_ports design) ≡ []
    regs = none_mapped (is_of_file file) port.Register (λ reg. refl) (range_with_len 0 (length design.regs))

    used_regs : filter (is_of_file file) (filter (is_used design) (reg_ports design)) ≡ []
    used_regs = filter_swap (is_of_file file) (is_used design) (reg_ports design) ∙ ap (filter (is_used design)) regs

    in_row : filter (is_of_file file) (row_ports design) ≡ flat_map (λ other. if file == other then file_groups design other else []) (range_with_len 0 (length design.files))
    in_row =
        row_kinds (is_of_file file) design
        ∙ (λ i. (used_regs i ++ filter_flat_map (is_of_file file) (file_groups design) (range_with_len 0 (length design.files)) i) ++ mems i)
        ∙ append-nil (flat_map (λ other. filter (is_of_file file) (file_groups design other)) (range_with_len 0 (length design.files)))
        ∙ flat_map_same _ _ (groups_of_other design file) (range_with_len 0 (length design.files))

    nothing : length design.files ≤ file → filter (is_of_file file) (write_ports design) ≡ []
    nothing ge =
        write_kinds (is_of_file file) design
        ∙ (λ i. (regs i ++ filter_flat_map (is_of_file file) (file_ports design) (range_with_len 0 (length design.files)) i) ++ mems i)
        ∙ append-nil (flat_map (λ other. filter (is_of_file file) (file_ports design other)) (range_with_len 0 (length design.files)))
        ∙ flat_map_same _ _ (of_other design file) (range_with_len 0 (length design.files))
        ∙ none_beyond (file_ports design) file (length design.files) ge

    by_file : (file < length design.files) ⊎ (length design.files ≤ file) → flat_map (λ other. if file == other then file_groups design other else []) (range_with_len 0 (length design.files)) ≡ filter (is_of_file file) (all_ports design)
    by_file (inl less) = range_one (file_groups design) file 0 (length design.files) (omega arith) (omega arith) ∙ sym (file_among_all design file less)
    by_file (inr ge) =
        none_beyond (file_groups design) file (length design.files) ge
        ∙ sym (filter_flat_map (is_of_file file) (stage_ports design) (stages_from_last design)
        ∙ flat_map_none (λ stage. filter (is_of_file file) (stage_ports design stage))
        (λ stage. filter_swap (is_of_file file) (is_used_in design stage) (write_ports design) ∙ ap (filter (is_used_in design stage)) (nothing ge)) (stages_from_last design))

-- What goes through them.

module _ (design : Design) (right : Each (IsRight design) design.instrs) (apart : WritesApart design) (writing : Writing) (theirs : GoesThroughPorts design writing) where
  -- nothing through a port without a line
  none_through : (p : WritePort) → writing p ≡ None → (ports : List WritePort) → Each (λ q. is_same_port p q ≡ true) ports → through writing ports ≡ []
  none_through p none [] each = refl
  none_through p none (q ∷ ports) each = (λ i. option_to_list ((ap writing (sym (same_port p q each.0)) ∙ none) i) ++ through writing ports) ∙ none_through p none ports each.1

  one_port : (p : WritePort) → (is_used design p ≡ true → filter (is_same_port p) (write_ports design) ≡ p ∷ [] → filter (is_same_port p) (row_ports design) ≡ p ∷ [])
      → through writing (filter (is_same_port p) (row_ports design)) ≡ through writing (filter (is_same_port p) (all_ports design))
  one_port p in_row = by_use (is_used design p) refl
    where
      by_use : (b : Bool) → is_used design p ≡ b → through writing (filter (is_same_port p) (row_ports design)) ≡ through writing (filter (is_same_port p) (all_ports design))
      by_use false unused =
          let none = theirs.idle p unused in
          none_through p none (filter (is_same_port p) (row_ports design)) (each_passes (is_same_port p) (row_ports design))
          ∙ sym (none_through p none (filter (is_same_port p) (all_ports design)) (each_passes (is_same_port p) (all_ports design)))
      by_use true used =
          let at = apart.some_stage p used in
          let once = used_is_port design right p at.0 at.3 in
          ap (through writing) (in_row used once ∙ sym (used_among_all design p apart once used))

  by_test : (t : WritePort → Bool) → through writing (filter t (row_ports design)) ≡ through writing (filter t (all_ports design))
      → filter (λ (w : PortWrite). t w.port) (through writing (row_ports design)) ≡ filter (λ (w : PortWrite). t w.port) (through writing (all_ports design))
  by_test t same = test_through t design writing theirs (row_ports design) ∙ same ∙ sym (test_through t design writing theirs (all_ports design))

  reg_test : (reg : ℕ) (p : WritePort) (at : ℕ) → goes_to (storage.Register reg) p at ≡ is_same_port (port.Register reg) p
  reg_test reg (port.Register r) at = refl
  reg_test reg (port.Cell f n) at = refl
  reg_test reg (port.Memory m) at = refl

  mem_test : (mem : ℕ) (p : WritePort) (at : ℕ) → goes_to (storage.Memory mem) p at ≡ is_same_port (port.Memory mem) p
  mem_test mem (port.Register r) at = refl
  mem_test mem (port.Cell f n) at = refl
  mem_test mem (port.Memory m) at = refl

  cell_test : (file index : ℕ) (p : WritePort) (at : ℕ) → goes_to (storage.Cell file index) p at ≡ (is_of_file file p && (index == at))
  cell_test file index (port.Register r) at = refl
  cell_test file index (port.Cell f n) at = refl
  cell_test file index (port.Memory m) at = refl

  both_tests : (s t : PortWrite → Bool) (ws : List PortWrite) → filter (λ w. s w && t w) ws ≡ filter t (filter s ws)
  both_tests s t [] = refl
  both_tests s t (w ∷ ws) = by_tests (s w) (both_tests s t ws)
    where
      by_tests : (b : Bool) → filter (λ w. s w && t w) ws ≡ filter t (filter s ws)
          → (if b && t w then w ∷ filter (λ w. s w && t w) ws else filter (λ w. s w && t w) ws) ≡ filter t (if b then w ∷ filter s ws else filter s ws)
      by_tests true rest = λ i. if t w then w ∷ rest i else rest i
      by_tests false rest = rest

  -- a row's ports and a cycle's have the same writes of each storage, in one order
  pub same_writes : (place : Storage) → filter (λ (w : PortWrite). goes_to place w.port w.at) (through writing (row_ports design)) ≡ filter (λ (w : PortWrite). goes_to place w.port w.at) (through writing (all_ports design))
  same_writes (storage.Register reg) =
      (λ i. filter (λ (w : PortWrite). reg_test reg w.port w.at i) (through writing (row_ports design)))
      ∙ by_test (is_same_port (port.Register reg)) (one_port (port.Register reg) (λ used once. reg_in_row design reg once used))
      ∙ (λ i. filter (λ (w : PortWrite). sym (reg_test reg w.port w.at) i) (through writing (all_ports design)))
  same_writes (storage.Memory mem) =
      (λ i. filter (λ (w : PortWrite). mem_test mem w.port w.at i) (through writing (row_ports design)))
      ∙ by_test (is_same_port (port.Memory mem)) (one_port (port.Memory mem) (λ used once. mem_in_row design mem once))
      ∙ (λ i. filter (λ (w : PortWrite). sym (mem_test mem w.port w.at) i) (through writing (all_ports design)))
  same_writes (storage.Cell file index) =
      (λ i. filter (λ (w : PortWrite). cell_test file index w.port w.at i) (through writing (row_ports design)))
      ∙ both_tests (λ (w : PortWrite). is_of_file file w.port) (λ (w : PortWrite). index == w.at) (through writing (row_ports design))
      ∙ ap (filter (λ (w : PortWrite). index == w.at)) (by_test (is_of_file file) (ap (through writing) (file_in_row design file)))
      ∙ sym (both_tests (λ (w : PortWrite). is_of_file file w.port) (λ (w : PortWrite). index == w.at) (through writing (all_ports design)))
      ∙ (λ i. filter (λ (w : PortWrite). sym (cell_test file index w.port w.at) i) (through writing (all_ports design)))

-- A row shows what goes through its ports.

-- a register's write has no index
abbrev pub IsPlain : PortWrite → Type 0
IsPlain w = unwrap_or (shown_index w.port w.at) 0 ≡ w.at

row_of_one : (design : Design) (writing : Writing) (group : ℕ) (p : WritePort) (w : PortWrite) → slice_get (row_ports design) group ≡ Some p → w.port ≡ p → IsPlain w → row_write design (shown_write group w) ≡ Some w
row_of_one design writing group p w at through_it plain =
    ap (option_map (λ q. record { port = q; at = unwrap_or (shown_index w.port w.at) 0; value = w.value })) at
    ∙ (λ i. Some (record { port = sym through_it i; at = plain i; value = w.value }))

pub rows_show : (design : Design) (writing : Writing) → ((p : WritePort) (w : PortWrite) → writing p ≡ Some w → (w.port ≡ p) × IsPlain w) → (group : ℕ) (ports : List WritePort)
    → ((i : ℕ) (p : WritePort) → slice_get ports i ≡ Some p → slice_get (row_ports design) (group + i) ≡ Some p) → filter_map (row_write design) (shown_ports writing group ports) ≡ through writing ports
rows_show design writing plain group [] there = refl
rows_show design writing plain group (p ∷ ports) there =
    by_write (writing p) refl
    (rows_show design writing plain (group + 1) ports (λ i q at. let sum : group + suc i ≡ group + 1 + i = omega arith in ap (slice_get (row_ports design)) (sym sum) ∙ there (suc i) q at))
  where
    here : slice_get (row_ports design) group ≡ Some p
    here = let none : group ≡ group + 0 = omega arith in ap (slice_get (row_ports design)) none ∙ there 0 p refl

    by_write : (o : Option PortWrite) → writing p ≡ o → filter_map (row_write design) (shown_ports writing (group + 1) ports) ≡ through writing ports
        → filter_map (row_write design) (shown_through group o ++ shown_ports writing (group + 1) ports) ≡ option_to_list o ++ through writing ports
    by_write None e rest = rest
    by_write (Some w) e rest =
        let is = plain p w e in
        (λ i. cons_option (row_of_one design writing group p w here is.0 is.1 i) (rest i))
