-- What register files store.
use Rattle.std.proofs.Common.{◌≡◌, ℕ, zero, suc, ◌+◌, ◌-◌, ◌<◌, ◌≤◌, List, [], ◌∷◌, ◌++◌, length, map, reverse, Option, Some, None, Bool, true, false, refl, sym, ap, subst, ◌∙◌, arith, ⊎_elim}
use Rattle.std.specs.Prelude.{◌==◌, cond, filter, flat_map, fold, if◌then◌else◌, option_map, slice_get, slice_index, slice_index_or, unwrap_or}
use Rattle.std.specs.List.{range_with_len, AllByRecursion as Each}
use Rattle.std.specs.Option.{option_map_or}
use Rattle.std.proofs.lemmas.Bool.{cases_lt}
use Rattle.std.proofs.lemmas.Bool.Decides.{Decides-eqb}
use Rattle.std.proofs.lemmas.List.{length-map, map-append}
use Rattle.std.proofs.lemmas.List.Sums.{fold-append}
use Rattle.std.proofs.lemmas.Option.{get_or_from_slice_get, slice_get-map, slice_get_within, unwrap_or-slice_get}
use Rattle.ap_desc.specs.declared.design.Design.{Design}
use Rattle.ap_desc.specs.declared.design.File.{File}
use Rattle.ap_image.specs.declared.image.Image.{Image}
use Rattle.ap_image.specs.declared.trace.Trace.{Trace}
use Rattle.ap_model.specs.declared.storage.WritePort.{WritePort}
use Rattle.ap_model.specs.declared.storage.WritePort.TheVariants as port
use Rattle.ap_model.specs.PortForms.{cell_after}
use Rattle.ap_model.specs.Ports.{file_groups, file_ports, is_used, is_used_in, write_count}
use Rattle.ap_net.specs.declared.cell.Wire.{Wire}
use Rattle.ap_net.specs.declared.net.Next.{Next}
use Rattle.ap_net.specs.Flat.{register_in}
use Rattle.ap_net.specs.Modules.{ModuleText, module_named}
use Rattle.ap_net.specs.Readings.{Reading}
use Rattle.ap_net.proofs.Lists.{All-join}
use Rattle.ap_net.proofs.Renumbered.{some_within}
use Rattle.ap_cycle.specs.Signals.{Signals}
use Rattle.ap_signals.specs.DesignOutside.{enable_name, index_name, value_name}
use Rattle.ap_signals.specs.NetRuns.{NetRun, cell_name, file_part, net_value, part_number, part_register}
use Rattle.ap_signals.specs.NetSignals.{net_signals}
use Rattle.ap_store.specs.Cells.{CellWrite, CellsGoAlone, after_writes, ports_in, stages_from_last, write_order}
use Rattle.ap_store.specs.Cells as store
use Rattle.ap_store.specs.FileModules.{cycle_writes, held, taken, write_of, write_through}
use Rattle.ap_store.specs.FilePorts.{write_enable, write_index, write_value}
use Rattle.ap_border.specs.Files.{CellsAreStored, HasFile, HasFiles, IsJoined, StoragesGo, StoresCells}
use Rattle.ap_border.specs.Storages.{RunsRegs}
use Rattle.ap_border.proofs.NamesRead.{names_are_read}
use Rattle.ap_border.proofs.RegsStored.{idle, mapped_at, regs_are_stored}
use Rattle.ap_runs.specs.RunReadings.{RegisterGoes}

-- The order of writes.

abbrev down : ℕ → List ℕ
down zero = []
down (suc n) = suc n ∷ down n

reversed : (n : ℕ) → n ≤ 7 → reverse (range_with_len 1 n) ≡ down n
reversed zero le = refl
reversed (suc zero) le = refl
reversed (suc (suc zero)) le = refl
reversed (suc (suc (suc zero))) le = refl
reversed (suc (suc (suc (suc zero)))) le = refl
reversed (suc (suc (suc (suc (suc zero))))) le = refl
reversed (suc (suc (suc (suc (suc (suc zero)))))) le = refl
reversed (suc (suc (suc (suc (suc (suc (suc zero))))))) le = refl
reversed (suc (suc (suc (suc (suc (suc (suc (suc n)))))))) le = absurd (omega arith)

all_same : {X : Type 0} (g h : ℕ → List X) → ((s : ℕ) → 1 ≤ s → g s ≡ h s) → (n : ℕ) → flat_map g (down n) ≡ flat_map h (down n)
all_same g h same zero = refl
all_same g h same (suc n) = λ i. same (suc n) (omega arith) i ++ all_same g h same n i

-- stages that no port has come to nothing
from_last : {X : Type 0} (g h : ℕ → List X) (n m : ℕ) → n ≤ m → ((s : ℕ) → n < s → g s ≡ []) → ((s : ℕ) → 1 ≤ s → g s ≡ h s) → flat_map g (down m) ≡ flat_map h (down n)
from_last g h n zero le none same = let e : 0 ≡ n = omega arith in subst (λ k. flat_map g (down 0) ≡ flat_map h (down k)) e refl
from_last g h n (suc m) le none same =
    ⊎_elim (λ less. (λ i. none (suc m) less i ++ flat_map g (down m)) ∙ from_last g h n m (omega (arith, less)) none same)
    (λ more. let e : suc m ≡ n = omega (arith, le, more) in subst (λ k. flat_map g (down (suc m)) ≡ flat_map h (down k)) e (all_same g h same (suc m))) (cases_lt n (suc m))

orders : {X : Type 0} (g h : ℕ → List X) (n : ℕ) → n ≤ 7 → ((s : ℕ) → n < s → g s ≡ []) → ((s : ℕ) → 1 ≤ s → g s ≡ h s) → flat_map g stages_from_last ≡ flat_map h (reverse (range_with_len 1 n))
orders g h n le none same = from_last g h n 7 le none same ∙ ap (flat_map h) (sym (reversed n le))

filter_same : (p q : ℕ → Bool) (xs : List ℕ) → Each (λ x. p x ≡ q x) xs → filter p xs ≡ filter q xs
filter_same p q [] h = refl
filter_same p q (x ∷ xs) h = λ i. cond (h.0 i) (x ∷ filter_same p q xs h.1 i) (filter_same p q xs h.1 i)

filter_none : (p : ℕ → Bool) (xs : List ℕ) → Each (λ x. p x ≡ false) xs → filter p xs ≡ []
filter_none p [] h = refl
filter_none p (x ∷ xs) h = (λ i. cond (h.0 i) (x ∷ filter p xs) (filter p xs)) ∙ filter_none p xs h.1

filter_mapped : {X Y : Type 0} (p : Y → Bool) (g : X → Y) (xs : List X) → filter p (map g xs) ≡ map g (filter (λ x. p (g x)) xs)
filter_mapped p g [] = refl
filter_mapped {X} {Y} p g (x ∷ xs) = go (p (g x)) (filter_mapped p g xs)
  where
    go : (b : Bool) → filter p (map g xs) ≡ map g (filter (λ y. p (g y)) xs) → cond b (g x ∷ filter p (map g xs)) (filter p (map g xs)) ≡ map g (cond b (x ∷ filter (λ y. p (g y)) xs) (filter (λ y. p (g y)) xs))
    go true later = ap (λ l. g x ∷ l) later
    go false later = later

flat_mapped : {X Y : Type 0} (g : X → Y) (h : ℕ → List X) (k : ℕ → List Y) → ((s : ℕ) → k s ≡ map g (h s)) → (xs : List ℕ) → flat_map k xs ≡ map g (flat_map h xs)
flat_mapped g h k same [] = refl
flat_mapped g h k same (x ∷ xs) = (λ i. same x i ++ flat_mapped g h k same xs i) ∙ sym (map-append g (h x) (flat_map h xs))

-- Numbers below a bound.

in_range : (P : ℕ → Type 0) (a n : ℕ) → ((x : ℕ) → a ≤ x → x < a + n → P x) → Each P (range_with_len a n)
in_range P a zero h = tt
in_range P a (suc n) h = (h a (omega arith) (omega arith), in_range P (a + 1) n (λ x low high. h x (omega arith) (omega arith)))

filter_keeps : (P : ℕ → Type 0) (p : ℕ → Bool) (xs : List ℕ) → Each P xs → Each P (filter p xs)
filter_keeps P p [] h = tt
filter_keeps P p (x ∷ xs) h = go (p x) (filter_keeps P p xs h.1)
  where
    go : (b : Bool) → Each P (filter p xs) → Each P (cond b (x ∷ filter p xs) (filter p xs))
    go true later = (h.0, later)
    go false later = later

flat_keeps : (P : ℕ → Type 0) (g : ℕ → List ℕ) → ((s : ℕ) → Each P (g s)) → (xs : List ℕ) → Each P (flat_map g xs)
flat_keeps P g h [] = tt
flat_keeps P g h (x ∷ xs) = All-join P (g x) (flat_map g xs) (h x) (flat_keeps P g h xs)

-- One cell.

cell_written : (b : Bool) (p : WritePort) (at value index old : ℕ)
    → cell_after index old (if b then Some (record { port = p; at = at; value = value }) else None) ≡ fold (store.cell_after index) old (if b then record { at = at; value = value } ∷ [] else [])
cell_written true p at value index old = refl
cell_written false p at value index old = refl

module _ (design : Design) (image : Image) (trace : Trace) (run : NetRun) (c : ℕ) (reading : ℕ → Reading) (f : RunsRegs design image trace run c reading) (files : HasFiles design f.draft f.modules) (file : ℕ) (x : File)
    (at : slice_get design.files file ≡ Some x) where
  abbrev one : HasFile design f.draft f.modules file x
  one = files.each file x at

  -- a cell is a register of the part
  pub cell_goes : (index : ℕ) (y : Next) → slice_get one.whole.nexts index ≡ Some y
      → RegisterGoes run.flat c run.states run.values (one.k + 1) (cell_name index) 0 (λ i. (reading i).parts one.k y.register.number) (λ i. (reading i).parts one.k y.from.number)
  cell_goes index y there =
      (f.read.parts one.k one.of one.whole one.placed one.found).registers y _ (index, slice_get_within one.whole.nexts index y there, get_or_from_slice_get one.whole.nexts index y y there) (one.is_file.cells.each index y there)

  pub number_is : part_number run.flat (file_part x) ≡ one.k + 1
  number_is = ap (part_number run.flat) (sym one.named) ∙ ap (λ (o : Option ℕ). unwrap_or o 0) (f.read.located one.k one.of one.placed (λ e. one.other (sym one.named ∙ e)))

module _ (alone : CellsGoAlone) (design : Design) (image : Image) (trace : Trace) (run : NetRun) (c : ℕ) (reading : ℕ → Reading) (f : RunsRegs design image trace run c reading) (files : HasFiles design f.draft f.modules) (j : ℕ) (lt : j < c) where
  abbrev now : Signals
  now = net_signals design run j

  abbrev next : Signals
  next = net_signals design run (j + 1)

  module _ (file : ℕ) (x : File) (at : slice_get design.files file ≡ Some x) where
    abbrev h : HasFile design f.draft f.modules file x
    h = files.each file x at

    abbrev part : ℕ → ℕ
    part = (reading j).parts h.k

    -- the numbers of the ports in the order of their writes
    abbrev used : ℕ → ℕ → Bool
    used stage number = is_used_in design stage (port.Cell file number)

    abbrev numbers : List ℕ
    numbers = flat_map (λ stage. filter (used stage) (range_with_len 0 x.writes)) (reverse (range_with_len 1 (design.stages - 1)))

    groups_are : file_groups design file ≡ map (λ number. port.Cell file number) numbers
    groups_are =
        let count : write_count design file ≡ x.writes = ap (λ (o : Option File). option_map_or (λ (y : File). y.writes) o 0) at in
        flat_mapped (λ number. port.Cell file number) (λ stage. filter (used stage) (range_with_len 0 x.writes)) (λ stage. filter (is_used_in design stage) (file_ports design file))
        (λ stage. filter_mapped (is_used_in design stage) (λ number. port.Cell file number) (range_with_len 0 (write_count design file)) ∙ ap (λ n. map (λ number. port.Cell file number) (filter (used stage) (range_with_len 0 n))) count)
        (reverse (range_with_len 1 (design.stages - 1)))

    order_is : write_order h.stages ≡ numbers
    order_is = orders (ports_in h.stages) (λ stage. filter (used stage) (range_with_len 0 x.writes)) (design.stages - 1) (let few : design.stages ≤ 8 = files.stages in omega (arith, few))
        (λ s late. ap (λ n. filter (λ number. slice_index h.stages number == s) (range_with_len 0 n)) h.count
        ∙ filter_none (λ number. slice_index h.stages number == s) (range_with_len 0 x.writes) (in_range (λ number. (slice_index h.stages number == s) ≡ false) 0 x.writes (λ number low high. later s late number (omega arith))))
        (λ s low. ap (λ n. filter (λ number. slice_index h.stages number == s) (range_with_len 0 n)) h.count
        ∙ filter_same (λ number. slice_index h.stages number == s) (used s) (range_with_len 0 x.writes) (in_range (λ number. (slice_index h.stages number == s) ≡ used s number) 0 x.writes (λ number least high. h.stage_of number s (omega arith) low)))
      where
        later : (s : ℕ) → design.stages - 1 < s → (number : ℕ) → number < x.writes → (slice_index h.stages number == s) ≡ false
        later s late number below = go (slice_index h.stages number == s) refl
          where
            go : (b : Bool) → (slice_index h.stages number == s) ≡ b → b ≡ false
            go true e =
                let same : slice_index h.stages number ≡ s = (Decides-eqb (slice_index h.stages number) s).0 e in
                let within : slice_index h.stages number ≤ design.stages - 1 = h.within number below in
                absurd (omega (arith, same, within, late))
            go false e = refl

    -- what is joined to a port
    joined : (n : ℕ) (w : Wire) → slice_get h.of.nets n ≡ Some w → part n ≡ (reading j).read w.number
    joined n w there = ((f.read.settled j lt).each h.k h.of h.whole h.placed (ap (λ (l : List ModuleText). module_named l (h.of).module) (f.read.over j) ∙ h.found)).joined n w there

    shown : (n : ℕ) (name : List ℕ) → IsJoined f.draft h.of n name → net_value run j name ≡ part n
    shown n name w = names_are_read f.draft f.modules run c reading f.read name w.net w.named j lt ∙ sym (joined n w.net w.joined)

    -- through each port goes what it is given
    same_write : (number index old : ℕ) → number < x.writes → cell_after index old (now.write (port.Cell file number)) ≡ fold (store.cell_after index) old (write_through x part number)
    same_write number index old below = go (is_used design (port.Cell file number)) refl
      where
        go : (b : Bool) → is_used design (port.Cell file number) ≡ b → cell_after index old (now.write (port.Cell file number)) ≡ fold (store.cell_after index) old (write_through x part number)
        go true e =
            let w = h.written number below e in
            let enable = shown (write_enable x number) (enable_name design (port.Cell file number)) w.enable in
            let place = shown (write_index x number) (index_name design (port.Cell file number)) w.index in
            let value = shown (write_value x number) (value_name design (port.Cell file number)) w.value in
            cell_written (net_value run j (enable_name design (port.Cell file number)) == 1) (port.Cell file number) (net_value run j (index_name design (port.Cell file number))) (net_value run j (value_name design (port.Cell file number))) index old
            ∙ (λ i. fold (store.cell_after index) old (write_of (enable i) (place i) (value i)))
        go false e =
            let w = h.unwritten number below e in
            let off : part (write_enable x number) ≡ 0 = joined (write_enable x number) w.enable w.joined ∙ w.never.means.holds (reading j) (f.read.settled j lt) in
            ap (cell_after index old) (idle design image trace run c reading f j lt (port.Cell file number) e)
            ∙ sym (ap (λ n. fold (store.cell_after index) old (write_of n (part (write_index x number)) (part (write_value x number)))) off)

    all_writes : (index old : ℕ) (xs : List ℕ) → Each (λ number. number < x.writes) xs
        → fold (λ value p. cell_after index value (now.write p)) old (map (λ number. port.Cell file number) xs) ≡ fold (store.cell_after index) old (flat_map (write_through x part) xs)
    all_writes index old [] h' = refl
    all_writes index old (number ∷ xs) h' =
        ap (λ value. fold (λ value p. cell_after index value (now.write p)) value (map (λ number. port.Cell file number) xs)) (same_write number index old h'.0)
        ∙ all_writes index (fold (store.cell_after index) old (write_through x part number)) xs h'.1 ∙ sym (fold-append (store.cell_after index) old (write_through x part number) (flat_map (write_through x part) xs))

    number_below : Each (λ number. number < x.writes) numbers
    number_below = flat_keeps (λ number. number < x.writes) (λ stage. filter (used stage) (range_with_len 0 x.writes))
        (λ stage. filter_keeps (λ number. number < x.writes) (used stage) (range_with_len 0 x.writes) (in_range (λ number. number < x.writes) 0 x.writes (λ number low high. omega arith))) (reverse (range_with_len 1 (design.stages - 1)))

    cell_now : (index : ℕ) (y : Next) → slice_get h.whole.nexts index ≡ Some y → part_register run.flat (run.states j) (file_part x) (cell_name index) ≡ slice_index (held h.whole part) index
    cell_now index y there =
        ap (λ n. register_in n run.flat (run.states j).registers (cell_name index)) (number_is design image trace run c reading f files file x at) ∙ (cell_goes design image trace run c reading f files file x at index y there).holds j lt ∙ sym (mapped_at (λ (z : Next). part z.register.number) h.whole.nexts index y there)

    cell_next : (index : ℕ) (y : Next) → slice_get h.whole.nexts index ≡ Some y → part_register run.flat (run.states (j + 1)) (file_part x) (cell_name index) ≡ slice_index (taken h.whole part) index
    cell_next index y there =
        ap (λ n. register_in n run.flat (run.states (j + 1)).registers (cell_name index)) (number_is design image trace run c reading f files file x at) ∙ (cell_goes design image trace run c reading f files file x at index y there).goes j lt ∙ sym (mapped_at (λ (z : Next). part z.from.number) h.whole.nexts index y there)

    stored : (index : ℕ) → index < x.cells → part_register run.flat (run.states (j + 1)) (file_part x) (cell_name index)
        ≡ fold (λ value p. cell_after index value (now.write p)) (part_register run.flat (run.states j) (file_part x) (cell_name index)) (file_groups design file)
    stored index below =
        let count : length h.whole.nexts ≡ x.cells = h.is_file.cells.count in
        let y = some_within h.whole.nexts index (omega (arith, count)) in
        let settled = ((f.read.parts h.k h.of h.whole h.placed h.found).alone (omega arith)).solves j lt in
        let long : length (held h.whole part) ≡ length h.whole.nexts = simp length-map in
        cell_next index y.0 y.1 ∙ ap (λ l. slice_index l index) (h.is_file.writes part settled)
        ∙ (alone (held h.whole part) (cycle_writes x h.stages part)).1 index (omega (arith, long, count))
        ∙ ap (λ l. fold (store.cell_after index) (slice_index (held h.whole part) index) (flat_map (write_through x part) l)) order_is
        ∙ sym (all_writes index (slice_index (held h.whole part) index) numbers number_below)
        ∙ (λ i. fold (λ value p. cell_after index value (now.write p)) (sym (cell_now index y.0 y.1) i) (sym groups_are i))

  abbrev cells_at : ℕ → File → List ℕ
  cells_at n x = map (λ index. part_register run.flat (run.states n) (file_part x) (cell_name index)) (range_with_len 0 x.cells)

  abbrev files_at : ℕ → List (List ℕ)
  files_at n = map (cells_at n) design.files

  file_at : (n file : ℕ) (x : File) → slice_get design.files file ≡ Some x → slice_index_or (files_at n) file [] ≡ cells_at n x
  file_at n file x at = get_or_from_slice_get (files_at n) file (cells_at n x) [] (slice_get-map (cells_at n) design.files file ∙ ap (option_map (cells_at n)) at)

  long_files : (n : ℕ) → length (files_at n) ≡ length design.files
  long_files n = simp length-map

  long_cells : (n : ℕ) (x : File) → length (cells_at n x) ≡ x.cells
  long_cells n x = let a : length (cells_at n x) ≡ length (range_with_len 0 x.cells) = simp length-map in a ∙ ranged 0 x.cells
    where
      ranged : (a n : ℕ) → length (range_with_len a n) ≡ n
      ranged a zero = refl
      ranged a (suc n) = let more : length (range_with_len (a + 1) n) ≡ n = ranged (a + 1) n in let all : length (range_with_len a (suc n)) ≡ suc n = omega (arith, more) in all

  cell_at : (n : ℕ) (x : File) (index : ℕ) → index < x.cells → slice_index (cells_at n x) index ≡ part_register run.flat (run.states n) (file_part x) (cell_name index)
  cell_at n x index below = mapped_at (λ i. part_register run.flat (run.states n) (file_part x) (cell_name i)) (range_with_len 0 x.cells) index index (ranged 0 x.cells index below ∙ (let e : 0 + index ≡ index = omega arith in ap Some e))
    where
      ranged : (a n index : ℕ) → index < n → slice_get (range_with_len a n) index ≡ Some (a + index)
      ranged a zero index lt' = absurd (omega arith)
      ranged a (suc n) zero lt' = let e : a ≡ a + 0 = omega arith in ap Some e
      ranged a (suc n) (suc index) lt' = ranged (a + 1) n index (omega arith) ∙ (let e : a + 1 + index ≡ a + suc index = omega arith in ap Some e)

  cells : (file index : ℕ) → file < length now.storages.files → index < length (slice_index_or now.storages.files file [])
      → slice_index (slice_index_or next.storages.files file []) index ≡ fold (λ value p. cell_after index value (now.write p)) (slice_index (slice_index_or now.storages.files file []) index) (file_groups design file)
  cells file index inside below =
      let x = some_within design.files file (let e = long_files j in omega (arith, e)) in
      let here = file_at j file x.0 x.1 in
      let room : index < (x.0).cells = let e : length (slice_index_or (files_at j) file []) ≡ (x.0).cells = ap length here ∙ long_cells j x.0 in omega (arith, e) in
      ap (λ l. slice_index l index) (file_at (j + 1) file x.0 x.1) ∙ cell_at (j + 1) x.0 index room ∙ stored file x.0 x.1 index room
      ∙ ap (λ old. fold (λ value p. cell_after index value (now.write p)) old (file_groups design file)) (sym (cell_at j x.0 index room) ∙ ap (λ l. slice_index l index) (sym here))

  count_same : (file : ℕ) → length (slice_index_or next.storages.files file []) ≡ length (slice_index_or now.storages.files file [])
  count_same file = go (slice_get design.files file) refl
    where
      go : (o : Option File) → slice_get design.files file ≡ o → length (slice_index_or (files_at (j + 1)) file []) ≡ length (slice_index_or (files_at j) file [])
      go None e = ap length (missing (j + 1) ∙ sym (missing j))
        where
          missing : (n : ℕ) → slice_index_or (files_at n) file [] ≡ []
          missing n = sym (unwrap_or-slice_get (files_at n) file []) ∙ ap (λ (o : Option (List ℕ)). unwrap_or o []) (slice_get-map (cells_at n) design.files file ∙ ap (option_map (cells_at n)) e)
      go (Some x) e = ap length (file_at (j + 1) file x e) ∙ long_cells (j + 1) x ∙ sym (long_cells j x) ∙ sym (ap length (file_at j file x e))

  cells_stored : StoresCells design now.write now.storages next.storages
  cells_stored = record { file_count = long_files (j + 1) ∙ sym (long_files j); cell_count = count_same; cells = cells }

pub cells_are_stored : CellsGoAlone → CellsAreStored
cells_are_stored alone design image trace run c reading f files j lt = cells_stored alone design image trace run c reading f files j lt

pub storages_go : CellsGoAlone → StoragesGo
storages_go alone design image trace run c reading f files j lt =
    let regs = regs_are_stored design image trace run c reading f j lt in
    let own = cells_stored alone design image trace run c reading f files j lt in
    record {
      reg_count = regs.reg_count;
      regs = regs.regs;
      file_count = own.file_count;
      cell_count = own.cell_count;
      cells = own.cells;
      mem_count = regs.mem_count;
      mems = regs.mems;
    }
