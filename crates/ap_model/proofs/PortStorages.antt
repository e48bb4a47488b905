-- The storages after a cycle, port by port.
use Rattle.std.proofs.Common.{◌≡◌, ℕ, ◌<◌, ◌==◌, Bool, true, false, if◌then◌else◌, List, [], ◌∷◌, ◌++◌, length, fold, get_or, set, slice_index, Option, Some, None, option_to_list, refl, ap, sym, ◌∙◌, arith, eqb-true}
use Rattle.std.proofs.lemmas.Bool.{eqb-false}
use Rattle.std.proofs.lemmas.List.{get_or-set_same, get_or-set_other, length-set, ext_get_or}
use Rattle.std.specs.Option.{option_map_or}
use Rattle.ap_desc.specs.declared.design.Design.{Design}
use Rattle.ap_model.specs.declared.storage.PortWrite.{PortWrite}
use Rattle.ap_model.specs.declared.storage.Storages.{Storages}
use Rattle.ap_model.specs.declared.storage.WritePort.{WritePort}
use Rattle.ap_model.specs.declared.storage.WritePort.TheVariants as port
use Rattle.ap_model.specs.Ports.{file_groups, is_same_port}
use Rattle.ap_image.specs.Words.{with_word}
use Rattle.ap_model.specs.Stored.{file_cell_value, reg_value, with_value, with_write, with_writes}
use Rattle.ap_model.specs.PortForms.{GoesThroughPorts, StoresWrites, Writing, all_writes, cell_after, cells_of, through, words_of}
use Rattle.ap_model.proofs.ListLemmas.{fold_filter}
use Rattle.ap_model.proofs.PortsOnce.{file_among_all, is_of_file, mem_is_port, one_through, reg_is_port, tested}
use Rattle.ap_model.proofs.WritesApart.{WritesApart}

-- what is at a place after another one was set
set_at : {X : Type 0} (xs : List X) (n r : ℕ) (v d : X) → r < length xs → get_or (set xs n v) r d ≡ (if r == n then v else get_or xs r d)
set_at xs n r v d h = go (r == n) refl
  where
    go : (b : Bool) → (r == n) ≡ b → get_or (set xs n v) r d ≡ (if b then v else get_or xs r d)
    go true e = let same : r ≡ n = eqb-true r n e in ap (λ k. get_or (set xs k v) r d) (sym same) ∙ get_or-set_same xs r v d h
    go false e = get_or-set_other xs n r v d (eqb-false r n e)

-- One write.

count_regs : (st : Storages) (p : WritePort) (at v : ℕ) → length (with_value st p at v).regs ≡ length st.regs
count_regs st (port.Register reg) at v = length-set st.regs reg v
count_regs st (port.Cell file number) at v = refl
count_regs st (port.Memory mem) at v = refl

count_files : (st : Storages) (p : WritePort) (at v : ℕ) → length (with_value st p at v).files ≡ length st.files
count_files st (port.Register reg) at v = refl
count_files st (port.Cell file number) at v = length-set st.files file (set (cells_of st file) at v)
count_files st (port.Memory mem) at v = refl

count_mems : (st : Storages) (p : WritePort) (at v : ℕ) → length (with_value st p at v).mems ≡ length st.mems
count_mems st (port.Register reg) at v = refl
count_mems st (port.Cell file number) at v = refl
count_mems st (port.Memory mem) at v = length-set st.mems mem (with_word (words_of st mem) at v)

reg_by : (st : Storages) (p : WritePort) (at v r : ℕ) → r < length st.regs → reg_value (with_value st p at v) r ≡ (if is_same_port (port.Register r) p then v else reg_value st r)
reg_by st (port.Register reg) at v r h = set_at st.regs reg r v 0 h
reg_by st (port.Cell file number) at v r h = refl
reg_by st (port.Memory mem) at v r h = refl

words_by : (st : Storages) (p : WritePort) (at v m : ℕ) → m < length st.mems → words_of (with_value st p at v) m ≡ (if is_same_port (port.Memory m) p then with_word (words_of st m) at v else words_of st m)
words_by st (port.Register reg) at v m h = refl
words_by st (port.Cell file number) at v m h = refl
words_by st (port.Memory mem) at v m h = set_at st.mems mem m (with_word (words_of st mem) at v) [] h ∙ go (m == mem) refl
  where
    go : (b : Bool) → (m == mem) ≡ b → (if b then with_word (words_of st mem) at v else words_of st m) ≡ (if b then with_word (words_of st m) at v else words_of st m)
    go true e = ap (λ k. with_word (words_of st k) at v) (sym (eqb-true m mem e))
    go false e = refl

cells_by : (st : Storages) (p : WritePort) (at v f : ℕ) → f < length st.files → cells_of (with_value st p at v) f ≡ (if is_of_file f p then set (cells_of st f) at v else cells_of st f)
cells_by st (port.Register reg) at v f h = refl
cells_by st (port.Memory mem) at v f h = refl
cells_by st (port.Cell file number) at v f h = set_at st.files file f (set (cells_of st file) at v) [] h ∙ go (f == file) refl
  where
    go : (b : Bool) → (f == file) ≡ b → (if b then set (cells_of st file) at v else cells_of st f) ≡ (if b then set (cells_of st f) at v else cells_of st f)
    go true e = ap (λ k. set (cells_of st k) at v) (sym (eqb-true f file e))
    go false e = refl

-- Many writes.

all_count_regs : (st : Storages) (ws : List PortWrite) → length (fold with_write st ws).regs ≡ length st.regs
all_count_regs st [] = refl
all_count_regs st (w ∷ ws) = all_count_regs (with_write st w) ws ∙ count_regs st w.port w.at w.value

all_count_files : (st : Storages) (ws : List PortWrite) → length (fold with_write st ws).files ≡ length st.files
all_count_files st [] = refl
all_count_files st (w ∷ ws) = all_count_files (with_write st w) ws ∙ count_files st w.port w.at w.value

all_count_mems : (st : Storages) (ws : List PortWrite) → length (fold with_write st ws).mems ≡ length st.mems
all_count_mems st [] = refl
all_count_mems st (w ∷ ws) = all_count_mems (with_write st w) ws ∙ count_mems st w.port w.at w.value

pub counts_stay : (st : Storages) (ws : List PortWrite) → (length (with_writes st ws).regs ≡ length st.regs) × (length (with_writes st ws).files ≡ length st.files) × (length (with_writes st ws).mems ≡ length st.mems)
unfolding with_writes
counts_stay st ws = (all_count_regs st ws, all_count_files st ws, all_count_mems st ws)

regs_after : (st : Storages) (ws : List PortWrite) (r : ℕ) → r < length st.regs → reg_value (fold with_write st ws) r ≡ fold (λ v (w : PortWrite). if is_same_port (port.Register r) w.port then w.value else v) (reg_value st r) ws
regs_after st [] r h = refl
regs_after st (w ∷ ws) r h =
    let count = count_regs st w.port w.at w.value in
    regs_after (with_write st w) ws r (omega (arith, h, count)) ∙ ap (λ v. fold (λ v (w : PortWrite). if is_same_port (port.Register r) w.port then w.value else v) v ws) (reg_by st w.port w.at w.value r h)

mems_after : (st : Storages) (ws : List PortWrite) (m : ℕ) → m < length st.mems → words_of (fold with_write st ws) m ≡ fold (λ l (w : PortWrite). if is_same_port (port.Memory m) w.port then with_word l w.at w.value else l) (words_of st m) ws
mems_after st [] m h = refl
mems_after st (w ∷ ws) m h =
    let count = count_mems st w.port w.at w.value in
    mems_after (with_write st w) ws m (omega (arith, h, count)) ∙ ap (λ l. fold (λ l (w : PortWrite). if is_same_port (port.Memory m) w.port then with_word l w.at w.value else l) l ws) (words_by st w.port w.at w.value m h)

cells_after : (st : Storages) (ws : List PortWrite) (f : ℕ) → f < length st.files → cells_of (fold with_write st ws) f ≡ fold (λ l (w : PortWrite). if is_of_file f w.port then set l w.at w.value else l) (cells_of st f) ws
cells_after st [] f h = refl
cells_after st (w ∷ ws) f h =
    let count = count_files st w.port w.at w.value in
    cells_after (with_write st w) ws f (omega (arith, h, count)) ∙ ap (λ l. fold (λ l (w : PortWrite). if is_of_file f w.port then set l w.at w.value else l) l ws) (cells_by st w.port w.at w.value f h)

-- one cell of a file whose cells are set one after another
one_cell : (cells : List ℕ) (ws : List PortWrite) (i : ℕ) → i < length cells → slice_index (fold (λ l (w : PortWrite). set l w.at w.value) cells ws) i ≡ fold (λ v (w : PortWrite). if w.at == i then w.value else v) (slice_index cells i) ws
one_cell cells [] i h = refl
one_cell cells (w ∷ ws) i h =
    let count = length-set cells w.at w.value in
    one_cell (set cells w.at w.value) ws i (omega (arith, h, count)) ∙ ap (λ v. fold (λ v (w : PortWrite). if w.at == i then w.value else v) v ws) (set_at cells w.at i w.value 0 h ∙ swapped (i == w.at) (w.at == i) refl refl)
  where
    swapped : (a b : Bool) → (i == w.at) ≡ a → (w.at == i) ≡ b → (if a then w.value else slice_index cells i) ≡ (if b then w.value else slice_index cells i)
    swapped true true p q = refl
    swapped false false p q = refl
    swapped true false p q = absurd (eqb-false w.at i q (sym (eqb-true i w.at p)))
    swapped false true p q = absurd (eqb-false i w.at p (sym (eqb-true w.at i q)))

cells_count : (cells : List ℕ) (ws : List PortWrite) → length (fold (λ l (w : PortWrite). set l w.at w.value) cells ws) ≡ length cells
cells_count cells [] = refl
cells_count cells (w ∷ ws) = cells_count (set cells w.at w.value) ws ∙ length-set cells w.at w.value

-- through ports, one after another
fold_through : (writing : Writing) (i v : ℕ) (ports : List WritePort) → fold (λ v (w : PortWrite). if w.at == i then w.value else v) v (through writing ports) ≡ fold (λ v p. cell_after i v (writing p)) v ports
fold_through writing i v [] = refl
fold_through writing i v (p ∷ ports) = go (writing p) (λ z. fold_through writing i z ports)
  where
    go : (o : Option PortWrite) → ((z : ℕ) → fold (λ v (w : PortWrite). if w.at == i then w.value else v) z (through writing ports) ≡ fold (λ v p. cell_after i v (writing p)) z ports)
        → fold (λ v (w : PortWrite). if w.at == i then w.value else v) v (option_to_list o ++ through writing ports) ≡ fold (λ v p. cell_after i v (writing p)) (cell_after i v o) ports
    go None rest = rest v
    go (Some w) rest = rest (if w.at == i then w.value else v)

fold_option : {Y : Type 0} (g : Y → PortWrite → Y) (y : Y) (o : Option PortWrite) → fold g y (option_to_list o) ≡ option_map_or (g y) o y
fold_option g y None = refl
fold_option g y (Some w) = refl

-- Storages that store what goes through the ports are those after the writes of the cycle.
module _ (design : Design) (writing : Writing) (apart : WritesApart design) (theirs : GoesThroughPorts design writing)
    (old new : Storages) (stores : StoresWrites design writing old new)
    (reg_count : length old.regs ≡ length design.regs) (file_count : length old.files ≡ length design.files) (mem_count : length old.mems ≡ length design.mems) where
  abbrev writes : List PortWrite
  writes = all_writes design writing

  reg_same : (r : ℕ) → r < length old.regs → reg_value new r ≡ reg_value (fold with_write old writes) r
  reg_same r h =
      let one = one_through design writing apart theirs (port.Register r) (reg_is_port design r (omega (arith, h, reg_count))) in
      stores.regs r h ∙ sym (fold_option (λ v (w : PortWrite). w.value) (reg_value old r) (writing (port.Register r)))
      ∙ ap (fold (λ v (w : PortWrite). w.value) (reg_value old r)) (sym one)
      ∙ sym (fold_filter (λ v (w : PortWrite). w.value) (λ (w : PortWrite). is_same_port (port.Register r) w.port) (reg_value old r) writes)
      ∙ sym (regs_after old writes r h)

  mem_same : (m : ℕ) → m < length old.mems → words_of new m ≡ words_of (fold with_write old writes) m
  mem_same m h =
      let one = one_through design writing apart theirs (port.Memory m) (mem_is_port design m (omega (arith, h, mem_count))) in
      stores.mems m h ∙ sym (fold_option (λ l (w : PortWrite). with_word l w.at w.value) (words_of old m) (writing (port.Memory m)))
      ∙ ap (fold (λ l (w : PortWrite). with_word l w.at w.value) (words_of old m)) (sym one)
      ∙ sym (fold_filter (λ l (w : PortWrite). with_word l w.at w.value) (λ (w : PortWrite). is_same_port (port.Memory m) w.port) (words_of old m) writes)
      ∙ sym (mems_after old writes m h)

  file_words : (f : ℕ) → f < length old.files → cells_of (fold with_write old writes) f ≡ fold (λ l (w : PortWrite). set l w.at w.value) (cells_of old f) (through writing (file_groups design f))
  file_words f h =
      cells_after old writes f h
      ∙ fold_filter (λ l (w : PortWrite). set l w.at w.value) (λ (w : PortWrite). is_of_file f w.port) (cells_of old f) writes
      ∙ ap (fold (λ l (w : PortWrite). set l w.at w.value) (cells_of old f)) (tested (is_of_file f) design writing theirs ∙ ap (through writing) (file_among_all design f (omega (arith, h, file_count))))

  file_same : (f : ℕ) → f < length old.files → cells_of new f ≡ cells_of (fold with_write old writes) f
  file_same f h =
      let among = through writing (file_groups design f) in
      let count = stores.cell_count f in
      let counted = cells_count (cells_of old f) among in
      ext_get_or 0 (cells_of new f) (fold (λ l (w : PortWrite). set l w.at w.value) (cells_of old f) among) (count ∙ sym counted)
      (λ i within.
      let inside : i < length (cells_of old f) = omega (arith, within, count) in
      stores.cells f i h inside ∙ sym (fold_through writing i (file_cell_value old f i) (file_groups design f)) ∙ sym (one_cell (cells_of old f) among i inside))
      ∙ sym (file_words f h)

  pub stored : new ≡ with_writes old writes
  unfolding with_writes
  stored =
      let after = fold with_write old writes in
      let regs : new.regs ≡ after.regs = ext_get_or 0 new.regs after.regs (stores.reg_count ∙ sym (all_count_regs old writes)) (λ r h. reg_same r (omega (arith, h, stores.reg_count))) in
      let files : new.files ≡ after.files = ext_get_or [] new.files after.files (stores.file_count ∙ sym (all_count_files old writes)) (λ f h. file_same f (omega (arith, h, stores.file_count))) in
      let mems : new.mems ≡ after.mems = ext_get_or [] new.mems after.mems (stores.mem_count ∙ sym (all_count_mems old writes)) (λ m h. mem_same m (omega (arith, h, stores.mem_count))) in
      λ i. record { regs = regs i; files = files i; mems = mems i }
