-- A read port that was added: it shows the cell at its index, and is ready once its index and the cells are.
use Rattle.std.proofs.Common.{◌≡◌, ◌≢◌, ℕ, zero, suc, ◌+◌, ◌<◌, ◌≤◌, ◌^◌, List, [], ◌∷◌, ◌++◌, length, map, Some, inl, inr, refl, sym, ap, subst, ◌∙◌, arith, ⊎_elim}
use Rattle.std.specs.Prelude.{option_map, slice_get, slice_index}
use Rattle.std.specs.List.{AllByRecursion as Each, range_with_len}
use Rattle.std.proofs.lemmas.Bool.{cases_lt}
use Rattle.std.proofs.lemmas.List.FromFn.{length-map-range_with_len}
use Rattle.std.proofs.lemmas.Option.{slice_get-map, slice_get_within}
use Rattle.ap_desc.specs.declared.design.File.{File}
use Rattle.ap_desc.specs.Designs.{index_bits}
use Rattle.ap_net.specs.declared.cell.Wire.{Wire}
use Rattle.ap_net.specs.declared.net.Role.TheVariants as role
use Rattle.ap_net.specs.declared.net.ModuleNet.{ModuleNet}
use Rattle.ap_net.specs.declared.net.Instance.{Instance}
use Rattle.ap_net.specs.Names.{IsNew}
use Rattle.ap_net.specs.Wiring.{taken_names}
use Rattle.ap_net.specs.Draft.{Draft, Extends, Means, SettlesDraft, names_of, next_wire, with_net}
use Rattle.ap_net.specs.Ready.{AreReady, Dependence, Ready, ReadyAfter, numbers}
use Rattle.ap_net.specs.Late.{Reads}
use Rattle.ap_net.specs.Pending.{Among, Yields}
use Rattle.ap_net.specs.Making.{Makes}
use Rattle.ap_net.proofs.Lists.{All-at, All-back, All-unmap, get_end, map-map}
use Rattle.ap_net.proofs.Laws.{Extends-trans, ReadyAfter-Extends, stays}
use Rattle.ap_comb.specs.Choices.{values_of}
use Rattle.ap_unit.specs.Pieces.{input_net, output_net}
use Rattle.ap_store.specs.FilePorts.{read_index_name, read_value_name}
use Rattle.ap_store.specs.Building.{IsRead, cell_values, cell_wire, cell_wires}
use Rattle.ap_store.proofs.FileShapes.{HasShape}

-- the values of the cells, and their numbers
pub values_of_cells : (read : ℕ → ℕ) (width count : ℕ) → values_of read (cell_wires width count) ≡ cell_values read count
values_of_cells read width count = map-map (cell_wire width) (λ (x : Wire). read x.number) (range_with_len 0 count)

numbers_from : (width a n : ℕ) → numbers (map (cell_wire width) (range_with_len a n)) ≡ range_with_len a n
numbers_from width a zero = refl
numbers_from width a (suc n) = ap (λ l. a ∷ l) (numbers_from width (a + 1) n)

pub numbers_of_cells : (width count : ℕ) → numbers (cell_wires width count) ≡ range_with_len 0 count
numbers_of_cells width count = numbers_from width 0 count

pub count_of_cells : (width count : ℕ) → length (cell_wires width count) ≡ count
count_of_cells width count = length-map-range_with_len (cell_wire width) 0 count

-- a declared net fits its width in every solution
pub fits_width : (d : Draft) (read : ℕ → ℕ) (n : ℕ) (net : ModuleNet) → SettlesDraft d read → slice_get d.nets n ≡ Some net → read n < 2 ^ net.width
fits_width d read n net s at = s.fits n net.width (slice_get-map (λ (x : ModuleNet). x.width) d.nets n ∙ ap (option_map (λ (x : ModuleNet). x.width)) at)

-- a net whose name was new came
came_after : (a b : Draft) (n : ℕ) (net : ModuleNet) → Extends a b → slice_get b.nets n ≡ Some net → IsNew net.name (names_of a) → length a.nets ≤ n
came_after a b n net e at new =
    ⊎_elim
    (λ (low : n < length a.nets).
    let old = old_net a.nets n low in
    let same : old.0 ≡ net = (let there : slice_get b.nets n ≡ Some old.0 = stays a.nets b.nets e.nets n old.0 old.1 in cc) in
    let names : Each (λ other. other ≢ net.name) (taken_names a.nets) = All-back (λ other. other ≢ net.name) (map (λ (i : Instance). i.name) a.instances) (taken_names a.nets) new in
    absurd (All-at (λ (x : ModuleNet). x.name ≢ net.name) a.nets n old.0 (All-unmap (λ other. other ≢ net.name) (λ (x : ModuleNet). x.name) a.nets names.1.1) old.1 (ap (λ (x : ModuleNet). x.name) same)))
    (λ high. high)
    (cases_lt n (length a.nets))
  where
    old_net : (nets : List ModuleNet) (n : ℕ) → n < length nets → (x : ModuleNet) × (slice_get nets n ≡ Some x)
    old_net [] n lt = absurd (omega arith)
    old_net (x ∷ nets) zero lt = (x, refl)
    old_net (x ∷ nets) (suc n) lt = old_net nets n (omega arith)

-- what holds of each of some numbers holds of one among them
each_among : (P : ℕ → Type 0) (from : List ℕ) → Each P from → (n : ℕ) → Among from n → P n
each_among P [] each n h = absurd h
each_among P (m ∷ from) each n (inl e) = subst P e each.0
each_among P (m ∷ from) each n (inr h) = each_among P from each.1 n h

-- a net that a piece yields is ready once those are that the piece reads
yielded_ready : (from : List ℕ) (a b : Draft) (w : Wire) (by : Dependence) (later : Draft) → Yields from a b w → Extends b later → AreReady by later from → Ready by later w.number
yielded_ready from a b w by later y e each =
    ⊎_elim (λ among. each_among (Ready by later) from each w.number among) (λ came. (y.reads).came by w.number came.0 came.1 later e each) y.result

module _ (file : File) (port : ℕ) (d0 d1 d2 d3 : Draft) (x y w : Wire) (cells : List Wire) (bits : ℕ) (shape : HasShape file) (is_bits : bits ≡ index_bits file) (is_cells : cells ≡ cell_wires file.width file.cells)
    (is_input : d1 ≡ with_net d0 (read_index_name port) bits role.Input) (is_index : x ≡ next_wire d0 bits)
    (chosen : Means d1 d2 (λ read. read x.number < length cells → read y.number ≡ slice_index (values_of read cells) (read x.number))) (yields : Yields (x.number ∷ numbers cells) d1 d2 y) (makes : Makes d1 d2)
    (there : slice_get d3.nets w.number ≡ Some (output_net (read_value_name port) file.width)) (shown : Means d2 d3 (λ read. read w.number ≡ read y.number)) (reads : Reads (y.number ∷ []) d2 d3) (new : IsNew (read_value_name port) (names_of d2)) where
  number : x.number ≡ length d0.nets
  number = ap (λ (v : Wire). v.number) is_index

  declared : slice_get d1.nets (length d0.nets) ≡ Some (input_net (read_index_name port) (index_bits file))
  declared =
      let end : slice_get (d0.nets ++ input_net (read_index_name port) bits ∷ []) (length d0.nets) ≡ Some (input_net (read_index_name port) bits) = get_end d0.nets (input_net (read_index_name port) bits) in
      ap (λ (d : Draft). slice_get d.nets (length d0.nets)) is_input ∙ end ∙ ap (λ k. Some (input_net (read_index_name port) k)) is_bits

  before : Extends d1 d3
  before = Extends-trans d1 d2 d3 makes.adds.extends reads.extends

  shows : (read : ℕ → ℕ) → SettlesDraft d3 read → read w.number ≡ slice_index (cell_values read file.cells) (read (length d0.nets))
  shows read s =
      let last = shown read s in
      let first = chosen read last.0 in
      let small : read (length d0.nets) < 2 ^ index_bits file = fits_width d1 read (length d0.nets) (input_net (read_index_name port) (index_bits file)) first.0 declared in
      let long : length cells ≡ file.cells = ap length is_cells ∙ count_of_cells file.width file.cells in
      let power = shape.power in
      let same : read x.number ≡ read (length d0.nets) = ap read number in
      let lt : read x.number < length cells = omega arith in
      last.1 ∙ first.1 lt ∙ (λ i. slice_index ((ap (values_of read) is_cells ∙ values_of_cells read file.width file.cells) i) (same i))

  alone : (by : Dependence) → ReadyAfter by d3 (length d0.nets ∷ range_with_len 0 file.cells) w.number
  alone by later e each =
      let row : numbers cells ≡ range_with_len 0 file.cells = ap numbers is_cells ∙ numbers_of_cells file.width file.cells in
      let from : AreReady by later (x.number ∷ numbers cells) = (subst (Ready by later) (sym number) each.0, subst (AreReady by later) (sym row) each.1) in
      let value : Ready by later y.number = yielded_ready (x.number ∷ numbers cells) d1 d2 y by later yields (Extends-trans d2 d3 later reads.extends e) from in
      reads.came by w.number (came_after d2 d3 w.number (output_net (read_value_name port) file.width) reads.extends there new) (slice_get_within d3.nets w.number _ there) later e (value, tt)

  pub read_added : IsRead d3 file port
  read_added = record {
    index = length d0.nets;
    value = w.number;
    input = stays d1.nets d3.nets before.nets (length d0.nets) _ declared;
    output = there;
    shows = shows;
    alone = alone;
  }

-- a read port goes on where the draft grows
pub IsRead-Extends : (file : File) (port : ℕ) (a b : Draft) → Extends a b → ((read : ℕ → ℕ) → SettlesDraft b read → SettlesDraft a read) → IsRead a file port → IsRead b file port
IsRead-Extends file port a b e before h = record {
  index = h.index;
  value = h.value;
  input = stays a.nets b.nets e.nets h.index _ h.input;
  output = stays a.nets b.nets e.nets h.value _ h.output;
  shows = λ read s. h.shows read (before read s);
  alone = λ by. ReadyAfter-Extends by a b (h.index ∷ range_with_len 0 file.cells) h.value e (h.alone by);
}
