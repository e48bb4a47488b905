-- The names of a file's cells and ports: they are names of the subset, and no two are one.
use Rattle.std.proofs.Common.{◌≡◌, ◌≢◌, ℕ, zero, suc, ◌+◌, ◌%◌, ◌<◌, ◌≤◌, ◌^◌, ◌&&◌, Bool, true, false, List, [], ◌∷◌, ◌++◌, length, refl, sym, ap, subst, ◌∙◌, arith}
use Rattle.std.specs.Prelude.{◌==◌, codes, nat_le}
use Rattle.std.specs.Char.{is_ascii_alphanumeric, is_ascii_digit}
use Rattle.std.specs.Fmt.{decimal}
use Rattle.std.specs.List.{AllByRecursion as Each, list_all, range_with_len}
use Rattle.std.proofs.lemmas.Bool.{and_parts, leb-true, le-leb, or_left}
use Rattle.std.proofs.lemmas.Fmt.{decimal_by_steps, decimal_digit, decimal_injective}
use Rattle.std.proofs.lemmas.List.Folds.{list_all-append}
use Rattle.std.proofs.lemmas.Bool.Decides.{nat_tests}
use Rattle.ap_bits.specs.Names.{IsName, starts_with_letter}
use Rattle.ap_desc.specs.declared.design.File.{File}
use Rattle.ap_net.specs.declared.net.ModuleNet.{ModuleNet}
use Rattle.ap_net.specs.Names.{IsNetName, IsNew, IsNotNumbered, is_name_byte, numbered}
use Rattle.ap_net.specs.Draft.{CanFresh, names_of}
use Rattle.ap_net.proofs.Lists.{All-map}
use Rattle.ap_net.proofs.NameLemmas.{IsNetName-numbered}
use Rattle.ap_net.proofs.Laws.{IsNotNumbered-other}
use Rattle.ap_store.specs.FilePorts.{cell_name, file_module_name, read_index_name, read_value_name, write_enable_name, write_index_name, write_value_name}
use Rattle.ap_store.specs.FileModules.{cell_net}
use Rattle.ap_store.specs.Building.{names_below, read_names, with_cells, write_names}
use Rattle.ap_store.proofs.Ranges.{each_in_range, each_made}

-- a letter, a digit, _ and a letter
abbrev pub short : ℕ → ℕ → ℕ → List ℕ
short letter k last = letter ∷ (48 + k) ∷ 95 ∷ last ∷ []

short_is : (letter k last : ℕ) → k < 10 → letter ∷ decimal k ++ 95 ∷ last ∷ [] ≡ short letter k last
short_is letter k last lt = ap (λ digits. letter ∷ digits ++ 95 ∷ last ∷ []) (decimal_digit k lt)

other_number : (letter last other j k : ℕ) → (j ≡ k → ⊥) → short letter j last ≢ short letter k other
other_number letter last other j k ne e = let same : 48 + j ≡ 48 + k = cc in ne (omega arith)

other_last : (letter last other j k : ℕ) → (last ≡ other → ⊥) → short letter j last ≢ short letter k other
other_last letter last other j k ne e = let same : last ≡ other = cc in ne same

-- whether a name begins with this letter
abbrev begins : ℕ → List ℕ → Bool
begins letter [] = false
begins letter (b ∷ bs) = b == letter

other_letter : (letter : ℕ) (a b : List ℕ) → begins letter a ≡ true → begins letter b ≡ false → a ≢ b
other_letter letter a b here other e = let clash : begins letter b ≡ true = ap (begins letter) (sym e) ∙ here in cc

-- Names of the subset.

alphanumeric_byte : (b : ℕ) → is_ascii_alphanumeric b ≡ true → is_name_byte b ≡ true
alphanumeric_byte b h = or_left (is_ascii_alphanumeric b) (b == 95) h

alphanumeric_bytes : (bytes : List ℕ) → list_all is_ascii_alphanumeric bytes ≡ true → list_all is_name_byte bytes ≡ true
alphanumeric_bytes [] h = refl
alphanumeric_bytes (b ∷ bytes) h =
    let both = and_parts (is_ascii_alphanumeric b) (list_all is_ascii_alphanumeric bytes) h in
    rw (alphanumeric_byte b both.0, alphanumeric_bytes bytes both.1) refl

pub IsNetName-file : (file : File) → IsName file.name → IsNetName (file_module_name file)
IsNetName-file file h =
    let few = and_parts (starts_with_letter file.name && list_all is_ascii_alphanumeric file.name) (nat_le (length file.name) 32) h in
    let bytes = and_parts (starts_with_letter file.name) (list_all is_ascii_alphanumeric file.name) few.0 in
    let short : length file.name ≤ 32 = leb-true (length file.name) 32 few.1 in
    let fits : nat_le (suc (suc (suc (length file.name)))) 100 ≡ true = le-leb (suc (suc (suc (length file.name)))) 100 (omega arith) in
    rw (alphanumeric_bytes file.name bytes.1, fits) refl

pub IsNetName-cell : (k : ℕ) → k < 2 ^ 64 → IsNetName (cell_name k)
IsNetName-cell k small = IsNetName-numbered k small

pub IsNetName-reads : (k : ℕ) → k < 4 → Each IsNetName (read_names k)
IsNetName-reads k lt = (
  subst IsNetName (sym (short_is 114 k 120 (omega arith))) (short_names k lt).0,
  (subst IsNetName (sym (short_is 114 k 121 (omega arith))) (short_names k lt).1, tt),
)
  where
    short_names : (k : ℕ) → k < 4 → IsNetName (short 114 k 120) × IsNetName (short 114 k 121)
    short_names zero lt = (refl, refl)
    short_names (suc zero) lt = (refl, refl)
    short_names (suc (suc zero)) lt = (refl, refl)
    short_names (suc (suc (suc zero))) lt = (refl, refl)
    short_names (suc (suc (suc (suc k)))) lt = absurd (omega arith)

pub IsNetName-writes : (k : ℕ) → k < 2 → Each IsNetName (write_names k)
IsNetName-writes k lt = (
  subst IsNetName (sym (short_is 119 k 101 (omega arith))) (short_names k lt).0,
  (subst IsNetName (sym (short_is 119 k 120 (omega arith))) (short_names k lt).1, (subst IsNetName (sym (short_is 119 k 118 (omega arith))) (short_names k lt).2, tt)),
)
  where
    short_names : (k : ℕ) → k < 2 → IsNetName (short 119 k 101) × IsNetName (short 119 k 120) × IsNetName (short 119 k 118)
    short_names zero lt = (refl, refl, refl)
    short_names (suc zero) lt = (refl, refl, refl)
    short_names (suc (suc k)) lt = absurd (omega arith)

-- None is n and a number.

pub read_not_numbered : (k : ℕ) → Each IsNotNumbered (read_names k)
read_not_numbered k = (IsNotNumbered-other (read_index_name k) refl, (IsNotNumbered-other (read_value_name k) refl, tt))

pub write_not_numbered : (k : ℕ) → Each IsNotNumbered (write_names k)
write_not_numbered k = (IsNotNumbered-other (write_enable_name k) refl, (IsNotNumbered-other (write_index_name k) refl, (IsNotNumbered-other (write_value_name k) refl, tt)))

-- Cells beside each other.

digit_is : (d : ℕ) → d < 10 → is_ascii_digit (48 + d) ≡ true
digit_is d h = grind (arith, nat_tests)

digits : (n : ℕ) → n < 2 ^ 64 → list_all is_ascii_digit (decimal n) ≡ true
digits = decimal_by_steps (λ m ds. list_all is_ascii_digit ds ≡ true)
    (λ m l. rw (digit_is m l) refl)
    (λ m ds l h. list_all-append is_ascii_digit ds ((48 + m % 10) ∷ []) ∙ rw (h, digit_is (m % 10) (omega arith)) refl)

clk_no_cell : (k : ℕ) → k < 2 ^ 64 → codes "clk" ≢ cell_name k
clk_no_cell k small e =
    let same : 108 ∷ 107 ∷ [] ≡ decimal k = cc in
    let clash : list_all is_ascii_digit (108 ∷ 107 ∷ []) ≡ true = ap (list_all is_ascii_digit) same ∙ digits k small in
    cc

other_cell : (j k : ℕ) → j < 2 ^ 64 → k < 2 ^ 64 → (j ≡ k → ⊥) → cell_name j ≢ cell_name k
other_cell j k low small ne e = let same : decimal j ≡ decimal k = cc in ne (decimal_injective j k low small same)

-- a name that is new beside the cells
pub beside_cells : (module_name : List ℕ) (file : File) (count : ℕ) (name : List ℕ) → codes "clk" ≢ name → codes "rst" ≢ name → ((j : ℕ) → j < count → cell_name j ≢ name) → IsNew name (names_of (with_cells module_name file count))
beside_cells module_name file count name clk rst cells = (
  clk,
  (
    rst,
    All-map (λ other. other ≢ name) (λ (n : ModuleNet). n.name) _
        (All-map (λ (n : ModuleNet). n.name ≢ name) (cell_net file) (range_with_len 0 count) (each_in_range (λ j. cell_name j ≢ name) 0 count (λ j low high. cells j (omega arith)))),
  ),
)

pub cell_is_new : (module_name : List ℕ) (file : File) (k : ℕ) → k < 2 ^ 64 → IsNew (cell_name k) (names_of (with_cells module_name file k))
cell_is_new module_name file k small =
    beside_cells module_name file k (cell_name k) (clk_no_cell k small) (other_letter 114 (codes "rst") (cell_name k) refl refl)
    (λ j lt. other_cell j k (omega arith) small (λ e. omega arith))

-- Ports beside the cells.

other_beside : (module_name : List ℕ) (file : File) (count : ℕ) (name : List ℕ) → begins 99 name ≡ false → codes "rst" ≢ name → IsNew name (names_of (with_cells module_name file count))
other_beside module_name file count name other rst =
    beside_cells module_name file count name (other_letter 99 (codes "clk") name refl other) rst (λ j lt. other_letter 99 (cell_name j) name refl other)

rst_no_short : (letter k last : ℕ) → codes "rst" ≢ short letter k last
rst_no_short letter k last e = cc

pub reads_beside_cells : (module_name : List ℕ) (file : File) (count k : ℕ) → k < 4 → Each (λ name. IsNew name (names_of (with_cells module_name file count))) (read_names k)
reads_beside_cells module_name file count k lt = (
  other_beside module_name file count (read_index_name k) refl (subst (λ name. codes "rst" ≢ name) (sym (short_is 114 k 120 (omega arith))) (rst_no_short 114 k 120)),
  (other_beside module_name file count (read_value_name k) refl (subst (λ name. codes "rst" ≢ name) (sym (short_is 114 k 121 (omega arith))) (rst_no_short 114 k 121)), tt),
)

pub writes_beside_cells : (module_name : List ℕ) (file : File) (count k : ℕ) → Each (λ name. IsNew name (names_of (with_cells module_name file count))) (write_names k)
writes_beside_cells module_name file count k = (
  other_beside module_name file count (write_enable_name k) refl (other_letter 114 (codes "rst") (write_enable_name k) refl refl),
  (
    other_beside module_name file count (write_index_name k) refl (other_letter 114 (codes "rst") (write_index_name k) refl refl),
    (other_beside module_name file count (write_value_name k) refl (other_letter 114 (codes "rst") (write_value_name k) refl refl), tt),
  ),
)

-- Ports beside earlier ones.

reads_differ : (j k : ℕ) → j < k → k < 4 → Each (λ name. Each (λ other. other ≢ name) (read_names j)) (read_names k)
reads_differ j k lt few =
    let ne : j ≡ k → ⊥ = λ (e : j ≡ k). omega arith in
    let at_j = λ (last : ℕ). short_is 114 j last (omega arith) in
    let at_k = λ (last : ℕ). short_is 114 k last (omega arith) in
    let apart : (last other : ℕ) → 114 ∷ decimal j ++ 95 ∷ last ∷ [] ≢ 114 ∷ decimal k ++ 95 ∷ other ∷ [] =
    (λ (last other : ℕ) (e : 114 ∷ decimal j ++ 95 ∷ last ∷ [] ≡ 114 ∷ decimal k ++ 95 ∷ other ∷ []). other_number 114 last other j k ne (sym (at_j last) ∙ e ∙ at_k other)) in
    ((apart 120 120, (apart 121 120, tt)), ((apart 120 121, (apart 121 121, tt)), tt))

pub reads_beside_reads : (k : ℕ) → k < 4 → Each (λ name. IsNew name (names_below read_names k)) (read_names k)
reads_beside_reads k few = (
  each_made (λ other. other ≢ read_index_name k) read_names 0 k (λ j low high. (reads_differ j k (omega arith) few).0),
  (each_made (λ other. other ≢ read_value_name k) read_names 0 k (λ j low high. (reads_differ j k (omega arith) few).1.0), tt),
)

writes_differ : (j k : ℕ) → j < k → k < 2 → Each (λ name. Each (λ other. other ≢ name) (write_names j)) (write_names k)
writes_differ j k lt few =
    let ne : j ≡ k → ⊥ = λ (e : j ≡ k). omega arith in
    let at_j = λ (last : ℕ). short_is 119 j last (omega arith) in
    let at_k = λ (last : ℕ). short_is 119 k last (omega arith) in
    let apart : (last other : ℕ) → 119 ∷ decimal j ++ 95 ∷ last ∷ [] ≢ 119 ∷ decimal k ++ 95 ∷ other ∷ [] =
    (λ (last other : ℕ) (e : 119 ∷ decimal j ++ 95 ∷ last ∷ [] ≡ 119 ∷ decimal k ++ 95 ∷ other ∷ []). other_number 119 last other j k ne (sym (at_j last) ∙ e ∙ at_k other)) in
    ((apart 101 101, (apart 120 101, (apart 118 101, tt))), ((apart 101 120, (apart 120 120, (apart 118 120, tt))), ((apart 101 118, (apart 120 118, (apart 118 118, tt))), tt)))

pub writes_beside_writes : (k : ℕ) → k < 2 → Each (λ name. IsNew name (names_below write_names k)) (write_names k)
writes_beside_writes k few = (
  each_made (λ other. other ≢ write_enable_name k) write_names 0 k (λ j low high. (writes_differ j k (omega arith) few).0),
  (
    each_made (λ other. other ≢ write_index_name k) write_names 0 k (λ j low high. (writes_differ j k (omega arith) few).1.0),
    (each_made (λ other. other ≢ write_value_name k) write_names 0 k (λ j low high. (writes_differ j k (omega arith) few).1.1.0), tt),
  ),
)

-- Write ports beside read ports.

pub writes_beside_reads : (count k : ℕ) → Each (λ name. IsNew name (names_below read_names count)) (write_names k)
writes_beside_reads count k = (
  each_made (λ other. other ≢ write_enable_name k) read_names 0 count (λ j low high. (other_letter 114 (read_index_name j) (write_enable_name k) refl refl, (other_letter 114 (read_value_name j) (write_enable_name k) refl refl, tt))),
  (
    each_made (λ other. other ≢ write_index_name k) read_names 0 count (λ j low high. (other_letter 114 (read_index_name j) (write_index_name k) refl refl, (other_letter 114 (read_value_name j) (write_index_name k) refl refl, tt))),
    (each_made (λ other. other ≢ write_value_name k) read_names 0 count (λ j low high. (other_letter 114 (read_index_name j) (write_value_name k) refl refl, (other_letter 114 (read_value_name j) (write_value_name k) refl refl, tt))), tt),
  ),
)

-- The names of one port beside each other.

pub index_beside_value : (k : ℕ) → k < 4 → read_index_name k ≢ read_value_name k
index_beside_value k few e = other_last 114 120 121 k k (λ same. absurd (omega arith)) (sym (short_is 114 k 120 (omega arith)) ∙ e ∙ short_is 114 k 121 (omega arith))

ends_apart : (k last other : ℕ) → k < 2 → (last ≡ other → ⊥) → 119 ∷ decimal k ++ 95 ∷ last ∷ [] ≢ 119 ∷ decimal k ++ 95 ∷ other ∷ []
ends_apart k last other few ne e = other_last 119 last other k k ne (sym (short_is 119 k last (omega arith)) ∙ e ∙ short_is 119 k other (omega arith))

-- enable, index and value of a write port
pub write_names_apart : (k : ℕ) → k < 2 → (write_enable_name k ≢ write_index_name k) × (write_enable_name k ≢ write_value_name k) × (write_index_name k ≢ write_value_name k)
write_names_apart k few = (ends_apart k 101 120 few (λ e. absurd (omega arith)), ends_apart k 101 118 few (λ e. absurd (omega arith)), ends_apart k 120 118 few (λ e. absurd (omega arith)))

-- fresh wires can be had beside cells
pub cells_fresh : (module_name : List ℕ) (file : File) (count : ℕ) → CanFresh (with_cells module_name file count)
cells_fresh module_name file count = record {
  free = λ k low high. beside_cells module_name file count (numbered k) (other_letter 99 (codes "clk") (numbered k) refl refl) (other_letter 114 (codes "rst") (numbered k) refl refl) (λ j lt. other_letter 99 (cell_name j) (numbered k) refl refl);
}
