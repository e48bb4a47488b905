-- The nets of a register file's instance, port by port.
use Rattle.std.proofs.Common.{◌≡◌, ℕ, zero, suc, ◌+◌, ◌*◌, ◌<◌, ◌≤◌, ◌==◌, Bool, true, false, if◌then◌else◌, List, [], ◌∷◌, ◌++◌, length, map, flat_map, refl, sym, ap, subst, ◌∙◌, arith, inl, inr, Some}
use Rattle.std.specs.Prelude.{slice_get}
use Rattle.std.specs.List.{AllByRecursion as Each, range_with_len}
use Rattle.std.proofs.lemmas.Bool.{eqb-false, eqb-true}
use Rattle.ap_desc.specs.declared.design.File.{File}
use Rattle.ap_desc.specs.Designs.{index_bits}
use Rattle.ap_net.specs.declared.cell.Wire.{Wire}
use Rattle.ap_net.specs.declared.net.ModuleNet.{ModuleNet}
use Rattle.ap_net.specs.declared.net.Port.{Port}
use Rattle.ap_net.specs.Cells.{IsNet}
use Rattle.ap_net.specs.Pending.{Among}
use Rattle.ap_net.specs.Placing.{fresh_nets, input_widths, merged, output_widths, wires_from}
use Rattle.ap_net.specs.Ready.{needed, numbers}
use Rattle.ap_net.proofs.Lists.{get_right}
use Rattle.ap_ctl.specs.Lists.{EachFrom, EachPair}
use Rattle.ap_store.specs.FilePorts.{file_ports, read_index, read_ports, read_value, write_ports}
use Rattle.ap_bank.specs.declared.files.FileWrite.{FileWrite}
use Rattle.ap_bank.specs.Placed.{AreFileNets, IsFileWrite, IsWide, JoinsFile, JoinsWrite, file_inputs, write_list}

abbrev wire_width : Wire → ℕ
wire_width w = w.width

abbrev is_out : Port → Bool
is_out p = p.output

-- Widths.

reads_wide : (f : File) (nets : List ModuleNet) (n k : ℕ) (reads ws : List Wire) (rest : List Port) → length reads ≡ k → Each (IsWide nets (index_bits f)) reads → map wire_width ws ≡ input_widths rest
    → map wire_width (reads ++ ws) ≡ input_widths (flat_map (read_ports f) (range_with_len n k) ++ rest)
reads_wide f nets n zero [] ws rest e h more = more
reads_wide f nets n zero (x ∷ reads) ws rest e h more = absurd (omega arith)
reads_wide f nets n (suc k) [] ws rest e h more = absurd (omega arith)
reads_wide f nets n (suc k) (x ∷ reads) ws rest e h more =
    ap (λ w. w ∷ map wire_width (reads ++ ws)) h.0.wide ∙ ap (λ l. index_bits f ∷ l) (reads_wide f nets (n + 1) k reads ws rest (omega arith) h.1 more)

writes_wide : (f : File) (nets : List ModuleNet) (n k : ℕ) (writes : List FileWrite) → length writes ≡ k → Each (IsFileWrite f nets) writes → map wire_width (flat_map write_list writes) ≡ input_widths (flat_map (write_ports f) (range_with_len n k))
writes_wide f nets n zero [] e h = refl
writes_wide f nets n zero (x ∷ writes) e h = absurd (omega arith)
writes_wide f nets n (suc k) [] e h = absurd (omega arith)
writes_wide f nets n (suc k) (w ∷ writes) e h =
    let rest : List ℕ = map wire_width (flat_map write_list writes) in
    ap (λ x. x ∷ w.index.width ∷ w.value.width ∷ rest) h.0.enable.bit ∙ ap (λ x. 1 ∷ x ∷ w.value.width ∷ rest) h.0.index.wide ∙ ap (λ x. 1 ∷ index_bits f ∷ x ∷ rest) h.0.value.wide
    ∙ ap (λ l. 1 ∷ index_bits f ∷ f.width ∷ l) (writes_wide f nets (n + 1) k writes (omega arith) h.1)

pub inputs_wide : (f : File) (nets : List ModuleNet) (reads : List Wire) (writes : List FileWrite) → AreFileNets f nets reads writes → map wire_width (file_inputs reads writes) ≡ input_widths (file_ports f)
inputs_wide f nets reads writes h =
    reads_wide f nets 0 f.reads reads (flat_map write_list writes) (flat_map (write_ports f) (range_with_len 0 f.writes)) h.read_count h.indices (writes_wide f nets 0 f.writes writes h.write_count h.written)

-- as many outputs as read ports, each as wide as a cell
abbrev many : ℕ → ℕ → List ℕ
many width zero = []
many width (suc k) = width ∷ many width k

no_outputs : (f : File) (n k : ℕ) → output_widths (flat_map (write_ports f) (range_with_len n k)) ≡ []
no_outputs f n zero = refl
no_outputs f n (suc k) = no_outputs f (n + 1) k

read_outputs : (f : File) (n k : ℕ) (rest : List Port) → output_widths rest ≡ [] → output_widths (flat_map (read_ports f) (range_with_len n k) ++ rest) ≡ many f.width k
read_outputs f n zero rest none = none
read_outputs f n (suc k) rest none = ap (λ l. f.width ∷ l) (read_outputs f (n + 1) k rest none)

pub outputs_wide : (f : File) → output_widths (file_ports f) ≡ many f.width f.reads
outputs_wide f = read_outputs f 0 f.reads (flat_map (write_ports f) (range_with_len 0 f.writes)) (no_outputs f 0 f.writes)

pub wires_long : (n : ℕ) (widths : List ℕ) → length (wires_from n widths) ≡ length widths
wires_long n [] = refl
wires_long n (w ∷ widths) = ap suc (wires_long (n + 1) widths)

many_long : (w k : ℕ) → length (many w k) ≡ k
many_long w zero = refl
many_long w (suc k) = ap suc (many_long w k)

wires_wide : (nets : List ModuleNet) (n w k : ℕ) → Each (IsNet nets) (wires_from n (many w k)) → Each (IsWide nets w) (wires_from n (many w k))
wires_wide nets n w zero h = tt
wires_wide nets n w (suc k) h = (record { net = h.0; wide = refl }, wires_wide nets (n + 1) w k h.1)

pub values_long : (f : File) (n : ℕ) → length (wires_from n (output_widths (file_ports f))) ≡ f.reads
values_long f n = wires_long n (output_widths (file_ports f)) ∙ ap length (outputs_wide f) ∙ many_long f.width f.reads

pub values_wide : (f : File) (nets : List ModuleNet) (n : ℕ) → Each (IsNet nets) (wires_from n (output_widths (file_ports f))) → Each (IsWide nets f.width) (wires_from n (output_widths (file_ports f)))
values_wide f nets n h =
    subst (λ ws. Each (IsWide nets f.width) (wires_from n ws)) (sym (outputs_wide f)) (wires_wide nets n f.width f.reads (subst (λ ws. Each (IsNet nets) (wires_from n ws)) (outputs_wide f) h))

-- Which nets came.

pub among_wires : (low n : ℕ) (widths : List ℕ) → low ≤ n → n < low + length widths → Among (numbers (wires_from low widths)) n
among_wires low n [] le lt = absurd (omega arith)
among_wires low n (w ∷ widths) le lt = go (low == n) refl (λ ne. among_wires (low + 1) n widths (omega arith) (omega arith))
  where
    go : (b : Bool) → (low == n) ≡ b → ((low ≡ n → ⊥) → Among (numbers (wires_from (low + 1) widths)) n) → Among (numbers (wires_from low (w ∷ widths))) n
    go true e rest = inl (eqb-true low n e)
    go false e rest = inr (rest (eqb-false low n e))

pub fresh_long : (count : ℕ) (widths : List ℕ) → length (fresh_nets count widths) ≡ length widths
fresh_long count [] = refl
fresh_long count (w ∷ widths) = ap suc (fresh_long (count + 1) widths)

-- The merged nets.

abbrev paired : List Wire → List Wire → List Wire
paired [] ys = []
paired (x ∷ xs) [] = []
paired (x ∷ xs) (y ∷ ys) = x ∷ y ∷ paired xs ys

merged_reads : (f : File) (n k : ℕ) (reads outs ws : List Wire) (rest : List Port) → length reads ≡ k → length outs ≡ k
    → merged (map is_out (flat_map (read_ports f) (range_with_len n k) ++ rest)) (reads ++ ws) outs ≡ paired reads outs ++ merged (map is_out rest) ws []
merged_reads f n zero [] [] ws rest e l = refl
merged_reads f n zero [] (y ∷ outs) ws rest e l = absurd (omega arith)
merged_reads f n zero (x ∷ reads) outs ws rest e l = absurd (omega arith)
merged_reads f n (suc k) [] outs ws rest e l = absurd (omega arith)
merged_reads f n (suc k) (x ∷ reads) [] ws rest e l = absurd (omega arith)
merged_reads f n (suc k) (x ∷ reads) (y ∷ outs) ws rest e l = ap (λ q. x ∷ y ∷ q) (merged_reads f (n + 1) k reads outs ws rest (omega arith) (omega arith))

merged_writes : (f : File) (n k : ℕ) (writes : List FileWrite) → length writes ≡ k → merged (map is_out (flat_map (write_ports f) (range_with_len n k))) (flat_map write_list writes) [] ≡ flat_map write_list writes
merged_writes f n zero [] e = refl
merged_writes f n zero (w ∷ writes) e = absurd (omega arith)
merged_writes f n (suc k) [] e = absurd (omega arith)
merged_writes f n (suc k) (w ∷ writes) e = ap (λ q. w.enable ∷ w.index ∷ w.value ∷ q) (merged_writes f (n + 1) k writes (omega arith))

-- the nets of the instance in order
abbrev pub file_nets : List Wire → List Wire → List FileWrite → List Wire
file_nets reads values writes = paired reads values ++ flat_map write_list writes

pub merged_file : (f : File) (reads outs : List Wire) (writes : List FileWrite) → length reads ≡ f.reads → length outs ≡ f.reads → length writes ≡ f.writes
    → merged (map is_out (file_ports f)) (file_inputs reads writes) outs ≡ file_nets reads outs writes
merged_file f reads outs writes e l k =
    merged_reads f 0 f.reads reads outs (flat_map write_list writes) (flat_map (write_ports f) (range_with_len 0 f.writes)) e l ∙ ap (λ q. paired reads outs ++ q) (merged_writes f 0 f.writes writes k)

-- By number.

abbrev Behind : List Wire → ℕ → List Wire → Type 0
Behind nets n rest = (i : ℕ) → slice_get nets (n + i) ≡ slice_get rest i

step_two : (nets : List Wire) (n : ℕ) (x y : Wire) (rest : List Wire) → Behind nets (2 * n) (x ∷ y ∷ rest) → Behind nets (2 * (n + 1)) rest
step_two nets n x y rest h i = let e : 2 * (n + 1) + i ≡ 2 * n + suc (suc i) = omega arith in ap (slice_get nets) e ∙ h (suc (suc i))

reads_at : (nets : List Wire) (n : ℕ) (reads outs rest : List Wire) → length outs ≡ length reads → Behind nets (2 * n) (paired reads outs ++ rest) → EachFrom (λ number w. slice_get nets (read_index number) ≡ Some w) n reads
reads_at nets n [] outs rest e h = tt
reads_at nets n (x ∷ reads) [] rest e h = absurd (omega arith)
reads_at nets n (x ∷ reads) (y ∷ outs) rest e h = (
  (let here : 2 * n ≡ 2 * n + 0 = omega arith in ap (slice_get nets) here ∙ h 0),
  reads_at nets (n + 1) reads outs rest (omega arith) (step_two nets n x y (paired reads outs ++ rest) h),
)

values_at : (nets : List Wire) (n : ℕ) (reads outs rest : List Wire) → length outs ≡ length reads → Behind nets (2 * n) (paired reads outs ++ rest) → EachFrom (λ number w. slice_get nets (read_value number) ≡ Some w) n outs
values_at nets n [] [] rest e h = tt
values_at nets n [] (y ∷ outs) rest e h = absurd (omega arith)
values_at nets n (x ∷ reads) [] rest e h = absurd (omega arith)
values_at nets n (x ∷ reads) (y ∷ outs) rest e h = (h 1, values_at nets (n + 1) reads outs rest (omega arith) (step_two nets n x y (paired reads outs ++ rest) h))

writes_at : (f : File) (nets : List Wire) (n : ℕ) (writes : List FileWrite) → Behind nets (2 * f.reads + 3 * n) (flat_map write_list writes) → EachFrom (JoinsWrite f nets) n writes
writes_at f nets n [] h = tt
writes_at f nets n (w ∷ writes) h = (
  (let here : 2 * f.reads + 3 * n ≡ 2 * f.reads + 3 * n + 0 = omega arith in record { enable = ap (slice_get nets) here ∙ h 0; index = h 1; value = h 2 }),
  writes_at f nets (n + 1) writes (λ i. let e : 2 * f.reads + 3 * (n + 1) + i ≡ 2 * f.reads + 3 * n + suc (suc (suc i)) = omega arith in ap (slice_get nets) e ∙ h (suc (suc (suc i)))),
)

paired_long : (reads outs : List Wire) → length outs ≡ length reads → length (paired reads outs) ≡ 2 * length reads
paired_long [] outs e = omega arith
paired_long (x ∷ reads) [] e = absurd (omega arith)
paired_long (x ∷ reads) (y ∷ outs) e = let h = paired_long reads outs (omega arith) in omega arith

pub joins_file : (f : File) (nets reads outs : List Wire) (writes : List FileWrite) → length reads ≡ f.reads → length outs ≡ f.reads → nets ≡ file_nets reads outs writes → JoinsFile f nets reads outs writes
joins_file f nets reads outs writes e l is =
    let long : length outs ≡ length reads = l ∙ sym e in
    let all : Behind nets (2 * 0) (file_nets reads outs writes) = λ i. let z : 2 * 0 + i ≡ i = omega arith in ap (slice_get nets) z ∙ ap (λ (q : List Wire). slice_get q i) is in
    let p = paired_long reads outs long in
    let behind : Behind nets (2 * f.reads + 3 * 0) (flat_map write_list writes) = λ i.
    let z : 2 * f.reads + 3 * 0 + i ≡ length (paired reads outs) + i = omega arith in
    ap (slice_get nets) z ∙ ap (λ (q : List Wire). slice_get q (length (paired reads outs) + i)) is ∙ get_right (paired reads outs) (flat_map write_list writes) i in
    record { indices = reads_at nets 0 reads outs (flat_map write_list writes) long all; shown = values_at nets 0 reads outs (flat_map write_list writes) long all; written = writes_at f nets 0 writes behind }

-- What an output needs.

needs_none : (needs : ℕ → Bool) (drives : List Bool) (nets : List Wire) → ((q : ℕ) → needs q ≡ false) → needed needs drives nets ≡ []
needs_none needs [] nets h = refl
needs_none needs (d ∷ drives) [] h = refl
needs_none needs (true ∷ drives) (w ∷ nets) h = needs_none (λ q. needs (suc q)) drives nets (λ q. h (suc q))
needs_none needs (false ∷ drives) (w ∷ nets) h =
    ap (λ b. if b then w.number ∷ needed (λ q. needs (suc q)) drives nets else needed (λ q. needs (suc q)) drives nets) (h 0) ∙ needs_none (λ q. needs (suc q)) drives nets (λ q. h (suc q))

same_test : (a b c d : ℕ) → (a ≡ b → c ≡ d) → (c ≡ d → a ≡ b) → (a == b) ≡ (c == d)
same_test a b c d f g = go (a == b) (c == d) refl refl
  where
    go : (x y : Bool) → (a == b) ≡ x → (c == d) ≡ y → (a == b) ≡ (c == d)
    go true true p q = p ∙ sym q
    go false false p q = p ∙ sym q
    go true false p q = absurd (eqb-false c d q (f (eqb-true a b p)))
    go false true p q = absurd (eqb-false a b p (g (eqb-true c d q)))

is_not : (a b : ℕ) → (a ≡ b → ⊥) → (a == b) ≡ false
is_not a b ne = go (a == b) refl
  where
    go : (x : Bool) → (a == b) ≡ x → (a == b) ≡ false
    go true p = absurd (ne (eqb-true a b p))
    go false p = p

-- a read port needs its index alone
pub needs_index : (f : File) (needs : ℕ → Bool) (a k n : ℕ) (rest : List Port) (reads outs ws : List Wire) (x : Wire) → length reads ≡ k → length outs ≡ k → ((q : ℕ) → needs q ≡ (2 * n + 1 == q + 1)) → slice_get reads n ≡ Some x
    → needed needs (map is_out (flat_map (read_ports f) (range_with_len a k) ++ rest)) (paired reads outs ++ ws) ≡ x.number ∷ []
needs_index f needs a k n rest [] outs ws x e l h at = cc
needs_index f needs a zero n rest (z ∷ reads) outs ws x e l h at = absurd (omega arith)
needs_index f needs a (suc k) n rest (z ∷ reads) [] ws x e l h at = absurd (omega arith)
needs_index f needs a (suc k) zero rest (z ∷ reads) (y ∷ outs) ws x e l h at =
    let drives : List Bool = map is_out (flat_map (read_ports f) (range_with_len (a + 1) k) ++ rest) in
    let nets : List Wire = paired reads outs ++ ws in
    let same : z ≡ x = cc in
    let none = needs_none (λ q. needs (suc (suc q))) drives nets (λ q. h (suc (suc q)) ∙ is_not (2 * 0 + 1) (suc (suc q) + 1) (λ c. absurd (omega arith))) in
    ap (λ b. if b then z.number ∷ needed (λ q. needs (suc (suc q))) drives nets else needed (λ q. needs (suc (suc q))) drives nets) (h 0) ∙ ap (λ q. z.number ∷ q) none ∙ ap (λ (w : Wire). w.number ∷ []) same
needs_index f needs a (suc k) (suc n) rest (z ∷ reads) (y ∷ outs) ws x e l h at =
    let drives : List Bool = map is_out (flat_map (read_ports f) (range_with_len (a + 1) k) ++ rest) in
    let nets : List Wire = paired reads outs ++ ws in
    ap (λ b. if b then z.number ∷ needed (λ q. needs (suc (suc q))) drives nets else needed (λ q. needs (suc (suc q))) drives nets) (h 0 ∙ is_not (2 * suc n + 1) (0 + 1) (λ c. absurd (omega arith)))
    ∙ needs_index f (λ q. needs (suc (suc q))) (a + 1) k n rest reads outs ws x (omega arith) (omega arith)
    (λ q. h (suc (suc q)) ∙ same_test (2 * suc n + 1) (suc (suc q) + 1) (2 * n + 1) (q + 1) (λ p. omega arith) (λ p. omega arith)) at

-- and is an output
pub is_output_at : (f : File) (a k n : ℕ) (rest : List Port) → n < k → slice_get (map is_out (flat_map (read_ports f) (range_with_len a k) ++ rest)) (2 * n + 1) ≡ Some true
is_output_at f a zero n rest lt = absurd (omega arith)
is_output_at f a (suc k) zero rest lt = refl
is_output_at f a (suc k) (suc n) rest lt =
    let e : 2 * suc n + 1 ≡ suc (suc (2 * n + 1)) = omega arith in
    ap (slice_get (map is_out (flat_map (read_ports f) (range_with_len a (suc k)) ++ rest))) e ∙ is_output_at f (a + 1) k n rest (omega arith)

pub from_at : {X : Type 0} (P : ℕ → X → Type 0) (first : ℕ) (xs : List X) → EachFrom P first xs → (i : ℕ) (x : X) → slice_get xs i ≡ Some x → P (first + i) x
from_at P first [] h i x at = cc
from_at P first (y ∷ xs) h zero x at = let here : first ≡ first + 0 = omega arith in let same : y ≡ x = cc in subst (λ n. P n x) here (subst (P first) same h.0)
from_at P first (y ∷ xs) h (suc i) x at = let next : first + 1 + i ≡ first + suc i = omega arith in subst (λ n. P n x) next (from_at P (first + 1) xs h.1 i x at)

pub pairs_from : (P : Wire → Wire → Type 0) (xs ys : List Wire) → length xs ≡ length ys → ((i : ℕ) (x y : Wire) → slice_get xs i ≡ Some x → slice_get ys i ≡ Some y → P x y) → EachPair P xs ys
pairs_from P [] [] e h = tt
pairs_from P [] (y ∷ ys) e h = absurd (omega arith)
pairs_from P (x ∷ xs) [] e h = absurd (omega arith)
pairs_from P (x ∷ xs) (y ∷ ys) e h = (h 0 x y refl refl, pairs_from P xs ys (omega arith) (λ i. h (suc i)))

-- all nets at the inputs are there
pub inputs_there : (f : File) (nets : List ModuleNet) (reads : List Wire) (writes : List FileWrite) → Each (IsWide nets (index_bits f)) reads → Each (IsFileWrite f nets) writes → Each (IsNet nets) (file_inputs reads writes)
inputs_there f nets [] [] h g = tt
inputs_there f nets [] (w ∷ writes) h g = (g.0.enable.net, (g.0.index.net, (g.0.value.net, inputs_there f nets [] writes h g.1)))
inputs_there f nets (x ∷ reads) writes h g = (h.0.net, inputs_there f nets reads writes h.1 g)
