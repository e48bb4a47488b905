-- There are as many labels as spots, so a bench's rows are short enough; none is written before the first cycle.
use Rattle.std.proofs.Common.{◌≡◌, ℕ, suc, ◌+◌, ◌≤◌, List, [], ◌∷◌, length, map, false, refl, ap, subst, ◌∙◌, arith}
use Rattle.std.specs.Prelude.{slice_index, ◌==◌, if◌then◌else◌}
use Rattle.std.proofs.lemmas.List.{length-append, length-map}
use Rattle.ap_image.specs.declared.row.Write.{Write}
use Rattle.ap_image.specs.declared.shape.MemShape.{MemShape}
use Rattle.ap_image.specs.RowTexts.{row_text}
use Rattle.ap_net.specs.Outside.{Group, Outside}
use Rattle.ap_net.specs.Answering.{first_mem_port}
use Rattle.ap_flat.specs.Flats.{FlatParts}
use Rattle.ap_eval.specs.declared.spot.Spot.{Spot}
use Rattle.ap_eval.specs.Benches.{BenchState, empty_row, group_label, labels_by, limit_by, row_limit_of}
use Rattle.ap_eval.specs.BenchViews.{IsShowing, bench_state}
use Rattle.ap_eval.specs.Cells.{Cells}
use Rattle.ap_eval.specs.Spots.{group_size, group_spots, index_at, mem_spots, row_by, spots_of, stall_port, writes_by}

group_spots-length : (port : ℕ) (groups : List Group) → length (group_spots port groups) ≡ length groups
group_spots-length port [] = refl
group_spots-length port (g ∷ groups) = ap suc (group_spots-length (port + group_size g.port) groups)

mem_spots-length : (port : ℕ) (mems : List MemShape) → length (mem_spots port mems) ≡ length mems
mem_spots-length port [] = refl
mem_spots-length port (m ∷ mems) = ap suc (mem_spots-length (port + 5) mems)

-- one spot and one label for each group and memory
pub spots_labelled : (o : Outside) → length (spots_of o) ≡ length (labels_by o)
spots_labelled o =
    let a : length (spots_of o) ≡ length (group_spots (stall_port o + 2) o.groups) + length (mem_spots (first_mem_port o) o.mems) = length-append (group_spots (stall_port o + 2) o.groups) (mem_spots (first_mem_port o) o.mems) in
    let b : length (group_spots (stall_port o + 2) o.groups) ≡ length o.groups = group_spots-length (stall_port o + 2) o.groups in
    let d : length (mem_spots (first_mem_port o) o.mems) ≡ length o.mems = mem_spots-length (first_mem_port o) o.mems in
    let gs : List (List ℕ) = map (λ (g : Group). group_label g.storage g.port) o.groups in
    let ms : List (List ℕ) = map (λ (m : MemShape). m.name) o.mems in
    let e : length (labels_by o) ≡ length gs + length ms = length-append gs ms in
    let g : length gs ≡ length o.groups = length-map o.groups (λ (g : Group). group_label g.storage g.port) in
    let h : length ms ≡ length o.mems = length-map o.mems (λ (m : MemShape). m.name) in
    omega arith

-- no row that a bench shows is longer than its limit
pub rows_within : (f : FlatParts) (values : List ℕ) (memories : List Cells) (shown : List ℕ) (spots : List Spot) (labels : List (List ℕ)) → IsShowing f shown spots labels
    → ((stall cycle : ℕ) → length spots ≤ length labels → cycle ≤ 1000000 → length (row_text labels cycle (row_by shown stall spots)) ≤ limit_by labels)
    → (bench : BenchState) → bench_state f values memories shown spots ≡ bench → (cycle : ℕ) → cycle ≤ 1000000 → length (row_text (labels_by bench.flat.outside) cycle bench.row) ≤ row_limit_of bench.flat.outside
rows_within f values memories shown spots labels showing short bench same cycle low =
    let a : length spots ≡ length (spots_of f.outside) = ap length showing.spots_are in
    let b : length labels ≡ length (labels_by f.outside) = ap length showing.labels_are in
    let c : length (spots_of f.outside) ≡ length (labels_by f.outside) = spots_labelled f.outside in
    subst (λ (s : BenchState). length (row_text (labels_by s.flat.outside) cycle s.row) ≤ row_limit_of s.flat.outside) same
    (subst (λ (l : List (List ℕ)). length (row_text l cycle (row_by shown (stall_port f.outside) spots)) ≤ limit_by l) showing.labels_are
    (short (stall_port f.outside) cycle (omega arith) low))

none_written : (shown : List ℕ) → ((n : ℕ) → slice_index shown n ≡ 0) → (n : ℕ) (spots : List Spot) → writes_by shown n spots ≡ []
none_written shown zeros n [] = refl
none_written shown zeros n (s ∷ spots) =
    ap (λ (x : ℕ). if x == 1 then (let w : Write = record { group = n; index = index_at shown s.index; value = slice_index shown s.value } in w) ∷ writes_by shown (n + 1) spots else writes_by shown (n + 1) spots) (zeros s.enable)
    ∙ none_written shown zeros (n + 1) spots

-- ports that all have 0 show the row of no cycle
pub nothing_row : (shown : List ℕ) → ((n : ℕ) → slice_index shown n ≡ 0) → (stall : ℕ) (spots : List Spot) → row_by shown stall spots ≡ empty_row
nothing_row shown zeros stall spots =
    let s : (slice_index shown stall == 1) ≡ false = ap (λ (x : ℕ). x == 1) (zeros stall) in
    let k : (slice_index shown (stall + 1) == 1) ≡ false = ap (λ (x : ℕ). x == 1) (zeros (stall + 1)) in
    let w = none_written shown zeros 0 spots in
    λ i. record { stall = s i; kill = k i; writes = w i }
