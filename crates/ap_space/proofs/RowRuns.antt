-- The writes of all rows, storage by storage, are those of the whole log.
use Rattle.std.proofs.Common.{◌≡◌, ℕ, zero, suc, ◌+◌, ◌-◌, if◌then◌else◌, cond, Bool, true, false, List, [], ◌∷◌, ◌++◌, filter, filter_map, flat_map, length, map, Some, None, refl, sym, ap, ◌∙◌, arith, append-nil}
use Rattle.std.proofs.lemmas.List.{map-append}
use Rattle.std.proofs.lemmas.List.Elements.{filter_map-append}
use Rattle.std.specs.List.{cons_option, range_with_len}
use Rattle.ap_bits.specs.declared.card.Card.{Card}
use Rattle.ap_desc.specs.Clean.{IsClean}
use Rattle.ap_desc.specs.declared.design.Design.{Design}
use Rattle.ap_image.specs.declared.image.Image.{Image}
use Rattle.ap_image.specs.declared.row.Row.{Row}
use Rattle.ap_image.specs.declared.trace.Trace.{Trace}
use Rattle.ap_model.proofs.ListLemmas.{flat_map_both}
use Rattle.ap_model.specs.declared.state.Entry.{Entry}
use Rattle.ap_model.specs.declared.storage.PortWrite.{PortWrite}
use Rattle.ap_model.specs.declared.storage.Storage.{Storage}
use Rattle.ap_model.specs.Cycles.{after_control, control_of, cycle, cycle_entries, flight_entries, from_last, inputs_at, over}
use Rattle.ap_model.specs.Ports.{row_ports}
use Rattle.ap_model.specs.ShownRows.{control_row, cycle_row, group_writes, row, rows_of}
use Rattle.ap_model.specs.States.{start}
use Rattle.ap_model.specs.WritesOf.{goes_to, log_writes, row_write, rows_writes, seen_of, writes_of}
use Rattle.ap_space.proofs.Flights.{count_after, count_at_start}
use Rattle.ap_space.proofs.Parts.{range_more}
use Rattle.ap_space.proofs.Rows.{row_has}

-- what a storage sees of writes
seen_writes : (place : Storage) (ws : List PortWrite) → writes_of place ws ≡ map (seen_of place) (filter (λ (w : PortWrite). goes_to place w.port w.at) ws)
unfolding writes_of
seen_writes place [] = refl
seen_writes place (w ∷ ws) = by_test (goes_to place w.port w.at) (seen_writes place ws)
  where
    by_test : (b : Bool) → filter_map (λ (v : PortWrite). if goes_to place v.port v.at then Some (seen_of place v) else None) ws ≡ map (seen_of place) (filter (λ (v : PortWrite). goes_to place v.port v.at) ws)
        → cons_option (if b then Some (seen_of place w) else None) (filter_map (λ (v : PortWrite). if goes_to place v.port v.at then Some (seen_of place v) else None) ws)
        ≡ map (seen_of place) (cond b (w ∷ filter (λ (v : PortWrite). goes_to place v.port v.at) ws) (filter (λ (v : PortWrite). goes_to place v.port v.at) ws))
    by_test true rest = ap (λ vs. seen_of place w ∷ vs) rest
    by_test false rest = rest

seen_both : (place : Storage) (xs ys : List PortWrite) → writes_of place (xs ++ ys) ≡ writes_of place xs ++ writes_of place ys
unfolding writes_of
seen_both place xs ys = filter_map-append (λ (v : PortWrite). if goes_to place v.port v.at then Some (seen_of place v) else None) xs ys

module _ (design : Design) (cards : List Card) (image : Image) (trace : Trace) (clean : IsClean design) (place : Storage) where
  count : (j : ℕ) → length (over design cards image trace j).flights ≡ design.stages - 1
  unfolding over cycle
  count zero = count_at_start design image
  count (suc j) =
      let state = over design cards image trace j in
      let inputs = inputs_at design trace j in
      count_after design cards inputs state (control_of design cards inputs state) image (count j)

  abbrev entries : ℕ → List Entry
  entries j = from_last (flight_entries design cards (inputs_at design trace j) (over design cards image trace j) (control_of design cards (inputs_at design trace j) (over design cards image trace j))) 1 (over design cards image trace j).flights

  row_writes_are : (j : ℕ) → (row design cards image trace j).writes ≡ group_writes 0 (row_ports design) (map (λ (e : Entry). e.write) (entries j))
  unfolding row cycle_row control_row cycle_entries
  row_writes_are j = refl

  log_is : (j : ℕ) → (over design cards image trace (suc j)).log ≡ (over design cards image trace j).log ++ entries j
  unfolding over cycle after_control cycle_entries
  log_is j = refl

  one_row : (j : ℕ) → writes_of place (filter_map (row_write design) (row design cards image trace j).writes) ≡ writes_of place (log_writes (entries j))
  one_row j =
      let state = over design cards image trace j in
      let inputs = inputs_at design trace j in
      ap (λ ws. writes_of place (filter_map (row_write design) ws)) (row_writes_are j)
      ∙ seen_writes place (filter_map (row_write design) (group_writes 0 (row_ports design) (map (λ (e : Entry). e.write) (entries j))))
      ∙ ap (map (seen_of place)) (row_has design cards inputs state (control_of design cards inputs state) clean (count j) place)
      ∙ sym (seen_writes place (log_writes (entries j)))

  more_rows : (c : ℕ) → rows_of design cards image trace (suc c) ≡ rows_of design cards image trace c ++ row design cards image trace c ∷ []
  unfolding rows_of
  more_rows c =
      let more : suc c ≡ c + 1 = omega arith in
      let last : 0 + c ≡ c = omega arith in
      ap (λ n. map (row design cards image trace) (range_with_len 0 n)) more
      ∙ ap (map (row design cards image trace)) (range_more 0 c ∙ ap (λ k. range_with_len 0 c ++ k ∷ []) last)
      ∙ map-append (row design cards image trace) (range_with_len 0 c) (c ∷ [])

  no_rows : rows_of design cards image trace 0 ≡ []
  unfolding rows_of
  no_rows = refl

  no_log : (over design cards image trace 0).log ≡ []
  unfolding over start
  no_log = refl

  pub rows_have : (c : ℕ) → writes_of place (rows_writes design (rows_of design cards image trace c)) ≡ writes_of place (log_writes (over design cards image trace c).log)
  rows_have zero = ap (λ rs. writes_of place (rows_writes design rs)) no_rows ∙ ap (λ l. writes_of place (log_writes l)) (sym no_log)
  rows_have (suc c) =
      let rows = rows_of design cards image trace c in
      let last = row design cards image trace c in
      let log = (over design cards image trace c).log in
      ap (λ rs. writes_of place (rows_writes design rs)) (more_rows c)
      ∙ ap (λ ws. writes_of place (filter_map (row_write design) ws)) (flat_map_both (λ (r : Row). r.writes) rows (last ∷ []))
      ∙ ap (writes_of place) (filter_map-append (row_write design) (flat_map (λ (r : Row). r.writes) rows) (last.writes ++ []))
      ∙ seen_both place (rows_writes design rows) (filter_map (row_write design) (last.writes ++ []))
      ∙ (λ i. rows_have c i ++ (ap (λ ws. writes_of place (filter_map (row_write design) ws)) (append-nil last.writes) ∙ one_row c) i)
      ∙ sym (seen_both place (log_writes log) (log_writes (entries c)))
      ∙ ap (writes_of place) (sym (map-append (λ (e : Entry). e.write) log (entries c)))
      ∙ ap (λ l. writes_of place (log_writes l)) (sym (log_is c))
