-- What a stage writes, port by port.
use Rattle.std.proofs.Common.{◌≡◌, ℕ, suc, ◌≤◌, ◌==◌, ◌&&◌, ◌||◌, Bool, true, false, if◌then◌else◌, List, [], ◌∷◌, ◌++◌, length, filter, filter_map, flat_map, find, Option, Some, None, option_to_list, refl, ap, sym, ◌∙◌, arith, append-nil, option_and_then, slice_get}
use Rattle.std.specs.List.{AllByRecursion as Each, cons_option, list_any, range_with_len}
use Rattle.std.specs.Option.{option_map_or}
use Rattle.ap_bits.specs.declared.card.Card.{Card}
use Rattle.ap_desc.specs.declared.design.Design.{Design}
use Rattle.ap_desc.specs.declared.design.Instr.{Instr}
use Rattle.ap_desc.specs.declared.design.Micro.{Micro}
use Rattle.ap_desc.specs.declared.design.Arg.{Arg}
use Rattle.ap_desc.specs.declared.design.Act.{Act}
use Rattle.ap_desc.specs.declared.design.Act.TheVariants as act
use Rattle.ap_model.specs.declared.storage.PortWrite.{PortWrite}
use Rattle.ap_model.specs.declared.storage.Storages.{Storages}
use Rattle.ap_model.specs.declared.storage.WritePort.{WritePort}
use Rattle.ap_model.specs.declared.storage.WritePort.TheVariants as port
use Rattle.ap_model.specs.Fire.{fire, instr_effect, instr_of, is_match, lines_in, ordered, where_guard, write_of}
use Rattle.ap_model.specs.Ports.{file_ports, is_same_port, is_used_in, mem_ports, port_of, reg_ports, write_ports, writes_through}
use Rattle.ap_model.specs.PortForms.{ShowsWrites, WritesByLine, Writing, line_write, stage_value, stage_writes, write_through, writes_once}
use Rattle.ap_model.proofs.ListLemmas.{each_both, each_flat_map, each_in_range, each_of_map, filter_finer, filter_flat_map, filter_swap, flat_map_filter, flat_map_none, flat_map_same, flat_map_same_on, found_keeps, no_longer, none_in_each, none_pass_both, nothing_left}
use Rattle.ap_model.proofs.PortRows.{files_are_ports}
use Rattle.ap_model.proofs.PortsOnce.{IsPort, mem_is_port, reg_is_port, same_port}
use Rattle.ap_model.proofs.WritesApart.{WritesApart}

-- a list of which one at most passes a test: the first that does is all that do
first_is_all : {X : Type 0} (t : X → Bool) (xs : List X) → length (filter t xs) ≤ 1 → option_to_list (find t xs) ≡ filter t xs
first_is_all t [] h = refl
first_is_all {X = X} t (x ∷ xs) h = go (t x) h (first_is_all t xs)
  where
    none : (ys : List X) → suc (length ys) ≤ 1 → x ∷ [] ≡ x ∷ ys
    none [] h = refl
    none (y ∷ ys) h = let never : ⊥ = omega (arith, h) in absurd never

    go : (b : Bool) → length (if b then x ∷ filter t xs else filter t xs) ≤ 1 → (length (filter t xs) ≤ 1 → option_to_list (find t xs) ≡ filter t xs) → option_to_list (if b then Some x else find t xs) ≡ (if b then x ∷ filter t xs else filter t xs)
    go true h rest = none (filter t xs) h
    go false h rest = rest h

-- The order of a stage's writes.

only_same : (p q : WritePort) (writes : List PortWrite)
    → filter (λ (w : PortWrite). is_same_port q w.port) (filter (λ (w : PortWrite). is_same_port p w.port) writes) ≡ (if is_same_port q p then filter (λ (w : PortWrite). is_same_port q w.port) writes else [])
only_same p q writes = go (is_same_port q p) refl
  where
    go : (b : Bool) → is_same_port q p ≡ b → filter (λ (w : PortWrite). is_same_port q w.port) (filter (λ (w : PortWrite). is_same_port p w.port) writes) ≡ (if b then filter (λ (w : PortWrite). is_same_port q w.port) writes else [])
    go true e = ap (λ r. filter (λ (w : PortWrite). is_same_port q w.port) (filter (λ (w : PortWrite). is_same_port r w.port) writes)) (sym (same_port q p e)) ∙ sym (filter_finer (λ (w : PortWrite). is_same_port q w.port) (λ (w : PortWrite). is_same_port q w.port) (λ w f. f) writes)
    go false e = none_pass_both (λ (w : PortWrite). is_same_port q w.port) (λ (w : PortWrite). is_same_port p w.port)
        (λ w a b. let same : w.port ≡ p = sym (same_port p w.port b) in let never : true ≡ false = sym a ∙ ap (is_same_port q) same ∙ e in cc) writes

kept_in_order : (design : Design) (p : WritePort) (writes : List PortWrite) → IsPort design p → filter (λ (w : PortWrite). is_same_port p w.port) (ordered design writes) ≡ filter (λ (w : PortWrite). is_same_port p w.port) writes
kept_in_order design p writes is_port =
    let through_p = filter (λ (w : PortWrite). is_same_port p w.port) writes in
    filter_flat_map (λ (w : PortWrite). is_same_port p w.port) (λ q. filter (λ (w : PortWrite). is_same_port q w.port) writes) (write_ports design)
    ∙ flat_map_same _ _ (λ q. only_same q p writes) (write_ports design)
    ∙ sym (flat_map_filter (λ q. through_p) (is_same_port p) (write_ports design))
    ∙ ap (flat_map (λ q. through_p)) is_port
    ∙ append-nil through_p

-- What the lines write.

guarded : (value : Arg → ℕ) (guard : Option Arg) (p : WritePort) (at v : ℕ) (w : PortWrite) → where_guard value guard (record { port = p; at = at; value = v }) ≡ Some w → w.port ≡ p
guarded value None p at v w e = let is : record { port = p; at = at; value = v } ≡ w = cc in sym (ap (λ (w : PortWrite). w.port) is)
guarded value (Some g) p at v w e = go (value g == 1) e
  where
    go : (b : Bool) → (if b then Some (record { port = p; at = at; value = v }) else None) ≡ Some w → w.port ≡ p
    go true e = let is : record { port = p; at = at; value = v } ≡ w = cc in sym (ap (λ (w : PortWrite). w.port) is)
    go false e = cc

-- a write has its line's port
port_of_line : (value : Arg → ℕ) (a : Act) (w : PortWrite) → write_of value a ≡ Some w → port_of a ≡ Some w.port
port_of_line value (act.WriteFile file number index v guard) w e = ap Some (sym (guarded value guard (port.Cell file number) (value index) (value v) w e))
port_of_line value (act.WriteReg reg v guard) w e = ap Some (sym (guarded value guard (port.Register reg) 0 (value v) w e))
port_of_line value (act.WriteMem mem at v guard) w e = ap Some (sym (guarded value guard (port.Memory mem) (value at) (value v) w e))
port_of_line value _ w e = cc

-- at most as many writes go through a port as lines write through it
no_more : (value : Arg → ℕ) (p : WritePort) (micros : List Micro) → length (filter (λ (w : PortWrite). is_same_port p w.port) (filter_map (λ (m : Micro). write_of value m.act) micros)) ≤ length (writes_once p micros)
no_more value p [] = omega arith
no_more value p (m ∷ micros) = go (write_of value m.act) refl (no_more value p micros)
  where
    longer : (b : Bool) (n : ℕ) → n ≤ length (writes_once p micros) → n ≤ length (if b then m ∷ writes_once p micros else writes_once p micros)
    longer true n h = omega (arith, h)
    longer false n h = h

    both : (w : PortWrite) (a b : Bool) → a ≡ b → (rest : List PortWrite) → length (filter (λ (w : PortWrite). is_same_port p w.port) rest) ≤ length (writes_once p micros)
        → length (if a then w ∷ filter (λ (w : PortWrite). is_same_port p w.port) rest else filter (λ (w : PortWrite). is_same_port p w.port) rest) ≤ length (if b then m ∷ writes_once p micros else writes_once p micros)
    both w true true e rest h = omega (arith, h)
    both w false false e rest h = h
    both w true false e rest h = cc
    both w false true e rest h = cc

    go : (o : Option PortWrite) → write_of value m.act ≡ o → length (filter (λ (w : PortWrite). is_same_port p w.port) (filter_map (λ (m : Micro). write_of value m.act) micros)) ≤ length (writes_once p micros)
        → length (filter (λ (w : PortWrite). is_same_port p w.port) (cons_option o (filter_map (λ (m : Micro). write_of value m.act) micros))) ≤ length (writes_once p (m ∷ micros))
    go None e h = longer (writes_through p m.act) (length (filter (λ (w : PortWrite). is_same_port p w.port) (filter_map (λ (m : Micro). write_of value m.act) micros))) h
    go (Some w) e h = both w (is_same_port p w.port) (writes_through p m.act) (sym (ap (λ o. option_map_or (is_same_port p) o false) (port_of_line value m.act w e))) (filter_map (λ (m : Micro). write_of value m.act) micros) h

-- of the lines of a stage no more write through a port than of all lines
in_stage : (p : WritePort) (stage : ℕ) (micros : List Micro) → length (writes_once p (filter (λ (m : Micro). m.stage == stage) micros)) ≤ length (writes_once p micros)
in_stage p stage micros =
    let swapped = ap length (filter_swap (λ (m : Micro). writes_through p m.act) (λ (m : Micro). m.stage == stage) micros) in
    let fewer = no_longer (λ (m : Micro). m.stage == stage) (writes_once p micros) in
    omega (arith, swapped, fewer)

-- the lines of a stage don't write through a port that isn't used in it
none_in_stage : (p : WritePort) (stage : ℕ) (micros : List Micro) → list_any (λ (m : Micro). (m.stage == stage) && writes_through p m.act) micros ≡ false → writes_once p (filter (λ (m : Micro). m.stage == stage) micros) ≡ []
none_in_stage p stage [] e = refl
none_in_stage p stage (m ∷ micros) e = go (m.stage == stage) (writes_through p m.act) refl e (none_in_stage p stage micros)
  where
    go : (a b : Bool) → writes_through p m.act ≡ b → ((a && b) || list_any (λ (m : Micro). (m.stage == stage) && writes_through p m.act) micros) ≡ false
        → (list_any (λ (m : Micro). (m.stage == stage) && writes_through p m.act) micros ≡ false → writes_once p (filter (λ (m : Micro). m.stage == stage) micros) ≡ [])
        → writes_once p (if a then m ∷ filter (λ (m : Micro). m.stage == stage) micros else filter (λ (m : Micro). m.stage == stage) micros) ≡ []
    go true true q e rest = cc
    go true false q e rest = ap (λ c. if c then m ∷ writes_once p (filter (λ (m : Micro). m.stage == stage) micros) else writes_once p (filter (λ (m : Micro). m.stage == stage) micros)) q ∙ rest e
    go false b q e rest = rest e

write_are_ports : (design : Design) → Each (IsPort design) (write_ports design)
unfolding write_ports
write_are_ports design =
    let regs = each_of_map (IsPort design) port.Register (range_with_len 0 (length design.regs)) (each_in_range (λ reg. IsPort design (port.Register reg)) 0 (length design.regs) (λ k low high. reg_is_port design k (omega (arith, high)))) in
    let files = each_flat_map (IsPort design) (file_ports design) (range_with_len 0 (length design.files)) (each_in_range (λ file. Each (IsPort design) (file_ports design file)) 0 (length design.files) (λ k low high. files_are_ports design k (omega (arith, high)))) in
    let mems = each_of_map (IsPort design) port.Memory (range_with_len 0 (length design.mems)) (each_in_range (λ mem. IsPort design (port.Memory mem)) 0 (length design.mems) (λ k low high. mem_is_port design k (omega (arith, high)))) in
    each_both (IsPort design) (reg_ports design ++ flat_map (file_ports design) (range_with_len 0 (length design.files))) (mem_ports design) (each_both (IsPort design) (reg_ports design) (flat_map (file_ports design) (range_with_len 0 (length design.files))) regs files) mems

module _ (design : Design) (writing : Writing) (stage : ℕ) (raw : List PortWrite) (once : (p : WritePort) → length (filter (λ (w : PortWrite). is_same_port p w.port) raw) ≤ 1)
    (unused : (p : WritePort) → is_used_in design stage p ≡ false → filter (λ (w : PortWrite). is_same_port p w.port) raw ≡ []) (shows : ShowsWrites design writing stage (ordered design raw)) where
  one_port : (q : WritePort) → IsPort design q → filter (λ (w : PortWrite). is_same_port q w.port) raw ≡ (if is_used_in design stage q then option_to_list (writing q) else [])
  one_port q is_port = go (is_used_in design stage q) refl
    where
      go : (b : Bool) → is_used_in design stage q ≡ b → filter (λ (w : PortWrite). is_same_port q w.port) raw ≡ (if b then option_to_list (writing q) else [])
      go false e = unused q e
      go true e =
          let kept = kept_in_order design q raw is_port in
          let few = ap length kept in
          let at_most = once q in
          sym kept ∙ sym (first_is_all (λ (w : PortWrite). is_same_port q w.port) (ordered design raw) (omega (arith, few, at_most))) ∙ ap option_to_list (sym (shows q e))

  each_port : (ports : List WritePort) → Each (IsPort design) ports → Each (λ q. filter (λ (w : PortWrite). is_same_port q w.port) raw ≡ (if is_used_in design stage q then option_to_list (writing q) else [])) ports
  each_port [] each = tt
  each_port (q ∷ ports) each = (one_port q each.0, each_port ports each.1)

  by_ports : ordered design raw ≡ stage_writes design writing stage
  by_ports = flat_map_same_on _ _ (write_ports design) (each_port (write_ports design) (write_are_ports design)) ∙ sym (flat_map_filter (λ q. option_to_list (writing q)) (is_used_in design stage) (write_ports design))

nothing_ordered : (design : Design) → [] ≡ ordered design []
nothing_ordered design = sym (flat_map_none (λ p. []) (λ p. refl) (write_ports design))

lines_by_ports : (design : Design) (writing : Writing) (stage word : ℕ) (instr : Instr) (value : Arg → ℕ) → WritesApart design → find (is_match word) design.instrs ≡ Some instr
    → ShowsWrites design writing stage (ordered design (filter_map (λ (m : Micro). write_of value m.act) (lines_in stage instr))) → ordered design (filter_map (λ (m : Micro). write_of value m.act) (lines_in stage instr)) ≡ stage_writes design writing stage
lines_by_ports design writing stage word instr value apart e shows =
    let raw = filter_map (λ (m : Micro). write_of value m.act) (lines_in stage instr) in
    let once : (p : WritePort) → length (writes_once p instr.micros) ≤ 1 = found_keeps (λ (i : Instr). (p : WritePort) → length (writes_once p i.micros) ≤ 1) (is_match word) design.instrs instr e apart.one_line in
    by_ports design writing stage raw
    (λ p. let more = no_more value p (lines_in stage instr) in let fewer = in_stage p stage instr.micros in let one = once p in omega (arith, more, fewer, one))
    (λ p unused.
    let each = none_in_each (λ (m : Micro). (m.stage == stage) && writes_through p m.act) (λ (i : Instr). i.micros) design.instrs unused in
    let here = found_keeps (λ (i : Instr). list_any (λ (m : Micro). (m.stage == stage) && writes_through p m.act) i.micros ≡ false) (is_match word) design.instrs instr e each in
    let none = ap length (none_in_stage p stage instr.micros here) in
    let more = no_more value p (lines_in stage instr) in
    nothing_left (filter (λ (w : PortWrite). is_same_port p w.port) raw) (omega (arith, more, none)))
    shows

-- what a stage writes, port by port
pub writes_by_ports : (design : Design) (cards : List Card) (writing : Writing) (stage place word : ℕ) (locals : List ℕ) (storages : Storages) (input : ℕ → ℕ → ℕ) → WritesApart design
    → ShowsWrites design writing stage (fire design cards stage place word locals storages input).writes → (fire design cards stage place word locals storages input).writes ≡ stage_writes design writing stage
unfolding fire instr_of
writes_by_ports design cards writing stage place word locals storages input apart = go (find (is_match word) design.instrs) refl
  where
    go : (o : Option Instr) → find (is_match word) design.instrs ≡ o → ShowsWrites design writing stage (instr_effect design cards stage place word locals storages input o).writes → (instr_effect design cards stage place word locals storages input o).writes ≡ stage_writes design writing stage
    go None e shows = nothing_ordered design ∙ by_ports design writing stage [] (λ p. omega arith) (λ p f. refl) (λ p used. shows p used ∙ ap (write_through p) (nothing_ordered design))
    go (Some instr) e shows = lines_by_ports design writing stage word instr _ apart e shows

-- What goes through a port, line by line.

find_first : {X : Type 0} (t : X → Bool) (xs : List X) → find t xs ≡ slice_get (filter t xs) 0
find_first t [] = refl
find_first t (x ∷ xs) = go (t x) (find_first t xs)
  where
    go : (b : Bool) → find t xs ≡ slice_get (filter t xs) 0 → (if b then Some x else find t xs) ≡ slice_get (if b then x ∷ filter t xs else filter t xs) 0
    go true e = refl
    go false e = e

by_one_line : (value : Arg → ℕ) (p : WritePort) (micros : List Micro) → length (writes_once p micros) ≤ 1 → find (λ (w : PortWrite). is_same_port p w.port) (filter_map (λ (m : Micro). write_of value m.act) micros) ≡ line_write value p micros
by_one_line value p [] h = refl
by_one_line value p (m ∷ micros) h = go (writes_through p m.act) refl (write_of value m.act) refl h (by_one_line value p micros)
  where
    raw : List PortWrite
    raw = filter_map (λ (m : Micro). write_of value m.act) micros

    nothing : length (writes_once p micros) ≤ 0 → find (λ (w : PortWrite). is_same_port p w.port) (filter_map (λ (m : Micro). write_of value m.act) micros) ≡ None
    nothing none =
        let more = no_more value p micros in
        find_first (λ (w : PortWrite). is_same_port p w.port) (filter_map (λ (m : Micro). write_of value m.act) micros)
        ∙ ap (λ (l : List PortWrite). slice_get l 0) (nothing_left (filter (λ (w : PortWrite). is_same_port p w.port) (filter_map (λ (m : Micro). write_of value m.act) micros)) (omega (arith, more, none)))

    go : (b : Bool) → writes_through p m.act ≡ b → (o : Option PortWrite) → write_of value m.act ≡ o → length (if b then m ∷ writes_once p micros else writes_once p micros) ≤ 1
        → (length (writes_once p micros) ≤ 1 → find (λ (w : PortWrite). is_same_port p w.port) (filter_map (λ (m : Micro). write_of value m.act) micros) ≡ line_write value p micros)
        → find (λ (w : PortWrite). is_same_port p w.port) (cons_option o (filter_map (λ (m : Micro). write_of value m.act) micros)) ≡ option_and_then (λ (x : Micro). write_of value x.act) (if b then Some m else find (λ (x : Micro). writes_through p x.act) micros)
    go true t None e h rest = nothing (omega (arith, h)) ∙ sym e
    go true t (Some w) e h rest =
        let same = sym (ap (λ o. option_map_or (is_same_port p) o false) (port_of_line value m.act w e)) ∙ t in
        ap (λ b. if b then Some w else find (λ (w : PortWrite). is_same_port p w.port) (filter_map (λ (m : Micro). write_of value m.act) micros)) same ∙ sym e
    go false t None e h rest = rest h
    go false t (Some w) e h rest =
        let same = sym (ap (λ o. option_map_or (is_same_port p) o false) (port_of_line value m.act w e)) ∙ t in
        ap (λ b. if b then Some w else find (λ (w : PortWrite). is_same_port p w.port) (filter_map (λ (m : Micro). write_of value m.act) micros)) same ∙ rest h

through_kept : (design : Design) (p : WritePort) (raw : List PortWrite) → IsPort design p → write_through p (ordered design raw) ≡ find (λ (w : PortWrite). is_same_port p w.port) raw
through_kept design p raw is_port =
    find_first (λ (w : PortWrite). is_same_port p w.port) (ordered design raw) ∙ ap (λ (l : List PortWrite). slice_get l 0) (kept_in_order design p raw is_port) ∙ sym (find_first (λ (w : PortWrite). is_same_port p w.port) raw)

pub writes_by_line : (design : Design) (cards : List Card) → WritesApart design → ((p : WritePort) (stage : ℕ) → is_used_in design stage p ≡ true → IsPort design p) → WritesByLine design cards
unfolding fire instr_of
writes_by_line design cards apart ports stage place word locals storages input instr p at used =
    let once = found_keeps (λ (i : Instr). (p : WritePort) → length (writes_once p i.micros) ≤ 1) (is_match word) design.instrs instr at apart.one_line p in
    let fewer = in_stage p stage instr.micros in
    ap (λ o. write_through p (instr_effect design cards stage place word locals storages input o).writes) at
    ∙ through_kept design p _ (ports p stage used)
    ∙ by_one_line (stage_value design cards stage place word locals storages input instr) p (lines_in stage instr) (omega (arith, once, fewer))
