-- A step of a bench, in lists: it goes from a state of the netlist's run to the next one, by a solution that its row shows.
use Rattle.std.proofs.Common.{◌≡◌, ◌≢◌, ℕ, zero, suc, ◌+◌, ◌*◌, ◌<◌, ◌≤◌, ◌^◌, ◌⊎◌, ◌==◌, inl, inr, List, [], ◌∷◌, ◌++◌, length, map, Option, Some, None, refl, sym, ap, subst, ◌∙◌, arith}
use Rattle.std.specs.Prelude.{codes, slice_get, slice_index, option_map}
use Rattle.std.specs.List.{AllByRecursion as Each}
use Rattle.std.proofs.lemmas.List.{length-append, length-map}
use Rattle.std.proofs.lemmas.Option.{slice_get-map, slice_get_within}
use Rattle.ap_image.specs.declared.trace.TraceLine.{TraceLine}
use Rattle.ap_image.specs.declared.shape.MemShape.{MemShape}
use Rattle.ap_image.specs.FitsShape.{LineFitsShape, MemsFit, WordsFit}
use Rattle.ap_net.specs.declared.cell.Cell.{Cell}
use Rattle.ap_net.specs.declared.cell.Cell.TheVariants as cell
use Rattle.ap_net.specs.declared.net.ModuleNet.{ModuleNet}
use Rattle.ap_net.specs.declared.net.FlatNet.{FlatNet}
use Rattle.ap_net.specs.declared.net.Next.{Next}
use Rattle.ap_net.specs.declared.net.Port.{Port}
use Rattle.ap_net.specs.declared.net.Role.TheVariants as role
use Rattle.ap_net.specs.Wiring.{IsSource, NextFits, Unclocked}
use Rattle.ap_net.specs.Modules.{port_net}
use Rattle.ap_net.specs.Flat.{Solves, plain_net, plain_nets, top_net, value_named}
use Rattle.ap_net.specs.Outside.{Outside, FilePort, Group, InPort, group_ports, group_name, index_port, input_ports, mem_ports, output, ports_of, shape_of}
use Rattle.ap_net.specs.Registers.{held}
use Rattle.ap_net.specs.Rows.{shown_row, group_writes}
use Rattle.ap_net.specs.Runs.{NetState, Cycle, mems_after}
use Rattle.ap_net.specs.Sources.{Takes}
use Rattle.ap_net.specs.Answering.{first_mem_port, StateFits}
use Rattle.ap_net.proofs.Lists.{All-from}
use Rattle.ap_net.proofs.Parts.{net_of_width}
use Rattle.ap_net.proofs.Wired.{number-IsNet}
use Rattle.ap_net.proofs.Fits.{length-plain}
use Rattle.ap_net.proofs.Answered.{PortsNamed, behind, named_behind, ports_split}
use Rattle.ap_flat.specs.Flats.{FlatParts, IsFlattened}
use Rattle.ap_flat.specs.declared.driver.Driver.TheVariants as driver
use Rattle.ap_eval.specs.declared.spot.Spot.{Spot}
use Rattle.ap_eval.specs.Benches.{Steps}
use Rattle.ap_eval.specs.BenchViews.{IsReady, bench_state, net_state}
use Rattle.ap_eval.specs.Cells.{Cells, first_words, other_words, rooms_of, words_of}
use Rattle.ap_eval.specs.Ops.{AreRoots, computed, give_all, load_of, memories_after, ops_of, with_inputs}
use Rattle.ap_eval.specs.Spots.{group_ports_count, group_size, mem_spots, port_count_of, row_by, spots_of, stall_port, writes_by}
use Rattle.ap_eval.proofs.Going.{cycle_on, fits_on, given, new, rest_named, small, solution}
use Rattle.ap_eval.proofs.Computing.{equation, holds}
use Rattle.ap_eval.proofs.Beginning.{begun_long, computed_all, register_was, source_free, source_root}
use Rattle.ap_eval.proofs.Edge.{computed-length, data_after-rooms, data_after-words, give_all-length, give_all-other, give_all-registers, group_spots-writes, held_read, mem_spots-writes, named_past_mems}

input_ports-length : (ps : List InPort) → length (input_ports ps) ≡ length ps
input_ports-length [] = refl
input_ports-length (p ∷ ps) = ap suc (input_ports-length ps)

mem_ports-length : (ms : List MemShape) → length (mem_ports ms) ≡ 5 * length ms
mem_ports-length [] = refl
mem_ports-length (m ∷ ms) = let e : length (mem_ports ms) ≡ 5 * length ms = mem_ports-length ms in omega arith

group_ports-length : (gs : List Group) → length (group_ports gs) ≡ group_ports_count gs
group_ports-length [] = refl
group_ports-length (g ∷ gs) = go g.port (group_ports-length gs)
  where
    go : (q : Option FilePort) → length (group_ports gs) ≡ group_ports_count gs → length ((output (group_name g (codes "e")) 1 ∷ index_port g q) ++ output (group_name g (codes "v")) g.width ∷ group_ports gs) ≡ group_size q + group_ports_count gs
    go None e = omega arith
    go (Some file) e = omega arith

pub ports-length : (o : Outside) → length (ports_of o) ≡ port_count_of o
ports-length o =
    let a : length (input_ports o.inputs) ≡ length o.inputs = input_ports-length o.inputs in
    let b : length (mem_ports o.mems) ≡ 5 * length o.mems = mem_ports-length o.mems in
    let c : length (group_ports o.groups) ≡ group_ports_count o.groups = group_ports-length o.groups in
    let d : length (input_ports o.inputs ++ (mem_ports o.mems ++ behind o)) ≡ length (input_ports o.inputs) + length (mem_ports o.mems ++ behind o) = length-append (input_ports o.inputs) (mem_ports o.mems ++ behind o) in
    let e : length (mem_ports o.mems ++ behind o) ≡ length (mem_ports o.mems) + length (behind o) = length-append (mem_ports o.mems) (behind o) in
    ap length (ports_split o) ∙ (let w : suc (suc (suc (length (input_ports o.inputs ++ (mem_ports o.mems ++ behind o))))) ≡ port_count_of o = omega arith in w)

-- the address of a write is within its memory
mem_small : (nets : List FlatNet) (v : List ℕ) (ms : List MemShape) (port : ℕ) (rest : List Port) → Each (λ (p : Port). value_named nets v p.name < 2 ^ p.width) (mem_ports ms ++ rest) → PortsNamed nets v port (mem_ports ms ++ rest)
    → (k : ℕ) → k < length ms → slice_index v (port + 5 * k + 3) < slice_index (map (λ (m : MemShape). 2 ^ m.address) ms) k
mem_small nets v [] port rest small named k lt = absurd (omega arith)
mem_small nets v (m ∷ ms) port rest small named zero lt =
    let e : suc (suc (suc port)) ≡ port + 5 * 0 + 3 = omega arith in
    subst (λ x. x < 2 ^ m.address) (named.1.1.1.0 ∙ ap (slice_index v) e) small.1.1.1.0
mem_small nets v (m ∷ ms) port rest small named (suc k) lt =
    let e : suc (suc (suc (suc (suc port)))) + 5 * k + 3 ≡ port + 5 * suc k + 3 = omega arith in
    subst (λ n. slice_index v n < slice_index (map (λ (m : MemShape). 2 ^ m.address) ms) k) e (mem_small nets v ms (suc (suc (suc (suc (suc port))))) rest small.1.1.1.1.1 named.1.1.1.1.1 k (omega arith))

maps_same : {X : Type 0} (P : X → Type 0) (f g : X → ℕ) → ((x : X) → P x → f x ≡ g x) → (xs : List X) → Each P xs → map f xs ≡ map g xs
maps_same P f g h [] each = refl
maps_same P f g h (x ∷ xs) each = (λ i. h x each.0 i ∷ maps_same P f g h xs each.1 i)

module _ (f : FlatParts) (is : IsFlattened f) where
  abbrev o : Outside
  o = f.outside

  abbrev nets : List ModuleNet
  nets = plain_nets f.net.nets

  abbrev count : ℕ
  count = length f.net.nets

  pub ports_within : port_count_of o ≤ count
  ports_within =
      let a : length (ports_of o) ≡ port_count_of o = ports-length o in
      let b : count ≡ length (map (λ (q : Port). top_net (port_net q)) (ports_of o)) + length is.ports.others = ap length is.ports.split ∙ length-append (map (λ (q : Port). top_net (port_net q)) (ports_of o)) is.ports.others in
      let c : length (map (λ (q : Port). top_net (port_net q)) (ports_of o)) ≡ length (ports_of o) = simp length-map in
      omega arith

  low : (n : ℕ) → n < length nets → n < count
  low n lt = let e : length nets ≡ count = length-plain f.net.nets in omega arith

  module _ (roots : List ℕ) (rooted : AreRoots f.drivers roots) (values : List ℕ) (memories : List Cells) (ready : IsReady f values memories) (line : TraceLine) (fits : LineFitsShape line (shape_of o)) where
    abbrev old : NetState
    old = net_state f values memories

    abbrev code : List ℕ
    code = first_words (words_of memories)

    abbrev pub settled : List ℕ
    settled = computed (load_of memories) (ops_of f roots f.order) (with_inputs line values)

    -- the value of a net after the operations
    abbrev pub read_at : ℕ → ℕ
    read_at n = slice_index settled (slice_index roots n)

    abbrev pub after_edge : List ℕ
    after_edge = give_all f.net.nexts (map (λ (x : Next). read_at x.from.number) f.net.nexts) settled

    abbrev pub memories_new : List Cells
    memories_new = memories_after read_at (first_mem_port o) memories

    abbrev pub v : List ℕ
    v = (solution f is code line old ready.code.each fits ready.fits).0

    solves : Solves f.net v
    solves = (solution f is code line old ready.code.each fits ready.fits).1

    takes : Takes nets (given f is code line old ready.code.each fits ready.fits) v
    takes = (solution f is code line old ready.code.each fits ready.fits).2

    reads : (n : ℕ) → n < count → read_at n ≡ slice_index v n
    reads n lt = computed_all f is roots rooted values memories ready line fits v solves takes n lt

    settled_long : length settled ≡ count
    settled_long = computed-length (load_of memories) (ops_of f roots f.order) (with_inputs line values) ∙ begun_long f is roots rooted values memories ready line fits

    registers_low : Each (λ (x : Next). x.register.number < length settled) f.net.nexts
    registers_low =
        let e : length settled ≡ count = settled_long in
        All-from (NextFits nets) (λ (x : Next). x.register.number < length settled) (λ x h. let lt : x.register.number < count = low x.register.number (number-IsNet nets x.register h.register) in omega arith) f.net.nexts is.opened.registers

    taken_are : map (λ (x : Next). read_at x.from.number) f.net.nexts ≡ map (λ (x : Next). slice_index v x.from.number) f.net.nexts
    taken_are = maps_same (NextFits nets) (λ (x : Next). read_at x.from.number) (λ (x : Next). slice_index v x.from.number) (λ x h. reads x.from.number (low x.from.number (number-IsNet nets x.from h.from))) f.net.nexts is.opened.registers

    pub registers_new : map (λ (x : Next). slice_index after_edge x.register.number) f.net.nexts ≡ map (λ (x : Next). slice_index v x.from.number) f.net.nexts
    registers_new = give_all-registers f.net.nexts (map (λ (x : Next). read_at x.from.number) f.net.nexts) settled (is.opened.clocked).once registers_low (simp length-map) ∙ taken_are

    named_mems : PortsNamed f.net.nets v (first_mem_port o) (mem_ports o.mems ++ behind o)
    named_mems = named_behind f.net.nets v o.inputs 3 (mem_ports o.mems ++ behind o) (rest_named f is v solves.long)

    mems_room : first_mem_port o + 5 * length o.mems ≤ count
    mems_room = let w : port_count_of o ≤ count = ports_within in omega arith

    words_new : (cells : List Cells) → MemsFit (other_words (words_of cells)) o.mems → other_words (words_of (memories_after read_at (first_mem_port o) cells)) ≡ mems_after f.net.nets v o.mems (other_words (words_of cells))
    words_new [] fit = go o.mems
      where
        go : (ms : List MemShape) → [] ≡ mems_after f.net.nets v ms []
        go [] = refl
        go (m ∷ ms) = refl
    words_new (c ∷ cells) fit = data_after-words f.net.nets v read_at count reads o.mems cells (first_mem_port o) (behind o) fit mems_room named_mems

    code_new : (cells : List Cells) → first_words (words_of (memories_after read_at (first_mem_port o) cells)) ≡ first_words (words_of cells)
    code_new [] = refl
    code_new (c ∷ cells) = refl

    rooms_new : (cells : List Cells) → rooms_of (memories_after read_at (first_mem_port o) cells) ≡ rooms_of cells
    rooms_new [] = refl
    rooms_new (c ∷ cells) = ap (λ (l : List ℕ). c.room ∷ l) (data_after-rooms read_at (first_mem_port o) cells)

    mems_new : other_words (words_of memories_new) ≡ mems_after f.net.nets v o.mems old.mems
    mems_new = words_new memories ready.fits.mems

    state_new : new f is code line old ready.code.each fits ready.fits v solves takes ≡ net_state f after_edge memories_new
    state_new = let r = sym registers_new in let m = sym mems_new in λ i. record { registers = r i; mems = m i }

    row_is : (shown : List ℕ) → ((p : ℕ) → p < port_count_of o → slice_index shown p ≡ read_at p) → row_by shown (stall_port o) (spots_of o) ≡ shown_row o f.net v
    row_is shown are =
        let within : port_count_of o ≤ count = ports_within in
        let agree : (n : ℕ) → n < port_count_of o → slice_index shown n ≡ slice_index v n = λ n lt. are n lt ∙ reads n (omega arith) in
        let named = named_past_mems f.net.nets v o.mems (first_mem_port o) (behind o) named_mems in
        let one : suc (stall_port o) ≡ stall_port o + 1 = omega arith in
        let two : suc (suc (stall_port o)) ≡ stall_port o + 2 = omega arith in
        let s : slice_index shown (stall_port o) ≡ value_named f.net.nets v (codes "stall") = agree (stall_port o) (omega arith) ∙ sym named.0 in
        let k : slice_index shown (stall_port o + 1) ≡ value_named f.net.nets v (codes "kill") = agree (stall_port o + 1) (omega arith) ∙ ap (slice_index v) (sym one) ∙ sym named.1.0 in
        let zeroth : 0 + length o.groups ≡ length o.groups = omega arith in
        let w = group_spots-writes f.net.nets v shown (port_count_of o) agree (mem_spots (first_mem_port o) o.mems) o.groups 0 (stall_port o + 2) (omega arith) (subst (λ n. PortsNamed f.net.nets v n (group_ports o.groups)) two named.1.1)
        ∙ ap (λ n. group_writes f.net.nets v 0 o.groups ++ writes_by shown n (mem_spots (first_mem_port o) o.mems)) zeroth
        ∙ ap (λ l. group_writes f.net.nets v 0 o.groups ++ l) (mem_spots-writes f.net.nets v shown (port_count_of o) agree o.mems (length o.groups) (first_mem_port o) (behind o) (omega arith) named_mems) in
        λ i. record { stall = (s i) == 1; kill = (k i) == 1; writes = w i }

    unclocked : (n : ℕ) (c : Cell) → slice_get f.drivers n ≡ Some (driver.Equation c) → Unclocked f.net.nexts n
    unclocked n c at =
        All-from (NextFits nets) (λ (x : Next). x.register.number ≢ n) (λ x h same.
        let net = net_of_width nets x.register.number x.register.width h.register.declared in
        source_free f is n net.0 c (subst (λ k. slice_get nets k ≡ Some net.0) same net.1) (subst IsSource (sym (h.clocked net.0 net.1)) tt) at)
        f.net.nexts is.opened.registers

    constant_stays : (n c : ℕ) → slice_get f.drivers n ≡ Some (driver.Equation (cell.Const c)) → slice_index after_edge n ≡ c
    constant_stays n c at =
        let e : length f.drivers ≡ count = is.drivers.long in
        let within : n < length f.drivers = slice_get_within f.drivers n (driver.Equation (cell.Const c)) at in
        let own : slice_index roots n ≡ n = rooted.each n (driver.Equation (cell.Const c)) at in
        give_all-other f.net.nexts (map (λ (x : Next). read_at x.from.number) f.net.nexts) settled n (unclocked n (cell.Const c) at)
        ∙ ap (slice_index settled) (sym own) ∙ reads n (omega arith) ∙ holds f is roots rooted v solves (load_of memories) n (cell.Const c) (equation f is n (cell.Const c) at)

    register_stays : (n : ℕ) (net : FlatNet) (reset : ℕ) → slice_get f.net.nets n ≡ Some net → net.role ≡ role.Register reset → slice_index after_edge n ≡ held f.net.nexts (net_state f after_edge memories_new).registers n
    register_stays n net reset at is_reg = go (held_read (slice_index after_edge) f.net.nexts n)
      where
        go : (held f.net.nexts (map (λ (x : Next). slice_index after_edge x.register.number) f.net.nexts) n ≡ slice_index after_edge n) ⊎ (Unclocked f.net.nexts n × ((r : List ℕ) → held f.net.nexts r n ≡ 0))
            → slice_index after_edge n ≡ held f.net.nexts (net_state f after_edge memories_new).registers n
        go (inl e) = sym e
        go (inr free) =
            let plain : slice_get nets n ≡ Some (plain_net net) = slice_get-map plain_net f.net.nets n ∙ ap (option_map plain_net) at in
            let within : n < count = slice_get_within f.net.nets n net at in
            let own : slice_index roots n ≡ n = source_root f is roots rooted n (plain_net net) plain (subst IsSource (sym is_reg) tt) within in
            give_all-other f.net.nexts (map (λ (x : Next). read_at x.from.number) f.net.nexts) settled n free.0
            ∙ ap (slice_index settled) (sym own) ∙ reads n within ∙ register_was f is roots rooted values memories ready line fits v solves takes n net reset at is_reg
            ∙ ready.registers n net reset at is_reg ∙ free.1 old.registers ∙ sym (free.1 (net_state f after_edge memories_new).registers)

    pub ready_after : IsReady f after_edge memories_new
    ready_after = record {
      long = give_all-length f.net.nexts (map (λ (x : Next). read_at x.from.number) f.net.nexts) settled ∙ settled_long;
      constants = constant_stays;
      registers = register_stays;
      rooms = rooms_new memories ∙ ready.rooms;
      code = subst (λ (w : List ℕ). WordsFit w o.address o.word) (sym (code_new memories)) ready.code;
      fits = subst (StateFits o f.net) state_new (fits_on f is code line old ready.code.each fits ready.fits v solves takes);
    }

    pub steps_on : (before shown : List ℕ) → ((p : ℕ) → p < port_count_of o → slice_index shown p ≡ read_at p) → (spots : List Spot) → spots ≡ spots_of o → Steps line (bench_state f values memories before spots) (bench_state f after_edge memories_new shown spots)
    steps_on before shown are spots same = record {
      solution = v;
      cycle = subst (Cycle o f.net code line old v) state_new (cycle_on f is code line old ready.code.each fits ready.fits v solves takes);
      row = ap (row_by shown (stall_port o)) same ∙ row_is shown are;
      flat = refl;
      code = code_new memories;
    }

    -- the addresses at which data memories are written are within them
    pub addresses_fit : (k : ℕ) → k + 1 < length memories → read_at (first_mem_port o + 5 * k + 3) < slice_index (rooms_of memories) (k + 1)
    addresses_fit k lt =
        let long : length (rooms_of memories) ≡ length memories = simp length-map in
        let rl : length (rooms_of memories) ≡ suc (length o.mems) = ap length ready.rooms ∙ ap suc (simp length-map) in
        let low : k < length o.mems = omega arith in
        let within : port_count_of o ≤ count = ports_within in
        let here : first_mem_port o + 5 * k + 3 < count = omega arith in
        let next : suc k ≡ k + 1 = omega arith in
        let m = mem_small f.net.nets v o.mems (first_mem_port o) (behind o) (small f is v solves) named_mems k low in
        let room : slice_index (map (λ (m : MemShape). 2 ^ m.address) o.mems) k ≡ slice_index (rooms_of memories) (k + 1) = ap (λ (l : List ℕ). slice_index l (suc k)) (sym ready.rooms) ∙ ap (slice_index (rooms_of memories)) next in
        let x : slice_index v (first_mem_port o + 5 * k + 3) < slice_index (rooms_of memories) (k + 1) = subst (λ r. slice_index v (first_mem_port o + 5 * k + 3) < r) room m in
        subst (λ r. r < slice_index (rooms_of memories) (k + 1)) (sym (reads (first_mem_port o + 5 * k + 3) here)) x
