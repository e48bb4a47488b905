-- Each index is driven by a stage, or always 0.
use Rattle.std.proofs.Common.{◌≡◌, ℕ, zero, suc, ◌+◌, ◌*◌, ◌<◌, Bool, true, false, List, [], ◌∷◌, Some, flat_map, length, refl, sym, ap, subst, ◌∙◌, arith, inl, inr}
use Rattle.std.specs.Prelude.{slice_get}
use Rattle.std.specs.List.{AllByRecursion as Each}
use Rattle.std.proofs.lemmas.Option.{same_Some, slice_get_within}
use Rattle.ap_desc.specs.Ports.{file_read, mem_read}
use Rattle.ap_desc.specs.declared.design.Design.{Design}
use Rattle.ap_desc.specs.declared.design.Node.{Node as DesignNode}
use Rattle.ap_desc.specs.declared.design.Node.TheVariants as design_node
use Rattle.ap_merge.specs.declared.table.Select.{Select}
use Rattle.ap_net.specs.declared.cell.Wire.{Wire}
use Rattle.ap_net.specs.Draft.{Draft}
use Rattle.ap_net.specs.Pending.{Among}
use Rattle.ap_net.specs.Ready.{Dependence, numbers}
use Rattle.ap_net.proofs.Lists.{All-back, All-front, All-join}
use Rattle.ap_ports.proofs.Members.{place_of}
use Rattle.ap_ports.specs.Numbers.{number_of_node}
use Rattle.ap_stage.specs.declared.chain.Node.{Node}
use Rattle.ap_stage.specs.declared.serve.ReadPort.{ReadPort}
use Rattle.ap_stage.specs.Served.{stage_wires, wires_of}
use Rattle.ap_stages.specs.Supplies.{IsNodeBy, supply_of}
use Rattle.ap_stages.specs.declared.nodes.Supplied.{Supplied}
use Rattle.ap_stages.specs.declared.nodes.Supply.{Supply}
use Rattle.ap_stages.specs.declared.nodes.Supply.TheVariants as by
use Rattle.ap_bank.specs.declared.bank.FileNets.{FileNets}
use Rattle.ap_bank.specs.Joins.{IsAtRest}
use Rattle.ap_front.specs.declared.ports.MemPorts.{MemPorts}
use Rattle.ap_steps.specs.TopOrder.{IsServed}
use Rattle.ap_rest.specs.Reads.{idle_indices, idle_of_files, idle_of_mems, unless_used}
use Rattle.ap_rest.specs.Serving.{IsIndexOf, ReadsAreServed, StagesDriveUsed, UsedAreNodes}
use Rattle.ap_rest.specs.Uses.{is_port_used}
use Rattle.ap_rest.proofs.Used.{node_numbered}

-- Where stages drive what lines use.

wires_at : (P : Wire → Type 0) (nodes : List Node) (k : ℕ) (n : Node) → slice_get nodes k ≡ Some n → Each P (stage_wires nodes) → Each P (wires_of n)
wires_at P [] k n at h = cc
wires_at P (m ∷ nodes) zero n at h = subst (λ x. Each P (wires_of x)) (same_Some m n at) (All-front P (wires_of m) (stage_wires nodes) h)
wires_at P (m ∷ nodes) (suc k) n at h = wires_at P nodes k n at (All-back P (wires_of m) (stage_wires nodes) h)

there : {X : Type 0} (xs : List X) (k : ℕ) → k < length xs → (x : X) × (slice_get xs k ≡ Some x)
there [] k lt = absurd (omega arith)
there (x ∷ xs) zero lt = (x, refl)
there (x ∷ xs) (suc k) lt = there xs k (omega arith)

-- a node has one index
one_index : (files : List FileNets) (mems : List MemPorts) (x : DesignNode) (v w : Wire) → IsIndexOf files mems x v → IsIndexOf files mems x w → v ≡ w
one_index files mems (design_node.Unit u) v w p q = absurd p
one_index files mems (design_node.FileRead file port) v w p q =
    let nets = same_Some p.0 q.0 (sym p.1 ∙ q.1) in
    same_Some v w (sym p.2 ∙ ap (λ (n : FileNets). slice_get n.indices port) nets ∙ q.2)
one_index files mems (design_node.MemRead mem) v w p q = sym p.2 ∙ ap (λ (m : MemPorts). m.read_address) (same_Some p.0 q.0 (sym p.1 ∙ q.1)) ∙ q.2

-- the port of a read node drives its index
read_wire : (design : Design) (files : List FileNets) (mems : List MemPorts) (select : Select) (x : DesignNode) (s : Supply) (n : Node) (w : Wire) (P : Wire → Type 0)
    → ((index value : Wire) → s ≡ by.Read index value → IsIndexOf files mems x index) → IsIndexOf files mems x w → IsNodeBy design select x s n → Each P (wires_of n) → P w
read_wire design files mems select (design_node.Unit u) s n w P own is made h = absurd is
read_wire design files mems select (design_node.FileRead file port) (by.Read index value) n w P own is made h =
    let p : ReadPort = record { port = 32 + 4 * file + port; select = select; index = index; value = value } in
    let each : Each P (index ∷ []) = subst (λ y. Each P (wires_of y)) made h in
    subst P (one_index files mems (design_node.FileRead file port) index w (own index value refl) is) each.0
read_wire design files mems select (design_node.MemRead mem) (by.Read index value) n w P own is made h =
    let each : Each P (index ∷ []) = subst (λ y. Each P (wires_of y)) made h in
    subst P (one_index files mems (design_node.MemRead mem) index w (own index value refl) is) each.0
read_wire design files mems select (design_node.FileRead file port) (by.Quick place bits) n w P own is made h = absurd made
read_wire design files mems select (design_node.FileRead file port) (by.Slow sel a b y) n w P own is made h = absurd made
read_wire design files mems select (design_node.MemRead mem) (by.Quick place bits) n w P own is made h = absurd made
read_wire design files mems select (design_node.MemRead mem) (by.Slow sel a b y) n w P own is made h = absurd made

found_as : (supplies : List Supplied) (number : ℕ) (s t : Supply) → supply_of supplies number ≡ Some s → s ≡ t → supply_of supplies number ≡ Some t
found_as supplies number s t found e = found ∙ ap Some e

pub stages_drive_used : UsedAreNodes → StagesDriveUsed
stages_drive_used nodes_are design files mems supplies driven clean own stages x w is used =
    let (stage, low, high, is_node) = nodes_are design x clean used in
    let s = stages stage low high in
    let (k, at) = place_of s.order x ((s.chain.nodes x).1 is_node) in
    let long = s.ports.long in
    let inside = slice_get_within s.order k x at in
    let (n, n_at) = there s.nodes k (omega arith) in
    let f = s.ports.each k x n at n_at in
    let numbered = node_numbered design stage x clean is_node in
    read_wire design files mems f.select x f.supply n w (λ (v : Wire). Among driven v.number)
    (λ index value e. own x index value numbered (found_as supplies (number_of_node x) f.supply (by.Read index value) f.found e)) is f.made
    (wires_at (λ (v : Wire). Among driven v.number) s.nodes k n n_at s.among)

-- Where the others are at rest.

module _ (by : Dependence) (design : Design) (d : Draft) (driven : List ℕ) where
  one : (w : Wire) (b : Bool) → (b ≡ true → Among driven w.number) → Each (IsAtRest d) (unless_used b (w ∷ [])) → IsServed by d driven w.number
  one w true used rest = inl (used refl)
  one w false used rest = inr (rest.0.came by)

  indices_served : (file port : ℕ) (indices : List Wire) → Each (IsAtRest d) (idle_indices design file port indices)
      → ((i : ℕ) (w : Wire) → slice_get indices i ≡ Some w → is_port_used design (file_read file (port + i)) ≡ true → Among driven w.number) → Each (IsServed by d driven) (numbers indices)
  indices_served file port [] rest used = tt
  indices_served file port (w ∷ indices) rest used =
      let here : port + 0 ≡ port = omega arith in
      let b = is_port_used design (file_read file port) in (
        one w b (λ e. used 0 w refl (ap (λ n. is_port_used design (file_read file n)) here ∙ e)) (All-front (IsAtRest d) (unless_used b (w ∷ [])) (idle_indices design file (port + 1) indices) rest),
        indices_served file (port + 1) indices (All-back (IsAtRest d) (unless_used b (w ∷ [])) (idle_indices design file (port + 1) indices) rest)
            (λ i v at e. let next : port + suc i ≡ port + 1 + i = omega arith in used (suc i) v at (ap (λ n. is_port_used design (file_read file n)) next ∙ e)),
      )

  files_served : (file : ℕ) (files : List FileNets) → Each (IsAtRest d) (idle_of_files design file files)
      → ((k i : ℕ) (nets : FileNets) (w : Wire) → slice_get files k ≡ Some nets → slice_get nets.indices i ≡ Some w → is_port_used design (file_read (file + k) i) ≡ true → Among driven w.number)
      → Each (IsServed by d driven) (flat_map (λ (n : FileNets). numbers n.indices) files)
  files_served file [] rest used = tt
  files_served file (n ∷ files) rest used =
      let here : file + 0 ≡ file = omega arith in
      All-join (IsServed by d driven) (numbers n.indices) (flat_map (λ (m : FileNets). numbers m.indices) files)
      (indices_served file 0 n.indices (All-front (IsAtRest d) (idle_indices design file 0 n.indices) (idle_of_files design (file + 1) files) rest)
      (λ i w at e. let plain : i ≡ 0 + i = omega arith in used 0 i n w refl at (ap (λ k. is_port_used design (file_read k i)) here ∙ ap (λ k. is_port_used design (file_read file k)) plain ∙ e)))
      (files_served (file + 1) files (All-back (IsAtRest d) (idle_indices design file 0 n.indices) (idle_of_files design (file + 1) files) rest)
      (λ k i nets w at in_it e. let next : file + suc k ≡ file + 1 + k = omega arith in used (suc k) i nets w at in_it (ap (λ m. is_port_used design (file_read m i)) next ∙ e)))

  mems_served : (mem : ℕ) (mems : List MemPorts) → Each (IsAtRest d) (idle_of_mems design mem mems)
      → ((k : ℕ) (m : MemPorts) → slice_get mems k ≡ Some m → is_port_used design (mem_read (mem + k)) ≡ true → Among driven m.read_address.number) → Each (λ (m : MemPorts). IsServed by d driven m.read_address.number) mems
  mems_served mem [] rest used = tt
  mems_served mem (m ∷ mems) rest used =
      let here : mem + 0 ≡ mem = omega arith in
      let b = is_port_used design (mem_read mem) in (
        one m.read_address b (λ e. used 0 m refl (ap (λ k. is_port_used design (mem_read k)) here ∙ e)) (All-front (IsAtRest d) (unless_used b (m.read_address ∷ [])) (idle_of_mems design (mem + 1) mems) rest),
        mems_served (mem + 1) mems (All-back (IsAtRest d) (unless_used b (m.read_address ∷ [])) (idle_of_mems design (mem + 1) mems) rest)
            (λ k x at e. let next : mem + suc k ≡ mem + 1 + k = omega arith in used (suc k) x at (ap (λ n. is_port_used design (mem_read n)) next ∙ e)),
      )

pub reads_are_served : ReadsAreServed
reads_are_served by design d files mems driven rest used = record {
  indices = files_served by design d driven 0 files (All-front (IsAtRest d) (idle_of_files design 0 files) (idle_of_mems design 0 mems) rest) (λ k i nets w at in_it e. let plain : k ≡ 0 + k = omega arith in used (design_node.FileRead k i) w (nets, at, in_it) (ap (λ n. is_port_used design (file_read n i)) plain ∙ e));
  reads = mems_served by design d driven 0 mems (All-back (IsAtRest d) (idle_of_files design 0 files) (idle_of_mems design 0 mems) rest) (λ k m at e. let plain : k ≡ 0 + k = omega arith in used (design_node.MemRead k) m.read_address (m, at, refl) (ap (λ n. is_port_used design (mem_read n)) plain ∙ e));
}
