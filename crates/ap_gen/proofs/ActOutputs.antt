-- The outputs that show writes are late where writes are made, and no two of them are one.
use Rattle.std.proofs.Common.{◌≡◌, ◌≢◌, ℕ, ◌+◌, ◌||◌, Bool, true, false, if◌then◌else◌, List, [], ◌∷◌, ◌++◌, flat_map, map, refl, sym, ap, subst, ◌∙◌}
use Rattle.std.specs.Prelude.{option_to_list}
use Rattle.std.specs.List.{AllByRecursion as Each, list_any}
use Rattle.ap_desc.specs.Ports.{mem_write as memory_port, micros_in}
use Rattle.ap_desc.specs.PortsApart.{uses_port}
use Rattle.ap_desc.specs.declared.design.Act.{Act}
use Rattle.ap_desc.specs.declared.design.Act.TheVariants as act
use Rattle.ap_desc.specs.declared.design.Design.{Design}
use Rattle.ap_desc.specs.declared.design.Micro.{Micro}
use Rattle.ap_model.specs.declared.storage.WritePort.TheVariants as port
use Rattle.ap_model.specs.Ports.{is_used, writes_through}
use Rattle.ap_model.proofs.ListLemmas.{flat_map_both}
use Rattle.ap_net.specs.declared.cell.Wire.{Wire}
use Rattle.ap_net.specs.Draft.{Draft}
use Rattle.ap_net.specs.Late.{IsLate}
use Rattle.ap_net.specs.Ready.{numbers}
use Rattle.ap_net.specs.Wiring.{NoneTwice}
use Rattle.ap_net.proofs.Connected.{NoneTwice-join}
use Rattle.ap_net.proofs.Lists.{All-back, All-both, All-from, All-front, All-join, All-map, All-unmap}
use Rattle.ap_front.specs.declared.ports.GroupPorts.{GroupPorts}
use Rattle.ap_front.specs.declared.ports.MemPorts.{MemPorts}
use Rattle.ap_front.specs.declared.ports.Ports.{Ports}
use Rattle.ap_rest.specs.Reads.{idle_writes, unless_used}
use Rattle.ap_rest.specs.Uses.{is_port_used}
use Rattle.ap_lead.specs.Leading.{group_numbers, mem_write}
use Rattle.ap_lead.specs.Left.{IsLateGroup, IsLateMem}
use Rattle.ap_act.specs.declared.outputs.PortOutputs.{PortOutputs}
use Rattle.ap_act.specs.Outputs.{all_numbers, group_outputs, mem_outputs, output_numbers, output_wires, shown_outputs, written_mems}
use Rattle.ap_act.proofs.Lists.{each_flat_from}

-- Lists whose numbers are apart.

-- each of the second list is none of the first
pub apart_from : (xs ys : List ℕ) → NoneTwice (xs ++ ys) → Each (λ x. Each (λ y. y ≢ x) ys) xs
apart_from [] ys h = tt
apart_from (x ∷ xs) ys h = (All-back (λ y. y ≢ x) xs ys h.0, apart_from xs ys h.1)

-- and each of the first is none of the second
pub apart_back : (xs ys : List ℕ) → NoneTwice (xs ++ ys) → Each (λ y. Each (λ x. x ≢ y) xs) ys
apart_back [] ys h = each_nothing ys
  where
    each_nothing : (zs : List ℕ) → Each (λ z. Each (λ x. x ≢ z) []) zs
    each_nothing [] = tt
    each_nothing (z ∷ zs) = (tt, each_nothing zs)
apart_back (x ∷ xs) ys h = All-both (λ y. y ≢ x) (λ y. Each (λ z. z ≢ y) xs) (λ y. Each (λ z. z ≢ y) (x ∷ xs)) (λ y other rest. ((λ e. other (sym e)), rest)) ys (All-back (λ y. y ≢ x) xs ys h.0) (apart_back xs ys h.1)

pub front_apart : (xs ys : List ℕ) → NoneTwice (xs ++ ys) → NoneTwice xs
front_apart [] ys h = tt
front_apart (x ∷ xs) ys h = (All-front (λ m. m ≢ x) xs ys h.0, front_apart xs ys h.1)

pub back_apart : (xs ys : List ℕ) → NoneTwice (xs ++ ys) → NoneTwice ys
back_apart [] ys h = h
back_apart (x ∷ xs) ys h = back_apart xs ys h.1

-- Memories that lines write, and those that none writes.

-- a line writes through the port of a memory where it uses that
same_use : (mem : ℕ) (a : Act) → uses_port (memory_port mem) a ≡ writes_through (port.Memory mem) a
same_use mem (act.WriteMem m at value guard) = refl
same_use mem _ = refl

any_same : (mem : ℕ) (micros : List Micro) → list_any (λ (m : Micro). uses_port (memory_port mem) m.act) micros ≡ list_any (λ (m : Micro). writes_through (port.Memory mem) m.act) micros
any_same mem [] = refl
any_same mem (m ∷ micros) = λ i. same_use mem m.act i || any_same mem micros i

used_same : (design : Design) (mem : ℕ) → is_port_used design (memory_port mem) ≡ is_used design (port.Memory mem)
used_same design mem = any_same mem (micros_in design)

-- what holds of the outputs of all memories holds of those that no line writes, and of those that some line writes
pub idle_within : (P : ℕ → Type 0) (design : Design) (n : ℕ) (mems : List MemPorts) → Each P (flat_map mem_write mems) → Each P (numbers (idle_writes design n mems))
idle_within P design n [] h = tt
idle_within P design n (m ∷ mems) (e, (a, (v, rest))) = go (is_port_used design (memory_port n)) (idle_within P design (n + 1) mems rest)
  where
    go : (b : Bool) → Each P (numbers (idle_writes design (n + 1) mems)) → Each P (numbers (unless_used b (m.enable ∷ m.address ∷ m.value ∷ []) ++ idle_writes design (n + 1) mems))
    go true later = later
    go false later = (e, (a, (v, later)))

pub written_within : (P : ℕ → Type 0) (design : Design) (n : ℕ) (mems : List MemPorts) → Each P (flat_map mem_write mems) → Each P (all_numbers (written_mems design n mems))
written_within P design n [] h = tt
written_within P design n (m ∷ mems) (e, (a, (v, rest))) = go (is_used design (port.Memory n)) (written_within P design (n + 1) mems rest)
  where
    go : (b : Bool) → Each P (all_numbers (written_mems design (n + 1) mems)) → Each P (all_numbers (if b then mem_outputs n m ∷ written_mems design (n + 1) mems else written_mems design (n + 1) mems))
    go true later = (e, (v, (a, later)))
    go false later = later

written_apart : (design : Design) (n : ℕ) (mems : List MemPorts) → NoneTwice (flat_map mem_write mems) → NoneTwice (all_numbers (written_mems design n mems))
written_apart design n [] h = tt
written_apart design n (m ∷ mems) ((e_a, (e_v, e)), ((a_v, a), (v, rest))) = go (is_used design (port.Memory n)) (written_apart design (n + 1) mems rest)
  where
    within : (P : ℕ → Type 0) → Each P (flat_map mem_write mems) → Each P (all_numbers (written_mems design (n + 1) mems))
    within P = written_within P design (n + 1) mems

    go : (b : Bool) → NoneTwice (all_numbers (written_mems design (n + 1) mems)) → NoneTwice (all_numbers (if b then mem_outputs n m ∷ written_mems design (n + 1) mems else written_mems design (n + 1) mems))
    go true later = ((e_v, (e_a, within (λ k. k ≢ m.enable.number) e)), (((λ same. a_v (sym same)), within (λ k. k ≢ m.value.number) v), (within (λ k. k ≢ m.address.number) a, later)))
    go false later = later

-- these are none of those
pub written_beside : (design : Design) (n : ℕ) (mems : List MemPorts) → NoneTwice (flat_map mem_write mems) → Each (λ k. Each (λ j. j ≢ k) (numbers (idle_writes design n mems))) (all_numbers (written_mems design n mems))
written_beside design n [] h = tt
written_beside design n (m ∷ mems) ((e_a, (e_v, e)), ((a_v, a), (v, rest))) =
    subst (λ c. Each (λ k. Each (λ j. j ≢ k) (numbers (unless_used c nets ++ idle))) (all_numbers (if is_used design (port.Memory n) then mem_outputs n m ∷ written else written))) (sym (used_same design n))
    (go (is_used design (port.Memory n)) (written_beside design (n + 1) mems rest))
  where
    nets : List Wire
    nets = m.enable ∷ m.address ∷ m.value ∷ []

    idle : List Wire
    idle = idle_writes design (n + 1) mems

    written : List PortOutputs
    written = written_mems design (n + 1) mems

    -- a number that is none of all outputs of the later memories
    beside : (k : ℕ) → Each (λ j. j ≢ k) (flat_map mem_write mems) → Each (λ j. j ≢ k) (numbers idle)
    beside k h = idle_within (λ j. j ≢ k) design (n + 1) mems h

    -- these are none of the first of the later ones that are written
    none : (k : ℕ) → Each (λ j. j ≢ k) (flat_map mem_write mems) → Each (λ j. k ≢ j) (all_numbers written)
    none k h = written_within (λ j. k ≢ j) design (n + 1) mems (All-from (λ j. j ≢ k) (λ j. k ≢ j) (λ j other same. other (sym same)) (flat_map mem_write mems) h)

    go : (b : Bool) → Each (λ k. Each (λ j. j ≢ k) (numbers idle)) (all_numbers written) → Each (λ k. Each (λ j. j ≢ k) (numbers (unless_used b nets ++ idle))) (all_numbers (if b then mem_outputs n m ∷ written else written))
    go true later = (beside m.enable.number e, (beside m.value.number v, (beside m.address.number a, later)))
    go false later =
        All-both (λ k. m.enable.number ≢ k) (λ k. (m.address.number ≢ k) × ((m.value.number ≢ k) × Each (λ j. j ≢ k) (numbers idle))) (λ k. Each (λ j. j ≢ k) (numbers (nets ++ idle))) (λ k p q. (p, (q.0, q.1))) (all_numbers written) (none m.enable.number e)
        (All-both (λ k. m.address.number ≢ k) (λ k. (m.value.number ≢ k) × Each (λ j. j ≢ k) (numbers idle)) (λ k. (m.address.number ≢ k) × ((m.value.number ≢ k) × Each (λ j. j ≢ k) (numbers idle))) (λ k p q. (p, q)) (all_numbers written) (none m.address.number a)
        (All-both (λ k. m.value.number ≢ k) (λ k. Each (λ j. j ≢ k) (numbers idle)) (λ k. (m.value.number ≢ k) × Each (λ j. j ≢ k) (numbers idle)) (λ k p q. (p, q)) (all_numbers written) (none m.value.number v) later))

-- All outputs at which writes are shown.

groups_numbers : (groups : List GroupPorts) → all_numbers (map group_outputs groups) ≡ flat_map group_numbers groups
groups_numbers [] = refl
groups_numbers (g ∷ groups) = ap (λ l. group_numbers g ++ l) (groups_numbers groups)

pub shown_numbers : (design : Design) (p : Ports) → all_numbers (shown_outputs design p) ≡ flat_map group_numbers p.groups ++ all_numbers (written_mems design 0 p.mems)
shown_numbers design p = flat_map_both output_numbers (map group_outputs p.groups) (written_mems design 0 p.mems) ∙ ap (λ l. l ++ all_numbers (written_mems design 0 p.mems)) (groups_numbers p.groups)

pub shown_apart : (design : Design) (p : Ports) → NoneTwice (flat_map mem_write p.mems ++ flat_map group_numbers p.groups) → NoneTwice (all_numbers (shown_outputs design p))
shown_apart design p h =
    let writes = flat_map mem_write p.mems in
    let groups = flat_map group_numbers p.groups in
    let written = all_numbers (written_mems design 0 p.mems) in
    subst NoneTwice (sym (shown_numbers design p))
    (NoneTwice-join groups written (back_apart writes groups h) (written_apart design 0 p.mems (front_apart writes groups h))
    (written_within (λ y. Each (λ x. x ≢ y) groups) design 0 p.mems (apart_from writes groups h)))

-- Outputs that were late are late still, where their numbers are such that late nets stay late.
module _ (design : Design) (a b : Draft) (Stays : ℕ → Type 0) (stay : (w : Wire) → Stays w.number → IsLate a w → IsLate b w) where
  groups_late : (groups : List GroupPorts) → Each (IsLateGroup a) groups → Each Stays (flat_map group_numbers groups) → Each (λ (g : GroupPorts). Each (IsLate b) (output_wires (group_outputs g))) groups
  groups_late [] h k = tt
  groups_late (g ∷ groups) h (e, (v, rest)) = (
    (
      stay g.enable e h.0.enable,
      (
        stay g.value v h.0.value,
        All-both (λ (w : Wire). Stays w.number) (IsLate a) (IsLate b) stay (option_to_list g.index) (All-unmap Stays (λ (w : Wire). w.number) (option_to_list g.index) (All-front Stays (numbers (option_to_list g.index)) (flat_map group_numbers groups) rest)) h.0.index,
      ),
    ),
    groups_late groups h.1 (All-back Stays (numbers (option_to_list g.index)) (flat_map group_numbers groups) rest),
  )

  mems_late : (n : ℕ) (mems : List MemPorts) → Each (IsLateMem a) mems → Each Stays (all_numbers (written_mems design n mems)) → Each (λ (o : PortOutputs). Each (IsLate b) (output_wires o)) (written_mems design n mems)
  mems_late n [] h k = tt
  mems_late n (m ∷ mems) h k = go (is_used design (port.Memory n)) k (mems_late (n + 1) mems h.1)
    where
      written : List PortOutputs
      written = written_mems design (n + 1) mems

      go : (c : Bool) → Each Stays (all_numbers (if c then mem_outputs n m ∷ written else written)) → (Each Stays (all_numbers written) → Each (λ (o : PortOutputs). Each (IsLate b) (output_wires o)) written)
          → Each (λ (o : PortOutputs). Each (IsLate b) (output_wires o)) (if c then mem_outputs n m ∷ written else written)
      go true (e, (v, (i, rest))) later = ((stay m.enable e h.0.enable, (stay m.value v h.0.value, (stay m.address i h.0.address, tt))), later rest)
      go false k later = later k

  pub shown_late : (p : Ports) → Each (IsLateGroup a) p.groups → Each (IsLateMem a) p.mems → Each Stays (flat_map group_numbers p.groups) → Each Stays (all_numbers (written_mems design 0 p.mems)) → Each (IsLate b) (flat_map output_wires (shown_outputs design p))
  shown_late p g m j k =
      let P : PortOutputs → Type 0 = λ (o : PortOutputs). Each (IsLate b) (output_wires o) in
      each_flat_from P (IsLate b) output_wires (λ o h. h) (shown_outputs design p)
      (All-join P (map group_outputs p.groups) (written_mems design 0 p.mems) (All-map P group_outputs p.groups (groups_late p.groups g j)) (mems_late 0 p.mems m k))
