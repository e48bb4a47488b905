-- The outside to which ports are due.
use Rattle.std.proofs.Common.{◌≡◌, ◌≢◌, ℕ, ◌+◌, ◌-◌, ◌*◌, ◌<◌, ◌≤◌, List, [], ◌∷◌, ◌++◌, length, get_or, drop, take, map, refl, sym, ap, subst, ◌∙◌, arith, append_assoc}
use Rattle.std.specs.Prelude.{codes}
use Rattle.std.specs.List.{AllByRecursion as Each}
use Rattle.ap_image.specs.declared.shape.MemShape.{MemShape}
use Rattle.ap_image.specs.Shapes.{IsShape, shape_with}
use Rattle.ap_net.specs.declared.net.Port.{Port}
use Rattle.ap_net.specs.Outside.{Outside, InPort, Group, output, input, input_ports, mem_ports, group_ports}
use Rattle.ap_flat.specs.Ports.{AreDue, AreDueAfter, IsAddress, IsGroup, IsInPort, IsMem, ports_after}
use Rattle.ap_flat.proofs.PortPieces.{rest_all}
use Rattle.ap_flat.proofs.PortLists.{InputsEnd, MemsEnd, mems_no_input, port_same, same_inputs, same_mems, tail_no_mem}

-- the inputs and the memories with which the ports begin, and what stands after them
pub record IsRead (ports : List Port) (inputs : List InPort) (mems : List MemShape) (after rest : List Port) : Type 0 where
  pub inputs_split : ports ≡ input_ports inputs ++ after
  pub mems_split : after ≡ mem_ports mems ++ rest
  pub each_input : Each IsInPort inputs
  pub each_mem : Each IsMem mems
  pub inputs_end : InputsEnd after
  pub mems_end : MemsEnd rest

abbrev pub tail_of : List Group → List Port
tail_of groups = output (codes "stall") 1 ∷ output (codes "kill") 1 ∷ group_ports groups

pub record IsSame (o : Outside) (inputs : List InPort) (mems : List MemShape) (rest : List Port) : Type 0 where
  pub inputs_same : inputs ≡ o.inputs
  pub mems_same : mems ≡ o.mems
  pub rest_same : rest ≡ tail_of o.groups

module _ (address word : ℕ) (ports : List Port) (inputs : List InPort) (mems : List MemShape) (after rest : List Port) (r : IsRead ports inputs mems after rest) where
  -- there is one way to read them
  pub one_way : (o : Outside) → AreDueAfter address word ports o → IsSame o inputs mems rest
  one_way o due =
      let whole : input_ports inputs ++ after ≡ input_ports o.inputs ++ (mem_ports o.mems ++ tail_of o.groups) = sym r.inputs_split ∙ due.same ∙ append_assoc (input_ports o.inputs) (mem_ports o.mems) (tail_of o.groups) in
      let first = same_inputs inputs o.inputs after (mem_ports o.mems ++ tail_of o.groups) r.each_input due.outside.inputs r.inputs_end (mems_no_input o.mems 1 (output (codes "kill") 1 ∷ group_ports o.groups)) whole in
      let second = same_mems mems o.mems rest (tail_of o.groups) r.each_mem due.outside.mems r.mems_end (tail_no_mem 1 (output (codes "kill") 1 ∷ group_ports o.groups)) (sym r.mems_split ∙ first.1) in
      record { inputs_same = first.0; mems_same = second.0; rest_same = second.1 }

  -- fewer than two ports are left
  pub short : length rest < 2 → (o : Outside) → AreDueAfter address word ports o → ⊥
  short less o due =
      let s = one_way o due in
      let two : length (tail_of o.groups) ≡ length (group_ports o.groups) + 2 = omega arith in
      let long : length rest ≡ length (group_ports o.groups) + 2 = ap length s.rest_same ∙ two in
      absurd (omega arith)

  pub few : (o : Outside) → AreDueAfter address word ports o → (length inputs ≤ 8) × (length mems ≤ 4)
  few o due =
      let s = one_way o due in
      let few_inputs = due.outside.few_inputs in
      let few_mems = due.outside.few_mems in
      let inputs_long : length inputs ≡ length o.inputs = ap length s.inputs_same in
      let mems_long : length mems ≡ length o.mems = ap length s.mems_same in
      (omega arith, omega arith)

  -- the two ports after those of memories
  module _ (stall kill : Port) (groups : List Port) (split : rest ≡ stall ∷ kill ∷ groups) where
    pub stall_is : (o : Outside) → AreDueAfter address word ports o → stall ≡ output (codes "stall") 1
    stall_is o due = let s = one_way o due in let e : stall ∷ kill ∷ groups ≡ tail_of o.groups = sym split ∙ s.rest_same in cc

    pub kill_is : (o : Outside) → AreDueAfter address word ports o → kill ≡ output (codes "kill") 1
    kill_is o due = let s = one_way o due in let e : stall ∷ kill ∷ groups ≡ tail_of o.groups = sym split ∙ s.rest_same in cc

    groups_are : (o : Outside) → AreDueAfter address word ports o → groups ≡ group_ports o.groups
    groups_are o due = let s = one_way o due in let e : stall ∷ kill ∷ groups ≡ tail_of o.groups = sym split ∙ s.rest_same in cc

    pub no_groups : ((gs : List Group) → Each IsGroup gs → groups ≢ group_ports gs) → (o : Outside) → AreDueAfter address word ports o → ⊥
    no_groups none o due = none o.groups due.outside.groups (groups_are o due)

    pub no_shape : (IsShape (shape_with address word mems (map (λ (p : InPort). p.width) inputs)) → ⊥) → (o : Outside) → AreDueAfter address word ports o → ⊥
    no_shape none o due =
        let s = one_way o due in
        none (subst IsShape (λ i. shape_with (due.address_is i) (due.word_is i) (sym s.mems_same i) (map (λ (p : InPort). p.width) (sym s.inputs_same i))) due.outside.shape)

    -- and where all is as it is due
    pub due_there : (gs : List Group) → IsAddress address → stall ≡ output (codes "stall") 1 → kill ≡ output (codes "kill") 1 → length inputs ≤ 8 → length mems ≤ 4 → Each IsGroup gs → groups ≡ group_ports gs
        → IsShape (shape_with address word mems (map (λ (p : InPort). p.width) inputs))
        → AreDueAfter address word ports (record { address = address; word = word; inputs = inputs; mems = mems; groups = gs })
    due_there gs low is_stall is_kill few_inputs few_mems each same shape = record {
      outside = record { address = low; shape = shape; few_inputs = few_inputs; few_mems = few_mems; inputs = r.each_input; mems = r.each_mem; groups = each };
      address_is = refl;
      word_is = refl;
      same = r.inputs_split ∙ ap (λ l. input_ports inputs ++ l) (r.mems_split ∙ ap (λ l. mem_ports mems ++ l) (split ∙ (λ i. is_stall i ∷ is_kill i ∷ same i)))
          ∙ sym (append_assoc (input_ports inputs) (mem_ports mems) (tail_of gs));
    }

-- what was read from the front, where slices go on
pub is_read : (ports after rest : List Port) (inputs : List InPort) (mems : List MemShape) (n k : ℕ) → n ≡ length inputs → k ≡ length mems
    → after ≡ take (length ports - n) (drop n ports) → rest ≡ take (length after - 5 * k) (drop (5 * k) after)
    → ports ≡ input_ports inputs ++ drop (length inputs) ports → Each IsInPort inputs → InputsEnd (drop (length inputs) ports)
    → after ≡ mem_ports mems ++ drop (5 * length mems) after → Each IsMem mems → MemsEnd (drop (5 * length mems) after) → IsRead ports inputs mems after rest
is_read ports after rest inputs mems n k n_is k_is after_at rest_at split each ends mems_split each_mem mems_end =
    let after_is : after ≡ drop (length inputs) ports = after_at ∙ rest_all ports n ∙ ap (λ j. drop j ports) n_is in
    let rest_is : rest ≡ drop (5 * length mems) after = rest_at ∙ rest_all after (5 * k) ∙ ap (λ j. drop (5 * j) after) k_is in
    record {
      inputs_split = split ∙ ap (λ l. input_ports inputs ++ l) (sym after_is);
      mems_split = mems_split ∙ ap (λ l. mem_ports mems ++ l) (sym rest_is);
      each_input = each;
      each_mem = each_mem;
      inputs_end = subst (λ l. InputsEnd l) (sym after_is) ends;
      mems_end = subst (λ l. MemsEnd l) (sym rest_is) mems_end;
    }

-- a list of two ports and more
pub two_first : (l : List Port) (a b : Port) (more : List Port) → 2 ≤ length l → a ≡ get_or l 0 a → b ≡ get_or l 1 b → more ≡ take (length l - 2) (drop 2 l) → l ≡ a ∷ b ∷ more
two_first [] a b more long ha hb hm = absurd (omega arith)
two_first (x ∷ []) a b more long ha hb hm = absurd (omega arith)
two_first (x ∷ y ∷ l) a b more long ha hb hm = λ i. sym ha i ∷ sym hb i ∷ sym (hm ∙ rest_all (x ∷ y ∷ l) 2) i

-- the ports of the code memory and mwait

abbrev head_of : ℕ → ℕ → List Port → List Port
head_of address word rest = output (codes "iaddr") address ∷ input (codes "idata") word ∷ input (codes "mwait") 1 ∷ rest

pub record HeadIs (iaddr idata mwait : Port) (rest : List Port) (o : Outside) : Type 0 where
  pub iaddr_is : iaddr ≡ output (codes "iaddr") o.address
  pub idata_is : idata ≡ input (codes "idata") o.word
  pub mwait_is : mwait ≡ input (codes "mwait") 1
  pub rest_is : rest ≡ ports_after o

pub head_is : (ports rest : List Port) (iaddr idata mwait : Port) (o : Outside) → ports ≡ iaddr ∷ idata ∷ mwait ∷ rest → AreDue ports o → HeadIs iaddr idata mwait rest o
head_is ports rest iaddr idata mwait o split due =
    let e : iaddr ∷ idata ∷ mwait ∷ rest ≡ head_of o.address o.word (ports_after o) = sym split ∙ due.same in
    record { iaddr_is = cc; idata_is = cc; mwait_is = cc; rest_is = cc }

pub after_is : (ports rest : List Port) (iaddr idata mwait : Port) (o : Outside) → ports ≡ iaddr ∷ idata ∷ mwait ∷ rest → AreDue ports o → AreDueAfter iaddr.width idata.width rest o
after_is ports rest iaddr idata mwait o split due =
    let h = head_is ports rest iaddr idata mwait o split due in
    record { outside = due.outside; address_is = sym (port_same h.iaddr_is).1; word_is = sym (port_same h.idata_is).1; same = h.rest_is }
