-- No two ports of top are one net.
use Rattle.std.proofs.Common.{◌≡◌, ◌≢◌, ℕ, suc, ◌+◌, Bool, true, false, if◌then◌else◌, List, [], ◌∷◌, ◌++◌, flat_map, map, Option, Some, None, inl, inr, refl, sym, ap, subst, ◌∙◌, arith}
use Rattle.std.specs.Prelude.{◌⊎◌, option_to_list, slice_get}
use Rattle.std.specs.List.{AllByRecursion as Each}
use Rattle.ap_desc.specs.Clean.{IsClean}
use Rattle.ap_desc.specs.declared.design.Design.{Design}
use Rattle.ap_desc.specs.declared.design.InPort.{InPort as Input}
use Rattle.ap_desc.specs.declared.design.Mem.{Mem}
use Rattle.ap_model.specs.declared.storage.WritePort.{WritePort}
use Rattle.ap_model.specs.declared.storage.WritePort.TheVariants as port
use Rattle.ap_model.specs.Ports.{is_used, write_groups}
use Rattle.ap_model.proofs.ListLemmas.{flat_map_both, flat_map_of_map}
use Rattle.ap_net.specs.declared.cell.Wire.{Wire}
use Rattle.ap_net.specs.declared.net.ModuleNet.{ModuleNet}
use Rattle.ap_net.specs.declared.net.Port.{Port}
use Rattle.ap_net.specs.Draft.{Draft}
use Rattle.ap_net.specs.Late.{IsLate}
use Rattle.ap_net.specs.Modules.{port_net}
use Rattle.ap_net.specs.Names.{AreDistinct}
use Rattle.ap_net.specs.Outside.{FilePort, Group, index_port}
use Rattle.ap_net.specs.Pending.{Among}
use Rattle.ap_net.specs.Ready.{numbers}
use Rattle.ap_net.specs.Wiring.{NoneTwice}
use Rattle.ap_net.proofs.Lists.{All-join, some_same}
use Rattle.ap_signals.specs.DesignOutside.{group_of}
use Rattle.ap_ctl.specs.Lists.{EachPair}
use Rattle.ap_front.specs.declared.ports.GroupPorts.{GroupPorts}
use Rattle.ap_front.specs.declared.ports.MemPorts.{MemPorts}
use Rattle.ap_front.specs.declared.ports.Ports.{Ports}
use Rattle.ap_front.specs.Ports.{AreGroupPorts, AreMemPorts, ArePortsOf, HasPorts, IsIndex, IsInput, group_ports_of, input_of, mem_of, port_name, ports_of_group, top_ports}
use Rattle.ap_front.proofs.PortNames.{ports_are_new}
use Rattle.ap_act.specs.Apart.{OutputsAreFree, PortsAreApart, group_ports, mem_ports, mem_wires, ports_in_order}
use Rattle.ap_act.specs.Outputs.{all_numbers, group_outputs, mem_outputs, output_numbers, output_wires, shown_outputs, written_mems}
use Rattle.ap_act.proofs.Lists.{at_among, others, twice_back, twice_front}

-- Lists of numbers.

among_right : (xs ys : List ℕ) (n : ℕ) → Among ys n → Among (xs ++ ys) n
among_right [] ys n h = h
among_right (x ∷ xs) ys n h = inr (among_right xs ys n h)

among_left : (xs ys : List ℕ) (n : ℕ) → Among xs n → Among (xs ++ ys) n
among_left [] ys n h = absurd h
among_left (x ∷ xs) ys n (inl e) = inl e
among_left (x ∷ xs) ys n (inr k) = inr (among_left xs ys n k)

among_either : (xs ys : List ℕ) (n : ℕ) → Among (xs ++ ys) n → Among xs n ⊎ Among ys n
among_either [] ys n h = inr h
among_either (x ∷ xs) ys n (inl e) = inl (inl e)
among_either (x ∷ xs) ys n (inr h) = go (among_either xs ys n h)
  where
    go : Among xs n ⊎ Among ys n → ((x ≡ n) ⊎ Among xs n) ⊎ Among ys n
    go (inl k) = inl (inr k)
    go (inr k) = inr k

none_of : (x : ℕ) (ys : List ℕ) → (Among ys x → ⊥) → Each (λ m. m ≢ x) ys
none_of x [] f = tt
none_of x (y ∷ ys) f = ((λ e. f (inl e)), none_of x ys (λ h. f (inr h)))

twice_join : (xs ys : List ℕ) → NoneTwice xs → NoneTwice ys → ((n : ℕ) → Among xs n → Among ys n → ⊥) → NoneTwice (xs ++ ys)
twice_join [] ys h k apart = k
twice_join (x ∷ xs) ys h k apart = (All-join (λ m. m ≢ x) xs ys h.0 (none_of x ys (apart x (inl refl))), twice_join xs ys h.1 k (λ n a b. apart n (inr a) b))

-- no number of the first list stands in the second
apart_lists : (xs ys : List ℕ) → NoneTwice (xs ++ ys) → (n : ℕ) → Among xs n → Among ys n → ⊥
apart_lists xs ys h n a b = at_among (λ m. m ≢ n) xs n (others xs ys n h b) a refl

among_flat : {X : Type 0} (f g : X → List ℕ) → ((x : X) (n : ℕ) → Among (f x) n → Among (g x) n) → (xs : List X) (n : ℕ) → Among (flat_map f xs) n → Among (flat_map g xs) n
among_flat f g some [] n h = h
among_flat f g some (x ∷ xs) n h = go (among_either (f x) (flat_map f xs) n h) (among_flat f g some xs n)
  where
    go : Among (f x) n ⊎ Among (flat_map f xs) n → (Among (flat_map f xs) n → Among (flat_map g xs) n) → Among (g x ++ flat_map g xs) n
    go (inl k) rest = among_left (g x) (flat_map g xs) n (some x n k)
    go (inr k) rest = among_right (g x) (flat_map g xs) n (rest k)

-- some of the numbers of each item, in another order
rearranged : {X : Type 0} (f g : X → List ℕ) → ((x : X) (n : ℕ) → Among (f x) n → Among (g x) n) → ((x : X) → NoneTwice (g x) → NoneTwice (f x)) → (xs : List X) → NoneTwice (flat_map g xs) → NoneTwice (flat_map f xs)
rearranged f g some once [] h = tt
rearranged f g some once (x ∷ xs) h =
    twice_join (f x) (flat_map f xs) (once x (twice_front (g x) (flat_map g xs) h)) (rearranged f g some once xs (twice_back (g x) (flat_map g xs) h))
    (λ n a b. apart_lists (g x) (flat_map g xs) h n (some x n a) (among_flat f g some xs n b))

-- The ports, one by one.

abbrev IsAt : Draft → Port → ℕ → Type 0
IsAt d p n = slice_get d.nets n ≡ Some (port_net p)

apart_from : (d : Draft) (p : Port) (n : ℕ) (ports : List Port) (ns : List ℕ) → IsAt d p n → EachPair (IsAt d) ports ns → Each (λ other. other ≢ p.name) (map port_name ports) → Each (λ m. m ≢ n) ns
apart_from d p n [] [] at h k = tt
apart_from d p n [] (m ∷ ns) at h k = absurd h
apart_from d p n (q ∷ ports) [] at h k = absurd h
apart_from d p n (q ∷ ports) (m ∷ ns) at h k = (
  (λ e. let same : port_net q ≡ port_net p = some_same (sym h.0 ∙ ap (slice_get d.nets) e ∙ at) in k.0 (ap (λ (x : ModuleNet). x.name) same)),
  apart_from d p n ports ns at h.1 k.1,
)

numbers_apart : (d : Draft) (ports : List Port) (ns : List ℕ) → EachPair (IsAt d) ports ns → AreDistinct (map port_name ports) → NoneTwice ns
numbers_apart d [] [] h k = tt
numbers_apart d [] (n ∷ ns) h k = absurd h
numbers_apart d (p ∷ ports) [] h k = absurd h
numbers_apart d (p ∷ ports) (n ∷ ns) h k = (apart_from d p n ports ns h.0 h.1 k.0, numbers_apart d ports ns h.1 k.1)

pair_join : {X Y : Type 0} (P : X → Y → Type 0) (xs us : List X) (ys vs : List Y) → EachPair P xs ys → EachPair P us vs → EachPair P (xs ++ us) (ys ++ vs)
pair_join P [] us [] vs h k = k
pair_join P [] us (y ∷ ys) vs h k = absurd h
pair_join P (x ∷ xs) us [] vs h k = absurd h
pair_join P (x ∷ xs) us (y ∷ ys) vs h k = (h.0, pair_join P xs us ys vs h.1 k)

inputs_at : (d : Draft) (inputs : List Input) (ws : List Wire) → EachPair (IsInput d) inputs ws → EachPair (IsAt d) (flat_map input_of inputs) (numbers ws)
inputs_at d [] [] h = tt
inputs_at d [] (w ∷ ws) h = absurd h
inputs_at d (i ∷ inputs) [] h = absurd h
inputs_at d (i ∷ inputs) (w ∷ ws) h = ((h.0).there, inputs_at d inputs ws h.1)

mems_at : (d : Draft) (mems : List Mem) (ps : List MemPorts) → EachPair (AreMemPorts d) mems ps → EachPair (IsAt d) (flat_map mem_of mems) (flat_map mem_ports ps)
mems_at d [] [] h = tt
mems_at d [] (p ∷ ps) h = absurd h
mems_at d (m ∷ mems) [] h = absurd h
mems_at d (m ∷ mems) (p ∷ ps) h = ((h.0).read_address.there, ((h.0).read.there, ((h.0).enable.there, ((h.0).address.there, ((h.0).value.there, mems_at d mems ps h.1)))))

index_at : (d : Draft) (g : Group) (o : Option FilePort) (index : Option Wire) → IsIndex d g o index → EachPair (IsAt d) (index_port g o) (numbers (option_to_list index))
index_at d g None None h = tt
index_at d g None (Some w) h = absurd h
index_at d g (Some f) None h = absurd h
index_at d g (Some f) (Some w) h = (h.there, tt)

group_at : (d : Draft) (g : Group) (p : GroupPorts) → AreGroupPorts d g p → EachPair (IsAt d) (ports_of_group g) (group_ports p)
group_at d g p h = (h.enable.there, pair_join (IsAt d) (index_port g g.port) _ (numbers (option_to_list p.index)) (p.value.number ∷ []) (index_at d g g.port p.index h.index) (h.value.there, tt))

groups_at : (design : Design) (d : Draft) (ps : List WritePort) (groups : List GroupPorts) → EachPair (ArePortsOf design d) ps groups → EachPair (IsAt d) (flat_map (group_ports_of design) ps) (flat_map group_ports groups)
groups_at design d [] [] h = tt
groups_at design d [] (g ∷ groups) h = absurd h
groups_at design d (q ∷ ps) [] h = absurd h
groups_at design d (q ∷ ps) (g ∷ groups) h = pair_join (IsAt d) (group_ports_of design q) (flat_map (group_ports_of design) ps) (group_ports g) (flat_map group_ports groups) (group_at d (group_of design q) g (h.0).ports) (groups_at design d ps groups h.1)

pub ports_are_apart : PortsAreApart
ports_are_apart design d p clean h = numbers_apart d (top_ports design) (ports_in_order p) (
  h.iaddr.there,
  (
    h.idata.there,
    (
      h.mwait.there,
      pair_join (IsAt d) (flat_map input_of design.inputs) _ (numbers p.inputs) _ (inputs_at d design.inputs p.inputs h.inputs)
          (pair_join (IsAt d) (flat_map mem_of design.mems) _ (flat_map mem_ports p.mems) _ (mems_at d design.mems p.mems h.mems) (h.stall.there, (h.kill.there, groups_at design d (write_groups design) p.groups h.groups))),
    ),
  ),
) (ports_are_new design clean).apart

-- The outputs.

abbrev mem_numbers : MemPorts → List ℕ
mem_numbers m = m.enable.number ∷ m.value.number ∷ m.address.number ∷ []

abbrev group_numbers : GroupPorts → List ℕ
group_numbers g = output_numbers (group_outputs g)

mem_some : (m : MemPorts) (n : ℕ) → Among (mem_numbers m) n → Among (mem_ports m) n
mem_some m n (inl e) = inr (inr (inl e))
mem_some m n (inr (inl e)) = inr (inr (inr (inr (inl e))))
mem_some m n (inr (inr (inl e))) = inr (inr (inr (inl e)))
mem_some m n (inr (inr (inr h))) = absurd h

mem_once : (m : MemPorts) → NoneTwice (mem_ports m) → NoneTwice (mem_numbers m)
mem_once m h = let k = h.1.1 in ((k.0.1.0, (k.0.0, tt)), (((λ e. k.1.0.0 (sym e)), tt), (tt, tt)))

group_some : (g : GroupPorts) (n : ℕ) → Among (group_numbers g) n → Among (group_ports g) n
group_some g n h = go g.index h
  where
    go : (index : Option Wire) → Among (g.enable.number ∷ g.value.number ∷ numbers (option_to_list index)) n → Among (g.enable.number ∷ numbers (option_to_list index) ++ g.value.number ∷ []) n
    go None k = k
    go (Some w) (inl e) = inl e
    go (Some w) (inr (inl e)) = inr (inr (inl e))
    go (Some w) (inr (inr (inl e))) = inr (inl e)
    go (Some w) (inr (inr (inr k))) = absurd k

group_once : (g : GroupPorts) → NoneTwice (group_ports g) → NoneTwice (group_numbers g)
group_once g h = go g.index h
  where
    go : (index : Option Wire) → NoneTwice (g.enable.number ∷ numbers (option_to_list index) ++ g.value.number ∷ []) → NoneTwice (g.enable.number ∷ g.value.number ∷ numbers (option_to_list index))
    go None k = k
    go (Some w) k = ((k.0.1.0, (k.0.0, tt)), (((λ e. k.1.0.0 (sym e)), tt), (tt, tt)))

written_some : (design : Design) (k : ℕ) (mems : List MemPorts) (n : ℕ) → Among (all_numbers (written_mems design k mems)) n → Among (flat_map mem_numbers mems) n
written_some design k [] n h = h
written_some design k (m ∷ mems) n h = go (is_used design (port.Memory k)) h (written_some design (k + 1) mems n)
  where
    go : (b : Bool) → Among (all_numbers (if b then mem_outputs k m ∷ written_mems design (k + 1) mems else written_mems design (k + 1) mems)) n → (Among (all_numbers (written_mems design (k + 1) mems)) n → Among (flat_map mem_numbers mems) n)
        → Among (flat_map mem_numbers (m ∷ mems)) n
    go true (inl e) rest = inl e
    go true (inr (inl e)) rest = inr (inl e)
    go true (inr (inr (inl e))) rest = inr (inr (inl e))
    go true (inr (inr (inr x))) rest = inr (inr (inr (rest x)))
    go false x rest = inr (inr (inr (rest x)))

written_once : (design : Design) (k : ℕ) (mems : List MemPorts) → NoneTwice (flat_map mem_numbers mems) → NoneTwice (all_numbers (written_mems design k mems))
written_once design k [] h = tt
written_once design k (m ∷ mems) h = go (is_used design (port.Memory k)) (written_once design (k + 1) mems h.1.1.1) (written_some design (k + 1) mems)
  where
    go : (b : Bool) → NoneTwice (all_numbers (written_mems design (k + 1) mems)) → ((n : ℕ) → Among (all_numbers (written_mems design (k + 1) mems)) n → Among (flat_map mem_numbers mems) n)
        → NoneTwice (all_numbers (if b then mem_outputs k m ∷ written_mems design (k + 1) mems else written_mems design (k + 1) mems))
    go true rest some =
        twice_join (mem_numbers m) (all_numbers (written_mems design (k + 1) mems)) (twice_front (mem_numbers m) (flat_map mem_numbers mems) h) rest (λ n a b. apart_lists (mem_numbers m) (flat_map mem_numbers mems) h n a (some n b))
    go false rest some = rest

shown_once : (design : Design) (d : Draft) (p : Ports) → IsClean design → HasPorts design d p → NoneTwice (all_numbers (shown_outputs design p))
shown_once design d p clean h =
    let all = ports_are_apart design d p clean h in
    let mems : List ℕ = flat_map mem_ports p.mems in
    let groups : List ℕ = flat_map group_ports p.groups in
    let rest : NoneTwice (mems ++ (p.stall.number ∷ p.kill.number ∷ groups)) = twice_back (numbers p.inputs) (mems ++ (p.stall.number ∷ p.kill.number ∷ groups)) all.1.1.1 in
    let of_mems : NoneTwice (flat_map mem_numbers p.mems) = rearranged mem_numbers mem_ports mem_some mem_once p.mems (twice_front mems (p.stall.number ∷ p.kill.number ∷ groups) rest) in
    let of_groups : NoneTwice (flat_map group_numbers p.groups) = rearranged group_numbers group_ports group_some group_once p.groups (twice_back mems (p.stall.number ∷ p.kill.number ∷ groups) rest).1.1 in
    let both : NoneTwice (flat_map group_numbers p.groups ++ all_numbers (written_mems design 0 p.mems)) =
    twice_join (flat_map group_numbers p.groups) (all_numbers (written_mems design 0 p.mems)) of_groups (written_once design 0 p.mems of_mems)
    (λ n a b. apart_lists mems (p.stall.number ∷ p.kill.number ∷ groups) rest n (among_flat mem_numbers mem_ports mem_some p.mems n (written_some design 0 p.mems n b)) (inr (inr (among_flat group_numbers group_ports group_some p.groups n a)))) in
    subst NoneTwice (ap (λ l. l ++ all_numbers (written_mems design 0 p.mems)) (sym (flat_map_of_map output_numbers group_outputs p.groups)) ∙ sym (flat_map_both output_numbers (map group_outputs p.groups) (written_mems design 0 p.mems))) both

written_late : (design : Design) (d : Draft) (n : ℕ) (mems : List MemPorts) → ((k : ℕ) (m : MemPorts) → slice_get mems k ≡ Some m → is_used design (port.Memory (n + k)) ≡ true → Each (IsLate d) (mem_wires m)) → Each (IsLate d) (flat_map output_wires (written_mems design n mems))
written_late design d n [] late = tt
written_late design d n (m ∷ mems) late =
    let here : n + 0 ≡ n = omega arith in
    let rest = written_late design d (n + 1) mems (λ k x at on. let next : n + 1 + k ≡ n + suc k = omega arith in late (suc k) x at (subst (λ j. is_used design (port.Memory j) ≡ true) next on)) in
    go (is_used design (port.Memory n)) refl (λ on. late 0 m refl (subst (λ j. is_used design (port.Memory j) ≡ true) (sym here) on)) rest
  where
    go : (b : Bool) → is_used design (port.Memory n) ≡ b → (is_used design (port.Memory n) ≡ true → Each (IsLate d) (mem_wires m)) → Each (IsLate d) (flat_map output_wires (written_mems design (n + 1) mems))
        → Each (IsLate d) (flat_map output_wires (if b then mem_outputs n m ∷ written_mems design (n + 1) mems else written_mems design (n + 1) mems))
    go true on own rest = All-join (IsLate d) (mem_wires m) (flat_map output_wires (written_mems design (n + 1) mems)) (own on) rest
    go false off own rest = rest

pub outputs_are_free : OutputsAreFree
outputs_are_free design d p clean h groups mems = record {
  late = subst (Each (IsLate d)) (sym (flat_map_both output_wires (map group_outputs p.groups) (written_mems design 0 p.mems)))
      (All-join (IsLate d) (flat_map output_wires (map group_outputs p.groups)) (flat_map output_wires (written_mems design 0 p.mems)) (subst (Each (IsLate d)) (sym (flat_map_of_map output_wires group_outputs p.groups)) groups)
      (written_late design d 0 p.mems (λ k m at on. let same : 0 + k ≡ k = omega arith in mems k m at (subst (λ j. is_used design (port.Memory j) ≡ true) same on))));
  apart = shown_once design d p clean h;
}
