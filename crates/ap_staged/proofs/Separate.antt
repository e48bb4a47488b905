-- The wires that stages drive stand apart, by the drafts in which they came.
use Rattle.std.proofs.Common.{◌≡◌, ◌≢◌, ℕ, ◌+◌, ◌<◌, ◌≤◌, List, [], ◌∷◌, ◌++◌, length, flat_map, map, refl, sym, ap, subst, ◌∙◌, arith, length-append}
use Rattle.std.specs.List.{AllByRecursion as Each}
use Rattle.std.proofs.lemmas.List.{map-append}
use Rattle.std.proofs.lemmas.Option.{slice_get_within}
use Rattle.ap_bank.specs.declared.bank.FileNets.{FileNets}
use Rattle.ap_ctl.proofs.Beside.{EachPair-second}
use Rattle.ap_front.specs.declared.ports.MemPorts.{MemPorts}
use Rattle.ap_front.specs.Ports.{AreMemPorts}
use Rattle.ap_lead.specs.Leading.{given_numbers, mem_read, output_numbers}
use Rattle.ap_lead.specs.Storing.{index_numbers}
use Rattle.ap_lead.proofs.Leaving.{leads_leave_rest}
use Rattle.ap_net.specs.declared.cell.Wire.{Wire}
use Rattle.ap_net.specs.Draft.{Draft, Extends}
use Rattle.ap_net.specs.Late.{IsLate}
use Rattle.ap_net.specs.Ready.{numbers}
use Rattle.ap_net.specs.Wiring.{NoneTwice}
use Rattle.ap_net.proofs.Connected.{NoneTwice-join}
use Rattle.ap_net.proofs.Lists.{All-from, All-front, All-join, All-map, All-unmap}
use Rattle.ap_net.proofs.Wired.{number-IsNet}
use Rattle.ap_slow.specs.declared.place.SlowPlaced.{SlowPlaced}
use Rattle.ap_slow.specs.Placed.{late_nets}
use Rattle.ap_steps.specs.TopOrder.{mem_numbers}
use Rattle.ap_supply.specs.Apart.{address_wire, asked_wires, index_wires}
use Rattle.ap_staged.specs.Led.{PlacedWiresAreApart}

-- Numbers. ----------------------------------------------------------------------------------------------------------------

none_front : (xs ys : List ℕ) → NoneTwice (xs ++ ys) → NoneTwice xs
none_front [] ys h = tt
none_front (x ∷ xs) ys h = (All-front (λ n. n ≢ x) xs ys h.0, none_front xs ys h.1)

none_back : (xs ys : List ℕ) → NoneTwice (xs ++ ys) → NoneTwice ys
none_back [] ys h = h
none_back (x ∷ xs) ys h = none_back xs ys h.1

all_unlike : (xs : List ℕ) (k n : ℕ) → n < k → Each (λ m. k ≤ m) xs → Each (λ m. m ≢ n) xs
all_unlike [] k n low h = tt
all_unlike (x ∷ xs) k n low h = let above : k ≤ x = h.0 in ((λ same. absurd (omega arith)), all_unlike xs k n low h.1)

-- those from some number on, and those below it
joined : (xs ys : List ℕ) (k : ℕ) → NoneTwice xs → NoneTwice ys → Each (λ n. k ≤ n) xs → Each (λ n. n < k) ys → NoneTwice (xs ++ ys)
joined xs ys k left right above below = NoneTwice-join xs ys left right (All-from (λ n. n < k) (λ y. Each (λ x. x ≢ y) xs) (λ n low. all_unlike xs k n low above) ys below)

lower : (xs : List ℕ) (j k : ℕ) → j ≤ k → Each (λ n. n < j) xs → Each (λ n. n < k) xs
lower xs j k le h = All-from (λ n. n < j) (λ n. n < k) (λ n low. omega arith) xs h

-- Wires of units. ---------------------------------------------------------------------------------------------------------

each_asked : (P : Wire → Type 0) (xs : List SlowPlaced) → Each P (flat_map late_nets xs) → Each P (flat_map asked_wires xs)
each_asked P [] h = tt
each_asked P (x ∷ xs) h = (h.0, (h.1.0, (h.1.1.0, each_asked P xs h.1.1.1.1.1)))

unlike_asked : (n : ℕ) (xs : List SlowPlaced) → Each (λ m. m ≢ n) (numbers (flat_map late_nets xs)) → Each (λ m. m ≢ n) (numbers (flat_map asked_wires xs))
unlike_asked n xs h = All-map (λ m. m ≢ n) (λ (w : Wire). w.number) (flat_map asked_wires xs) (each_asked (λ (w : Wire). w.number ≢ n) xs (All-unmap (λ m. m ≢ n) (λ (w : Wire). w.number) (flat_map late_nets xs) h))

none_asked : (xs : List SlowPlaced) → NoneTwice (numbers (flat_map late_nets xs)) → NoneTwice (numbers (flat_map asked_wires xs))
none_asked [] h = tt
none_asked (x ∷ xs) h = (
  (h.0.0, (h.0.1.0, unlike_asked x.inputs.sel.number xs h.0.1.1.1.1)),
  (
    (h.1.0.0, unlike_asked x.inputs.a.number xs h.1.0.1.1.1),
    (unlike_asked x.inputs.b.number xs h.1.1.0.1.1, none_asked xs h.1.1.1.1.1),
  ),
)

-- Indices and addresses. --------------------------------------------------------------------------------------------------

index_is : (made : List FileNets) → numbers (flat_map index_wires made) ≡ index_numbers made
index_is [] = refl
index_is (n ∷ made) = map-append (λ (w : Wire). w.number) n.indices (flat_map index_wires made) ∙ ap (λ l. numbers n.indices ++ l) (index_is made)

each_index : (P : Wire → Type 0) (made : List FileNets) → Each (λ (n : FileNets). Each P n.indices) made → Each P (flat_map index_wires made)
each_index P [] h = tt
each_index P (n ∷ made) h = All-join P n.indices (flat_map index_wires made) h.0 (each_index P made h.1)

each_read : (P : ℕ → Type 0) (mems : List MemPorts) → Each P (flat_map mem_numbers (map mem_read mems)) → Each P (numbers (flat_map address_wire mems))
each_read P [] h = tt
each_read P (m ∷ mems) h = (h.0, each_read P mems h.1.1)

none_read : (mems : List MemPorts) → NoneTwice (flat_map mem_numbers (map mem_read mems)) → NoneTwice (numbers (flat_map address_wire mems))
none_read [] h = tt
none_read (m ∷ mems) h = (each_read (λ n. n ≢ m.read_address.number) mems h.0.1, none_read mems h.1.1)

each_address : (P : Wire → Type 0) (mems : List MemPorts) → Each (λ (m : MemPorts). P m.read_address) mems → Each P (flat_map address_wire mems)
each_address P [] h = tt
each_address P (m ∷ mems) h = (h.0, each_address P mems h.1)

grown : (a b : Draft) → Extends a b → length a.nets ≤ length b.nets
grown a b e = let (more, is) = e.nets in let long : length (a.nets ++ more) ≡ length a.nets + length more = length-append a.nets more in let same : length b.nets ≡ length (a.nets ++ more) = ap length is in omega arith

-- All of them. ------------------------------------------------------------------------------------------------------------

pub placed_wires_are_apart : PlacedWiresAreApart
placed_wires_are_apart design stages made a old new modules places units slow h e placed =
    let ports = made.declared.ports in
    let middle : ℕ = length (h.driven).nets in
    let high : ℕ = length old.nets in
    let further : length a.nets ≤ high = grown a old e in
    let first : length (h.first).nets ≤ middle = grown h.first h.driven h.drives.extends in
    let second : middle ≤ length a.nets = grown h.driven a h.stores.extends in
    let asked : NoneTwice (numbers (flat_map asked_wires slow)) = none_asked slow placed.apart in
    let above : Each (λ n. high ≤ n) (numbers (flat_map asked_wires slow)) = All-map (λ n. high ≤ n) (λ (w : Wire). w.number) (flat_map asked_wires slow) (each_asked (λ (w : Wire). high ≤ w.number) slow placed.above) in
    let reads : NoneTwice (numbers (flat_map index_wires made.files)) = subst NoneTwice (sym (index_is made.files)) h.stores.apart in
    let from : Each (λ n. middle ≤ n) (numbers (flat_map index_wires made.files)) = subst (Each (λ n. middle ≤ n)) (sym (index_is made.files)) h.stores.above in
    let under : Each (λ n. n < length a.nets) (numbers (flat_map index_wires made.files)) = All-map (λ n. n < length a.nets) (λ (w : Wire). w.number) (flat_map index_wires made.files)
    (each_index (λ (w : Wire). w.number < length a.nets) made.files
    (All-from (λ (n : FileNets). Each (IsLate a) n.indices) (λ (n : FileNets). Each (λ (w : Wire). w.number < length a.nets) n.indices) (λ n late. All-from (IsLate a) (λ (w : Wire). w.number < length a.nets) (λ w l. number-IsNet a.nets w l.net) n.indices late) made.files h.stores.late_indices)) in
    let apart = (leads_leave_rest design stages made a h).apart in
    let mems : NoneTwice (numbers (flat_map address_wire ports.mems)) = none_read ports.mems (none_front (flat_map mem_numbers (map mem_read ports.mems)) (output_numbers ports)
    (none_back (given_numbers ports) (flat_map mem_numbers (map mem_read ports.mems) ++ output_numbers ports) apart.1.1.1.1)) in
    let below : Each (λ n. n < length (h.first).nets) (numbers (flat_map address_wire ports.mems)) = All-map (λ n. n < length (h.first).nets) (λ (w : Wire). w.number) (flat_map address_wire ports.mems)
    (each_address (λ (w : Wire). w.number < length (h.first).nets) ports.mems
    (EachPair-second (AreMemPorts h.first) (λ (m : MemPorts). m.read_address.number < length (h.first).nets) (λ m q is. slice_get_within (h.first).nets q.read_address.number _ is.read_address.there) design.mems ports.mems h.declares.ports.mems)) in
    let both : NoneTwice (numbers (flat_map index_wires made.files ++ flat_map address_wire ports.mems)) =
    subst NoneTwice (sym (map-append (λ (w : Wire). w.number) (flat_map index_wires made.files) (flat_map address_wire ports.mems)))
    (joined (numbers (flat_map index_wires made.files)) (numbers (flat_map address_wire ports.mems)) middle reads mems from (lower (numbers (flat_map address_wire ports.mems)) (length (h.first).nets) middle first below)) in
    let all_below : Each (λ n. n < high) (numbers (flat_map index_wires made.files ++ flat_map address_wire ports.mems)) =
    subst (Each (λ n. n < high)) (sym (map-append (λ (w : Wire). w.number) (flat_map index_wires made.files) (flat_map address_wire ports.mems)))
    (All-join (λ n. n < high) (numbers (flat_map index_wires made.files)) (numbers (flat_map address_wire ports.mems)) (lower (numbers (flat_map index_wires made.files)) (length a.nets) high further under)
    (let up : length (h.first).nets ≤ high = omega arith in lower (numbers (flat_map address_wire ports.mems)) (length (h.first).nets) high up below)) in
    subst NoneTwice (sym (map-append (λ (w : Wire). w.number) (flat_map asked_wires slow) (flat_map index_wires made.files ++ flat_map address_wire ports.mems)))
    (joined (numbers (flat_map asked_wires slow)) (numbers (flat_map index_wires made.files ++ flat_map address_wire ports.mems)) high asked both above all_below)
