-- An instance over declared nets and fresh wires is a piece of circuit.
use Rattle.std.proofs.Common.{◌≡◌, ◌≢◌, ℕ, suc, zero, ◌+◌, ◌-◌, ◌<◌, ◌≤◌, List, [], ◌∷◌, ◌++◌, length, get_or, map, take, drop, Some, Bool, true, false, refl, sym, ap, subst, ◌∙◌, arith, ⊎_elim, append-nil, append_assoc, length-append, add-one, drop-cons}
use Rattle.std.specs.Prelude.{slice_get, if◌then◌else◌}
use Rattle.std.specs.List.{AllByRecursion as Each}
use Rattle.std.proofs.lemmas.Bool.{cases_lt}
use Rattle.std.proofs.lemmas.List.{map-append, take_more}
use Rattle.std.proofs.lemmas.List.Elements.{filter_map-append}
use Rattle.std.proofs.lemmas.List.Sums.{sum_by-append}
use Rattle.std.proofs.lemmas.Option.{slice_get_within}
use Rattle.ap_net.specs.declared.cell.Wire.{Wire}
use Rattle.ap_net.specs.declared.net.Role.TheVariants as role
use Rattle.ap_net.specs.declared.net.ModuleNet.{ModuleNet}
use Rattle.ap_net.specs.declared.net.Port.{Port}
use Rattle.ap_net.specs.declared.net.Assign.{Assign}
use Rattle.ap_net.specs.declared.net.Instance.{Instance}
use Rattle.ap_net.specs.Names.{IsNew, IsNotNumbered, HasFresh, numbered}
use Rattle.ap_net.specs.Cells.{IsNet}
use Rattle.ap_net.specs.Wiring.{IsSource, IsFree, IsWired, IsConnected, Undriven, Unjoined, NoneTwice, driven_among, driven_by, names_taken, taken_names, reset_of}
use Rattle.ap_net.specs.Modules.{ModuleText, outputs, port_by, ports_among}
use Rattle.ap_net.specs.Draft.{Draft, Extends, Adds, SettlesOpen, names_of, wire_count, is_wire}
use Rattle.ap_net.specs.Ready.{Dependence, Ready, needed, output}
use Rattle.ap_net.specs.Making.{Closes, Makes}
use Rattle.ap_net.specs.Placing.{Places, output_widths, input_widths, wires_from, fresh_nets, merged, output_wires, placed_instance, with_placed}
use Rattle.ap_net.proofs.Lists.{All-join, All-front, All-back, All-from, get_left, get_either, get_end, some_same}
use Rattle.ap_net.proofs.Wired.{IsNet-more, IsNet-end, number-IsNet}
use Rattle.ap_net.proofs.Connected.{driven_within}
use Rattle.ap_net.proofs.Drafts.{Settles-before, Adds-trans}
use Rattle.ap_net.proofs.Growing.{ReadyAfter-Feeds}
use Rattle.ap_net.proofs.Making.{Closes-trans}
use Rattle.ap_net.proofs.Numbering.{count_cons}

-- Lists by the flags of ports. -------------------------------------------------------------------------------------------

pub width-wires_from : (n : ℕ) (widths : List ℕ) → map (λ (w : Wire). w.width) (wires_from n widths) ≡ widths
width-wires_from n [] = refl
width-wires_from n (width ∷ widths) = ap (λ l. width ∷ l) (width-wires_from (n + 1) widths)

pub length-wires_from : (n : ℕ) (widths : List ℕ) → length (wires_from n widths) ≡ length widths
length-wires_from n [] = refl
length-wires_from n (width ∷ widths) = ap suc (length-wires_from (n + 1) widths)

-- the merged nets are as wide as their ports
pub merged-widths : (ports : List Port) (inputs outs : List Wire) → map (λ (w : Wire). w.width) inputs ≡ input_widths ports → map (λ (w : Wire). w.width) outs ≡ output_widths ports
    → map (λ (w : Wire). w.width) (merged (map (λ (p : Port). p.output) ports) inputs outs) ≡ map (λ (p : Port). p.width) ports
merged-widths [] inputs outs e f = refl
merged-widths (p ∷ ports) inputs outs e f = go (merged-widths ports) p.output inputs outs e f
  where
    go : ((inputs outs : List Wire) → map (λ (w : Wire). w.width) inputs ≡ input_widths ports → map (λ (w : Wire). w.width) outs ≡ output_widths ports → map (λ (w : Wire). w.width) (merged (map (λ (q : Port). q.output) ports) inputs outs) ≡ map (λ (q : Port). q.width) ports)
        → (b : Bool) (inputs outs : List Wire) → map (λ (w : Wire). w.width) inputs ≡ (if b then input_widths ports else p.width ∷ input_widths ports) → map (λ (w : Wire). w.width) outs ≡ (if b then p.width ∷ output_widths ports else output_widths ports)
        → map (λ (w : Wire). w.width) (merged (b ∷ map (λ (p : Port). p.output) ports) inputs outs) ≡ p.width ∷ map (λ (p : Port). p.width) ports
    go later true inputs [] e f = cc
    go later true inputs (w ∷ outs) e f = let head : w.width ≡ p.width = cc in let tail : map (λ (w : Wire). w.width) outs ≡ output_widths ports = cc in (λ i. head i ∷ later inputs outs e tail i)
    go later false [] outs e f = cc
    go later false (w ∷ inputs) outs e f = let head : w.width ≡ p.width = cc in let tail : map (λ (w : Wire). w.width) inputs ≡ input_widths ports = cc in (λ i. head i ∷ later inputs outs tail f i)

-- what holds of inputs and outputs holds of the merged nets
pub merged-all : (P : Wire → Type 0) (drives : List Bool) (inputs outs : List Wire) → Each P inputs → Each P outs → Each P (merged drives inputs outs)
merged-all P [] inputs outs p q = tt
merged-all P (true ∷ drives) inputs [] p q = tt
merged-all P (true ∷ drives) inputs (w ∷ outs) p q = (q.0, merged-all P drives inputs outs p q.1)
merged-all P (false ∷ drives) [] outs p q = tt
merged-all P (false ∷ drives) (w ∷ inputs) outs p q = (p.0, merged-all P drives inputs outs p.1 q)

-- by the flag of each
abbrev pub ByFlag : (P Q : Wire → Type 0) → Bool → Wire → Type 0
ByFlag P Q true w = Q w
ByFlag P Q false w = P w

pub merged-at : (P Q : Wire → Type 0) (drives : List Bool) (inputs outs : List Wire) → Each P inputs → Each Q outs → (p : ℕ) (w : Wire) (d : Bool) → slice_get (merged drives inputs outs) p ≡ Some w → slice_get drives p ≡ Some d → ByFlag P Q d w
merged-at P Q [] inputs outs h g p w d at flag = cc
merged-at P Q (true ∷ drives) inputs [] h g p w d at flag = cc
merged-at P Q (true ∷ drives) inputs (x ∷ outs) h g zero w d at flag = let same : x ≡ w = some_same at in let same' : true ≡ d = some_same flag in rw (← same, ← same') g.0
merged-at P Q (true ∷ drives) inputs (x ∷ outs) h g (suc p) w d at flag = merged-at P Q drives inputs outs h g.1 p w d at flag
merged-at P Q (false ∷ drives) [] outs h g p w d at flag = cc
merged-at P Q (false ∷ drives) (x ∷ inputs) outs h g zero w d at flag = let same : x ≡ w = some_same at in let same' : false ≡ d = some_same flag in rw (← same, ← same') h.0
merged-at P Q (false ∷ drives) (x ∷ inputs) outs h g (suc p) w d at flag = merged-at P Q drives inputs outs h.1 g p w d at flag

-- the driven ones are the outputs
pub driven-merged : (ports : List Port) (inputs outs : List Wire) → map (λ (w : Wire). w.width) inputs ≡ input_widths ports → map (λ (w : Wire). w.width) outs ≡ output_widths ports
    → driven_among (map (λ (p : Port). p.output) ports) (merged (map (λ (p : Port). p.output) ports) inputs outs) ≡ map (λ (w : Wire). w.number) outs
driven-merged [] inputs [] e f = refl
driven-merged [] inputs (w ∷ outs) e f = cc
driven-merged (p ∷ ports) inputs outs e f = go (driven-merged ports) p.output inputs outs e f
  where
    go : ((inputs outs : List Wire) → map (λ (w : Wire). w.width) inputs ≡ input_widths ports → map (λ (w : Wire). w.width) outs ≡ output_widths ports
        → driven_among (map (λ (q : Port). q.output) ports) (merged (map (λ (q : Port). q.output) ports) inputs outs) ≡ map (λ (w : Wire). w.number) outs)
        → (b : Bool) (inputs outs : List Wire) → map (λ (w : Wire). w.width) inputs ≡ (if b then input_widths ports else p.width ∷ input_widths ports) → map (λ (w : Wire). w.width) outs ≡ (if b then p.width ∷ output_widths ports else output_widths ports)
        → driven_among (b ∷ map (λ (p : Port). p.output) ports) (merged (b ∷ map (λ (p : Port). p.output) ports) inputs outs) ≡ map (λ (w : Wire). w.number) outs
    go later true inputs [] e f = cc
    go later true inputs (w ∷ outs) e f = let tail : map (λ (w : Wire). w.width) outs ≡ output_widths ports = cc in ap (λ l. w.number ∷ l) (later inputs outs e tail)
    go later false [] outs e f = cc
    go later false (w ∷ inputs) outs e f = let tail : map (λ (w : Wire). w.width) inputs ≡ input_widths ports = cc in later inputs outs tail f

-- what is driven stands at an output
pub is_driven : (drives : List Bool) (nets : List Wire) (j n : ℕ) → slice_get (driven_among drives nets) j ≡ Some n → (p : ℕ) × (w : Wire) × (slice_get nets p ≡ Some w) × (slice_get drives p ≡ Some true) × (w.number ≡ n)
is_driven [] nets j n at = cc
is_driven (d ∷ drives) [] j n at = cc
is_driven (true ∷ drives) (w ∷ nets) zero n at = (0, w, refl, refl, some_same at)
is_driven (true ∷ drives) (w ∷ nets) (suc j) n at = let later = is_driven drives nets j n at in (suc later.0, later.1, later.2, later.3, later.4)
is_driven (false ∷ drives) (w ∷ nets) j n at = let later = is_driven drives nets j n at in (suc later.0, later.1, later.2, later.3, later.4)

-- what is needed of merged nets is among the inputs
pub needed_merged : (P : ℕ → Type 0) (needs : ℕ → Bool) (drives : List Bool) (inputs outs : List Wire) → Each (λ (w : Wire). P w.number) inputs → Each P (needed needs drives (merged drives inputs outs))
needed_merged P needs [] inputs outs h = tt
needed_merged P needs (true ∷ drives) inputs [] h = tt
needed_merged P needs (true ∷ drives) inputs (w ∷ outs) h = needed_merged P (λ q. needs (suc q)) drives inputs outs h
needed_merged P needs (false ∷ drives) [] outs h = tt
needed_merged P needs (false ∷ drives) (w ∷ inputs) outs h = go (needs 0) (needed_merged P (λ q. needs (suc q)) drives inputs outs h.1)
  where
    go : (b : Bool) → Each P (needed (λ q. needs (suc q)) drives (merged drives inputs outs)) → Each P (if b then w.number ∷ needed (λ q. needs (suc q)) drives (merged drives inputs outs) else needed (λ q. needs (suc q)) drives (merged drives inputs outs))
    go true rest = (h.0, rest)
    go false rest = rest

-- Fresh wires. -----------------------------------------------------------------------------------------------------------

pub wires_from-above : (n : ℕ) (widths : List ℕ) → Each (λ (w : Wire). n ≤ w.number) (wires_from n widths)
wires_from-above n [] = tt
wires_from-above n (width ∷ widths) = (omega arith, All-from (λ (w : Wire). n + 1 ≤ w.number) (λ (w : Wire). n ≤ w.number) (λ w le. omega arith) (wires_from (n + 1) widths) (wires_from-above (n + 1) widths))

numbers-above : (n : ℕ) (widths : List ℕ) → Each (λ m. n ≤ m) (map (λ (w : Wire). w.number) (wires_from n widths))
numbers-above n [] = tt
numbers-above n (width ∷ widths) = (omega arith, All-from (λ m. n + 1 ≤ m) (λ m. n ≤ m) (λ m le. omega arith) (map (λ (w : Wire). w.number) (wires_from (n + 1) widths)) (numbers-above (n + 1) widths))

numbers-apart : (n : ℕ) (widths : List ℕ) → NoneTwice (map (λ (w : Wire). w.number) (wires_from n widths))
numbers-apart n [] = tt
numbers-apart n (width ∷ widths) = (All-from (λ m. n + 1 ≤ m) (λ m. m ≢ n) (λ m le e. omega arith) (map (λ (w : Wire). w.number) (wires_from (n + 1) widths)) (numbers-above (n + 1) widths), numbers-apart (n + 1) widths)

wire_number_at : (n : ℕ) (widths : List ℕ) (j : ℕ) → j < length widths → slice_get (map (λ (w : Wire). w.number) (wires_from n widths)) j ≡ Some (n + j)
wire_number_at n [] j lt = absurd (omega arith)
wire_number_at n (width ∷ widths) zero lt = let e : n ≡ n + 0 = omega arith in ap Some e
wire_number_at n (width ∷ widths) (suc j) lt = let e : n + 1 + j ≡ n + suc j = omega arith in wire_number_at (n + 1) widths j (omega arith) ∙ ap Some e

-- each fresh wire is declared behind the nets
pub wires_from-IsNet : (nets : List ModuleNet) (count : ℕ) (widths : List ℕ) → Each (λ w. (1 ≤ w) × (w ≤ 64)) widths → Each (IsNet (nets ++ fresh_nets count widths)) (wires_from (length nets) widths)
wires_from-IsNet nets count [] bounds = tt
wires_from-IsNet nets count (width ∷ widths) bounds =
    let first : ModuleNet = record { name = numbered count; width = width; role = role.Plain } in
    let assoc : (nets ++ first ∷ []) ++ fresh_nets (count + 1) widths ≡ nets ++ first ∷ fresh_nets (count + 1) widths = append_assoc nets (first ∷ []) (fresh_nets (count + 1) widths) in
    let long : length (nets ++ first ∷ []) ≡ length nets + 1 = length-append nets (first ∷ []) in
    let rest = wires_from-IsNet (nets ++ first ∷ []) (count + 1) widths bounds.1 in (
      subst (λ (ns : List ModuleNet). IsNet ns (record { number = length nets; width = width })) assoc (IsNet-more (nets ++ first ∷ []) (fresh_nets (count + 1) widths) _ (IsNet-end nets first bounds.0.0 bounds.0.1)),
      subst (λ n. Each (IsNet (nets ++ first ∷ fresh_nets (count + 1) widths)) (wires_from n widths)) long (subst (λ (ns : List ModuleNet). Each (IsNet ns) (wires_from (length (nets ++ first ∷ [])) widths)) assoc rest),
    )

-- the widths of outputs are those of ports
pub outputs_bounded : (ports : List Port) → Each (λ (p : Port). (1 ≤ p.width) × (p.width ≤ 64)) ports → Each (λ w. (1 ≤ w) × (w ≤ 64)) (output_widths ports)
outputs_bounded [] h = tt
outputs_bounded (p ∷ ports) h = go (outputs_bounded ports h.1) p.output
  where
    go : Each (λ w. (1 ≤ w) × (w ≤ 64)) (output_widths ports) → (b : Bool) → Each (λ w. (1 ≤ w) × (w ≤ 64)) (if b then p.width ∷ output_widths ports else output_widths ports)
    go rest true = (h.0, rest)
    go rest false = rest

-- a fresh net is a wire
fresh_plain : (count : ℕ) (widths : List ℕ) (n : ℕ) (net : ModuleNet) → slice_get (fresh_nets count widths) n ≡ Some net → net.role ≡ role.Plain
fresh_plain count [] n net at = cc
fresh_plain count (width ∷ widths) zero net at = sym (ap (λ (x : ModuleNet). x.role) (some_same at))
fresh_plain count (width ∷ widths) (suc n) net at = fresh_plain (count + 1) widths n net at

-- and a net behind those that were there
behind : (nets : List ModuleNet) (count : ℕ) (widths : List ℕ) (n : ℕ) (net : ModuleNet) → length nets ≤ n → slice_get (nets ++ fresh_nets count widths) n ≡ Some net → net.role ≡ role.Plain
behind nets count widths n net le at =
    ⊎_elim (λ h. let lt = slice_get_within nets n net h in absurd (omega arith)) (λ h. fresh_plain count widths h.0 net h.2) (get_either nets (fresh_nets count widths) n net at)

numbers-IsFree : (nets : List ModuleNet) (count n : ℕ) (widths widths' : List ℕ) → length nets ≤ n → Each (IsFree (nets ++ fresh_nets count widths)) (map (λ (w : Wire). w.number) (wires_from n widths'))
numbers-IsFree nets count n widths [] le = tt
numbers-IsFree nets count n widths (width ∷ widths') le = ((λ net at s. subst IsSource (behind nets count widths n net le at) s), numbers-IsFree nets count (n + 1) widths widths' (omega arith))

fresh_nets-append : (count : ℕ) (xs : List ℕ) (y : ℕ) → fresh_nets count (xs ++ y ∷ []) ≡ fresh_nets count xs ++ record { name = numbered (count + length xs); width = y; role = role.Plain } ∷ []
fresh_nets-append count [] y = let e : count ≡ count + 0 = omega arith in ap (λ k. record { name = numbered k; width = y; role = role.Plain } ∷ []) e
fresh_nets-append count (x ∷ xs) y =
    let e : count + 1 + length xs ≡ count + suc (length xs) = omega arith in
    ap (λ l. record { name = numbered count; width = x; role = role.Plain } ∷ l) (fresh_nets-append (count + 1) xs y ∙ ap (λ k. fresh_nets (count + 1) xs ++ record { name = numbered k; width = y; role = role.Plain } ∷ []) e)

wires_from-append : (n : ℕ) (xs : List ℕ) (y : ℕ) → wires_from n (xs ++ y ∷ []) ≡ wires_from n xs ++ record { number = n + length xs; width = y } ∷ []
wires_from-append n [] y = let e : n ≡ n + 0 = omega arith in ap (λ k. record { number = k; width = y } ∷ []) e
wires_from-append n (x ∷ xs) y =
    let e : n + 1 + length xs ≡ n + suc (length xs) = omega arith in
    ap (λ l. record { number = n; width = x } ∷ l) (wires_from-append (n + 1) xs y ∙ ap (λ k. wires_from (n + 1) xs ++ record { number = k; width = y } ∷ []) e)

pub length-fresh_nets : (count : ℕ) (widths : List ℕ) → length (fresh_nets count widths) ≡ length widths
length-fresh_nets count [] = refl
length-fresh_nets count (width ∷ widths) = ap suc (length-fresh_nets (count + 1) widths)

fresh_count : (count : ℕ) (widths : List ℕ) → wire_count (fresh_nets count widths) ≡ length widths
fresh_count count [] = refl
fresh_count count (width ∷ widths) =
    let rest = fresh_count (count + 1) widths in
    count_cons is_wire (record { name = numbered count; width = width; role = role.Plain }) (fresh_nets (count + 1) widths) ∙ (let e : 1 + wire_count (fresh_nets (count + 1) widths) ≡ suc (length widths) = omega arith in e)

wire_count-append : (nets more : List ModuleNet) → wire_count (nets ++ more) ≡ wire_count nets + wire_count more
wire_count-append nets more = sum_by-append (λ (x : ModuleNet). if is_wire x then 1 else 0) nets more

output_widths-append : (xs : List Port) (p : Port) → output_widths (xs ++ p ∷ []) ≡ output_widths xs ++ output_widths (p ∷ [])
output_widths-append [] p = refl
output_widths-append (x ∷ xs) p = go (output_widths-append xs p) x.output
  where
    go : output_widths (xs ++ p ∷ []) ≡ output_widths xs ++ output_widths (p ∷ []) → (b : Bool) → (if b then x.width ∷ output_widths (xs ++ p ∷ []) else output_widths (xs ++ p ∷ [])) ≡ (if b then x.width ∷ output_widths xs else output_widths xs) ++ output_widths (p ∷ [])
    go later true = ap (λ l. x.width ∷ l) later
    go later false = later

-- the next port is no output, or one
widths_more : (ports : List Port) (i : ℕ) (p : Port) → i < length ports → p ≡ get_or ports i p → output_widths (take (i + 1) ports) ≡ output_widths (take i ports) ++ output_widths (p ∷ [])
widths_more ports i p lt e = ap output_widths (take_more ports i p lt) ∙ output_widths-append (take i ports) (get_or ports i p) ∙ ap (λ (q : Port). output_widths (take i ports) ++ output_widths (q ∷ [])) (sym e)

pub widths_skip : (ports : List Port) (i : ℕ) (p : Port) → i < length ports → p ≡ get_or ports i p → p.output ≡ false → output_widths (take (i + 1) ports) ≡ output_widths (take i ports)
widths_skip ports i p lt e off = widths_more ports i p lt e ∙ ap (λ b. output_widths (take i ports) ++ (if b then p.width ∷ [] else [])) off ∙ append-nil (output_widths (take i ports))

widths_next : (ports : List Port) (i : ℕ) (p : Port) → i < length ports → p ≡ get_or ports i p → p.output ≡ true → output_widths (take (i + 1) ports) ≡ output_widths (take i ports) ++ p.width ∷ []
widths_next ports i p lt e on = widths_more ports i p lt e ∙ ap (λ b. output_widths (take i ports) ++ (if b then p.width ∷ [] else [])) on

-- one fresh wire more
pub nets_next : (nets : List ModuleNet) (ports : List Port) (i : ℕ) (p : Port) → i < length ports → p ≡ get_or ports i p → p.output ≡ true
    → (nets ++ fresh_nets (wire_count nets) (output_widths (take i ports))) ++ record { name = numbered (wire_count (nets ++ fresh_nets (wire_count nets) (output_widths (take i ports)))); width = p.width; role = role.Plain } ∷ []
    ≡ nets ++ fresh_nets (wire_count nets) (output_widths (take (i + 1) ports))
nets_next nets ports i p lt e on =
    let ws : List ℕ = output_widths (take i ports) in
    let count : wire_count (nets ++ fresh_nets (wire_count nets) ws) ≡ wire_count nets + length ws = wire_count-append nets (fresh_nets (wire_count nets) ws) ∙ ap (λ n. wire_count nets + n) (fresh_count (wire_count nets) ws) in
    append_assoc nets (fresh_nets (wire_count nets) ws) (record { name = numbered (wire_count (nets ++ fresh_nets (wire_count nets) ws)); width = p.width; role = role.Plain } ∷ [])
    ∙ ap (λ k. nets ++ (fresh_nets (wire_count nets) ws ++ record { name = numbered k; width = p.width; role = role.Plain } ∷ [])) count
    ∙ ap (λ l. nets ++ l) (sym (fresh_nets-append (wire_count nets) ws p.width) ∙ ap (fresh_nets (wire_count nets)) (sym (widths_next ports i p lt e on)))

pub wires_next : (nets : List ModuleNet) (ports : List Port) (i : ℕ) (p : Port) → i < length ports → p ≡ get_or ports i p → p.output ≡ true
    → wires_from (length nets) (output_widths (take i ports)) ++ record { number = length (nets ++ fresh_nets (wire_count nets) (output_widths (take i ports))); width = p.width } ∷ []
    ≡ wires_from (length nets) (output_widths (take (i + 1) ports))
wires_next nets ports i p lt e on =
    let ws : List ℕ = output_widths (take i ports) in
    let long : length (nets ++ fresh_nets (wire_count nets) ws) ≡ length nets + length ws = length-append nets (fresh_nets (wire_count nets) ws) ∙ ap (λ n. length nets + n) (length-fresh_nets (wire_count nets) ws) in
    ap (λ k. wires_from (length nets) ws ++ record { number = k; width = p.width } ∷ []) long
    ∙ sym (wires_from-append (length nets) ws p.width) ∙ ap (wires_from (length nets)) (sym (widths_next ports i p lt e on))

-- The nets of the ports, one after another. ------------------------------------------------------------------------------

pub next_port : (ports : List Port) (i : ℕ) (p : Port) → i < length ports → p ≡ get_or ports i p → drop i ports ≡ p ∷ drop (i + 1) ports
next_port ports i p lt e = rw add-one (drop-cons ports i p lt ∙ ap (λ x. x ∷ drop (suc i) ports) (sym e))

next_wire : (wires : List Wire) (i : ℕ) (w : Wire) → i < length wires → w ≡ get_or wires i w → drop i wires ≡ w ∷ drop (i + 1) wires
next_wire wires i w lt e = rw add-one (drop-cons wires i w lt ∙ ap (λ x. x ∷ drop (suc i) wires) (sym e))

-- how many inputs and outputs are left
pub record Left (ports : List Port) (inputs outs : List Wire) (i used driven : ℕ) : Type 0 where
  pub inputs_left : used + length (input_widths (drop i ports)) ≡ length inputs
  pub outputs_left : driven + length (output_widths (drop i ports)) ≡ length outs

outputs_of_next : (ports : List Port) (i : ℕ) (p : Port) → drop i ports ≡ p ∷ drop (i + 1) ports → p.output ≡ true → (output_widths (drop i ports) ≡ p.width ∷ output_widths (drop (i + 1) ports)) × (input_widths (drop i ports) ≡ input_widths (drop (i + 1) ports))
outputs_of_next ports i p e on = (
  ap output_widths e ∙ ap (λ b. if b then p.width ∷ output_widths (drop (i + 1) ports) else output_widths (drop (i + 1) ports)) on,
  ap input_widths e ∙ ap (λ b. if b then input_widths (drop (i + 1) ports) else p.width ∷ input_widths (drop (i + 1) ports)) on,
)

inputs_of_next : (ports : List Port) (i : ℕ) (p : Port) → drop i ports ≡ p ∷ drop (i + 1) ports → p.output ≡ false → (output_widths (drop i ports) ≡ output_widths (drop (i + 1) ports)) × (input_widths (drop i ports) ≡ p.width ∷ input_widths (drop (i + 1) ports))
inputs_of_next ports i p e off = (
  ap output_widths e ∙ ap (λ b. if b then p.width ∷ output_widths (drop (i + 1) ports) else output_widths (drop (i + 1) ports)) off,
  ap input_widths e ∙ ap (λ b. if b then input_widths (drop (i + 1) ports) else p.width ∷ input_widths (drop (i + 1) ports)) off,
)

pub output_left : (ports : List Port) (inputs outs : List Wire) (i used driven : ℕ) (p : Port) → i < length ports → p ≡ get_or ports i p → p.output ≡ true → Left ports inputs outs i used driven → driven < length outs
output_left ports inputs outs i used driven p lt e on left =
    let a = (outputs_of_next ports i p (next_port ports i p lt e) on).0 in
    let b : length (output_widths (drop i ports)) ≡ suc (length (output_widths (drop (i + 1) ports))) = ap length a in
    let c = left.outputs_left in
    omega arith

pub input_left : (ports : List Port) (inputs outs : List Wire) (i used driven : ℕ) (p : Port) → i < length ports → p ≡ get_or ports i p → p.output ≡ false → Left ports inputs outs i used driven → used < length inputs
input_left ports inputs outs i used driven p lt e off left =
    let a = (inputs_of_next ports i p (next_port ports i p lt e) off).1 in
    let b : length (input_widths (drop i ports)) ≡ suc (length (input_widths (drop (i + 1) ports))) = ap length a in
    let c = left.inputs_left in
    omega arith

pub Left-output : (ports : List Port) (inputs outs : List Wire) (i used driven : ℕ) (p : Port) → i < length ports → p ≡ get_or ports i p → p.output ≡ true → Left ports inputs outs i used driven → Left ports inputs outs (i + 1) used (driven + 1)
Left-output ports inputs outs i used driven p lt e on left =
    let a = outputs_of_next ports i p (next_port ports i p lt e) on in
    let b : length (output_widths (drop i ports)) ≡ suc (length (output_widths (drop (i + 1) ports))) = ap length a.0 in
    let b' : length (input_widths (drop i ports)) ≡ length (input_widths (drop (i + 1) ports)) = ap length a.1 in
    let c = left.outputs_left in
    let c' = left.inputs_left in
    record { inputs_left = omega arith; outputs_left = omega arith }

pub Left-input : (ports : List Port) (inputs outs : List Wire) (i used driven : ℕ) (p : Port) → i < length ports → p ≡ get_or ports i p → p.output ≡ false → Left ports inputs outs i used driven → Left ports inputs outs (i + 1) (used + 1) driven
Left-input ports inputs outs i used driven p lt e off left =
    let a = inputs_of_next ports i p (next_port ports i p lt e) off in
    let b : length (output_widths (drop i ports)) ≡ length (output_widths (drop (i + 1) ports)) = ap length a.0 in
    let b' : length (input_widths (drop i ports)) ≡ suc (length (input_widths (drop (i + 1) ports))) = ap length a.1 in
    let c = left.outputs_left in
    let c' = left.inputs_left in
    record { inputs_left = omega arith; outputs_left = omega arith }

-- the nets so far and those that are left
abbrev pub Merging : List Port → List Wire → List Wire → List Wire → ℕ → ℕ → ℕ → Type 0
Merging ports inputs outs nets i used driven = nets ++ merged (map (λ (p : Port). p.output) (drop i ports)) (drop used inputs) (drop driven outs) ≡ merged (map (λ (p : Port). p.output) ports) inputs outs

pub Merging-output : (ports : List Port) (inputs outs nets : List Wire) (i used driven : ℕ) (p : Port) (w : Wire) → i < length ports → p ≡ get_or ports i p → p.output ≡ true → driven < length outs → w ≡ get_or outs driven w
    → Merging ports inputs outs nets i used driven → Merging ports inputs outs (nets ++ w ∷ []) (i + 1) used (driven + 1)
Merging-output ports inputs outs nets i used driven p w lt e on lt' e' h =
    append_assoc nets (w ∷ []) (merged (map (λ (q : Port). q.output) (drop (i + 1) ports)) (drop used inputs) (drop (driven + 1) outs))
    ∙ ap (λ l. nets ++ l) (λ j. merged (sym on j ∷ map (λ (q : Port). q.output) (drop (i + 1) ports)) (drop used inputs) (w ∷ drop (driven + 1) outs))
    ∙ ap (λ l. nets ++ l) (λ j. merged (map (λ (q : Port). q.output) (sym (next_port ports i p lt e) j)) (drop used inputs) (sym (next_wire outs driven w lt' e') j))
    ∙ h

pub Merging-input : (ports : List Port) (inputs outs nets : List Wire) (i used driven : ℕ) (p : Port) (w : Wire) → i < length ports → p ≡ get_or ports i p → p.output ≡ false → used < length inputs → w ≡ get_or inputs used w
    → Merging ports inputs outs nets i used driven → Merging ports inputs outs (nets ++ w ∷ []) (i + 1) (used + 1) driven
Merging-input ports inputs outs nets i used driven p w lt e off lt' e' h =
    append_assoc nets (w ∷ []) (merged (map (λ (q : Port). q.output) (drop (i + 1) ports)) (drop (used + 1) inputs) (drop driven outs))
    ∙ ap (λ l. nets ++ l) (λ j. merged (sym off j ∷ map (λ (q : Port). q.output) (drop (i + 1) ports)) (w ∷ drop (used + 1) inputs) (drop driven outs))
    ∙ ap (λ l. nets ++ l) (λ j. merged (map (λ (q : Port). q.output) (sym (next_port ports i p lt e) j)) (sym (next_wire inputs used w lt' e') j) (drop driven outs))
    ∙ h

-- A placed instance as a piece of circuit. ------------------------------------------------------------------------------

-- the connected nets are as wide as the ports
pub placed-widths : (n : ℕ) (m : ModuleText) (inputs : List Wire) → map (λ (w : Wire). w.width) inputs ≡ input_widths m.ports → map (λ (w : Wire). w.width) (merged (outputs m) inputs (output_wires n m)) ≡ map (λ (p : Port). p.width) m.ports
placed-widths n m inputs wide = merged-widths m.ports inputs (output_wires n m) wide (width-wires_from n (output_widths m.ports))

module _ (d : Draft) (name : List ℕ) (m : ModuleText) (inputs : List Wire) (wired : IsWired d.nets d.assigns d.nexts) (connected : IsConnected d.nets d.assigns d.instances)
    (wide : map (λ (w : Wire). w.width) inputs ≡ input_widths m.ports) (nets : Each (IsNet d.nets) inputs) where
  abbrev count : ℕ
  count = length d.nets

  abbrev widths : List ℕ
  widths = output_widths m.ports

  abbrev more : List ModuleNet
  more = fresh_nets (wire_count d.nets) widths

  abbrev outs : List Wire
  outs = wires_from count widths

  abbrev whole : List Wire
  whole = merged (outputs m) inputs outs

  abbrev placed : Instance
  placed = placed_instance count name m inputs

  abbrev new : Draft
  new = with_placed d name m inputs

  numbers : driven_among (outputs m) whole ≡ map (λ (w : Wire). w.number) outs
  numbers = driven-merged m.ports inputs outs wide (width-wires_from count widths)

  pub placed-nets : Each (λ (p : Port). (1 ≤ p.width) × (p.width ≤ 64)) m.ports → Each (IsNet (d.nets ++ more)) whole
  placed-nets bounds = merged-all (IsNet (d.nets ++ more)) (outputs m) inputs outs (All-from (IsNet d.nets) (IsNet (d.nets ++ more)) (IsNet-more d.nets more) inputs nets) (wires_from-IsNet d.nets (wire_count d.nets) widths (outputs_bounded m.ports bounds))

  pub placed-free : Each (IsFree (d.nets ++ more)) (driven_among (outputs m) whole)
  placed-free = rw numbers (numbers-IsFree d.nets (wire_count d.nets) count widths widths (omega arith))

  pub placed-undriven : Each (Undriven d.assigns) (driven_among (outputs m) whole)
  placed-undriven = rw numbers (All-from (λ n. count ≤ n) (Undriven d.assigns)
      (λ n le. All-from (λ (a : Assign). IsNet d.nets a.to) (λ (a : Assign). a.to.number ≢ n) (λ a net e. let lt = number-IsNet d.nets a.to net in absurd (omega arith)) d.assigns wired.results)
      (map (λ (w : Wire). w.number) outs) (numbers-above count widths))

  pub placed-unjoined : Each (Unjoined d.instances) (driven_among (outputs m) whole)
  placed-unjoined = rw numbers (All-from (λ n. count ≤ n) (Unjoined d.instances)
      (λ n le. All-from (λ k. k < count) (λ k. k ≢ n) (λ k lt e. absurd (omega arith)) (driven_by d.instances) (driven_within d.nets d.instances connected.declared))
      (map (λ (w : Wire). w.number) outs) (numbers-above count widths))

  pub placed-apart : NoneTwice (driven_among (outputs m) whole)
  placed-apart = rw numbers (numbers-apart count widths)

  extends : Extends d new
  extends = record { name = refl; nets = (more, refl); assigns = ([], sym (append-nil d.assigns)); nexts = ([], sym (append-nil d.nexts)); instances = (placed ∷ [], refl) }

  pub placed-Adds : Adds d new
  placed-Adds = record { extends = extends; nexts = refl }

  not_register : (net : ModuleNet) → net.role ≡ role.Plain → net.role ≡ role.Register (reset_of net.role) → ⊥
  not_register net e f = let g : role.Plain ≡ role.Register (reset_of net.role) = sym e ∙ f in cc

  -- the net that came with this number stands at an output, which needs inputs alone
  output_ready : (by : Dependence) (later : Draft) → Extends new later → ((n : ℕ) → n < count → Ready by later n) → (j : ℕ) → j < length widths → Ready by later (count + j)
  output_ready by later e old j lt =
      let there : slice_get (driven_among (outputs m) whole) j ≡ Some (count + j) = ap (λ l. slice_get l j) numbers ∙ wire_number_at count widths j lt in
      let at = is_driven (outputs m) whole j (count + j) there in
      ReadyAfter-Feeds by new (count + j) (needed (by.needs placed.module at.0) placed.drives placed.nets)
      (output (length d.instances) at.0 placed at.1 (get_end d.instances placed) at.2 at.3 at.4 refl) later e
      (needed_merged (Ready by later) (by.needs placed.module at.0) (outputs m) inputs outs
      (All-from (IsNet d.nets) (λ (w : Wire). Ready by later w.number) (λ w net. old w.number (number-IsNet d.nets w net)) inputs nets))

  pub placed-Closes : Closes d new
  placed-Closes = record {
    ready = λ by later e old n lt.
        let long : length (d.nets ++ more) ≡ count + length more = length-append d.nets more in
        let wide : length more ≡ length widths = length-fresh_nets (wire_count d.nets) widths in
        ⊎_elim
        (λ low. old n low)
        (λ high. let same : count + (n - count) ≡ n = omega arith in subst (Ready by later) same (output_ready by later e old (n - count) (omega arith)))
        (cases_lt n count);
    own = record { more = []; assigns = sym (append-nil d.assigns); above = tt };
    registers = λ k old n net at is.
        ⊎_elim (λ there. old n net there is) (λ h. absurd (not_register net (fresh_plain (wire_count d.nets) widths h.0 net h.2) is)) (get_either d.nets more n net at);
  }

  -- the ports are as they were
  no_ports : (j : ℕ) (ws : List ℕ) → ports_among (fresh_nets j ws) ≡ []
  no_ports j [] = refl
  no_ports j (w ∷ ws) = no_ports (j + 1) ws

  pub placed-ports : ports_among (d.nets ++ more) ≡ ports_among d.nets
  placed-ports = filter_map-append (λ (net : ModuleNet). port_by net.role net) d.nets more ∙ ap (λ l. ports_among d.nets ++ l) (no_ports (wire_count d.nets) widths) ∙ append-nil (ports_among d.nets)

-- Names. -----------------------------------------------------------------------------------------------------------------

-- an instance's name is one more, before the nets' names
names_taken-instance : (instances : List Instance) (nets : List ModuleNet) (i : Instance) (other : List ℕ) → i.name ≢ other → IsNew other (names_taken instances nets) → IsNew other (names_taken (instances ++ i ∷ []) nets)
names_taken-instance instances nets i other ne h =
    let own : List (List ℕ) = map (λ (x : Instance). x.name) instances in
    rw (map-append (λ (x : Instance). x.name) instances (i ∷ []))
    (All-join (λ y. y ≢ other) (own ++ i.name ∷ []) (taken_names nets) (All-join (λ y. y ≢ other) own (i.name ∷ []) (All-front (λ y. y ≢ other) own (taken_names nets) h) (ne, tt)) (All-back (λ y. y ≢ other) own (taken_names nets) h))

pub Places-placed : (d : Draft) (nets : List ModuleNet) (i : Instance) → IsNotNumbered i.name → Adds d (record d { nets = nets; instances = d.instances ++ i ∷ [] }) → Closes d (record d { nets = nets; instances = d.instances ++ i ∷ [] })
    → ports_among nets ≡ ports_among d.nets → HasFresh (names_taken d.instances nets) (wire_count nets)
    → ((other : List ℕ) → IsNotNumbered other → IsNew other (names_of d) → IsNew other (names_taken d.instances nets))
    → Places (i ∷ []) d (record d { nets = nets; instances = d.instances ++ i ∷ [] })
Places-placed d nets i other adds closes ports fresh names = record {
  adds = adds;
  instances = refl;
  closes = closes;
  fresh = λ _. record { free = λ k low small. names_taken-instance d.instances nets i (numbered k) (other k small) (fresh.free k low small) };
  names = λ name not_numbered not_added new. names_taken-instance d.instances nets i name not_added.0 (names name not_numbered new);
  ports = ports;
}

pub Places-Makes : (a b : Draft) → Makes a b → Places [] a b
Places-Makes a b m = record { adds = m.adds; instances = m.instances ∙ sym (append-nil a.instances); closes = m.closes; fresh = m.fresh; names = λ name other added new. m.names name other new; ports = m.ports }

pub Places-trans : (xs ys : List Instance) (a b c : Draft) → Places xs a b → Places ys b c → Places (xs ++ ys) a c
Places-trans xs ys a b c p q = record {
  adds = Adds-trans a b c p.adds q.adds;
  instances = q.instances ∙ ap (λ l. l ++ ys) p.instances ∙ append_assoc a.instances xs ys;
  closes = Closes-trans a b c p.adds q.adds p.closes q.closes;
  fresh = λ h. q.fresh (p.fresh h);
  names = λ name other added new.
      let names : Each (λ x. x ≢ name) (map (λ (i : Instance). i.name) xs ++ map (λ (i : Instance). i.name) ys) = subst (Each (λ x. x ≢ name)) (map-append (λ (i : Instance). i.name) xs ys) added in
      q.names name other (All-back (λ x. x ≢ name) (map (λ (i : Instance). i.name) xs) (map (λ (i : Instance). i.name) ys) names) (p.names name other (All-front (λ x. x ≢ name) (map (λ (i : Instance). i.name) xs) (map (λ (i : Instance). i.name) ys) names) new);
  ports = q.ports ∙ p.ports;
}

-- what solves the larger draft and its parts solves the smaller one and its parts
pub SettlesOpen-before : (modules : List ModuleText) (a b : Draft) (read : ℕ → ℕ) (parts : ℕ → ℕ → ℕ) → Extends a b → SettlesOpen modules b read parts → SettlesOpen modules a read parts
SettlesOpen-before modules a b read parts e s = record {
  own = Settles-before a b read e (record { fits = (s.own).fits; holds = (s.own).holds });
  each = λ k i x at found. s.each k i x (subst (λ (is : List Instance). slice_get is k ≡ Some i) (sym (e.instances).1) (get_left a.instances (e.instances).0 k i at)) found;
}
