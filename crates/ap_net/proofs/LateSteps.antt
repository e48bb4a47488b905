-- What is ready and what is late, as a builder goes on.
use Rattle.std.proofs.Common.{◌≡◌, ◌≢◌, ℕ, ◌+◌, ◌<◌, ◌≤◌, List, [], ◌∷◌, ◌++◌, length, Some, Bool, true, false, refl, sym, ap, ◌∙◌, arith, append-nil, length-append, inl, inr}
use Rattle.std.proofs.lemmas.Bool.{cases_lt}
use Rattle.std.specs.Prelude.{◌⊎◌, slice_get}
use Rattle.std.specs.List.{AllByRecursion as Each}
use Rattle.ap_net.specs.declared.cell.Wire.{Wire}
use Rattle.ap_net.specs.declared.cell.Cell.{Cell}
use Rattle.ap_net.specs.declared.net.ModuleNet.{ModuleNet}
use Rattle.ap_net.specs.declared.net.Assign.{Assign}
use Rattle.ap_net.specs.declared.net.Instance.{Instance}
use Rattle.ap_net.specs.declared.net.Next.{Next}
use Rattle.ap_net.specs.Cells.{operands, IsNet, CellFits, cell_value}
use Rattle.ap_net.specs.Wiring.{Holds, IsSource, Undriven, driven_by, driven_among}
use Rattle.ap_net.specs.Draft.{Draft, Extends, SettlesDraft, with_assign, wire_count}
use Rattle.ap_net.specs.Modules.{ModuleText, outputs}
use Rattle.ap_net.specs.Placing.{merged, output_wires, output_widths, fresh_nets, placed_instance, with_placed}
use Rattle.ap_net.proofs.Placing.{wires_from-above}
use Rattle.ap_net.proofs.Lists.{All-from, All-at, All-join, All-back, get_end}
use Rattle.ap_net.proofs.Wired.{number-IsNet, IsNet-more, CellFits-more, IsNet-end, IsFree-end, Undriven-end}
use Rattle.ap_net.proofs.Connected.{IsFree-below, driven_by-append, Unjoined-end}
use Rattle.ap_net.proofs.Drafts.{made, made-extends, Extends-refl, Extends-trans, Settles-made}
use Rattle.ap_net.specs.Ready.{Dependence, AreReady, ReadyAfter, needed, numbers, Feeds, source, assign, output, Ready, ready}
use Rattle.ap_net.specs.Readings.{Always}
use Rattle.ap_net.specs.Late.{IsLate, StayLate, Reads, Drives, Joins}
use Rattle.ap_net.proofs.Growing.{Ready-Extends, ReadyAfter-Feeds, ReadyAfter-Extends, ReadyAfter-trans}

pub Ready-Feeds : (by : Dependence) (old new : Draft) (n : ℕ) (from : List ℕ) → Extends old new → Feeds by new n from → AreReady by old from → Ready by new n
Ready-Feeds by old new n from e feeds each = ready from feeds (λ j m at. Ready-Extends by old new m e (All-at (Ready by old) from j m each at))

pub Ready-source : (by : Dependence) (d : Draft) (n : ℕ) (net : ModuleNet) → slice_get d.nets n ≡ Some net → IsSource net.role → AreReady by d (by.looks n) → Ready by d n
Ready-source by d n net at is each = ready (by.looks n) (source net at is refl) (λ j m there. All-at (Ready by d) (by.looks n) j m each there)

pub AreReady-Extends : (by : Dependence) (a b : Draft) (nets : List ℕ) → Extends a b → AreReady by a nets → AreReady by b nets
AreReady-Extends by a b nets e h = All-from (Ready by a) (Ready by b) (λ n. Ready-Extends by a b n e) nets h

-- a late net beside one more net
late_beside : (d : Draft) (net : ModuleNet) (assigns : List Assign) (x : Wire) → Undriven assigns x.number → IsLate d x → IsLate (record d { nets = d.nets ++ net ∷ []; assigns = assigns }) x
late_beside d net assigns x none h = record {
  net = IsNet-more d.nets (net ∷ []) x h.net;
  free = IsFree-below d.nets (net ∷ []) x.number (number-IsNet d.nets x h.net) h.free;
  undriven = none;
  unjoined = h.unjoined;
}

-- to make a net
pub Reads-made : (d : Draft) (net : ModuleNet) (c : Cell) → Reads (numbers (operands c)) d (made d net c)
Reads-made d net c =
    let a : Assign = record { to = record { number = length d.nets; width = net.width }; cell = c } in
    record {
      extends = made-extends d net c;
      nexts = refl;
      came = λ by n low high.
          let long : length (d.nets ++ net ∷ []) ≡ length d.nets + 1 = length-append d.nets (net ∷ []) in
          let e : length d.nets ≡ n = omega arith in
          ReadyAfter-Feeds by (made d net c) n (numbers (operands c)) (assign (length d.assigns) a (get_end d.assigns a) e refl);
      late = λ x h. late_beside d net (d.assigns ++ a ∷ []) x (All-join (λ (b : Assign). b.to.number ≢ x.number) d.assigns (a ∷ []) h.undriven ((λ e. let lt = number-IsNet d.nets x h.net in absurd (omega arith)), tt)) h;
    }

-- to drive a late net
pub Drives-cell : (d : Draft) (to : Wire) (c : Cell) → Drives (numbers (operands c)) to d (record d { assigns = d.assigns ++ record { to = to; cell = c } ∷ [] })
Drives-cell d to c =
    let a : Assign = record { to = to; cell = c } in
    let e : Extends d (record d { assigns = d.assigns ++ a ∷ [] }) = record { name = refl; nets = ([], sym (append-nil d.nets)); assigns = (a ∷ [], refl); nexts = ([], sym (append-nil d.nexts)); instances = ([], sym (append-nil d.instances)) } in
    record {
      extends = e;
      nexts = refl;
      came = λ by. ReadyAfter-Feeds by (record d { assigns = d.assigns ++ a ∷ [] }) to.number (numbers (operands c)) (assign (length d.assigns) a (get_end d.assigns a) refl refl);
      late = λ x ne h. record { net = h.net; free = h.free; undriven = All-join (λ (b : Assign). b.to.number ≢ x.number) d.assigns (a ∷ []) h.undriven ((λ e. ne (sym e)), tt); unjoined = h.unjoined };
    }

pub Reads-trans : (from more : List ℕ) (a b c : Draft) → Reads from a b → Reads more b c → ((by : Dependence) → Each (ReadyAfter by b from) more) → Reads from a c
Reads-trans from more a b c p q goes = record {
  extends = Extends-trans a b c p.extends q.extends;
  nexts = q.nexts ∙ p.nexts;
  came = λ by n low high. either by n low high (cases_lt n (length b.nets));
  late = λ x h. q.late x (p.late x h);
}
  where
    either : (by : Dependence) (n : ℕ) → length a.nets ≤ n → n < length c.nets → (n < length b.nets) ⊎ (length b.nets ≤ n) → ReadyAfter by c from n
    either by n low high (inl lt) = ReadyAfter-Extends by b c from n q.extends (p.came by n low lt)
    either by n low high (inr le) = ReadyAfter-trans by b c from more n q.extends (goes by) (q.came by n le high)

cell_value_last : (d : Draft) (to : Wire) (c : Cell) (read : ℕ → ℕ) → SettlesDraft (record d { assigns = d.assigns ++ record { to = to; cell = c } ∷ [] }) read → read to.number ≡ cell_value read to.width c
cell_value_last d to c read s = (All-back (Holds read) d.assigns (record { to = to; cell = c } ∷ []) s.holds).0

pub Always-cell : (d : Draft) (to : Wire) (c : Cell) → Always (with_assign d to c) (λ r. r.read to.number ≡ cell_value r.read to.width c)
Always-cell d to c = record { holds = λ r s. cell_value_last d to c r.read s.own }

pub made_value : (d : Draft) (net : ModuleNet) (c : Cell) (read : ℕ → ℕ) → SettlesDraft (made d net c) read → read (length d.nets) ≡ cell_value read net.width c
made_value d net c read s = (Settles-made d net c read s).1

-- what an instance drives of merged nets is among the outputs
driven_merged : (P : ℕ → Type 0) (drives : List Bool) (inputs outs : List Wire) → Each (λ (w : Wire). P w.number) outs → Each P (driven_among drives (merged drives inputs outs))
driven_merged P [] inputs outs h = tt
driven_merged P (true ∷ drives) inputs [] h = tt
driven_merged P (true ∷ drives) inputs (w ∷ outs) h = (h.0, driven_merged P drives inputs outs h.1)
driven_merged P (false ∷ drives) [] outs h = tt
driven_merged P (false ∷ drives) (w ∷ inputs) outs h = driven_merged P drives inputs outs h

-- to place an instance
pub Joins-placed : (d : Draft) (name : List ℕ) (m : ModuleText) (inputs : List Wire) → Joins (placed_instance (length d.nets) name m inputs) d (with_placed d name m inputs)
Joins-placed d name m inputs =
    let i : Instance = placed_instance (length d.nets) name m inputs in
    let e : Extends d (with_placed d name m inputs) = record { name = refl; nets = (fresh_nets (wire_count d.nets) (output_widths m.ports), refl); assigns = ([], sym (append-nil d.assigns)); nexts = ([], sym (append-nil d.nexts)); instances = (i ∷ [], refl) } in
    record {
      extends = e;
      nexts = refl;
      outputs = λ by p w at flag. ReadyAfter-Feeds by (with_placed d name m inputs) w.number (needed (by.needs i.module p) i.drives i.nets) (output (length d.instances) p i w (get_end d.instances i) at flag refl refl);
      late = λ x h.
          let lt : x.number < length d.nets = number-IsNet d.nets x h.net in
          record {
            net = IsNet-more d.nets (fresh_nets (wire_count d.nets) (output_widths m.ports)) x h.net;
            free = IsFree-below d.nets (fresh_nets (wire_count d.nets) (output_widths m.ports)) x.number lt h.free;
            undriven = h.undriven;
            unjoined = rw (driven_by-append d.instances (i ∷ [])) (All-join (λ n. n ≢ x.number) (driven_by d.instances) (driven_among i.drives i.nets ++ []) h.unjoined
                (All-join (λ n. n ≢ x.number) (driven_among i.drives i.nets) []
                (driven_merged (λ n. n ≢ x.number) (outputs m) inputs (output_wires (length d.nets) m)
                (All-from (λ (w : Wire). length d.nets ≤ w.number) (λ (w : Wire). w.number ≢ x.number) (λ w le e. absurd (omega arith)) (output_wires (length d.nets) m) (wires_from-above (length d.nets) (output_widths m.ports)))) tt));
          };
    }

-- a net that is driven later
pub IsLate-net : (d : Draft) (net : ModuleNet) → Each (λ (a : Assign). IsNet d.nets a.to) d.assigns → Each (λ (i : Instance). Each (IsNet d.nets) i.nets) d.instances → 1 ≤ net.width → net.width ≤ 64 → (IsSource net.role → ⊥)
    → IsLate (record d { nets = d.nets ++ net ∷ [] }) (record { number = length d.nets; width = net.width })
IsLate-net d net results declared low high free = record {
  net = IsNet-end d.nets net low high;
  free = IsFree-end d.nets net free;
  undriven = Undriven-end d.nets d.assigns results;
  unjoined = Unjoined-end d.nets d.instances declared;
}

-- what is late stays so where a net is declared, or a register gets its driver
pub StayLate-net : (d : Draft) (net : ModuleNet) → StayLate d (record d { nets = d.nets ++ net ∷ [] })
StayLate-net d net x h = late_beside d net d.assigns x h.undriven h

pub StayLate-next : (d : Draft) (y : Next) → StayLate d (record d { nexts = d.nexts ++ y ∷ [] })
StayLate-next d y x h = record { net = h.net; free = h.free; undriven = h.undriven; unjoined = h.unjoined }

pub next_extends : (d : Draft) (x : Next) → Extends d (record d { nexts = d.nexts ++ x ∷ [] })
next_extends d x = record { name = refl; nets = ([], sym (append-nil d.nets)); assigns = ([], sym (append-nil d.assigns)); nexts = (x ∷ [], refl); instances = ([], sym (append-nil d.instances)) }

pub IsNet-Reads : (from : List ℕ) (a b : Draft) (w : Wire) → Reads from a b → IsNet a.nets w → IsNet b.nets w
IsNet-Reads from a b w r h = rw r.extends.nets.1 (IsNet-more a.nets r.extends.nets.0 w h)

pub CellFits-Reads : (from : List ℕ) (a b : Draft) (w : ℕ) (c : Cell) → Reads from a b → CellFits a.nets w c → CellFits b.nets w c
CellFits-Reads from a b w c r h = rw r.extends.nets.1 (CellFits-more a.nets r.extends.nets.0 w c h)

pub Reads-refl : (from : List ℕ) (a : Draft) → Reads from a a
Reads-refl from a = record { extends = Extends-refl a; nexts = refl; came = λ by n low high. absurd (omega arith); late = λ x h. h }

pub length_Reads : (from : List ℕ) (a b : Draft) → Reads from a b → length a.nets ≤ length b.nets
length_Reads from a b r = let l : length b.nets ≡ length (a.nets ++ r.extends.nets.0) = ap length r.extends.nets.1 in omega (arith, length-append a.nets r.extends.nets.0)
