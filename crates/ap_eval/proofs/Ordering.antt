-- The order of a netlist's nets as ranks that rise along all dependences.
use Rattle.std.proofs.Common.{◌≡◌, ℕ, zero, suc, ◌+◌, ◌<◌, ◌≤◌, ◌⊎◌, inl, inr, List, [], ◌∷◌, ◌++◌, length, map, Some, refl, ap, subst, ◌∙◌, arith}
use Rattle.std.specs.Prelude.{codes, slice_get}
use Rattle.std.specs.List.{AllByRecursion as Each}
use Rattle.std.proofs.lemmas.Bool.{cases_lt}
use Rattle.ap_image.specs.declared.shape.MemShape.{MemShape}
use Rattle.ap_net.specs.declared.cell.Wire.{Wire}
use Rattle.ap_net.specs.declared.net.Assign.{Assign}
use Rattle.ap_net.specs.declared.net.Port.{Port}
use Rattle.ap_net.specs.Cells.{IsNet, operands}
use Rattle.ap_net.specs.Wiring.{Ranked}
use Rattle.ap_net.specs.Flat.{equations, plain_nets}
use Rattle.ap_net.specs.Outside.{Outside, InPort, input, output, mem_name, input_ports, mem_ports, ports_of}
use Rattle.ap_net.specs.Answering.{mem_looks, port_looks}
use Rattle.ap_net.proofs.Lists.{Each-at, All-at}
use Rattle.ap_net.proofs.Wired.{number-IsNet}
use Rattle.ap_net.proofs.Fits.{length-plain}
use Rattle.ap_net.proofs.Answered.{behind, ports_split}
use Rattle.ap_flat.specs.Dependence.{DependsOn, IsOrder, Looks, asks_code, asks_memory}
use Rattle.ap_flat.specs.Flats.{FlatParts, IsFlattened}
use Rattle.ap_flat.specs.Ports.{IsMem}
use Rattle.ap_flat.proofs.Looking.{port_low}

module _ (D : ℕ → ℕ → Type 0) (count : ℕ) (order : List ℕ) (is : IsOrder D count order) where
  abbrev pub rank_by : (n : ℕ) → (n < count) ⊎ (count ≤ n) → ℕ
  rank_by n (inl lt) = (is.all n lt).0
  rank_by n (inr past) = 0

  -- the place of a net in the order
  abbrev pub rank_in : ℕ → ℕ
  rank_in n = rank_by n (cases_lt n count)

  rank_by_at : (n i : ℕ) → slice_get order i ≡ Some n → (q : (n < count) ⊎ (count ≤ n)) → rank_by n q ≡ i
  rank_by_at n i at (inl lt) = is.once (is.all n lt).0 i n (is.all n lt).1 at
  rank_by_at n i at (inr past) = let low : n < count = is.within i n at in absurd (omega arith)

  pub rank_at : (n i : ℕ) → slice_get order i ≡ Some n → rank_in n ≡ i
  rank_at n i at = rank_by_at n i at (cases_lt n count)

  pub rank_lower : (n m : ℕ) → n < count → D n m → rank_in m < rank_in n
  rank_lower n m lt d =
      let here = is.all n lt in
      let below = is.after here.0 n m here.1 d in
      let a : rank_in n ≡ here.0 = rank_at n here.0 here.1 in
      let b : rank_in m ≡ below.0 = rank_at m below.0 below.2 in
      let c : below.0 < here.0 = below.1 in
      omega arith

-- What the outside looks at. -----------------------------------------------------------------------------------------------

-- the ports behind stand among all ports from this number on
abbrev StandsFrom : List Port → ℕ → List Port → Type 0
StandsFrom ports base rest = (i : ℕ) (p : Port) → slice_get rest i ≡ Some p → slice_get ports (base + i) ≡ Some p

mem_looked : (ports : List Port) (ms : List MemShape) (base : ℕ) (rest : List Port) → StandsFrom ports base (mem_ports ms ++ rest) → Each IsMem ms
    → (i : ℕ) (list : List ℕ) → slice_get (mem_looks base ms) i ≡ Some list → Each (λ k. Looks ports (base + i) k) list
mem_looked ports [] base rest h each i list at = cc
mem_looked ports (m ∷ ms) base rest h each zero list at = let e : [] ≡ list = cc in subst (Each (λ k. Looks ports (base + zero) k)) e tt
mem_looked ports (m ∷ ms) base rest h each (suc zero) list at =
    let e : base ∷ [] ≡ list = cc in
    let zeroth : base + 0 ≡ base = omega arith in
    subst (Each (λ k. Looks ports (base + suc zero) k)) e (
      record {
        input = input (mem_name m (codes "rd")) m.width;
        output = output (mem_name m (codes "ra")) m.address;
        at_input = h 1 (input (mem_name m (codes "rd")) m.width) refl;
        at_output = subst (λ n. slice_get ports n ≡ Some (output (mem_name m (codes "ra")) m.address)) zeroth (h 0 (output (mem_name m (codes "ra")) m.address) refl);
        enters = refl;
        leaves = refl;
        asked = asks_memory m.name (each.0).named;
      },
      tt,
    )
mem_looked ports (m ∷ ms) base rest h each (suc (suc zero)) list at = let e : [] ≡ list = cc in subst (Each (λ k. Looks ports (base + suc (suc zero)) k)) e tt
mem_looked ports (m ∷ ms) base rest h each (suc (suc (suc zero))) list at = let e : [] ≡ list = cc in subst (Each (λ k. Looks ports (base + suc (suc (suc zero))) k)) e tt
mem_looked ports (m ∷ ms) base rest h each (suc (suc (suc (suc zero)))) list at = let e : [] ≡ list = cc in subst (Each (λ k. Looks ports (base + suc (suc (suc (suc zero)))) k)) e tt
mem_looked ports (m ∷ ms) base rest h each (suc (suc (suc (suc (suc i))))) list at =
    let e : base + 5 + i ≡ base + suc (suc (suc (suc (suc i)))) = omega arith in
    subst (λ n. Each (λ k. Looks ports n k) list) e
    (mem_looked ports ms (base + 5) rest (λ j p there. let same : base + suc (suc (suc (suc (suc j)))) ≡ base + 5 + j = omega arith in subst (λ n. slice_get ports n ≡ Some p) same (h (suc (suc (suc (suc (suc j))))) p there)) each.1 i list at)

inputs_looked : (ports : List Port) (ps : List InPort) (base : ℕ) (ms : List MemShape) (rest : List Port) → StandsFrom ports base (input_ports ps ++ (mem_ports ms ++ rest)) → Each IsMem ms
    → (i : ℕ) (list : List ℕ) → slice_get (map (λ (p : InPort). []) ps ++ mem_looks (base + length ps) ms) i ≡ Some list → Each (λ k. Looks ports (base + i) k) list
inputs_looked ports [] base ms rest h each i list at =
    let e : base + 0 ≡ base = omega arith in
    mem_looked ports ms base rest h each i list (subst (λ n. slice_get (mem_looks n ms) i ≡ Some list) e at)
inputs_looked ports (p ∷ ps) base ms rest h each zero list at = let e : [] ≡ list = cc in subst (Each (λ k. Looks ports (base + zero) k)) e tt
inputs_looked ports (p ∷ ps) base ms rest h each (suc i) list at =
    let e : base + 1 + i ≡ base + suc i = omega arith in
    let same : base + suc (length ps) ≡ base + 1 + length ps = omega arith in
    subst (λ n. Each (λ k. Looks ports n k) list) e
    (inputs_looked ports ps (base + 1) ms rest (λ j q there. let next : base + suc j ≡ base + 1 + j = omega arith in subst (λ n. slice_get ports n ≡ Some q) next (h (suc j) q there)) each i list
    (subst (λ n. slice_get (map (λ (p : InPort). []) ps ++ mem_looks n ms) i ≡ Some list) same at))

-- a port is looked up by those at which the outside looks for it
pub looked : (o : Outside) → Each IsMem o.mems → (n : ℕ) (list : List ℕ) → slice_get (port_looks o) n ≡ Some list → Each (λ k. Looks (ports_of o) n k) list
looked o mems zero list at = let e : [] ≡ list = cc in subst (Each (λ k. Looks (ports_of o) zero k)) e tt
looked o mems (suc zero) list at =
    let e : 0 ∷ [] ≡ list = cc in
    subst (Each (λ k. Looks (ports_of o) (suc zero) k)) e (record { input = _; output = _; at_input = refl; at_output = refl; enters = refl; leaves = refl; asked = asks_code }, tt)
looked o mems (suc (suc zero)) list at = let e : [] ≡ list = cc in subst (Each (λ k. Looks (ports_of o) (suc (suc zero)) k)) e tt
looked o mems (suc (suc (suc i))) list at =
    let e : 3 + i ≡ suc (suc (suc i)) = omega arith in
    subst (λ n. Each (λ k. Looks (ports_of o) n k) list) e
    (inputs_looked (ports_of o) o.inputs 3 o.mems (behind o) (λ j p there. let three : suc (suc (suc j)) ≡ 3 + j = omega arith in subst (λ n. slice_get (ports_of o) n ≡ Some p) three (ap (λ (l : List Port). slice_get l (suc (suc (suc j)))) (ports_split o) ∙ there)) mems i list at)

-- Both together. -----------------------------------------------------------------------------------------------------------

module _ (f : FlatParts) (is : IsFlattened f) where
  abbrev pub rank : ℕ → ℕ
  rank = rank_in (DependsOn f.net (ports_of f.outside)) (length f.net.nets) f.order is.order

  pub net_at_rank : (n i : ℕ) → slice_get f.order i ≡ Some n → rank n ≡ i
  net_at_rank = rank_at (DependsOn f.net (ports_of f.outside)) (length f.net.nets) f.order is.order

  pub rank_below : (n m : ℕ) → n < length f.net.nets → DependsOn f.net (ports_of f.outside) n m → rank m < rank n
  rank_below = rank_lower (DependsOn f.net (ports_of f.outside)) (length f.net.nets) f.order is.order

  to_low : (a : Assign) → IsNet (plain_nets f.net.nets) a.to → a.to.number < length f.net.nets
  to_low a net = let e : length (plain_nets f.net.nets) ≡ length f.net.nets = length-plain f.net.nets in let lt : a.to.number < length (plain_nets f.net.nets) = number-IsNet (plain_nets f.net.nets) a.to net in omega arith

  pub ranked : Ranked rank (equations f.net)
  ranked = Each-at (λ (a : Assign). Each (λ (o : Wire). rank o.number < rank a.to.number) (operands a.cell)) (equations f.net) (λ i a at.
      let net : IsNet (plain_nets f.net.nets) a.to = All-at (λ (b : Assign). IsNet (plain_nets f.net.nets) b.to) (equations f.net) i a is.opened.flat.results at in
      Each-at (λ (o : Wire). rank o.number < rank a.to.number) (operands a.cell) (λ j o there.
      rank_below a.to.number o.number (to_low a net) (inl (record { place = i; equation = a; among = at; drives = refl; spot = j; operand = o; reads = there; is = refl }))))

  pub looks_below : (n m : ℕ) → Looks (ports_of f.outside) n m → (m < length f.net.nets) × (rank m < rank n)
  looks_below n m l = (
    port_low (ports_of f.outside) f.net.nets is.ports m l.output l.at_output,
    rank_below n m (port_low (ports_of f.outside) f.net.nets is.ports n l.input l.at_input) (inr l),
  )
