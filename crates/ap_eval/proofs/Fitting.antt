-- What a step's functions need of the plan and of the values: reads are declared, and addresses are of their memories.
use Rattle.std.proofs.Common.{◌≡◌, ℕ, suc, ◌+◌, ◌-◌, ◌<◌, ◌≤◌, ◌⊎◌, inl, inr, List, [], ◌∷◌, length, Option, Some, None, refl, sym, ap, subst, ◌∙◌, arith}
use Rattle.std.specs.Prelude.{slice_get, slice_index}
use Rattle.std.specs.List.{AllByRecursion as Each}
use Rattle.ap_net.specs.declared.cell.Cell.{Cell}
use Rattle.ap_net.specs.declared.cell.Cell.TheVariants as cell
use Rattle.ap_net.specs.declared.cell.TwoOp.{TwoOp}
use Rattle.ap_net.specs.declared.cell.TwoOp.TheVariants as two
use Rattle.ap_net.specs.Answering.{first_mem_port}
use Rattle.ap_net.specs.Cells.{CellFits}
use Rattle.ap_net.specs.Flat.{plain_nets}
use Rattle.ap_net.proofs.Lists.{All-join, Each-at}
use Rattle.ap_flat.specs.Flats.{FlatParts, IsFlattened}
use Rattle.ap_flat.specs.declared.driver.Driver.{Driver}
use Rattle.ap_flat.specs.declared.driver.Driver.TheVariants as driver
use Rattle.ap_eval.specs.declared.op.Shape.{Shape}
use Rattle.ap_eval.specs.Ops.{AreRoots, CellReads, IsWithin, OpFits, ShapeFits, cell_shape, driver_shape, mask_of, memory_at, net_shape, op_list, ops_of, shape_of_net, two_shape, width_of}
use Rattle.ap_eval.proofs.Computing.{width_is, cell_fits, cell_reads, equation, operand_lower, stands_low}
use Rattle.ap_eval.proofs.MemoryPorts.{IsData, memory_port}
use Rattle.ap_net.proofs.Lists.{some_same}

module _ (f : FlatParts) (is : IsFlattened f) (roots : List ℕ) (rooted : AreRoots f.drivers roots) where
  abbrev count : ℕ
  count = length f.net.nets

  -- each net and its root are among the nets
  pub net_within : (n : ℕ) → n < count → IsWithin roots count n
  net_within n lt = record {
    here = let a : length roots ≡ length f.drivers = rooted.long in let b : length f.drivers ≡ count = is.drivers.long in omega arith;
    there = (stands_low f is roots rooted n lt).within;
  }

  two_fits : (o : TwoOp) (w a b memories : ℕ) → a < count → b < count → ShapeFits count memories (two_shape o (mask_of w) a b)
  two_fits two.Add w a b memories p q = (p, q)
  two_fits two.Sub w a b memories p q = (p, q)
  two_fits two.And w a b memories p q = (p, q)
  two_fits two.Or w a b memories p q = (p, q)
  two_fits two.Xor w a b memories p q = (p, q)
  two_fits two.Eq w a b memories p q = (p, q)
  two_fits two.Ltu w a b memories p q = (p, q)

  root_within : (n : ℕ) → n < count → slice_index roots n < count
  root_within n lt = (net_within n lt).there

  cell_fits_shape : (c : Cell) (w memories : ℕ) (s : Shape) → CellFits (plain_nets f.net.nets) w c → w ≤ 64 → CellReads count c → cell_shape roots w c ≡ Some s → ShapeFits count memories s
  cell_fits_shape (cell.Const k) w memories s h high r e = cc
  cell_fits_shape (cell.Copy a) w memories s h high r e = cc
  cell_fits_shape (cell.Not a) w memories s h high r e = subst (ShapeFits count memories) (some_same e) (root_within a.number r)
  cell_fits_shape (cell.Two o a b) w memories s h high r e = subst (ShapeFits count memories) (some_same e) (two_fits o w (slice_index roots a.number) (slice_index roots b.number) memories (root_within a.number r.0) (root_within b.number r.1))
  cell_fits_shape (cell.Choose t a b) w memories s h high r e = subst (ShapeFits count memories) (some_same e) (root_within t.number r.0, root_within a.number r.1, root_within b.number r.2)
  cell_fits_shape (cell.Cat a b) w memories s h high r e =
      let some : 1 ≤ a.width = (h.0).low in
      let sum : a.width + b.width ≡ w = h.2 in
      let lt : b.width < 64 = omega arith in
      subst (ShapeFits count memories) (some_same e) (root_within a.number r.0, root_within b.number r.1, lt)
  cell_fits_shape (cell.Slice a hi lo) w memories s h high r e =
      let top : a.width ≤ 64 = (h.0).high in
      let lt : lo < 64 = omega arith in
      subst (ShapeFits count memories) (some_same e) (root_within a.number r, lt)

  shape_by_driver : (n memories : ℕ) (s : Shape) → n < count → (q : Option Driver) → slice_get f.drivers n ≡ q → driver_shape roots (width_of (slice_get f.net.nets n)) q ≡ Some s → ShapeFits count memories s
  shape_by_driver n memories s lt None at e = cc
  shape_by_driver n memories s lt (Some driver.Given) at e = cc
  shape_by_driver n memories s lt (Some (driver.Looks m)) at e = cc
  shape_by_driver n memories s lt (Some (driver.Equation c)) at e =
      let d = equation f is n c at in
      let fits = cell_fits f is n c d in
      let wide : width_of (slice_get f.net.nets n) ≡ d.equation.to.width = ap (λ k. width_of (slice_get f.net.nets k)) (sym d.to) ∙ width_is f.net.nets d.equation.to.number d.equation.to.width (fits.0).declared in
      cell_fits_shape c d.equation.to.width memories s fits.1 (fits.0).high (cell_reads f is n c (operand_lower f is n c lt d)) (subst (λ w. cell_shape roots w c ≡ Some s) wide e)

  shape_by_memory : (n : ℕ) (s : Shape) → n < count → (q : Option ℕ) → memory_at (first_mem_port f.outside) (length f.outside.mems) n ≡ q → net_shape f roots n q ≡ Some s → ShapeFits count (suc (length f.outside.mems)) s
  shape_by_memory n s lt None at e = shape_by_driver n (suc (length f.outside.mems)) s lt (slice_get f.drivers n) refl e
  shape_by_memory n s lt (Some m) at e = subst (ShapeFits count (suc (length f.outside.mems))) (some_same e) (low (memory_port (first_mem_port f.outside) (length f.outside.mems) n m at), root_within (n - 1) (omega arith))
    where
      low : ((n ≡ 1) × (m ≡ 0)) ⊎ IsData (first_mem_port f.outside) (length f.outside.mems) n m → m < suc (length f.outside.mems)
      low (inl h) = let e : m ≡ 0 = h.1 in omega arith
      low (inr d) = let e : m ≡ suc d.k = d.m_is in let k : d.k < length f.outside.mems = d.below in omega arith

  listed_fits : (n : ℕ) → n < count → (q : Option Shape) → shape_of_net f roots n ≡ q → Each (OpFits count (suc (length f.outside.mems))) (op_list n q)
  listed_fits n lt None e = tt
  listed_fits n lt (Some s) e = (record { to = lt; reads = shape_by_memory n s lt (memory_at (first_mem_port f.outside) (length f.outside.mems) n) refl e }, tt)

  all_fit : (order : List ℕ) → Each (λ n. n < count) order → Each (OpFits count (suc (length f.outside.mems))) (ops_of f roots order)
  all_fit [] h = tt
  all_fit (n ∷ order) h = All-join (OpFits count (suc (length f.outside.mems))) (op_list n (shape_of_net f roots n)) (ops_of f roots order) (listed_fits n h.0 (shape_of_net f roots n) refl) (all_fit order h.1)

  -- every operation reads what is there
  pub ops_fit : Each (OpFits count (suc (length f.outside.mems))) (ops_of f roots f.order)
  ops_fit = all_fit f.order (Each-at (λ n. n < count) f.order (λ i n at. is.order.within i n at))
