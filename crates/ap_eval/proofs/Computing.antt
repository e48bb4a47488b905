-- The operations of a plan, one after another, give each net its value in a solution.
use Rattle.std.proofs.Common.{◌≡◌, ℕ, zero, suc, ◌+◌, ◌-◌, ◌<◌, ◌≤◌, ◌⊎◌, inl, inr, List, [], ◌∷◌, ◌++◌, length, Option, Some, None, refl, sym, ap, subst, ◌∙◌, arith, set}
use Rattle.std.specs.Prelude.{slice_get, slice_index}
use Rattle.std.specs.List.{AllByRecursion as Each}
use Rattle.std.proofs.lemmas.Bool.{cases_lt}
use Rattle.std.proofs.lemmas.List.{get_or-set_same, get_or-set_other, length-set}
use Rattle.std.proofs.lemmas.Option.{slice_get_within}
use Rattle.ap_net.specs.declared.cell.Wire.{Wire}
use Rattle.ap_net.specs.declared.cell.Cell.{Cell}
use Rattle.ap_net.specs.declared.cell.Cell.TheVariants as cell
use Rattle.ap_net.specs.declared.net.Assign.{Assign}
use Rattle.ap_net.specs.declared.net.ModuleNet.{ModuleNet}
use Rattle.ap_net.specs.declared.net.FlatNet.{FlatNet}
use Rattle.ap_net.specs.Cells.{cell_value, operands, widths_of, CellFits, IsNet}
use Rattle.ap_net.specs.Wiring.{Holds}
use Rattle.ap_net.specs.Flat.{Solves, equations, plain_nets}
use Rattle.ap_net.specs.Answering.{first_mem_port}
use Rattle.ap_net.proofs.Lists.{All-at, Each-at, some_same}
use Rattle.ap_net.proofs.Wired.{number-IsNet, operands-CellFits}
use Rattle.ap_net.proofs.Fits.{length-plain}
use Rattle.ap_flat.specs.Drivers.{Drives}
use Rattle.ap_flat.specs.Flats.{FlatParts, IsFlattened}
use Rattle.ap_flat.specs.declared.driver.Driver.{Driver}
use Rattle.ap_flat.specs.declared.driver.Driver.TheVariants as driver
use Rattle.ap_eval.specs.declared.op.Op.{Op}
use Rattle.ap_eval.specs.declared.op.Shape.{Shape}
use Rattle.ap_eval.specs.Ops.{AreRoots, CellReads, DriverReads, cell_shape, computed, driver_shape, memory_at, net_shape, op_list, ops_of, root_by, shape_of_net, shape_value, width_of}
use Rattle.ap_eval.proofs.Ordering.{rank, rank_below, net_at_rank}
use Rattle.ap_eval.proofs.CellValues.{ReadsAs, cell_is}

some_at : {X : Type 0} (xs : List X) (n : ℕ) → n < length xs → (x : X) × (slice_get xs n ≡ Some x)
some_at [] n lt = absurd (omega arith)
some_at (x ∷ xs) zero lt = (x, refl)
some_at (x ∷ xs) (suc n) lt = some_at xs n (omega arith)

pub width_is : (xs : List FlatNet) (n w : ℕ) → slice_get (widths_of (plain_nets xs)) n ≡ Some w → width_of (slice_get xs n) ≡ w
width_is [] n w at = cc
width_is (x ∷ xs) zero w at = cc
width_is (x ∷ xs) (suc n) w at = width_is xs n w at

-- what computes a net at which no memory's word stands
pub plain_shape : (f : FlatParts) (roots : List ℕ) (n : ℕ) (net : FlatNet) (by : Driver) (q : Option ℕ) → q ≡ memory_at (first_mem_port f.outside) (length f.outside.mems) n → q ≡ None → slice_get f.net.nets n ≡ Some net → slice_get f.drivers n ≡ Some by
    → driver_shape roots net.width (Some by) ≡ shape_of_net f roots n
plain_shape f roots n net by q is none at driven =
    (let a = sym at in let d = sym driven in λ i. driver_shape roots (width_of (a i)) (d i))
    ∙ ap (net_shape f roots n) (sym none ∙ is)

computed-append : (load : ℕ → ℕ → ℕ) (xs ys : List Op) (values : List ℕ) → computed load (xs ++ ys) values ≡ computed load ys (computed load xs values)
computed-append load [] ys values = refl
computed-append load (x ∷ xs) ys values = computed-append load xs ys (set values x.to (shape_value (slice_index values) load x.shape))

module _ (f : FlatParts) (is : IsFlattened f) where
  abbrev pub count : ℕ
  count = length f.net.nets

  abbrev pub nets : List ModuleNet
  nets = plain_nets f.net.nets

  low : (n : ℕ) → n < length nets → n < count
  low n lt = let e : length nets ≡ count = length-plain f.net.nets in omega arith

  -- the equation by which a cell drives a net
  pub equation : (n : ℕ) (c : Cell) → slice_get f.drivers n ≡ Some (driver.Equation c) → Drives (equations f.net) n c
  equation n c at = is.drivers.only n c at

  pub cell_fits : (n : ℕ) (c : Cell) (d : Drives (equations f.net) n c) → IsNet nets d.equation.to × CellFits nets d.equation.to.width c
  cell_fits n c d = (
    All-at (λ (a : Assign). IsNet nets a.to) (equations f.net) d.place d.equation is.opened.flat.results d.among,
    subst (CellFits nets d.equation.to.width) d.by (All-at (λ (a : Assign). CellFits nets a.to.width a.cell) (equations f.net) d.place d.equation is.opened.flat.cells d.among),
  )

  pub operand_lower : (n : ℕ) (c : Cell) → n < count → Drives (equations f.net) n c → Each (λ (o : Wire). (o.number < count) × (rank f is o.number < rank f is n)) (operands c)
  operand_lower n c lt d =
      let fits = cell_fits n c d in
      let declared : Each (IsNet nets) (operands c) = operands-CellFits nets d.equation.to.width c fits.1 in
      Each-at (λ (o : Wire). (o.number < count) × (rank f is o.number < rank f is n)) (operands c) (λ j o at. (
        low o.number (number-IsNet nets o (All-at (IsNet nets) (operands c) j o declared at)),
        rank_below f is n o.number lt (inl (record { place = d.place; equation = d.equation; among = d.among; drives = d.to; spot = j; operand = o; reads = subst (λ (x : Cell). slice_get (operands x) j ≡ Some o) (sym d.by) at; is = refl })),
      ))

  pub cell_reads : (n : ℕ) (c : Cell) → Each (λ (o : Wire). (o.number < count) × (rank f is o.number < rank f is n)) (operands c) → CellReads count c
  cell_reads n (cell.Const c) h = tt
  cell_reads n (cell.Copy w) h = (h.0).0
  cell_reads n (cell.Not a) h = (h.0).0
  cell_reads n (cell.Two o a b) h = ((h.0).0, (h.1.0).0)
  cell_reads n (cell.Choose s a b) h = ((h.0).0, (h.1.0).0, (h.1.1.0).0)
  cell_reads n (cell.Cat a b) h = ((h.0).0, (h.1.0).0)
  cell_reads n (cell.Slice a hi lo) h = (h.0).0

  -- what is read for a net's driver is declared
  pub driver_reads : (n long : ℕ) (by : Driver) (net : FlatNet) → n < count → long ≡ count → slice_get f.net.nets n ≡ Some net → slice_get f.drivers n ≡ Some by → DriverReads long net.width by
  driver_reads n long driver.Given net lt e at driven = tt
  driver_reads n long (driver.Looks m) net lt e at driven = tt
  driver_reads n long (driver.Equation c) net lt e at driven =
      let d = equation n c driven in
      let fits = cell_fits n c d in
      let wide : net.width ≡ d.equation.to.width = ap width_of (sym at) ∙ ap (λ k. width_of (slice_get f.net.nets k)) (sym d.to) ∙ width_is f.net.nets d.equation.to.number d.equation.to.width (fits.0).declared in
      let low' : 1 ≤ d.equation.to.width = (fits.0).low in
      let high' : d.equation.to.width ≤ 64 = (fits.0).high in
      let l : 1 ≤ net.width = omega arith in
      let h : net.width ≤ 64 = omega arith in
      (l, h, subst (λ k. CellReads k c) (sym e) (cell_reads n c (operand_lower n c lt d)))

  pub driver_at : (n : ℕ) → n < count → (by : Driver) × (slice_get f.drivers n ≡ Some by)
  driver_at n lt = let e : length f.drivers ≡ count = is.drivers.long in some_at f.drivers n (omega arith)

  same_net : (n m : ℕ) → n < count → m < count → rank f is n ≡ rank f is m → n ≡ m
  same_net n m nlt mlt e =
      let a = is.order.all n nlt in
      let b = is.order.all m mlt in
      let ra : rank f is n ≡ a.0 = net_at_rank f is n a.0 a.1 in
      let rb : rank f is m ≡ b.0 = net_at_rank f is m b.0 b.1 in
      let same : a.0 ≡ b.0 = cc in
      some_same (sym a.1 ∙ ap (slice_get f.order) same ∙ b.1)

  module _ (roots : List ℕ) (rooted : AreRoots f.drivers roots) where
    abbrev pub root : ℕ → ℕ
    root n = slice_index roots n

    pub record StandsLow (n : ℕ) : Type 0 where
      pub within : root n < count
      pub lower : rank f is (root n) ≤ rank f is n

    own : (n : ℕ) → n < count → root n ≡ n → StandsLow n
    own n lt e = record { within = subst (λ m. m < count) (sym e) lt; lower = let same : rank f is (root n) ≡ rank f is n = ap (rank f is) e in omega arith }

    -- the value of a net stands at a net that comes no later
    root_low : (fuel n : ℕ) → rank f is n < fuel → n < count → StandsLow n
    root_low zero n less lt = absurd (omega arith)
    root_low (suc fuel) n less lt = let d = driver_at n lt in go (λ m below mlt. root_low fuel m below mlt) d.0 d.1
      where
        go : ((m : ℕ) → rank f is m < fuel → m < count → StandsLow m) → (by : Driver) → slice_get f.drivers n ≡ Some by → StandsLow n
        go rec driver.Given at = own n lt (rooted.each n driver.Given at)
        go rec (driver.Looks m) at = own n lt (rooted.each n (driver.Looks m) at)
        go rec (driver.Equation (cell.Const c)) at = own n lt (rooted.each n _ at)
        go rec (driver.Equation (cell.Copy w)) at =
            let e : root n ≡ root w.number = rooted.each n (driver.Equation (cell.Copy w)) at in
            let l = (operand_lower n (cell.Copy w) lt (equation n (cell.Copy w) at)).0 in
            let wlt : w.number < count = l.0 in
            let below : rank f is w.number < rank f is n = l.1 in
            let inner = rec w.number (omega arith) wlt in
            let il : rank f is (root w.number) ≤ rank f is w.number = inner.lower in
            record { within = subst (λ m. m < count) (sym e) inner.within; lower = let same : rank f is (root n) ≡ rank f is (root w.number) = ap (rank f is) e in omega arith }
        go rec (driver.Equation (cell.Not a)) at = own n lt (rooted.each n _ at)
        go rec (driver.Equation (cell.Two o a b)) at = own n lt (rooted.each n _ at)
        go rec (driver.Equation (cell.Choose s a b)) at = own n lt (rooted.each n _ at)
        go rec (driver.Equation (cell.Cat a b)) at = own n lt (rooted.each n _ at)
        go rec (driver.Equation (cell.Slice a h l)) at = own n lt (rooted.each n _ at)

    pub stands_low : (n : ℕ) → n < count → StandsLow n
    stands_low n lt = root_low (rank f is n + 1) n (omega arith) lt

    abbrev pub memory_of : ℕ → Option ℕ
    memory_of n = memory_at (first_mem_port f.outside) (length f.outside.mems) n

    module _ (v : List ℕ) (solves : Solves f.net v) (load : ℕ → ℕ → ℕ) where
      -- a port at which a memory's word stands has the word at the address of the port before it
      pub record Answers (n m : ℕ) : Type 0 where
        pub address : n - 1 < count
        pub earlier : rank f is (n - 1) < rank f is n
        pub own_root : root n ≡ n
        pub word : slice_index v n ≡ load m (slice_index v (n - 1))

      abbrev pub AllAnswer : Type 0
      AllAnswer = (n m : ℕ) → n < count → memory_of n ≡ Some m → Answers n m

      pub holds : (n : ℕ) (c : Cell) (d : Drives (equations f.net) n c) → slice_index v n ≡ cell_value (slice_index v) d.equation.to.width c
      holds n c d =
          let h : slice_index v d.equation.to.number ≡ cell_value (slice_index v) d.equation.to.width d.equation.cell = All-at (Holds (slice_index v)) (equations f.net) d.place d.equation solves.settles.holds d.among in
          ap (slice_index v) (sym d.to) ∙ h ∙ ap (cell_value (slice_index v) d.equation.to.width) d.by

      -- what is read for a net has been computed
      abbrev pub Earlier : ℕ → List ℕ → Type 0
      Earlier n values = (m : ℕ) → m < count → rank f is m < rank f is n → slice_index values (root m) ≡ slice_index v m

      record Gives (n : ℕ) (s : Shape) (values : List ℕ) : Type 0 where
        own_root : root n ≡ n
        value : shape_value (slice_index values) load s ≡ slice_index v n

      root_own : (n w : ℕ) (c : Cell) (s : Shape) → cell_shape roots w c ≡ Some s → root_by roots n (driver.Equation c) ≡ n
      root_own n w (cell.Const c) s e = refl
      root_own n w (cell.Copy a) s e = cc
      root_own n w (cell.Not a) s e = refl
      root_own n w (cell.Two o a b) s e = refl
      root_own n w (cell.Choose t a b) s e = refl
      root_own n w (cell.Cat a b) s e = refl
      root_own n w (cell.Slice a h l) s e = refl

      by_cell : (n : ℕ) (s : Shape) (values : List ℕ) → n < count → Earlier n values → (c : Cell) → slice_get f.drivers n ≡ Some (driver.Equation c) → cell_shape roots (width_of (slice_get f.net.nets n)) c ≡ Some s → Gives n s values
      by_cell n s values lt earlier c at shaped =
          let d = equation n c at in
          let fits = cell_fits n c d in
          let wide : width_of (slice_get f.net.nets n) ≡ d.equation.to.width = ap (λ k. width_of (slice_get f.net.nets k)) (sym d.to) ∙ width_is f.net.nets d.equation.to.number d.equation.to.width (fits.0).declared in
          let lower = operand_lower n c lt d in
          let declared : Each (IsNet nets) (operands c) = operands-CellFits nets d.equation.to.width c fits.1 in
          record {
            own_root = rooted.each n (driver.Equation c) at ∙ root_own n (width_of (slice_get f.net.nets n)) c s shaped;
            value = cell_is nets c d.equation.to.width fits.1 (fits.0).high roots values load (slice_index v)
                (Each-at (ReadsAs values roots (slice_index v)) (operands c) (λ j o there.
                let l = All-at (λ (x : Wire). (x.number < count) × (rank f is x.number < rank f is n)) (operands c) j o lower there in
                record { same = earlier o.number l.0 l.1; fits = solves.settles.fits o.number o.width (All-at (IsNet nets) (operands c) j o declared there).declared }))
                s (subst (λ w. cell_shape roots w c ≡ Some s) wide shaped)
                ∙ sym (holds n c d);
          }

      by_driver : (n : ℕ) (s : Shape) (values : List ℕ) → n < count → Earlier n values → (q : Option Driver) → slice_get f.drivers n ≡ q → driver_shape roots (width_of (slice_get f.net.nets n)) q ≡ Some s → Gives n s values
      by_driver n s values lt earlier None at shaped = cc
      by_driver n s values lt earlier (Some driver.Given) at shaped = cc
      by_driver n s values lt earlier (Some (driver.Looks m)) at shaped = cc
      by_driver n s values lt earlier (Some (driver.Equation c)) at shaped = by_cell n s values lt earlier c at shaped

      by_memory : AllAnswer → (n : ℕ) (s : Shape) (values : List ℕ) → n < count → Earlier n values → (q : Option ℕ) → memory_of n ≡ q → net_shape f roots n q ≡ Some s → Gives n s values
      by_memory answer n s values lt earlier None at shaped = by_driver n s values lt earlier (slice_get f.drivers n) refl shaped
      by_memory answer n s values lt earlier (Some m) at shaped =
          let a = answer n m lt at in
          record {
            own_root = a.own_root;
            value = subst (λ (x : Shape). shape_value (slice_index values) load x ≡ slice_index v n) (some_same shaped) (ap (load m) (earlier (n - 1) a.address a.earlier) ∙ sym a.word);
          }

      -- Along the order. ---------------------------------------------------------------------------------------------------

      pub record Done (i : ℕ) (values : List ℕ) : Type 0 where
        pub long : length values ≡ count
        pub done : (n : ℕ) → n < count → rank f is n < i → slice_index values (root n) ≡ slice_index v n
        pub still : (n : ℕ) → n < count → shape_of_net f roots n ≡ None → root n ≡ n → slice_index values n ≡ slice_index v n

      put : AllAnswer → (i n : ℕ) (values : List ℕ) → n < count → rank f is n ≡ i → Done i values → (s : Shape) → shape_of_net f roots n ≡ Some s → Done (suc i) (set values n (shape_value (slice_index values) load s))
      put answer i n values lt here d s shaped =
          let x : ℕ = shape_value (slice_index values) load s in
          let gives = by_memory answer n s values lt (λ m mlt below. d.done m mlt (let b : rank f is m < rank f is n = below in omega arith)) (memory_of n) refl shaped in
          let long : length values ≡ count = d.long in
          let at_n : slice_index (set values n x) n ≡ slice_index v n = get_or-set_same values n x 0 (omega arith) ∙ gives.value in
          record {
            long = length-set values n x ∙ d.long;
            done = λ m mlt below. go m mlt below at_n gives.own_root (cases_lt (rank f is m) i);
            still = λ m mlt none own. get_or-set_other values n m x 0 (λ e. let same : shape_of_net f roots m ≡ Some s = ap (shape_of_net f roots) e ∙ shaped in cc) ∙ d.still m mlt none own;
          }
        where
          go : (m : ℕ) → m < count → rank f is m < suc i → slice_index (set values n (shape_value (slice_index values) load s)) n ≡ slice_index v n → root n ≡ n → (rank f is m < i) ⊎ (i ≤ rank f is m)
              → slice_index (set values n (shape_value (slice_index values) load s)) (root m) ≡ slice_index v m
          go m mlt below at_n own (inl less) =
              let l : rank f is (root m) ≤ rank f is m = (stands_low m mlt).lower in
              get_or-set_other values n (root m) (shape_value (slice_index values) load s) 0 (λ e. let same : rank f is (root m) ≡ rank f is n = ap (rank f is) e in absurd (omega arith)) ∙ d.done m mlt less
          go m mlt below at_n own (inr more) =
              let same : m ≡ n = same_net m n mlt lt (let e : rank f is m ≡ rank f is n = omega arith in e) in
              ap (λ k. slice_index (set values n (shape_value (slice_index values) load s)) (root k)) same ∙ ap (slice_index (set values n (shape_value (slice_index values) load s))) own ∙ at_n ∙ ap (slice_index v) (sym same)

      -- a net without an operation
      idle : (i n : ℕ) (values : List ℕ) → n < count → rank f is n ≡ i → Done i values → shape_of_net f roots n ≡ None → (by : Driver) → slice_get f.drivers n ≡ Some by → slice_index values (root n) ≡ slice_index v n
      idle i n values lt here d none (driver.Equation (cell.Copy w)) at =
          let e = equation n (cell.Copy w) at in
          let l = (operand_lower n (cell.Copy w) lt e).0 in
          let below : rank f is w.number < rank f is n = l.1 in
          ap (slice_index values) (rooted.each n (driver.Equation (cell.Copy w)) at) ∙ d.done w.number l.0 (omega arith) ∙ sym (holds n (cell.Copy w) e)
      idle i n values lt here d none driver.Given at = let own : root n ≡ n = rooted.each n driver.Given at in ap (slice_index values) own ∙ d.still n lt none own
      idle i n values lt here d none (driver.Looks m) at = let own : root n ≡ n = rooted.each n (driver.Looks m) at in ap (slice_index values) own ∙ d.still n lt none own
      idle i n values lt here d none (driver.Equation (cell.Const c)) at = let own : root n ≡ n = rooted.each n (driver.Equation (cell.Const c)) at in ap (slice_index values) own ∙ d.still n lt none own
      idle i n values lt here d none (driver.Equation (cell.Not a)) at = let own : root n ≡ n = rooted.each n (driver.Equation (cell.Not a)) at in ap (slice_index values) own ∙ d.still n lt none own
      idle i n values lt here d none (driver.Equation (cell.Two o a b)) at = let own : root n ≡ n = rooted.each n (driver.Equation (cell.Two o a b)) at in ap (slice_index values) own ∙ d.still n lt none own
      idle i n values lt here d none (driver.Equation (cell.Choose s a b)) at = let own : root n ≡ n = rooted.each n (driver.Equation (cell.Choose s a b)) at in ap (slice_index values) own ∙ d.still n lt none own
      idle i n values lt here d none (driver.Equation (cell.Cat a b)) at = let own : root n ≡ n = rooted.each n (driver.Equation (cell.Cat a b)) at in ap (slice_index values) own ∙ d.still n lt none own
      idle i n values lt here d none (driver.Equation (cell.Slice a h l)) at = let own : root n ≡ n = rooted.each n (driver.Equation (cell.Slice a h l)) at in ap (slice_index values) own ∙ d.still n lt none own

      skip : (i n : ℕ) (values : List ℕ) → n < count → rank f is n ≡ i → Done i values → shape_of_net f roots n ≡ None → Done (suc i) values
      skip i n values lt here d none =
          let by = driver_at n lt in
          let at_n : slice_index values (root n) ≡ slice_index v n = idle i n values lt here d none by.0 by.1 in
          record { long = d.long; done = λ m mlt below. go m mlt below at_n (cases_lt (rank f is m) i); still = d.still }
        where
          go : (m : ℕ) → m < count → rank f is m < suc i → slice_index values (root n) ≡ slice_index v n → (rank f is m < i) ⊎ (i ≤ rank f is m) → slice_index values (root m) ≡ slice_index v m
          go m mlt below at_n (inl less) = d.done m mlt less
          go m mlt below at_n (inr more) =
              let same : m ≡ n = same_net m n mlt lt (let e : rank f is m ≡ rank f is n = omega arith in e) in
              ap (λ k. slice_index values (root k)) same ∙ at_n ∙ ap (slice_index v) (sym same)

      step : AllAnswer → (i n : ℕ) (values : List ℕ) → n < count → rank f is n ≡ i → Done i values → (q : Option Shape) → shape_of_net f roots n ≡ q → Done (suc i) (computed load (op_list n q) values)
      step answer i n values lt here d None e = skip i n values lt here d e
      step answer i n values lt here d (Some s) e = put answer i n values lt here d s e

      run : AllAnswer → (rest : List ℕ) (i : ℕ) (values : List ℕ) → ((j n : ℕ) → slice_get rest j ≡ Some n → slice_get f.order (i + j) ≡ Some n) → Done i values → Done (i + length rest) (computed load (ops_of f roots rest) values)
      run answer [] i values there d = let e : i ≡ i + 0 = omega arith in subst (λ k. Done k values) e d
      run answer (n ∷ rest) i values there d =
          let at : slice_get f.order i ≡ Some n = let e : i + 0 ≡ i = omega arith in subst (λ k. slice_get f.order k ≡ Some n) e (there 0 n refl) in
          let once = step answer i n values (is.order.within i n at) (net_at_rank f is n i at) d (shape_of_net f roots n) refl in
          let next = run answer rest (suc i) (computed load (op_list n (shape_of_net f roots n)) values) (λ j m got. let e : i + suc j ≡ suc i + j = omega arith in subst (λ k. slice_get f.order k ≡ Some m) e (there (suc j) m got)) once in
          let e : suc i + length rest ≡ i + suc (length rest) = omega arith in
          subst (λ k. Done k (computed load (op_list n (shape_of_net f roots n) ++ ops_of f roots rest) values)) e
          (subst (Done (suc i + length rest)) (sym (computed-append load (op_list n (shape_of_net f roots n)) (ops_of f roots rest) values)) next)

      -- after all operations each net's value stands at its root
      pub all_computed : AllAnswer → (values : List ℕ) → Done 0 values → (n : ℕ) → n < count → slice_index (computed load (ops_of f roots f.order) values) (root n) ≡ slice_index v n
      all_computed answer values d n lt =
          let end = run answer f.order 0 values (λ j m got. let e : j ≡ 0 + j = omega arith in subst (λ k. slice_get f.order k ≡ Some m) e got) d in
          let here = is.order.all n lt in
          let r : rank f is n ≡ here.0 = net_at_rank f is n here.0 here.1 in
          let w : here.0 < length f.order = slice_get_within f.order here.0 n here.1 in
          end.done n lt (omega arith)
