use Rattle.std.proofs.Common.{◌≢◌, ◌≡◌, ℕ, ◌+◌, ◌-◌, ◌*◌, ◌/◌, ◌%◌, ◌^◌, ◌<◌, ◌≤◌, suc, zero, List, length, Some, None, Bool, true, false, refl, sym, ap, subst, ◌∙◌, arith, lit<}
use Rattle.std.specs.Prelude.{slice_get, slice_index, option_map, ◌==◌, if◌then◌else◌, nat_lt, bit_and, bit_or, bit_xor}
use Rattle.std.specs.List.{AllByRecursion as Each}
use Rattle.std.proofs.lemmas.Nat.{or_lt, xor_lt, and_le_l, pow_pos, pow-add}
use Rattle.std.proofs.lemmas.List.{length-map}
use Rattle.std.proofs.lemmas.Option.{slice_get_within, slice_get-map}
use Rattle.std.proofs.lemmas.List.FromFn.{length-map-range_with_len}
use Rattle.ap_net.specs.declared.cell.Wire.{Wire}
use Rattle.ap_net.specs.declared.cell.TwoOp.{TwoOp}
use Rattle.ap_net.specs.declared.cell.TwoOp.TheVariants as op
use Rattle.ap_net.specs.declared.cell.Cell.{Cell}
use Rattle.ap_net.specs.declared.cell.Cell.TheVariants as cell
use Rattle.ap_net.specs.declared.net.Role.{Role}
use Rattle.ap_net.specs.declared.net.Role.TheVariants as role
use Rattle.ap_net.specs.declared.net.ModuleNet.{ModuleNet}
use Rattle.ap_net.specs.declared.net.Assign.{Assign}
use Rattle.ap_net.specs.Cells.{two_value, cell_value, operands, widths_of, IsNet, FitsTwo, CellFits}
use Rattle.ap_net.specs.declared.net.FlatNet.{FlatNet}
use Rattle.ap_net.specs.Wiring.{IsSource, IsFree, Undriven}
use Rattle.ap_net.specs.Flat.{plain_nets, equations}
use Rattle.ap_net.specs.Sources.{Given, AlwaysSolvable}
use Rattle.ap_net.proofs.Lists.{All-from, All-both}
use Rattle.ap_net.proofs.Wired.{number-IsNet, operands-CellFits}
use Rattle.ap_net.proofs.Solution.{value, driver, by_driver, by_role, by_net, All-driver, solution, solution_at, solution-given, solution-holds}

pub length-plain : (nets : List FlatNet) → length (plain_nets nets) ≡ length nets
length-plain nets = simp length-map

bit_fits : (b : Bool) → (if b then 1 else 0) < 2 ^ 1
bit_fits true = lit< tt
bit_fits false = lit< tt

choice_fits : (b : Bool) (x y n : ℕ) → x < n → y < n → (if b then x else y) < n
choice_fits true x y n p q = p
choice_fits false x y n p q = q

two_fits : (o : TwoOp) (w u a b : ℕ) → FitsTwo o w u → a < 2 ^ u → b < 2 ^ u → two_value o w a b < 2 ^ w
two_fits op.Add w u a b h p q = let z = pow_pos w in omega arith
two_fits op.Sub w u a b h p q = let z = pow_pos w in omega arith
two_fits op.And w u a b h p q = let z : bit_and a b ≤ a = and_le_l a b in subst (λ n. bit_and a b < 2 ^ n) (sym h) (omega arith)
two_fits op.Or w u a b h p q = subst (λ n. bit_or a b < 2 ^ n) (sym h) (or_lt u a b p q)
two_fits op.Xor w u a b h p q = subst (λ n. bit_xor a b < 2 ^ n) (sym h) (xor_lt u a b p q)
two_fits op.Eq w u a b h p q = rw h (bit_fits (a == b))
two_fits op.Ltu w u a b h p q = rw h (bit_fits (nat_lt a b))

cat_fits : (a b i j : ℕ) → a < 2 ^ i → b < 2 ^ j → a * 2 ^ j + b < 2 ^ (i + j)
cat_fits a b i j p q =
    let up : (a + 1) * 2 ^ j ≤ 2 ^ i * 2 ^ j = grind arith in
    rw pow-add (omega arith)

-- a cell over values that fit has a value that fits
pub cell_fits : (read : ℕ → ℕ) (nets : List ModuleNet) (w : ℕ) (c : Cell) → CellFits nets w c → Each (λ (o : Wire). read o.number < 2 ^ o.width) (operands c) → cell_value read w c < 2 ^ w
cell_fits read nets w (cell.Const c) h v = h
cell_fits read nets w (cell.Copy a) h v = subst (λ n. read a.number < 2 ^ n) h.1 v.0
cell_fits read nets w (cell.Not a) h v = let z = pow_pos w in omega arith
cell_fits read nets w (cell.Two o a b) h v = two_fits o w a.width (read a.number) (read b.number) h.3 v.0 (subst (λ n. read b.number < 2 ^ n) (sym h.2) v.1.0)
cell_fits read nets w (cell.Choose s a b) h v = choice_fits (read s.number == 1) (read a.number) (read b.number) (2 ^ w) (subst (λ n. read a.number < 2 ^ n) h.4 v.1.0) (subst (λ n. read b.number < 2 ^ n) h.5 v.1.1.0)
cell_fits read nets w (cell.Cat a b) h v = subst (λ n. read a.number * 2 ^ b.width + read b.number < 2 ^ n) h.2 (cat_fits (read a.number) (read b.number) a.width b.width v.0 v.1.0)
cell_fits read nets w (cell.Slice a i j) h v = let z = pow_pos (i + 1 - j) in let e : i + 1 - j ≡ w = omega arith in subst (λ n. (read a.number / 2 ^ j) % 2 ^ (i + 1 - j) < 2 ^ n) e (omega arith)

-- what a source is given fits, and 0 fits any other net
given_fits : (nets : List ModuleNet) (given : Given nets) (n w : ℕ) (read : ℕ → ℕ) → slice_get (widths_of nets) n ≡ Some w → by_net (slice_get nets n) (given.number n read) < 2 ^ w
given_fits nets given n w read e =
    elim (slice_get nets n) as (λ r. slice_get nets n ≡ r → by_net r (given.number n read) < 2 ^ w) [
      | None ↦ λ at. pow_pos w
      | Some net ↦ λ at.
          let wide : Some net.width ≡ Some w = sym (slice_get-map (λ (x : ModuleNet). x.width) nets n ∙ ap (option_map (λ (x : ModuleNet). x.width)) at) ∙ e in
          let same : net.width ≡ w = cc in
          go net at same net.role refl
    ] refl
  where
    go : (net : ModuleNet) → slice_get nets n ≡ Some net → net.width ≡ w → (r : Role) → net.role ≡ r → by_role r (given.number n read) < 2 ^ w
    go net at same role.Input f = subst (λ u. given.number n read < 2 ^ u) same (given.fits n net read at (subst IsSource (sym f) tt))
    go net at same role.Output f = pow_pos w
    go net at same role.Plain f = pow_pos w
    go net at same (role.Register reset) f = subst (λ u. given.number n read < 2 ^ u) same (given.fits n net read at (subst IsSource (sym f) tt))

-- every value on the way fits
value_fits : (nets : List ModuleNet) (assigns : List Assign) → Each (λ (a : Assign). IsNet nets a.to) assigns → Each (λ (a : Assign). CellFits nets a.to.width a.cell) assigns → (given : Given nets)
    → (fuel n w : ℕ) → slice_get (widths_of nets) n ≡ Some w → value nets assigns given fuel n < 2 ^ w
value_fits nets assigns results cells given zero n w e = pow_pos w
value_fits nets assigns results cells given (suc fuel) n w e =
    elim (driver assigns n) as (λ r. driver assigns n ≡ r → by_driver r (value nets assigns given fuel) (by_net (slice_get nets n) (given.number n (value nets assigns given fuel))) < 2 ^ w) [
      | None ↦ λ _. given_fits nets given n w (value nets assigns given fuel) e
      | Some a ↦ λ f.
          let net = All-driver (λ (x : Assign). IsNet nets x.to) assigns n a results f in
          let fits = All-driver (λ (x : Assign). CellFits nets x.to.width x.cell) assigns n a cells f in
          let operand = operands-CellFits nets a.to.width a.cell fits.0 in
          let here : slice_get (widths_of nets) n ≡ Some a.to.width = subst (λ k. slice_get (widths_of nets) k ≡ Some a.to.width) net.1 net.0.declared in
          let same : a.to.width ≡ w = cc in
          subst (λ u. cell_value (value nets assigns given fuel) a.to.width a.cell < 2 ^ u) same
          (cell_fits (value nets assigns given fuel) nets a.to.width a.cell fits.0
          (All-from (IsNet nets) (λ (o : Wire). value nets assigns given fuel o.number < 2 ^ o.width) (λ o p. value_fits nets assigns results cells given fuel o.number o.width p.declared) (operands a.cell) operand))
    ] refl

pub always_solvable : AlwaysSolvable
always_solvable d h given order =
    let nets : List ModuleNet = plain_nets d.nets in
    let count : ℕ = length nets in
    let v : List ℕ = solution nets (equations d) given order.rank order.ranked order.looks in
    let inside : Each (λ (a : Assign). (a.to.number < count) × Each (λ (o : Wire). o.number < count) (operands a.cell)) (equations d) =
    All-both (λ (a : Assign). IsNet nets a.to) (λ (a : Assign). CellFits nets a.to.width a.cell) (λ (a : Assign). (a.to.number < count) × Each (λ (o : Wire). o.number < count) (operands a.cell))
    (λ a p q. (number-IsNet nets a.to p, All-from (IsNet nets) (λ (o : Wire). o.number < count) (λ o r. number-IsNet nets o r) (operands a.cell) (operands-CellFits nets a.to.width a.cell q))) (equations d) h.results h.cells in (
      v,
      record {
        long = length-map-range_with_len (λ n. value nets (equations d) given (order.rank n + 1) n) 0 count ∙ length-plain d.nets;
        settles = record {
          fits = λ n w e.
              let lt : n < length (widths_of nets) = slice_get_within (widths_of nets) n w e in
              let lt' : n < count = rw length-map at lt in
              let at : slice_index v n ≡ value nets (equations d) given (order.rank n + 1) n = solution_at nets (equations d) given order.rank order.ranked order.looks (order.rank n + 1) n lt' (omega arith) in
              rw at (value_fits nets (equations d) h.results h.cells given (order.rank n + 1) n w e);
          holds = solution-holds nets (equations d) given order.rank order.ranked order.looks h.once inside;
        };
      },
      λ n net at source.
          let lt : n < count = slice_get_within nets n net at in
          let none : Undriven (equations d) n = All-from (λ (a : Assign). IsFree nets a.to.number) (λ (a : Assign). a.to.number ≢ n) (λ a f e. f net (subst (λ k. slice_get nets k ≡ Some net) (sym e) at) source) (equations d) h.free in
          solution-given nets (equations d) given order.rank order.ranked order.looks n net at source lt none,
    )

-- numbers that look at nothing
abbrev pub constant : (nets : List ModuleNet) (numbers : ℕ → ℕ) → ((n : ℕ) (net : ModuleNet) → slice_get nets n ≡ Some net → IsSource net.role → numbers n < 2 ^ net.width) → Given nets
constant nets numbers fits = record { number = λ n read. numbers n; fits = λ n net read at source. fits n net at source }

pub ruleset solvable = (always_solvable)
