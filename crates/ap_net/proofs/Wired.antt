use Rattle.std.proofs.Common.{◌≡◌, ◌≢◌, ℕ, ◌+◌, ◌<◌, ◌≤◌, ◌^◌, List, [], ◌∷◌, ◌++◌, length, Some, refl, sym, ap, subst, ◌∙◌, arith, Bool, true, false, zero-add}
use Rattle.std.specs.Prelude.{slice_get, codes, if◌then◌else◌}
use Rattle.std.specs.List.{AllByRecursion as Each}
use Rattle.std.proofs.lemmas.List.Sums.{sum_by-append}
use Rattle.std.proofs.lemmas.List.{map-append, length-map}
use Rattle.std.proofs.lemmas.Option.{slice_get_within}
use Rattle.ap_net.specs.declared.cell.Wire.{Wire}
use Rattle.ap_net.specs.declared.cell.Cell.{Cell}
use Rattle.ap_net.specs.declared.cell.Cell.TheVariants as cell
use Rattle.ap_net.specs.declared.net.ModuleNet.{ModuleNet}
use Rattle.ap_net.specs.declared.net.Assign.{Assign}
use Rattle.ap_net.specs.declared.net.Next.{Next}
use Rattle.ap_net.specs.Names.{IsNetName, IsNew, AreDistinct, numbered, HasFresh}
use Rattle.ap_net.specs.Cells.{operands, widths_of, IsNet, CellFits}
use Rattle.ap_net.specs.Wiring.{IsSource, reset_of, IsFree, Undriven, Unclocked, DrivenOnce, ClockedOnce, taken_names, NextFits, IsWired}
use Rattle.ap_net.specs.Draft.{is_plain, is_wire, wire_count}
use Rattle.ap_net.proofs.NameLemmas.{IsNew-is_new}
use Rattle.ap_net.proofs.Lists.{All-join, All-from, All-both, same_left, get_left, get_end, some_same}

-- a declared width stays
pub width_stays : (nets more : List ModuleNet) (n w : ℕ) → slice_get (widths_of nets) n ≡ Some w → slice_get (widths_of (nets ++ more)) n ≡ Some w
width_stays nets more n w h = rw (map-append (λ (x : ModuleNet). x.width) nets more) (get_left (widths_of nets) (widths_of more) n w h)

pub IsNet-more : (nets more : List ModuleNet) (w : Wire) → IsNet nets w → IsNet (nets ++ more) w
IsNet-more nets more w h = record { declared = width_stays nets more w.number w.width h.declared; low = h.low; high = h.high }

pub IsNet-end : (nets : List ModuleNet) (net : ModuleNet) → 1 ≤ net.width → net.width ≤ 64 → IsNet (nets ++ net ∷ []) (record { number = length nets; width = net.width })
IsNet-end nets net low high =
    let long : length (widths_of nets) ≡ length nets = simp length-map in
    record { declared = rw (map-append (λ (x : ModuleNet). x.width) nets (net ∷ []), ← long) (get_end (widths_of nets) net.width); low = low; high = high }

-- a declared net's number is below the number of nets
pub number-IsNet : (nets : List ModuleNet) (w : Wire) → IsNet nets w → w.number < length nets
number-IsNet nets w h =
    let lt : w.number < length (widths_of nets) = slice_get_within (widths_of nets) w.number w.width h.declared in
    rw length-map at lt

pub CellFits-more : (nets more : List ModuleNet) (w : ℕ) (c : Cell) → CellFits nets w c → CellFits (nets ++ more) w c
CellFits-more nets more w (cell.Const c) h = h
CellFits-more nets more w (cell.Copy x) h = (IsNet-more nets more x h.0, h.1)
CellFits-more nets more w (cell.Not x) h = (IsNet-more nets more x h.0, h.1)
CellFits-more nets more w (cell.Two o x y) h = (IsNet-more nets more x h.0, IsNet-more nets more y h.1, h.2, h.3)
CellFits-more nets more w (cell.Choose s x y) h = (IsNet-more nets more s h.0, IsNet-more nets more x h.1, IsNet-more nets more y h.2, h.3, h.4, h.5)
CellFits-more nets more w (cell.Cat x y) h = (IsNet-more nets more x h.0, IsNet-more nets more y h.1, h.2)
CellFits-more nets more w (cell.Slice x i j) h = (IsNet-more nets more x h.0, h.1, h.2, h.3)

-- the operands of a cell that fits are declared
pub operands-CellFits : (nets : List ModuleNet) (w : ℕ) (c : Cell) → CellFits nets w c → Each (IsNet nets) (operands c)
operands-CellFits nets w (cell.Const c) h = tt
operands-CellFits nets w (cell.Copy x) h = (h.0, tt)
operands-CellFits nets w (cell.Not x) h = (h.0, tt)
operands-CellFits nets w (cell.Two o x y) h = (h.0, (h.1, tt))
operands-CellFits nets w (cell.Choose s x y) h = (h.0, (h.1, (h.2, tt)))
operands-CellFits nets w (cell.Cat x y) h = (h.0, (h.1, tt))
operands-CellFits nets w (cell.Slice x i j) h = (h.0, tt)

-- each operand of wired nets is declared
pub declared : (nets : List ModuleNet) (assigns : List Assign) (nexts : List Next) → IsWired nets assigns nexts → Each (λ (a : Assign). Each (IsNet nets) (operands a.cell)) assigns
declared nets assigns nexts h = All-from (λ (a : Assign). CellFits nets a.to.width a.cell) (λ (a : Assign). Each (IsNet nets) (operands a.cell)) (λ a. operands-CellFits nets a.to.width a.cell) assigns h.cells

-- a declared net is what it was
earlier : (nets more : List ModuleNet) (w : Wire) (net : ModuleNet) → IsNet nets w → slice_get (nets ++ more) w.number ≡ Some net → slice_get nets w.number ≡ Some net
earlier nets more w net h at = sym (same_left nets more w.number (number-IsNet nets w h)) ∙ at

IsFree-more : (nets more : List ModuleNet) (w : Wire) → IsNet nets w → IsFree nets w.number → IsFree (nets ++ more) w.number
IsFree-more nets more w h f = λ net at s. f net (earlier nets more w net h at) s

NextFits-more : (nets more : List ModuleNet) (x : Next) → NextFits nets x → NextFits (nets ++ more) x
NextFits-more nets more x h = record {
  register = IsNet-more nets more x.register h.register;
  clocked = λ net at. h.clocked net (earlier nets more x.register net h.register at);
  from = IsNet-more nets more x.from h.from;
  same = h.same;
}

pub AreDistinct-push : (names : List (List ℕ)) (name : List ℕ) → IsNew name names → AreDistinct names → AreDistinct (names ++ name ∷ [])
AreDistinct-push [] name ne h = (tt, tt)
AreDistinct-push (n ∷ names) name ne h = (All-join (λ other. other ≢ n) names (name ∷ []) h.0 ((λ e. ne.0 (sym e)), tt), AreDistinct-push names name ne.1 h.1)

DrivenOnce-push : (xs : List Assign) (y : Assign) → Undriven xs y.to.number → DrivenOnce xs → DrivenOnce (xs ++ y ∷ [])
DrivenOnce-push [] y ne h = (tt, tt)
DrivenOnce-push (x ∷ xs) y ne h = (All-join (λ (b : Assign). b.to.number ≢ x.to.number) xs (y ∷ []) h.0 ((λ e. ne.0 (sym e)), tt), DrivenOnce-push xs y ne.1 h.1)

ClockedOnce-push : (xs : List Next) (y : Next) → Unclocked xs y.register.number → ClockedOnce xs → ClockedOnce (xs ++ y ∷ [])
ClockedOnce-push [] y ne h = (tt, tt)
ClockedOnce-push (x ∷ xs) y ne h = (All-join (λ (b : Next). b.register.number ≢ x.register.number) xs (y ∷ []) h.0 ((λ e. ne.0 (sym e)), tt), ClockedOnce-push xs y ne.1 h.1)

-- nothing is wired rightly
pub IsWired-nil : IsWired [] [] []
IsWired-nil = record { names = tt; distinct = (IsNew-is_new (codes "clk") (codes "rst" ∷ []) refl, (tt, tt)); widths = tt; resets = tt; results = tt; cells = tt; free = tt; once = tt; registers = tt; clocked_once = tt }

-- to declare a net keeps the rules
pub IsWired-declare : (nets : List ModuleNet) (assigns : List Assign) (nexts : List Next) (net : ModuleNet) → IsNetName net.name → IsNew net.name (taken_names nets)
    → 1 ≤ net.width → net.width ≤ 64 → reset_of net.role < 2 ^ net.width → IsWired nets assigns nexts → IsWired (nets ++ net ∷ []) assigns nexts
IsWired-declare nets assigns nexts net name new low high reset h =
    let more : List ModuleNet = net ∷ [] in
    record {
      names = All-join (λ (n : ModuleNet). IsNetName n.name) nets more h.names (name, tt);
      distinct = rw (map-append (λ (n : ModuleNet). n.name) nets more) (AreDistinct-push (taken_names nets) net.name new h.distinct);
      widths = All-join (λ (n : ModuleNet). (1 ≤ n.width) × (n.width ≤ 64)) nets more h.widths ((low, high), tt);
      resets = All-join (λ (n : ModuleNet). reset_of n.role < 2 ^ n.width) nets more h.resets (reset, tt);
      results = All-from (λ (a : Assign). IsNet nets a.to) (λ (a : Assign). IsNet (nets ++ more) a.to) (λ a. IsNet-more nets more a.to) assigns h.results;
      cells = All-from (λ (a : Assign). CellFits nets a.to.width a.cell) (λ (a : Assign). CellFits (nets ++ more) a.to.width a.cell) (λ a. CellFits-more nets more a.to.width a.cell) assigns h.cells;
      free = All-both (λ (a : Assign). IsNet nets a.to) (λ (a : Assign). IsFree nets a.to.number) (λ (a : Assign). IsFree (nets ++ more) a.to.number) (λ a. IsFree-more nets more a.to) assigns h.results h.free;
      once = h.once;
      registers = All-from (NextFits nets) (NextFits (nets ++ more)) (NextFits-more nets more) nexts h.registers;
      clocked_once = h.clocked_once;
    }

-- to drive a net keeps the rules
pub IsWired-assign : (nets : List ModuleNet) (assigns : List Assign) (nexts : List Next) (a : Assign) → IsNet nets a.to → CellFits nets a.to.width a.cell
    → IsFree nets a.to.number → Undriven assigns a.to.number → IsWired nets assigns nexts → IsWired nets (assigns ++ a ∷ []) nexts
IsWired-assign nets assigns nexts a net fits free undriven h = record {
  names = h.names;
  distinct = h.distinct;
  widths = h.widths;
  resets = h.resets;
  results = All-join (λ (b : Assign). IsNet nets b.to) assigns (a ∷ []) h.results (net, tt);
  cells = All-join (λ (b : Assign). CellFits nets b.to.width b.cell) assigns (a ∷ []) h.cells (fits, tt);
  free = All-join (λ (b : Assign). IsFree nets b.to.number) assigns (a ∷ []) h.free (free, tt);
  once = DrivenOnce-push assigns a undriven h.once;
  registers = h.registers;
  clocked_once = h.clocked_once;
}

-- to drive a register keeps the rules
pub IsWired-next : (nets : List ModuleNet) (assigns : List Assign) (nexts : List Next) (x : Next) → NextFits nets x → Unclocked nexts x.register.number
    → IsWired nets assigns nexts → IsWired nets assigns (nexts ++ x ∷ [])
IsWired-next nets assigns nexts x fits unclocked h = record {
  names = h.names;
  distinct = h.distinct;
  widths = h.widths;
  resets = h.resets;
  results = h.results;
  cells = h.cells;
  free = h.free;
  once = h.once;
  registers = All-join (NextFits nets) nexts (x ∷ []) h.registers (fits, tt);
  clocked_once = ClockedOnce-push nexts x unclocked h.clocked_once;
}

-- a new net may be driven where its role is no source
pub IsFree-end : (nets : List ModuleNet) (net : ModuleNet) → (IsSource net.role → ⊥) → IsFree (nets ++ net ∷ []) (length nets)
IsFree-end nets net f m at s = let same : net ≡ m = some_same (sym (get_end nets net) ∙ at) in f (subst (λ (x : ModuleNet). IsSource x.role) (sym same) s)

-- no assign drives a net past the end
pub Undriven-end : (nets : List ModuleNet) (assigns : List Assign) → Each (λ (a : Assign). IsNet nets a.to) assigns → Undriven assigns (length nets)
Undriven-end nets assigns h = All-from (λ (a : Assign). IsNet nets a.to) (λ (a : Assign). a.to.number ≢ length nets) (λ a net e. let lt = number-IsNet nets a.to net in absurd (omega arith)) assigns h

-- one more net is one more wire, or none
pub wire_count-push : (nets : List ModuleNet) (net : ModuleNet) → wire_count (nets ++ net ∷ []) ≡ wire_count nets + (if is_plain net.role then 1 else 0)
wire_count-push nets net = sum_by-append (λ (x : ModuleNet). if is_wire x then 1 else 0) nets (net ∷ []) ∙ ap (λ n. wire_count nets + n) (zero-add (if is_wire net then 1 else 0))

pub HasFresh-push : (names : List (List ℕ)) (name : List ℕ) (count count' : ℕ) → count ≤ count' → ((k : ℕ) → count' ≤ k → k < 2 ^ 64 → name ≢ numbered k) → HasFresh names count → HasFresh (names ++ name ∷ []) count'
HasFresh-push names name count count' le ne h = record { free = λ k low high. All-join (λ other. other ≢ numbered k) names (name ∷ []) (h.free k (omega arith) high) (ne k low high, tt) }

pub count_grows : (b : Bool) (n : ℕ) → n ≤ n + (if b then 1 else 0)
count_grows true n = omega arith
count_grows false n = omega arith
