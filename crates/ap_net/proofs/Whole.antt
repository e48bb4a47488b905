-- What an opened netlist keeps: its equations are well formed, no net has two, and its registers and their drivers are those of
-- the modules.
use Rattle.std.proofs.Common.{◌≡◌, ◌≢◌, ℕ, suc, zero, ◌+◌, ◌<◌, ◌≤◌, ◌^◌, List, [], ◌∷◌, ◌++◌, length, map, Option, Some, None, Bool, true, false, refl, sym, ap, subst, ◌∙◌, arith, length-append}
use Rattle.std.specs.Prelude.{slice_get, option_map, if◌then◌else◌}
use Rattle.std.specs.List.{AllByRecursion as Each}
use Rattle.std.proofs.lemmas.List.{map-append, length-map}
use Rattle.std.proofs.lemmas.Option.{slice_get-map}
use Rattle.ap_net.specs.declared.cell.Wire.{Wire}
use Rattle.ap_net.specs.declared.cell.Cell.{Cell}
use Rattle.ap_net.specs.declared.cell.Cell.TheVariants as cell
use Rattle.ap_net.specs.declared.net.Role.{Role}
use Rattle.ap_net.specs.declared.net.Role.TheVariants as role
use Rattle.ap_net.specs.declared.net.ModuleNet.{ModuleNet}
use Rattle.ap_net.specs.declared.net.Port.{Port}
use Rattle.ap_net.specs.declared.net.Assign.{Assign}
use Rattle.ap_net.specs.declared.net.Next.{Next}
use Rattle.ap_net.specs.declared.net.Instance.{Instance}
use Rattle.ap_net.specs.declared.net.Join.{Join}
use Rattle.ap_net.specs.Cells.{IsNet, CellFits}
use Rattle.ap_net.specs.Wiring.{IsSource, reset_of, IsFree, DrivenOnce, ClockedOnce, NextFits, NoneTwice, driven_among, driven_by}
use Rattle.ap_net.specs.Modules.{ModuleText, IsModule, nets_of, module_named, IsInstanceIn, port_net, wire_net, reg_net, placed, cell_placed, assign_placed, next_placed}
use Rattle.ap_net.specs.Flat.{IsFlat, AreClocked, inner_role, plain_nets, nets_in, assigns_in, nexts_in, part_size, part_assigns, part_nexts, part_joins, joins_from, base_from, base_of, opened_over, join_assign, equations}
use Rattle.ap_net.proofs.Lists.{All-join, All-front, All-back, All-from, All-both, All-at, All-map, Each-at, some_same}
use Rattle.ap_net.proofs.Wired.{number-IsNet, CellFits-more}
use Rattle.ap_net.proofs.Connected.{driven_within}
use Rattle.ap_net.proofs.Renumbered.{some_within}
use Rattle.ap_net.proofs.Parts.{inner_net, nets_by, plain-opened, parts_stand, part_net_at, own_net_at, net_of_width, width_at, part_assigns-all, part_joins-all, joins_from-all, join_of, All-named, port_at, part_size-found}

-- a cell over nets that stand elsewhere
CellFits-by : (olds news : List ModuleNet) (place : ℕ → ℕ) → ((w : Wire) → IsNet olds w → IsNet news (placed place w)) → (w : ℕ) (c : Cell) → CellFits olds w c → CellFits news w (cell_placed place c)
CellFits-by olds news place f w (cell.Const c) h = h
CellFits-by olds news place f w (cell.Copy a) h = (f a h.0, h.1)
CellFits-by olds news place f w (cell.Not a) h = (f a h.0, h.1)
CellFits-by olds news place f w (cell.Two o a b) h = (f a h.0, f b h.1, h.2, h.3)
CellFits-by olds news place f w (cell.Choose s a b) h = (f s h.0, f a h.1, f b h.2, h.3, h.4, h.5)
CellFits-by olds news place f w (cell.Cat a b) h = (f a h.0, f b h.1, h.2)
CellFits-by olds news place f w (cell.Slice a i j) h = (f a h.0, h.1, h.2, h.3)

-- a source of an instance is a source of its module
inner_source : (r : Role) → IsSource (inner_role r) → IsSource r
inner_source role.Input s = absurd s
inner_source role.Output s = absurd s
inner_source role.Plain s = absurd s
inner_source (role.Register reset) s = tt

-- a register of a module is one of its instance, and its reset value stays
inner_register : (r : Role) → r ≡ role.Register (reset_of r) → inner_role r ≡ role.Register (reset_of (inner_role r))
inner_register role.Input e = cc
inner_register role.Output e = cc
inner_register role.Plain e = cc
inner_register (role.Register reset) e = refl

inner_reset : (r : Role) → reset_of (inner_role r) ≡ reset_of r
inner_reset role.Input = refl
inner_reset role.Output = refl
inner_reset role.Plain = refl
inner_reset (role.Register reset) = refl

-- the reset values of instances fit, since those of their modules do
part_resets : (modules : List ModuleText) (instances : List Instance) → Each IsModule modules → Each (λ (n : ModuleNet). reset_of n.role < 2 ^ n.width) (nets_by inner_net modules instances)
part_resets modules [] each = tt
part_resets modules (i ∷ instances) each =
    All-join (λ (n : ModuleNet). reset_of n.role < 2 ^ n.width) (map inner_net (nets_in (module_named modules i.module))) (nets_by inner_net modules instances)
    (All-map (λ (n : ModuleNet). reset_of n.role < 2 ^ n.width) inner_net (nets_in (module_named modules i.module)) (go (module_named modules i.module) refl))
    (part_resets modules instances each)
  where
    go : (o : Option ModuleText) → module_named modules i.module ≡ o → Each (λ (n : ModuleNet). reset_of (inner_role n.role) < 2 ^ n.width) (nets_in o)
    go None found = tt
    go (Some m) found =
        All-from (λ (n : ModuleNet). reset_of n.role < 2 ^ n.width) (λ (n : ModuleNet). reset_of (inner_role n.role) < 2 ^ n.width)
        (λ n lt. subst (λ value. value < 2 ^ n.width) (sym (inner_reset n.role)) lt) (nets_of m) (All-named IsModule modules i.module m each found).0.wired.resets

-- a port of an instance is no source
port_no_source : (b : Bool) → IsSource (inner_role (if b then role.Output else role.Input)) → ⊥
port_no_source true s = s
port_no_source false s = s

-- what holds of each driven net holds where an instance drives
driven_among-at : (P : ℕ → Type 0) (drives : List Bool) (nets : List Wire) → Each P (driven_among drives nets) → (p : ℕ) (w : Wire) → slice_get nets p ≡ Some w → slice_get drives p ≡ Some true → P w.number
driven_among-at P [] nets h p w at flag = cc
driven_among-at P (d ∷ drives) [] h p w at flag = cc
driven_among-at P (true ∷ drives) (x ∷ nets) h zero w at flag = let same : x ≡ w = some_same at in subst (λ (y : Wire). P y.number) same h.0
driven_among-at P (false ∷ drives) (x ∷ nets) h zero w at flag = cc
driven_among-at P (true ∷ drives) (x ∷ nets) h (suc p) w at flag = driven_among-at P drives nets h.1 p w at flag
driven_among-at P (false ∷ drives) (x ∷ nets) h (suc p) w at flag = driven_among-at P drives nets h p w at flag

driven_by-at : (P : ℕ → Type 0) (instances : List Instance) → Each P (driven_by instances) → (k : ℕ) (i : Instance) → slice_get instances k ≡ Some i → Each P (driven_among i.drives i.nets)
driven_by-at P [] h k i at = cc
driven_by-at P (j ∷ instances) h zero i at = subst (λ (x : Instance). Each P (driven_among x.drives x.nets)) (some_same at) (All-front P (driven_among j.drives j.nets) (driven_by instances) h)
driven_by-at P (j ∷ instances) h (suc k) i at = driven_by-at P instances (All-back P (driven_among j.drives j.nets) (driven_by instances) h) k i at

-- a connection goes to a driven net or to a port
joins-split : (P : ℕ → Type 0) (n : ℕ) (drives : List Bool) (nets : List Wire) → Each P (driven_among drives nets) → ((m : ℕ) → n ≤ m → m < n + length nets → P m) → Each (λ (j : Join). P j.to.number) (joins_from n drives nets)
joins-split P n [] nets h f = tt
joins-split P n (d ∷ drives) [] h f = tt
joins-split P n (true ∷ drives) (w ∷ nets) h f = (h.0, joins-split P (n + 1) drives nets h.1 (λ m low high. f m (omega arith) (omega arith)))
joins-split P n (false ∷ drives) (w ∷ nets) h f = (f n (omega arith) (omega arith), joins-split P (n + 1) drives nets h (λ m low high. f m (omega arith) (omega arith)))

parts-split : (P : ℕ → Type 0) (modules : List ModuleText) (base : ℕ) (instances : List Instance) → Each P (driven_by instances) → ((m : ℕ) → base ≤ m → P m) → Each (λ (j : Join). P j.to.number) (part_joins modules base instances)
parts-split P modules base [] h f = tt
parts-split P modules base (i ∷ instances) h f =
    All-join (λ (j : Join). P j.to.number) (joins_from base i.drives i.nets) (part_joins modules (base + part_size modules i) instances)
    (joins-split P base i.drives i.nets (All-front P (driven_among i.drives i.nets) (driven_by instances) h) (λ m low high. f m low))
    (parts-split P modules (base + part_size modules i) instances (All-back P (driven_among i.drives i.nets) (driven_by instances) h) (λ m low. f m (omega arith)))

-- and back: what holds of where connections go holds of the driven nets
joins-driven : (P : ℕ → Type 0) (n : ℕ) (drives : List Bool) (nets : List Wire) → Each (λ (j : Join). P j.to.number) (joins_from n drives nets) → Each P (driven_among drives nets)
joins-driven P n [] nets h = tt
joins-driven P n (d ∷ drives) [] h = tt
joins-driven P n (true ∷ drives) (w ∷ nets) h = (h.0, joins-driven P (n + 1) drives nets h.1)
joins-driven P n (false ∷ drives) (w ∷ nets) h = joins-driven P (n + 1) drives nets h.1

pub parts-driven : (P : ℕ → Type 0) (modules : List ModuleText) (base : ℕ) (instances : List Instance) → Each (λ (j : Join). P j.to.number) (part_joins modules base instances) → Each P (driven_by instances)
parts-driven P modules base [] h = tt
parts-driven P modules base (i ∷ instances) h =
    All-join P (driven_among i.drives i.nets) (driven_by instances)
    (joins-driven P base i.drives i.nets (All-front (λ (j : Join). P j.to.number) (joins_from base i.drives i.nets) (part_joins modules (base + part_size modules i) instances) h))
    (parts-driven P modules (base + part_size modules i) instances (All-back (λ (j : Join). P j.to.number) (joins_from base i.drives i.nets) (part_joins modules (base + part_size modules i) instances) h))

-- lists whose assigns drive different nets
DrivenOnce-join : (xs ys : List Assign) → DrivenOnce xs → DrivenOnce ys → Each (λ (x : Assign). Each (λ (y : Assign). y.to.number ≢ x.to.number) ys) xs → DrivenOnce (xs ++ ys)
DrivenOnce-join [] ys p q h = q
DrivenOnce-join (x ∷ xs) ys p q h = (All-join (λ (y : Assign). y.to.number ≢ x.to.number) xs ys p.0 h.0, DrivenOnce-join xs ys p.1 q h.1)

ClockedOnce-join : (xs ys : List Next) → ClockedOnce xs → ClockedOnce ys → Each (λ (x : Next). Each (λ (y : Next). y.register.number ≢ x.register.number) ys) xs → ClockedOnce (xs ++ ys)
ClockedOnce-join [] ys p q h = q
ClockedOnce-join (x ∷ xs) ys p q h = (All-join (λ (y : Next). y.register.number ≢ x.register.number) xs ys p.0 h.0, ClockedOnce-join xs ys p.1 q h.1)

DrivenOnce-moved : (base : ℕ) (assigns : List Assign) → DrivenOnce assigns → DrivenOnce (map (assign_placed (λ n. base + n)) assigns)
DrivenOnce-moved base [] h = tt
DrivenOnce-moved base (a ∷ assigns) h = (
  All-map (λ (b : Assign). b.to.number ≢ base + a.to.number) (assign_placed (λ n. base + n)) assigns
      (All-from (λ (b : Assign). b.to.number ≢ a.to.number) (λ (b : Assign). base + b.to.number ≢ base + a.to.number) (λ b ne e. ne (omega arith)) assigns h.0),
  DrivenOnce-moved base assigns h.1,
)

ClockedOnce-moved : (base : ℕ) (nexts : List Next) → ClockedOnce nexts → ClockedOnce (map (next_placed (λ n. base + n)) nexts)
ClockedOnce-moved base [] h = tt
ClockedOnce-moved base (x ∷ nexts) h = (
  All-map (λ (y : Next). y.register.number ≢ base + x.register.number) (next_placed (λ n. base + n)) nexts
      (All-from (λ (y : Next). y.register.number ≢ x.register.number) (λ (y : Next). base + y.register.number ≢ base + x.register.number) (λ y ne e. ne (omega arith)) nexts h.0),
  ClockedOnce-moved base nexts h.1,
)

-- two lists, each pair
Each-swap : {X Y : Type 0} (R : X → Y → Type 0) (xs : List X) (ys : List Y) → Each (λ y. Each (λ x. R x y) xs) ys → Each (λ x. Each (λ y. R x y) ys) xs
Each-swap R [] ys h = tt
Each-swap R (x ∷ xs) ys h = (All-from (λ y. Each (λ z. R z y) (x ∷ xs)) (λ y. R x y) (λ y g. g.0) ys h, Each-swap R xs ys (All-from (λ y. Each (λ z. R z y) (x ∷ xs)) (λ y. Each (λ z. R z y) xs) (λ y g. g.1) ys h))

-- numbers of two lists, all apart
apart_cross : (xs ys : List ℕ) → NoneTwice (xs ++ ys) → NoneTwice xs × NoneTwice ys × Each (λ x. Each (λ y. y ≢ x) ys) xs
apart_cross [] ys h = (tt, h, tt)
apart_cross (x ∷ xs) ys h =
    let rest = apart_cross xs ys h.1 in
    ((All-front (λ other. other ≢ x) xs ys h.0, rest.0), rest.1, (All-back (λ other. other ≢ x) xs ys h.0, rest.2))

base_from-le : (modules : List ModuleText) (base : ℕ) (instances : List Instance) (k : ℕ) → base ≤ base_from modules base instances k
base_from-le modules base [] k = omega arith
base_from-le modules base (i ∷ instances) zero = omega arith
base_from-le modules base (i ∷ instances) (suc k) = let le = base_from-le modules (base + part_size modules i) instances k in omega arith

-- the connections of one instance go to different nets, where its ports stand past the nets of top
joins_once : (count n : ℕ) (drives : List Bool) (nets : List Wire) → count ≤ n → Each (λ (w : Wire). w.number < count) nets → NoneTwice (driven_among drives nets) → DrivenOnce (map join_assign (joins_from n drives nets))
joins_once count n [] nets le below apart = tt
joins_once count n (d ∷ drives) [] le below apart = tt
joins_once count n (true ∷ drives) (w ∷ nets) le below apart = (
  All-map (λ (b : Assign). b.to.number ≢ w.number) join_assign (joins_from (n + 1) drives nets)
      (joins-split (λ m. m ≢ w.number) (n + 1) drives nets apart.0 (λ m low high e. let lt : w.number < count = below.0 in omega arith)),
  joins_once count (n + 1) drives nets (omega arith) below.1 apart.1,
)
joins_once count n (false ∷ drives) (w ∷ nets) le below apart = (
  All-map (λ (b : Assign). b.to.number ≢ n) join_assign (joins_from (n + 1) drives nets)
      (joins-split (λ m. m ≢ n) (n + 1) drives nets (All-from (λ m. m < count) (λ m. m ≢ n) (λ m lt e. omega arith) (driven_among drives nets) (below_among drives nets below.1)) (λ m low high e. omega arith)),
  joins_once count (n + 1) drives nets (omega arith) below.1 apart,
)
  where
    below_among : (drives : List Bool) (nets : List Wire) → Each (λ (w : Wire). w.number < count) nets → Each (λ m. m < count) (driven_among drives nets)
    below_among [] nets h = tt
    below_among (d ∷ drives) [] h = tt
    below_among (true ∷ drives) (w ∷ nets) h = (h.0, below_among drives nets h.1)
    below_among (false ∷ drives) (w ∷ nets) h = below_among drives nets h.1

-- an instance has at most as many connections as its part has nets
few_joins : (modules : List ModuleText) (i : Instance) → IsInstanceIn modules i → length i.nets ≤ part_size modules i
few_joins modules i h =
    let m : ModuleText = h.whole in
    let a : length (map (λ (w : Wire). w.width) i.nets) ≡ length i.nets = simp length-map in
    let b : length (map (λ (p : Port). p.width) m.ports) ≡ length m.ports = simp length-map in
    let c = ap length (h.connects).widths in
    let d : length (map port_net m.ports) ≡ length m.ports = simp length-map in
    let e = length-append (map port_net m.ports ++ map wire_net m.wires) (map reg_net m.regs) in
    let f = length-append (map port_net m.ports) (map wire_net m.wires) in
    let g = part_size-found modules i m h.found in
    omega arith

-- the connections of all instances go to different nets
part_joins_once : (modules : List ModuleText) (count base : ℕ) (instances : List Instance) → count ≤ base → Each (IsInstanceIn modules) instances → Each (λ (i : Instance). Each (λ (w : Wire). w.number < count) i.nets) instances
    → Each (λ m. m < count) (driven_by instances) → NoneTwice (driven_by instances) → DrivenOnce (map join_assign (part_joins modules base instances))
part_joins_once modules count base [] le within below driven apart = tt
part_joins_once modules count base (i ∷ instances) le within below driven apart =
    let size : ℕ = part_size modules i in
    let head : List Join = joins_from base i.drives i.nets in
    let tail : List Join = part_joins modules (base + size) instances in
    let cross = apart_cross (driven_among i.drives i.nets) (driven_by instances) apart in
    let few = few_joins modules i within.0 in
    let own = All-front (λ m. m < count) (driven_among i.drives i.nets) (driven_by instances) driven in
    let rest = All-back (λ m. m < count) (driven_among i.drives i.nets) (driven_by instances) driven in
    subst DrivenOnce (sym (map-append join_assign head tail))
    (DrivenOnce-join (map join_assign head) (map join_assign tail) (joins_once count base i.drives i.nets le below.0 cross.0)
    (part_joins_once modules count (base + size) instances (omega arith) within.1 below.1 rest cross.1)
    (All-map (λ (x : Assign). Each (λ (y : Assign). y.to.number ≢ x.to.number) (map join_assign tail)) join_assign head
    (joins-split (λ n. Each (λ (y : Assign). y.to.number ≢ n) (map join_assign tail)) base i.drives i.nets
    (All-both (λ n. n < count) (λ n. Each (λ m. m ≢ n) (driven_by instances)) (λ n. Each (λ (y : Assign). y.to.number ≢ n) (map join_assign tail))
    (λ n lt apart_n. All-map (λ (y : Assign). y.to.number ≢ n) join_assign tail (parts-split (λ m. m ≢ n) modules (base + size) instances apart_n (λ m low e. omega arith)))
    (driven_among i.drives i.nets) own cross.2)
    (λ n low high. All-map (λ (y : Assign). y.to.number ≢ n) join_assign tail
    (parts-split (λ m. m ≢ n) modules (base + size) instances (All-from (λ m. m < count) (λ m. m ≢ n) (λ m lt e. omega arith) (driven_by instances) rest) (λ m low' e. omega arith))))))

-- an instance's module keeps its rules
kept_in : (modules : List ModuleText) (i : Instance) → Each IsModule modules → (h : IsInstanceIn modules i) → IsModule h.whole
kept_in modules i each h = (All-named IsModule modules i.module h.whole each h.found).0

-- the assigns of all instances drive different nets
part_assigns_once : (modules : List ModuleText) (base : ℕ) (instances : List Instance) → Each IsModule modules → Each (IsInstanceIn modules) instances → DrivenOnce (part_assigns modules base instances)
part_assigns_once modules base [] each within = tt
part_assigns_once modules base (i ∷ instances) each within =
    let m : ModuleText = (within.0).whole in
    let size = part_size-found modules i m (within.0).found in
    let kept = kept_in modules i each within.0 in
    let head : List Assign = map (assign_placed (λ n. base + n)) (assigns_in (module_named modules i.module)) in
    let tail : List Assign = part_assigns modules (base + part_size modules i) instances in
    DrivenOnce-join head tail
    (subst (λ (o : Option ModuleText). DrivenOnce (map (assign_placed (λ n. base + n)) (assigns_in o))) (sym (within.0).found) (DrivenOnce-moved base m.assigns kept.wired.once))
    (part_assigns_once modules (base + part_size modules i) instances each within.1)
    (subst (λ (o : Option ModuleText). Each (λ (x : Assign). Each (λ (y : Assign). y.to.number ≢ x.to.number) tail) (map (assign_placed (λ n. base + n)) (assigns_in o))) (sym (within.0).found)
    (All-map (λ (x : Assign). Each (λ (y : Assign). y.to.number ≢ x.to.number) tail) (assign_placed (λ n. base + n)) m.assigns
    (All-from (λ (a : Assign). IsNet (nets_of m) a.to) (λ (a : Assign). Each (λ (y : Assign). y.to.number ≢ base + a.to.number) tail)
    (λ a net. let lt = number-IsNet (nets_of m) a.to net in
    part_assigns-all (λ (y : Assign). y.to.number ≢ base + a.to.number) modules (base + part_size modules i) instances
    (λ k j at. Each-at (λ (y : Assign). base_from modules (base + part_size modules i) instances k + y.to.number ≢ base + a.to.number) (assigns_in (module_named modules j.module))
    (λ q y there e. let le = base_from-le modules (base + part_size modules i) instances k in omega arith)))
    m.assigns kept.wired.results)))

-- and the drivers of their registers drive different ones
part_nexts-all : (P : Next → Type 0) (modules : List ModuleText) (base : ℕ) (instances : List Instance)
    → ((k : ℕ) (i : Instance) → slice_get instances k ≡ Some i → Each (λ x. P (next_placed (λ n. base_from modules base instances k + n) x)) (nexts_in (module_named modules i.module)))
    → Each P (part_nexts modules base instances)
part_nexts-all P modules base [] f = tt
part_nexts-all P modules base (j ∷ instances) f =
    All-join P (map (next_placed (λ n. base + n)) (nexts_in (module_named modules j.module))) (part_nexts modules (base + part_size modules j) instances)
    (All-map P (next_placed (λ n. base + n)) (nexts_in (module_named modules j.module)) (f zero j refl))
    (part_nexts-all P modules (base + part_size modules j) instances (λ k i at. f (suc k) i at))

part_nexts_once : (modules : List ModuleText) (base : ℕ) (instances : List Instance) → Each IsModule modules → Each (IsInstanceIn modules) instances → ClockedOnce (part_nexts modules base instances)
part_nexts_once modules base [] each within = tt
part_nexts_once modules base (i ∷ instances) each within =
    let m : ModuleText = (within.0).whole in
    let size = part_size-found modules i m (within.0).found in
    let kept = kept_in modules i each within.0 in
    let head : List Next = map (next_placed (λ n. base + n)) (nexts_in (module_named modules i.module)) in
    let tail : List Next = part_nexts modules (base + part_size modules i) instances in
    ClockedOnce-join head tail
    (subst (λ (o : Option ModuleText). ClockedOnce (map (next_placed (λ n. base + n)) (nexts_in o))) (sym (within.0).found) (ClockedOnce-moved base m.nexts kept.wired.clocked_once))
    (part_nexts_once modules (base + part_size modules i) instances each within.1)
    (subst (λ (o : Option ModuleText). Each (λ (x : Next). Each (λ (y : Next). y.register.number ≢ x.register.number) tail) (map (next_placed (λ n. base + n)) (nexts_in o))) (sym (within.0).found)
    (All-map (λ (x : Next). Each (λ (y : Next). y.register.number ≢ x.register.number) tail) (next_placed (λ n. base + n)) m.nexts
    (All-from (NextFits (nets_of m)) (λ (x : Next). Each (λ (y : Next). y.register.number ≢ base + x.register.number) tail)
    (λ x fits. let lt = number-IsNet (nets_of m) x.register fits.register in
    part_nexts-all (λ (y : Next). y.register.number ≢ base + x.register.number) modules (base + part_size modules i) instances
    (λ k j at. Each-at (λ (y : Next). base_from modules (base + part_size modules i) instances k + y.register.number ≢ base + x.register.number) (nexts_in (module_named modules j.module))
    (λ q y there e. let le = base_from-le modules (base + part_size modules i) instances k in omega arith)))
    m.nexts kept.wired.registers)))

module _ (modules : List ModuleText) (top : ModuleText) (each : Each IsModule modules) (kept : IsModule top) (within : Each (IsInstanceIn modules) top.instances) where
  abbrev nets : List ModuleNet
  nets = plain_nets (opened_over modules top).nets

  abbrev count : ℕ
  count = length (nets_of top)

  -- what holds of each assign and of each connection, part by part
  equations-all : (P : Assign → Type 0) → Each P top.assigns
      → ((k : ℕ) (i : Instance) (m : ModuleText) → slice_get top.instances k ≡ Some i → module_named modules i.module ≡ Some m → Each (λ a. P (assign_placed (λ n. base_of modules top k + n) a)) m.assigns)
      → ((k : ℕ) (i : Instance) (h : IsInstanceIn modules i) → slice_get top.instances k ≡ Some i → (p : ℕ) (w : Wire) (d : Bool) → slice_get i.nets p ≡ Some w → slice_get i.drives p ≡ Some d → P (join_assign (join_of (base_of modules top k + p) d w)))
      → Each P (equations (opened_over modules top))
  equations-all P own part joined =
      All-join P (top.assigns ++ part_assigns modules count top.instances) (map join_assign (part_joins modules count top.instances))
      (All-join P top.assigns (part_assigns modules count top.instances) own
      (part_assigns-all P modules count top.instances (λ k i at.
      let there = All-at (IsInstanceIn modules) top.instances k i within at in
      subst (λ (o : Option ModuleText). Each (λ a. P (assign_placed (λ n. base_of modules top k + n) a)) (assigns_in o)) (sym there.found) (part k i there.whole at there.found))))
      (All-map P join_assign (part_joins modules count top.instances) (part_joins-all (λ j. P (join_assign j)) modules count top.instances
      (λ k i at. joins_from-all (λ j. P (join_assign j)) (base_of modules top k) i.drives i.nets (λ p w d there flag. joined k i (All-at (IsInstanceIn modules) top.instances k i within at) at p w d there flag))))

  own-IsNet : (w : Wire) → IsNet (nets_of top) w → IsNet nets w
  own-IsNet w h = let net = net_of_width (nets_of top) w.number w.width h.declared in record { declared = width_at nets w.number net.0 (own_net_at modules top w.number net.0 net.1) ∙ ap Some net.2; low = h.low; high = h.high }

  part-IsNet : (k : ℕ) (i : Instance) (m : ModuleText) → slice_get top.instances k ≡ Some i → module_named modules i.module ≡ Some m → (w : Wire) → IsNet (nets_of m) w → IsNet nets (placed (λ n. base_of modules top k + n) w)
  part-IsNet k i m at found w h =
      let net = net_of_width (nets_of m) w.number w.width h.declared in
      record { declared = width_at nets (base_of modules top k + w.number) (inner_net net.0) (part_net_at modules top k i m at found w.number net.0 net.1) ∙ ap Some net.2; low = h.low; high = h.high }

  connected-IsNet : (k : ℕ) (i : Instance) → slice_get top.instances k ≡ Some i → (p : ℕ) (w : Wire) → slice_get i.nets p ≡ Some w → IsNet (nets_of top) w
  connected-IsNet k i at p w there = All-at (IsNet (nets_of top)) i.nets p w (All-at (λ (x : Instance). Each (IsNet (nets_of top)) x.nets) top.instances k i kept.connected.declared at) there

  port-IsNet : (k : ℕ) (i : Instance) (h : IsInstanceIn modules i) → slice_get top.instances k ≡ Some i → (p : ℕ) (w : Wire) → slice_get i.nets p ≡ Some w → IsNet nets (record { number = base_of modules top k + p; width = w.width })
  port-IsNet k i h at p w there =
      let port = port_at h.whole i h.connects p w there in
      let net = connected-IsNet k i at p w there in
      record { declared = width_at nets (base_of modules top k + p) (inner_net (port_net port.0)) (part_net_at modules top k i h.whole at h.found p (port_net port.0) port.1) ∙ ap Some port.2; low = net.low; high = net.high }

  results : Each (λ (a : Assign). IsNet nets a.to) (equations (opened_over modules top))
  results = equations-all (λ (a : Assign). IsNet nets a.to)
      (All-from (λ (a : Assign). IsNet (nets_of top) a.to) (λ (a : Assign). IsNet nets a.to) (λ a. own-IsNet a.to) top.assigns kept.wired.results)
      (λ k i m at found. All-from (λ (a : Assign). IsNet (nets_of m) a.to) (λ (a : Assign). IsNet nets (placed (λ n. base_of modules top k + n) a.to)) (λ a. part-IsNet k i m at found a.to) m.assigns (All-named IsModule modules i.module m each found).0.wired.results)
      (λ k i h at p w d there flag. go d k i h at p w there)
    where
      go : (d : Bool) (k : ℕ) (i : Instance) (h : IsInstanceIn modules i) → slice_get top.instances k ≡ Some i → (p : ℕ) (w : Wire) → slice_get i.nets p ≡ Some w → IsNet nets (join_of (base_of modules top k + p) d w).to
      go true k i h at p w there = own-IsNet w (connected-IsNet k i at p w there)
      go false k i h at p w there = port-IsNet k i h at p w there

  cells : Each (λ (a : Assign). CellFits nets a.to.width a.cell) (equations (opened_over modules top))
  cells = equations-all (λ (a : Assign). CellFits nets a.to.width a.cell)
      (All-from (λ (a : Assign). CellFits (nets_of top) a.to.width a.cell) (λ (a : Assign). CellFits nets a.to.width a.cell)
      (λ a h. subst (λ (ns : List ModuleNet). CellFits ns a.to.width a.cell) (sym (plain-opened modules top)) (CellFits-more (nets_of top) (nets_by inner_net modules top.instances) a.to.width a.cell h)) top.assigns kept.wired.cells)
      (λ k i m at found. All-from (λ (a : Assign). CellFits (nets_of m) a.to.width a.cell) (λ (a : Assign). CellFits nets a.to.width (cell_placed (λ n. base_of modules top k + n) a.cell))
      (λ a. CellFits-by (nets_of m) nets (λ n. base_of modules top k + n) (part-IsNet k i m at found) a.to.width a.cell) m.assigns (All-named IsModule modules i.module m each found).0.wired.cells)
      (λ k i h at p w d there flag. go d k i h at p w there)
    where
      go : (d : Bool) (k : ℕ) (i : Instance) (h : IsInstanceIn modules i) → slice_get top.instances k ≡ Some i → (p : ℕ) (w : Wire) → slice_get i.nets p ≡ Some w
          → CellFits nets (join_assign (join_of (base_of modules top k + p) d w)).to.width (join_assign (join_of (base_of modules top k + p) d w)).cell
      go true k i h at p w there = (port-IsNet k i h at p w there, refl)
      go false k i h at p w there = (own-IsNet w (connected-IsNet k i at p w there), refl)

  own-IsFree : (n : ℕ) → n < count → IsFree (nets_of top) n → IsFree nets n
  own-IsFree n lt f net at s =
      let own = some_within (nets_of top) n lt in
      let same : own.0 ≡ net = some_same (sym (own_net_at modules top n own.0 own.1) ∙ at) in
      f net (own.1 ∙ ap Some same) s

  part-IsFree : (k : ℕ) (i : Instance) (m : ModuleText) → slice_get top.instances k ≡ Some i → module_named modules i.module ≡ Some m → (n : ℕ) → n < length (nets_of m) → IsFree (nets_of m) n → IsFree nets (base_of modules top k + n)
  part-IsFree k i m at found n lt f net there s =
      let own = some_within (nets_of m) n lt in
      let same : inner_net own.0 ≡ net = some_same (sym (part_net_at modules top k i m at found n own.0 own.1) ∙ there) in
      f own.0 own.1 (inner_source (own.0).role (subst (λ (x : ModuleNet). IsSource x.role) (sym same) s))

  free : Each (λ (a : Assign). IsFree nets a.to.number) (equations (opened_over modules top))
  free = equations-all (λ (a : Assign). IsFree nets a.to.number)
      (All-both (λ (a : Assign). IsNet (nets_of top) a.to) (λ (a : Assign). IsFree (nets_of top) a.to.number) (λ (a : Assign). IsFree nets a.to.number) (λ a net f. own-IsFree a.to.number (number-IsNet (nets_of top) a.to net) f) top.assigns kept.wired.results kept.wired.free)
      (λ k i m at found. let kept' = (All-named IsModule modules i.module m each found).0 in
      All-both (λ (a : Assign). IsNet (nets_of m) a.to) (λ (a : Assign). IsFree (nets_of m) a.to.number) (λ (a : Assign). IsFree nets (base_of modules top k + a.to.number))
      (λ a net f. part-IsFree k i m at found a.to.number (number-IsNet (nets_of m) a.to net) f) m.assigns kept'.wired.results kept'.wired.free)
      (λ k i h at p w d there flag. go d k i h at p w there flag)
    where
      go : (d : Bool) (k : ℕ) (i : Instance) (h : IsInstanceIn modules i) → slice_get top.instances k ≡ Some i → (p : ℕ) (w : Wire) → slice_get i.nets p ≡ Some w → slice_get i.drives p ≡ Some d → IsFree nets (join_of (base_of modules top k + p) d w).to.number
      go true k i h at p w there flag net here s = own-IsFree w.number (number-IsNet (nets_of top) w (connected-IsNet k i at p w there))
          (driven_among-at (IsFree (nets_of top)) i.drives i.nets (driven_by-at (IsFree (nets_of top)) top.instances kept.connected.free k i at) p w there flag) net here s
      go false k i h at p w there flag net here s =
          let port = port_at h.whole i h.connects p w there in
          let same : inner_net (port_net port.0) ≡ net = some_same (sym (part_net_at modules top k i h.whole at h.found p (port_net port.0) port.1) ∙ here) in
          port_no_source (port.0).output (subst (λ (x : ModuleNet). IsSource x.role) (sym same) s)

  -- the nets with the roles that they have in their modules
  abbrev raw : List ModuleNet
  raw = nets_of top ++ nets_by (λ net. net) modules top.instances

  raw_at : (k : ℕ) (i : Instance) (m : ModuleText) → slice_get top.instances k ≡ Some i → module_named modules i.module ≡ Some m → (n : ℕ) (net : ModuleNet) → slice_get (nets_of m) n ≡ Some net → slice_get raw (base_of modules top k + n) ≡ Some net
  raw_at k i m at found n net there =
      (parts_stand (λ net. net) modules top.instances (nets_of top) k i at).at n net
      (subst (λ (o : Option ModuleText). slice_get (map (λ net. net) (nets_in o)) n ≡ Some net) (sym found) (slice_get-map (λ (x : ModuleNet). x) (nets_of m) n ∙ ap (option_map (λ (x : ModuleNet). x)) there))

  -- an assign of an instance drives no input port of any
  assign_and_port : (k j : ℕ) (i : Instance) (m : ModuleText) → slice_get top.instances k ≡ Some i → module_named modules i.module ≡ Some m → (a : Assign) → IsNet (nets_of m) a.to → IsFree (nets_of m) a.to.number
      → (x : Instance) (h : IsInstanceIn modules x) → slice_get top.instances j ≡ Some x → (p : ℕ) (w : Wire) → slice_get x.nets p ≡ Some w → slice_get x.drives p ≡ Some false → base_of modules top j + p ≢ base_of modules top k + a.to.number
  assign_and_port k j i m at found a net f x h there p w here flag e =
      let lt = number-IsNet (nets_of m) a.to net in
      let own = some_within (nets_of m) a.to.number lt in
      let port = port_at h.whole x h.connects p w here in
      let input : (port.0).output ≡ false = some_same (sym port.3 ∙ flag) in
      let one : slice_get raw (base_of modules top j + p) ≡ Some (port_net port.0) = raw_at j x h.whole there h.found p (port_net port.0) port.1 in
      let two : slice_get raw (base_of modules top k + a.to.number) ≡ Some own.0 = raw_at k i m at found a.to.number own.0 own.1 in
      let same : port_net port.0 ≡ own.0 = some_same (sym one ∙ ap (slice_get raw) e ∙ two) in
      f own.0 own.1 (subst (λ (y : ModuleNet). IsSource y.role) same (subst (λ b. IsSource (if b then role.Output else role.Input)) (sym input) tt))

  driven_below : Each (λ n. n < count) (driven_by top.instances)
  driven_below = driven_within (nets_of top) top.instances kept.connected.declared

  once : DrivenOnce (equations (opened_over modules top))
  once =
      let parts : List Assign = part_assigns modules count top.instances in
      let joins : List Assign = map join_assign (part_joins modules count top.instances) in
      DrivenOnce-join (top.assigns ++ parts) joins
      (DrivenOnce-join top.assigns parts kept.wired.once (part_assigns_once modules count top.instances each within)
      (All-from (λ (a : Assign). IsNet (nets_of top) a.to) (λ (x : Assign). Each (λ (y : Assign). y.to.number ≢ x.to.number) parts)
      (λ x net. let lt = number-IsNet (nets_of top) x.to net in
      part_assigns-all (λ (y : Assign). y.to.number ≢ x.to.number) modules count top.instances
      (λ k j at. Each-at (λ (y : Assign). base_from modules count top.instances k + y.to.number ≢ x.to.number) (assigns_in (module_named modules j.module)) (λ q y there e. let le = base_from-le modules count top.instances k in omega arith)))
      top.assigns kept.wired.results))
      (part_joins_once modules count count top.instances (omega arith) within
      (All-from (λ (i : Instance). Each (IsNet (nets_of top)) i.nets) (λ (i : Instance). Each (λ (w : Wire). w.number < count) i.nets) (λ i. All-from (IsNet (nets_of top)) (λ (w : Wire). w.number < count) (number-IsNet (nets_of top)) i.nets) top.instances kept.connected.declared)
      driven_below kept.connected.once)
      (All-join (λ (x : Assign). Each (λ (y : Assign). y.to.number ≢ x.to.number) joins) top.assigns parts
      (All-both (λ (a : Assign). IsNet (nets_of top) a.to) (λ (x : Assign). Each (λ n. x.to.number ≢ n) (driven_by top.instances)) (λ (x : Assign). Each (λ (y : Assign). y.to.number ≢ x.to.number) joins)
      (λ x net apart. let lt = number-IsNet (nets_of top) x.to net in
      All-map (λ (y : Assign). y.to.number ≢ x.to.number) join_assign (part_joins modules count top.instances)
      (parts-split (λ m. m ≢ x.to.number) modules count top.instances (All-from (λ n. x.to.number ≢ n) (λ n. n ≢ x.to.number) (λ n ne e. ne (sym e)) (driven_by top.instances) apart) (λ m low e. omega arith)))
      top.assigns kept.wired.results (Each-swap (λ (x : Assign) n. x.to.number ≢ n) top.assigns (driven_by top.instances) kept.connected.undriven))
      (part_assigns-all (λ (x : Assign). Each (λ (y : Assign). y.to.number ≢ x.to.number) joins) modules count top.instances (λ k i at.
      let there = All-at (IsInstanceIn modules) top.instances k i within at in
      let kept' = kept_in modules i each there in
      subst (λ (o : Option ModuleText). Each (λ (a : Assign). Each (λ (y : Assign). y.to.number ≢ base_of modules top k + a.to.number) joins) (assigns_in o)) (sym there.found)
      (All-both (λ (a : Assign). IsNet (nets_of there.whole) a.to) (λ (a : Assign). IsFree (nets_of there.whole) a.to.number) (λ (a : Assign). Each (λ (y : Assign). y.to.number ≢ base_of modules top k + a.to.number) joins)
      (λ a net f. All-map (λ (y : Assign). y.to.number ≢ base_of modules top k + a.to.number) join_assign (part_joins modules count top.instances)
      (part_joins-all (λ (y : Join). y.to.number ≢ base_of modules top k + a.to.number) modules count top.instances
      (λ j x here. joins_from-all (λ (y : Join). y.to.number ≢ base_of modules top k + a.to.number) (base_of modules top j) x.drives x.nets
      (λ p w d net_here flag. apart k j i there.whole at there.found a net f x (All-at (IsInstanceIn modules) top.instances j x within here) here p w d net_here flag))))
      (there.whole).assigns kept'.wired.results kept'.wired.free))))
    where
      apart : (k j : ℕ) (i : Instance) (m : ModuleText) → slice_get top.instances k ≡ Some i → module_named modules i.module ≡ Some m → (a : Assign) → IsNet (nets_of m) a.to → IsFree (nets_of m) a.to.number
          → (x : Instance) (h : IsInstanceIn modules x) → slice_get top.instances j ≡ Some x → (p : ℕ) (w : Wire) (d : Bool) → slice_get x.nets p ≡ Some w → slice_get x.drives p ≡ Some d
          → (join_of (base_of modules top j + p) d w).to.number ≢ base_of modules top k + a.to.number
      apart k j i m at found a net f x h there p w true here flag e =
          let lt = number-IsNet (nets_of top) w (connected-IsNet j x there p w here) in
          let le = base_from-le modules count top.instances k in
          omega arith
      apart k j i m at found a net f x h there p w false here flag e = assign_and_port k j i m at found a net f x h there p w here flag e

  pub opened-IsFlat : IsFlat (opened_over modules top)
  opened-IsFlat = record { results = results; cells = cells; free = free; once = once }

  -- every register's driver is of a net of the whole, and no two are of one
  pub opened-AreClocked : AreClocked (opened_over modules top)
  opened-AreClocked =
      let long : length nets ≡ length (opened_over modules top).nets = simp length-map in
      record {
        declared = All-join (λ (x : Next). x.register.number < length (opened_over modules top).nets) top.nexts (part_nexts modules count top.instances)
            (All-from (NextFits (nets_of top)) (λ (x : Next). x.register.number < length (opened_over modules top).nets) (λ x fits. let lt = number-IsNet nets x.register (own-IsNet x.register fits.register) in omega arith) top.nexts kept.wired.registers)
            (part_nexts-all (λ (x : Next). x.register.number < length (opened_over modules top).nets) modules count top.instances (λ k i at.
            let there = All-at (IsInstanceIn modules) top.instances k i within at in
            let kept' = kept_in modules i each there in
            subst (λ (o : Option ModuleText). Each (λ (x : Next). base_of modules top k + x.register.number < length (opened_over modules top).nets) (nexts_in o)) (sym there.found)
            (All-from (NextFits (nets_of there.whole)) (λ (x : Next). base_of modules top k + x.register.number < length (opened_over modules top).nets)
            (λ x fits. let lt = number-IsNet nets (placed (λ n. base_of modules top k + n) x.register) (part-IsNet k i there.whole at there.found x.register fits.register) in omega arith) (there.whole).nexts kept'.wired.registers)));
        once = ClockedOnce-join top.nexts (part_nexts modules count top.instances) kept.wired.clocked_once (part_nexts_once modules count top.instances each within)
            (All-from (NextFits (nets_of top)) (λ (x : Next). Each (λ (y : Next). y.register.number ≢ x.register.number) (part_nexts modules count top.instances))
            (λ x fits. let lt = number-IsNet (nets_of top) x.register fits.register in
            part_nexts-all (λ (y : Next). y.register.number ≢ x.register.number) modules count top.instances
            (λ k j at. Each-at (λ (y : Next). base_from modules count top.instances k + y.register.number ≢ x.register.number) (nexts_in (module_named modules j.module)) (λ q y there e. let le = base_from-le modules count top.instances k in omega arith)))
            top.nexts kept.wired.registers);
      }

  -- a register's driver of top, and one of an instance
  own-NextFits : (x : Next) → NextFits (nets_of top) x → NextFits nets x
  own-NextFits x h = record {
    register = own-IsNet x.register h.register;
    clocked = λ net at.
        let own = some_within (nets_of top) x.register.number (number-IsNet (nets_of top) x.register h.register) in
        let same : own.0 ≡ net = some_same (sym (own_net_at modules top x.register.number own.0 own.1) ∙ at) in
        h.clocked net (own.1 ∙ ap Some same);
    from = own-IsNet x.from h.from;
    same = h.same;
  }

  part-NextFits : (k : ℕ) (i : Instance) (m : ModuleText) → slice_get top.instances k ≡ Some i → module_named modules i.module ≡ Some m → (x : Next) → NextFits (nets_of m) x → NextFits nets (next_placed (λ n. base_of modules top k + n) x)
  part-NextFits k i m at found x h = record {
    register = part-IsNet k i m at found x.register h.register;
    clocked = λ net there.
        let own = some_within (nets_of m) x.register.number (number-IsNet (nets_of m) x.register h.register) in
        let same : inner_net own.0 ≡ net = some_same (sym (part_net_at modules top k i m at found x.register.number own.0 own.1) ∙ there) in
        subst (λ (y : ModuleNet). y.role ≡ role.Register (reset_of y.role)) same (inner_register (own.0).role (h.clocked own.0 own.1));
    from = part-IsNet k i m at found x.from h.from;
    same = h.same;
  }

  -- every register's driver is of a register of the whole, and takes a net of its width
  pub opened-registers : Each (NextFits nets) (opened_over modules top).nexts
  opened-registers =
      All-join (NextFits nets) top.nexts (part_nexts modules count top.instances) (All-from (NextFits (nets_of top)) (NextFits nets) own-NextFits top.nexts kept.wired.registers)
      (part_nexts-all (NextFits nets) modules count top.instances (λ k i at.
      let there = All-at (IsInstanceIn modules) top.instances k i within at in
      let kept' = kept_in modules i each there in
      subst (λ (o : Option ModuleText). Each (λ (x : Next). NextFits nets (next_placed (λ n. base_of modules top k + n) x)) (nexts_in o)) (sym there.found)
      (All-from (NextFits (nets_of there.whole)) (λ (x : Next). NextFits nets (next_placed (λ n. base_of modules top k + n) x)) (part-NextFits k i there.whole at there.found) (there.whole).nexts kept'.wired.registers)))

  -- every reset value fits
  pub opened-resets : Each (λ (n : ModuleNet). reset_of n.role < 2 ^ n.width) nets
  opened-resets =
      subst (Each (λ (n : ModuleNet). reset_of n.role < 2 ^ n.width)) (sym (plain-opened modules top))
      (All-join (λ (n : ModuleNet). reset_of n.role < 2 ^ n.width) (nets_of top) (nets_by inner_net modules top.instances) kept.wired.resets (part_resets modules top.instances each))
