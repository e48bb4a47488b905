-- How pieces of control follow each other.
use Rattle.std.proofs.Common.{◌≡◌, ℕ, zero, suc, ◌+◌, ◌-◌, ◌<◌, ◌≤◌, List, [], ◌∷◌, ◌++◌, length, map, get_or, refl, sym, ap, subst, ◌∙◌, arith, inl, inr, append-nil, append_assoc}
use Rattle.std.specs.Prelude.{true, false, filter, Contains, if◌then◌else◌}
use Rattle.std.proofs.lemmas.List.Elements.{filter-append}
use Rattle.std.specs.List.{AllByRecursion as Each}
use Rattle.ap_net.specs.declared.cell.Cell.{Cell}
use Rattle.ap_net.specs.declared.cell.Cell.TheVariants as cell
use Rattle.ap_net.specs.declared.cell.TwoOp.TheVariants as op
use Rattle.ap_net.specs.declared.cell.Wire.{Wire}
use Rattle.ap_net.specs.declared.net.Assign.{Assign}
use Rattle.ap_net.specs.declared.net.Role.TheVariants as role
use Rattle.ap_net.specs.Cells.{IsNet, operands}
use Rattle.ap_net.specs.Draft.{Draft, Extends, CanFresh, next_wire, with_made, wire_count}
use Rattle.ap_net.specs.Late.{Reads}
use Rattle.ap_net.specs.Making.{Makes}
use Rattle.ap_net.specs.Names.{numbered}
use Rattle.ap_net.specs.Pending.{Among, IsFrom}
use Rattle.ap_net.specs.Ready.{AreReady, Dependence, Ready, ReadyAfter, numbers}
use Rattle.ap_net.specs.Readings.{Carries}
use Rattle.ap_net.proofs.Laws.{IsFrom-later, IsFrom-more, IsNet-Reads, Reads-joined, Reads-refl, Yields-made, Carries-Extends, ReadyAfter-Extends, length_Reads, settled_before}
use Rattle.ap_desc.specs.declared.design.Design.{Design}
use Rattle.ap_ctl.specs.declared.field.FieldTest.{FieldTest}
use Rattle.ap_ctl.specs.declared.nets.ControlGiven.{ControlGiven}
use Rattle.ap_ctl.specs.Lists.{EachPair}
use Rattle.ap_ctl.proofs.Beside.{EachPair-weaker}
use Rattle.ap_ctl.specs.Given.{IsGiven, IsWordNet}
use Rattle.ap_ctl.specs.Building.{AddsAssigns, AddsComparisons, AddsWires, Builds, BuildsComparing, Gives, GivesComparing, GivesEach, GivesEachComparing, IsBit, IsComparison, IsControlAssign, IsControlCell, IsFreshWire, Tells, comparisons, is_comparison, is_equality}
use Rattle.ap_net.specs.Readings.{IsSettled, Reading}
use Rattle.std.specs.Prelude.{Bool}

pub Each-join : {X : Type 0} (P : X → Type 0) (xs ys : List X) → Each P xs → Each P ys → Each P (xs ++ ys)
Each-join P [] ys h g = g
Each-join P (x ∷ xs) ys h g = (h.0, Each-join P xs ys h.1 g)

pub Each-weaker : {X : Type 0} (P Q : X → Type 0) → ((x : X) → P x → Q x) → (xs : List X) → Each P xs → Each Q xs
Each-weaker P Q f [] h = tt
Each-weaker P Q f (x ∷ xs) h = (f x h.0, Each-weaker P Q f xs h.1)

pub Each-map : {X Y : Type 0} (P : Y → Type 0) (f : X → Y) (xs : List X) → Each (λ x. P (f x)) xs → Each P (map f xs)
Each-map P f [] h = tt
Each-map P f (x ∷ xs) h = (h.0, Each-map P f xs h.1)

pub Each-unmap : {X Y : Type 0} (P : Y → Type 0) (f : X → Y) (xs : List X) → Each P (map f xs) → Each (λ x. P (f x)) xs
Each-unmap P f [] h = tt
Each-unmap P f (x ∷ xs) h = (h.0, Each-unmap P f xs h.1)

-- each number of a list is among them
pub among_all : (from : List ℕ) → Each (Among from) from
among_all [] = tt
among_all (n ∷ from) = (inl refl, Each-weaker (Among from) (Among (n ∷ from)) (λ m h. inr h) from (among_all from))

pub from_all : (from : List ℕ) (a b : Draft) → Each (IsFrom from a b) from
from_all from a b = Each-weaker (Among from) (IsFrom from a b) (λ n h. inl h) from (among_all from)

pub Builds-refl : (from : List ℕ) (d : Draft) → CanFresh d → Builds from d d
Builds-refl from d fresh = record { reads = Reads-refl from d; instances = refl; fresh = fresh; names = λ name o h. h; ports = refl; wires = ([], sym (append-nil d.nets), tt); assigns = ([], sym (append-nil d.assigns), tt); compares = ([], sym (append-nil (comparisons d)), tt) }

-- one more assign, which compares nothing
plain_filter : (xs : List Assign) (a : Assign) → is_comparison a ≡ false → filter is_comparison (xs ++ a ∷ []) ≡ filter is_comparison xs
plain_filter xs a e = filter-append is_comparison xs (a ∷ []) ∙ ap (λ l. filter is_comparison xs ++ l) (none (is_comparison a) e) ∙ append-nil (filter is_comparison xs)
  where
    none : (b : Bool) → b ≡ false → (if b then a ∷ [] else []) ≡ []
    none true e = absurd cc
    none false e = refl

Builds-made : (d : Draft) (width : ℕ) (c : Cell) → CanFresh (with_made d width c) → Makes d (with_made d width c) → Reads (numbers (operands c)) d (with_made d width c) → IsControlCell width c → is_equality c ≡ false → Builds (numbers (operands c)) d (with_made d width c)
Builds-made d width c fresh makes reads cell plain = record {
  reads = reads;
  instances = refl;
  fresh = fresh;
  names = makes.names;
  ports = makes.ports;
  wires = (record { name = numbered (wire_count d.nets); width = width; role = role.Plain } ∷ [], refl, (record { number = wire_count d.nets; named = refl; plain = refl }, tt));
  assigns = (record { to = next_wire d width; cell = c } ∷ [], refl, (record { own = omega arith; cell = cell }, tt));
  compares = ([], plain_filter d.assigns (record { to = next_wire d width; cell = c }) plain ∙ sym (append-nil (comparisons d)), tt);
}

-- a net that was made with a cell of control that is no comparison
pub Gives-made : (a b : Draft) (width : ℕ) (c : Cell) (w : Wire) → b ≡ with_made a width c → w ≡ next_wire a width → CanFresh a → Makes a b → Reads (numbers (operands c)) a b → IsNet b.nets w → IsControlCell width c → is_equality c ≡ false
    → Gives (numbers (operands c)) a b w
Gives-made a b width c w is wire fresh makes reads net cell plain = record {
  builds = subst (λ (d : Draft). Builds (numbers (operands c)) a d) (sym is) (Builds-made a width c (subst CanFresh is (makes.fresh fresh)) (subst (Makes a) is makes) (subst (λ (d : Draft). Reads (numbers (operands c)) a d) is reads) cell plain);
  result = (Yields-made (numbers (operands c)) a b width w reads wire net).result;
}

-- what is there stays
pub there_stays : {X : Type 0} (xs more : List X) (x : X) → Contains xs x → Contains (xs ++ more) x
there_stays [] more x (k, low, at) = absurd (omega arith)
there_stays (y ∷ xs) more x (zero, low, at) = (zero, omega arith, at)
there_stays (y ∷ xs) more x (suc k, low, at) = let (n, below, is) = there_stays xs more x (k, omega arith, at) in (suc n, omega arith, is)

there_last : {X : Type 0} (xs : List X) (x : X) → Contains (xs ++ x ∷ []) x
there_last [] x = (zero, omega arith, refl)
there_last (y ∷ xs) x = let (n, below, is) = there_last xs x in (suc n, omega arith, is)

assign_later : (a b : Draft) (x : Assign) → Extends a b → Contains a.assigns x → Contains b.assigns x
assign_later a b x e h = subst (λ l. Contains l x) (sym e.assigns.1) (there_stays a.assigns e.assigns.0 x h)

pub comparison_later : (a b : Draft) (p : Wire × FieldTest) (x : Assign) → Extends a b → IsComparison a p x → IsComparison b p x
comparison_later a b p x e h = record {
  bits = h.bits;
  value = h.value;
  compares = h.compares;
  slice = assign_later a b (record { to = h.bits; cell = cell.Slice p.0 (p.1.low + p.1.width - 1) p.1.low }) e h.slice;
  constant = assign_later a b (record { to = h.value; cell = cell.Const p.1.value }) e h.constant;
}

pairs_join : {X Y : Type 0} (P : X → Y → Type 0) (xs : List X) (ys : List Y) (us : List X) (vs : List Y) → EachPair P xs ys → EachPair P us vs → EachPair P (xs ++ us) (ys ++ vs)
pairs_join P [] [] us vs h g = g
pairs_join P [] (y ∷ ys) us vs h g = absurd h
pairs_join P (x ∷ xs) [] us vs h g = absurd h
pairs_join P (x ∷ xs) (y ∷ ys) us vs h g = (h.0, pairs_join P xs ys us vs h.1 g)

comparisons_join : (ps qs : List (Wire × FieldTest)) (a b c : Draft) → Extends b c → AddsComparisons ps a b → AddsComparisons qs b c → AddsComparisons (ps ++ qs) a c
comparisons_join ps qs a b c e p q = (
  p.0 ++ q.0,
  q.1 ∙ ap (λ l. l ++ q.0) p.1 ∙ append_assoc (comparisons a) p.0 q.0,
  pairs_join (IsComparison c) ps p.0 qs q.0 (EachPair-weaker (IsComparison b) (IsComparison c) (λ x y h. comparison_later b c x y e h) ps p.0 p.2) q.2,
)

wires_join : (a b c : Draft) → AddsWires a b → AddsWires b c → AddsWires a c
wires_join a b c p q = (
  p.0 ++ q.0,
  q.1 ∙ ap (λ l. l ++ q.0) p.1 ∙ append_assoc a.nets p.0 q.0,
  Each-join IsFreshWire p.0 q.0 p.2 q.2,
)

own_later : (a b : Draft) → length a.nets ≤ length b.nets → (x : Assign) → IsControlAssign b x → IsControlAssign a x
own_later a b le x h = let low : length b.nets ≤ x.to.number = h.own in record { own = omega arith; cell = h.cell }

assigns_join : (a b c : Draft) → length a.nets ≤ length b.nets → AddsAssigns a b → AddsAssigns b c → AddsAssigns a c
assigns_join a b c le p q = (
  p.0 ++ q.0,
  q.1 ∙ ap (λ l. l ++ q.0) p.1 ∙ append_assoc a.assigns p.0 q.0,
  Each-join (IsControlAssign a) p.0 q.0 p.2 (Each-weaker (IsControlAssign b) (IsControlAssign a) (own_later a b le) q.0 q.2),
)

-- one piece after another
pub Builds-joined : {ps qs : List (Wire × FieldTest)} (from more : List ℕ) (a b c : Draft) → BuildsComparing ps from a b → BuildsComparing qs more b c → Each (IsFrom from a b) more → BuildsComparing (ps ++ qs) from a c
Builds-joined {ps} {qs} from more a b c p q each = record {
  reads = Reads-joined from more a b c p.reads q.reads each;
  instances = q.instances ∙ p.instances;
  fresh = q.fresh;
  names = λ name other h. q.names name other (p.names name other h);
  ports = q.ports ∙ p.ports;
  wires = wires_join a b c p.wires q.wires;
  assigns = assigns_join a b c (length_Reads from a b p.reads) p.assigns q.assigns;
  compares = comparisons_join ps qs a b c q.reads.extends p.compares q.compares;
}

-- and one that compares nothing
pub Builds-after : {ps : List (Wire × FieldTest)} (from more : List ℕ) (a b c : Draft) → BuildsComparing ps from a b → Builds more b c → Each (IsFrom from a b) more → BuildsComparing ps from a c
Builds-after {ps} from more a b c p q each = subst (λ l. BuildsComparing l from a c) (append-nil ps) (Builds-joined from more a b c p q each)

pub Gives-joined : {ps : List (Wire × FieldTest)} (from more : List ℕ) (a b c : Draft) (w : Wire) → Builds from a b → GivesComparing ps more b c w → Each (IsFrom from a b) more → GivesComparing ps from a c w
Gives-joined from more a b c w p q each = record {
  builds = Builds-joined from more a b c p q.builds each;
  result = IsFrom-later from more a b c w.number p.reads.extends q.builds.reads.extends each q.result;
}

pub Gives-after : {ps : List (Wire × FieldTest)} (from more : List ℕ) (a b c : Draft) (w : Wire) → BuildsComparing ps from a b → Gives more b c w → Each (IsFrom from a b) more → GivesComparing ps from a c w
Gives-after from more a b c w p q each = record {
  builds = Builds-after from more a b c p q.builds each;
  result = IsFrom-later from more a b c w.number p.reads.extends q.builds.reads.extends each q.result;
}

pub GivesEach-joined : {ps : List (Wire × FieldTest)} (from more : List ℕ) (a b c : Draft) (ws : List Wire) → Builds from a b → GivesEachComparing ps more b c ws → Each (IsFrom from a b) more → GivesEachComparing ps from a c ws
GivesEach-joined from more a b c ws p q each = record {
  builds = Builds-joined from more a b c p q.builds each;
  results = Each-weaker (λ (w : Wire). IsFrom more b c w.number) (λ (w : Wire). IsFrom from a c w.number) (λ w h. IsFrom-later from more a b c w.number p.reads.extends q.builds.reads.extends each h) ws q.results;
}

pub GivesEach-after : {ps : List (Wire × FieldTest)} (from more : List ℕ) (a b c : Draft) (ws : List Wire) → BuildsComparing ps from a b → GivesEach more b c ws → Each (IsFrom from a b) more → GivesEachComparing ps from a c ws
GivesEach-after from more a b c ws p q each = record {
  builds = Builds-after from more a b c p q.builds each;
  results = Each-weaker (λ (w : Wire). IsFrom more b c w.number) (λ (w : Wire). IsFrom from a c w.number) (λ w h. IsFrom-later from more a b c w.number p.reads.extends q.builds.reads.extends each h) ws q.results;
}

-- what is one of these is from these
pub from_these : (from : List ℕ) (a b : Draft) (more : List ℕ) → Each (Among from) more → Each (IsFrom from a b) more
from_these from a b more h = Each-weaker (Among from) (IsFrom from a b) (λ n x. inl x) more h

pub from_more : (from : List ℕ) (a b c : Draft) (ws : List Wire) → Extends b c → Each (λ (w : Wire). IsFrom from a b w.number) ws → Each (λ (w : Wire). IsFrom from a c w.number) ws
from_more from a b c ws e h = Each-weaker (λ (w : Wire). IsFrom from a b w.number) (λ (w : Wire). IsFrom from a c w.number) (λ w x. IsFrom-more from a b c w.number e x) ws h

-- a piece that reads fewer nets
pub Builds-fewer : {ps : List (Wire × FieldTest)} (from more : List ℕ) (a b : Draft) → CanFresh a → BuildsComparing ps more a b → Each (Among from) more → BuildsComparing ps from a b
Builds-fewer from more a b fresh q each = Builds-joined from more a a b (Builds-refl from a fresh) q (from_these from a a more each)

pub IsBit-Extends : (a b : Draft) (w : Wire) → Extends a b → IsBit a.nets w → IsBit b.nets w
IsBit-Extends a b w e h =
    let c : Carries a 1 (λ r x. Unit {0}) w = record { net = h.net; wide = h.bit; means = record { holds = λ r s. tt } } in
    record { net = (Carries-Extends e c).net; bit = h.bit }

pub IsBit-Builds : {ps : List (Wire × FieldTest)} {from : List ℕ} {a b : Draft} → BuildsComparing ps from a b → (w : Wire) → IsBit a.nets w → IsBit b.nets w
IsBit-Builds {ps} {from} {a} {b} p w h = IsBit-Extends a b w p.reads.extends h

pub EachBit-Builds : {ps : List (Wire × FieldTest)} {from : List ℕ} {a b : Draft} → BuildsComparing ps from a b → (ws : List Wire) → Each (IsBit a.nets) ws → Each (IsBit b.nets) ws
EachBit-Builds {ps} {from} {a} {b} p ws h = Each-weaker (IsBit a.nets) (IsBit b.nets) (IsBit-Builds p) ws h

pub Tells-Builds : {ps : List (Wire × FieldTest)} {from : List ℕ} {a b : Draft} {fact : Reading → Bool} {w : Wire} → BuildsComparing ps from a b → Tells a fact w → Tells b fact w
Tells-Builds p h = record { carries = Carries-Extends p.reads.extends h.carries }

-- Two pieces, and one over their results.
pub pair_gives : {ps : List (Wire × FieldTest)} (from more rest : List ℕ) (a b c d : Draft) (x y z : Wire) → CanFresh a → Gives more a b x → Each (Among from) more → Gives rest b c y → Each (Among from) rest → GivesComparing ps (x.number ∷ y.number ∷ []) c d z → GivesComparing ps from a d z
pair_gives from more rest a b c d x y z fresh first one second other last =
    let p = Gives-joined from more a a b x (Builds-refl from a fresh) first (from_these from a a more one) in
    let q = Gives-joined from rest a b c y p.builds second (from_these from a b rest other) in
    Gives-joined from (x.number ∷ y.number ∷ []) a c d z q.builds last (IsFrom-more from a b c x.number second.builds.reads.extends p.result, (q.result, tt))

-- the numbers of some of a list are among those of all
pub among_some : (nets some : List Wire) → Each (λ (w : Wire). Among (numbers nets) w.number) some → Each (Among (numbers nets)) (numbers some)
among_some nets some h = Each-map (Among (numbers nets)) (λ (w : Wire). w.number) some h

pub among_nets : (nets : List Wire) → Each (λ (w : Wire). Among (numbers nets) w.number) nets
among_nets nets = Each-unmap (Among (numbers nets)) (λ (w : Wire). w.number) nets (among_all (numbers nets))

-- one net that is a list's
pub one_gives : (a : Draft) (nets : List Wire) (x : Wire) → CanFresh a → 0 < length nets → Gives (numbers nets) a a (get_or nets 0 x)
one_gives a [] x fresh some = absurd (omega arith)
one_gives a (w ∷ nets) x fresh some = record { builds = Builds-refl (numbers (w ∷ nets)) a fresh; result = inl (inl refl) }

pub push_each : {X : Type 0} (P : X → Type 0) (xs : List X) (x : X) → Each P xs → P x → Each P (xs ++ x ∷ [])
push_each P xs x h p = Each-join P xs (x ∷ []) h (p, tt)

-- one more net of a list
pub GivesEach-push : {ps : List (Wire × FieldTest)} (from more : List ℕ) (a b c : Draft) (ws : List Wire) (w : Wire) → GivesEachComparing ps from a b ws → Gives more b c w → Each (IsFrom from a b) more → GivesEachComparing ps from a c (ws ++ w ∷ [])
GivesEach-push from more a b c ws w h g each =
    let q = Gives-after from more a b c w h.builds g each in
    record { builds = q.builds; results = push_each (λ (x : Wire). IsFrom from a c x.number) ws w (from_more from a b c ws g.builds.reads.extends h.results) q.result }

pub Gives-fewer : (from more : List ℕ) (a b : Draft) (w : Wire) → CanFresh a → Gives more a b w → Each (Among from) more → Gives from a b w
Gives-fewer from more a b w fresh g each = Gives-joined from more a a b w (Builds-refl from a fresh) g (from_these from a a more each)

-- one more net of a list, which compares
pub GivesEach-compared : {ps qs : List (Wire × FieldTest)} (from more : List ℕ) (a b c : Draft) (ws : List Wire) (w : Wire) → GivesEachComparing ps from a b ws → GivesComparing qs more b c w → Each (IsFrom from a b) more → GivesEachComparing (ps ++ qs) from a c (ws ++ w ∷ [])
GivesEach-compared from more a b c ws w h g each = record {
  builds = Builds-joined from more a b c h.builds g.builds each;
  results = push_each (λ (x : Wire). IsFrom from a c x.number) ws w (from_more from a b c ws g.builds.reads.extends h.results) (IsFrom-later from more a b c w.number h.builds.reads.extends g.builds.reads.extends each g.result);
}

pub GivesEach-fewer : (from more : List ℕ) (a b : Draft) (ws : List Wire) → CanFresh a → GivesEach more a b ws → Each (Among from) more → GivesEach from a b ws
GivesEach-fewer from more a b ws fresh g each = GivesEach-joined from more a a b ws (Builds-refl from a fresh) g (from_these from a a more each)

-- What is from nets is ready once they are.

one_ready : (by : Dependence) (d : Draft) (from : List ℕ) → AreReady by d from → (n : ℕ) → Among from n → Ready by d n
one_ready by d [] each n h = absurd h
one_ready by d (m ∷ from) each n (inl e) = subst (Ready by d) e each.0
one_ready by d (m ∷ from) each n (inr h) = one_ready by d from each.1 n h

pub ready_from : (by : Dependence) (from : List ℕ) (a b : Draft) (n : ℕ) → Reads from a b → IsFrom from a b n → ReadyAfter by b from n
ready_from by from a b n reads (inl h) = λ later e ready. one_ready by later from ready n h
ready_from by from a b n reads (inr h) = reads.came by n h.0 h.1

pub follows_each : {ps : List (Wire × FieldTest)} (by : Dependence) (from : List ℕ) (a b : Draft) (ws : List Wire) → GivesEachComparing ps from a b ws → Each (λ (w : Wire). ReadyAfter by b from w.number) ws
follows_each by from a b ws g = Each-weaker (λ (w : Wire). IsFrom from a b w.number) (λ (w : Wire). ReadyAfter by b from w.number) (λ w h. ready_from by from a b w.number g.builds.reads h) ws g.results

pub follows_later : (by : Dependence) (from : List ℕ) (a b : Draft) (ws : List Wire) → Extends a b → Each (λ (w : Wire). ReadyAfter by a from w.number) ws → Each (λ (w : Wire). ReadyAfter by b from w.number) ws
follows_later by from a b ws e h = Each-weaker (λ (w : Wire). ReadyAfter by a from w.number) (λ (w : Wire). ReadyAfter by b from w.number) (λ w r. ReadyAfter-Extends by a b from w.number e r) ws h

pub IsWordNet-Builds : {ps : List (Wire × FieldTest)} {from : List ℕ} {a b : Draft} (design : Design) → BuildsComparing ps from a b → (w : Wire) → IsWordNet design a.nets w → IsWordNet design b.nets w
IsWordNet-Builds {ps} {from} {a} {b} design p w h = record { net = IsNet-Reads from a b w p.reads h.net; wide = h.wide }

pub IsGiven-Builds : {ps : List (Wire × FieldTest)} {from : List ℕ} {a b : Draft} {design : Design} {given : ControlGiven} → BuildsComparing ps from a b → IsGiven design a.nets given → IsGiven design b.nets given
IsGiven-Builds {ps} {from} {a} {b} {design} {given} p h = record {
  stages = h.stages;
  words = Each-weaker (IsWordNet design a.nets) (IsWordNet design b.nets) (IsWordNet-Builds design p) given.words h.words;
  mwait = IsBit-Builds p given.mwait h.mwait;
  taken = IsBit-Builds p given.taken h.taken;
  units = h.units;
  busy = EachBit-Builds p given.busy h.busy;
}

-- more nets of a list
pub GivesEach-append : (from more : List ℕ) (a b c : Draft) (ws vs : List Wire) → GivesEach from a b ws → GivesEach more b c vs → Each (IsFrom from a b) more → GivesEach from a c (ws ++ vs)
GivesEach-append from more a b c ws vs h g each =
    let q = GivesEach-joined from more a b c vs h.builds g each in
    record { builds = q.builds; results = Each-join (λ (x : Wire). IsFrom from a c x.number) ws vs (from_more from a b c ws g.builds.reads.extends h.results) q.results }

pub settled_builds : {ps : List (Wire × FieldTest)} {from : List ℕ} {a b : Draft} → BuildsComparing ps from a b → (r : Reading) → IsSettled b r → IsSettled a r
settled_builds p r s = settled_before p.reads.extends r s

-- the numbers of one more list of nets
pub flat_more : {ps qs : List (Wire × FieldTest)} (from more : List ℕ) (a b c : Draft) (ns : List ℕ) (ws : List Wire) → BuildsComparing ps from a b → GivesEachComparing qs more b c ws → Each (IsFrom from a b) more → Each (IsFrom from a b) ns → Each (IsFrom from a c) (ns ++ (numbers ws ++ []))
flat_more from more a b c ns ws p g each h =
    Each-join (IsFrom from a c) ns (numbers ws ++ []) (Each-weaker (IsFrom from a b) (IsFrom from a c) (λ n x. IsFrom-more from a b c n g.builds.reads.extends x) ns h)
    (Each-join (IsFrom from a c) (numbers ws) [] (Each-map (IsFrom from a c) (λ (w : Wire). w.number) ws (Each-weaker (λ (w : Wire). IsFrom more b c w.number) (λ (w : Wire). IsFrom from a c w.number) (λ w x. IsFrom-later from more a b c w.number p.reads.extends g.builds.reads.extends each x) ws g.results)) tt)

-- a net that compares the bits of a word with a value
pub Gives-compared : (a b : Draft) (word bits value : Wire) (test : FieldTest) (w : Wire) → b ≡ with_made a 1 (cell.Two op.Eq bits value) → w ≡ next_wire a 1 → CanFresh a → Makes a b → Reads (bits.number ∷ value.number ∷ []) a b → IsNet b.nets w
    → Contains a.assigns (record { to = bits; cell = cell.Slice word (test.low + test.width - 1) test.low }) → Contains a.assigns (record { to = value; cell = cell.Const test.value })
    → GivesComparing ((word, test) ∷ []) (bits.number ∷ value.number ∷ []) a b w
Gives-compared a b word bits value test w is wire fresh makes reads net slice constant = record {
  builds = subst (λ (d : Draft). BuildsComparing ((word, test) ∷ []) (bits.number ∷ value.number ∷ []) a d) (sym is) (record {
    reads = subst (λ (d : Draft). Reads (bits.number ∷ value.number ∷ []) a d) is reads;
    instances = refl;
    fresh = subst CanFresh is (makes.fresh fresh);
    names = (subst (Makes a) is makes).names;
    ports = (subst (Makes a) is makes).ports;
    wires = (record { name = numbered (wire_count a.nets); width = 1; role = role.Plain } ∷ [], refl, (record { number = wire_count a.nets; named = refl; plain = refl }, tt));
    assigns = (last ∷ [], refl, (record { own = omega arith; cell = tt }, tt));
    compares = (
      last ∷ [],
      filter-append is_comparison a.assigns (last ∷ []),
      (
        record {
          bits = bits;
          value = value;
          compares = refl;
          slice = there_stays a.assigns (last ∷ []) (record { to = bits; cell = cell.Slice word (test.low + test.width - 1) test.low }) slice;
          constant = there_stays a.assigns (last ∷ []) (record { to = value; cell = cell.Const test.value }) constant;
        },
        tt,
      ),
    );
  });
  result = (Yields-made (bits.number ∷ value.number ∷ []) a b 1 w reads wire net).result;
}
  where
    last : Assign
    last = record { to = next_wire a 1; cell = cell.Two op.Eq bits value }

pub made_there : (a b : Draft) (width : ℕ) (c : Cell) → b ≡ with_made a width c → Contains b.assigns (record { to = next_wire a width; cell = c })
made_there a b width c is = subst (λ (d : Draft). Contains d.assigns (record { to = next_wire a width; cell = c })) (sym is) (there_last a.assigns (record { to = next_wire a width; cell = c }))

pub made_later : (a b : Draft) (x : Assign) → Extends a b → Contains a.assigns x → Contains b.assigns x
made_later a b x e h = assign_later a b x e h
