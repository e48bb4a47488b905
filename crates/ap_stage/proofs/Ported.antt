-- Ports that serve: what they are handed, what they give, and what is ready then.
use Rattle.std.proofs.Common.{◌≡◌, ℕ, ◌<◌, List, [], ◌∷◌, ◌++◌, length, sym, subst, ◌∙◌, arith}
use Rattle.std.specs.List.{AllByRecursion as Each}
use Rattle.ap_bits.specs.Cards.{operation_value}
use Rattle.ap_desc.specs.Designs.{width_at}
use Rattle.ap_net.specs.declared.cell.Wire.{Wire}
use Rattle.ap_net.specs.Draft.{Draft, Extends}
use Rattle.ap_net.specs.Making.{Makes}
use Rattle.ap_net.specs.Modules.{ModuleText}
use Rattle.ap_net.specs.Pending.{IsFrom, Yields}
use Rattle.ap_net.specs.Ready.{Dependence, Ready, ReadyAfter}
use Rattle.ap_net.specs.Readings.{Carries}
use Rattle.ap_net.proofs.Laws.{Carries-Extends, Extends-trans, IsFrom-more, Places-Makes, Places-trans, Yields-after, meant}
use Rattle.ap_unit.specs.Units.{Computes}
use Rattle.ap_merge.specs.declared.table.Select.{Select}
use Rattle.ap_merge.specs.Selects.{depth}
use Rattle.ap_stage.specs.declared.node.Course.{Course}
use Rattle.ap_stage.specs.declared.node.PortUse.{PortUse}
use Rattle.ap_stage.specs.declared.source.Ground.{Ground}
use Rattle.ap_stage.specs.declared.user.Part.{Part}
use Rattle.ap_stage.specs.declared.user.Part.TheVariants as part
use Rattle.ap_stage.specs.Courses.{CanServe, FitsPart, FitsRead, FitsUnit, GoOn, HandsIn, IsResultWide, part_value, users_of}
use Rattle.ap_stage.specs.Placed.{Operates, PlacesUnit}
use Rattle.ap_stage.specs.Reads.{AreFrom, AreReadyAfter, CameReady, DrivesLate}
use Rattle.ap_stage.specs.Served.{GivesResult, IsPartOf}
use Rattle.ap_stage.specs.Trees.{IsShallow}
use Rattle.ap_stage.proofs.Choosing.{yields_later}
use Rattle.ap_stage.proofs.Driven.{ready_from, ready_then}
use Rattle.ap_stage.proofs.Followed.{each_then, from_later, old_from}
use Rattle.ap_stage.proofs.Listed.{each_both}
use Rattle.ap_stage.proofs.Shallow.{shallow_deeper, shallow_on}
use Rattle.ap_stage.proofs.Users.{hands_on, wide_users}

-- What fits. ------------------------------------------------------------------------------------------------------------

users_then : (P Q : Course × PortUse → Type 0) (users : List (Course × PortUse)) → ((user : Course × PortUse) → P user → Q user) → Each P users → Each Q users
users_then P Q [] goes h = tt
users_then P Q (user ∷ users) goes h = (goes user h.0, users_then P Q users goes h.1)

module _ (ground : Ground) (s w : ℕ) (users : List (Course × PortUse)) (fit : Each (FitsUnit ground s w) users) where
  pub fit_op : Each (FitsPart ground s part.Operation) users
  fit_op = users_then (FitsUnit ground s w) (FitsPart ground s part.Operation) users (λ user h. h.op) fit

  pub fit_first : Each (FitsPart ground w part.First) users
  fit_first = users_then (FitsUnit ground s w) (FitsPart ground w part.First) users (λ user h. h.first) fit

  pub fit_second : Each (FitsPart ground w part.Second) users
  fit_second = users_then (FitsUnit ground s w) (FitsPart ground w part.Second) users (λ user h. h.second) fit

abbrev IsWide : ℕ → Course × PortUse → Type 0
IsWide w user = width_at (λ (width : ℕ). width) user.0.scope.widths user.1.local ≡ w

pub wide_unit : (ground : Ground) (s w port : ℕ) (courses : List Course) → Each (FitsUnit ground s w) (users_of port courses) → Each (IsResultWide w port) courses
wide_unit ground s w port courses fit = wide_users w port courses (users_then (FitsUnit ground s w) (IsWide w) (users_of port courses) (λ user h. h.result) fit)

pub wide_read : (ground : Ground) (bits w port : ℕ) (courses : List Course) → Each (FitsRead ground bits w) (users_of port courses) → Each (IsResultWide w port) courses
wide_read ground bits w port courses fit = wide_users w port courses (users_then (FitsRead ground bits w) (IsWide w) (users_of port courses) (λ user h. h.result) fit)

pub fit_index : (ground : Ground) (bits w : ℕ) (users : List (Course × PortUse)) → Each (FitsRead ground bits w) users → Each (FitsPart ground bits part.First) users
fit_index ground bits w users fit = users_then (FitsRead ground bits w) (FitsPart ground bits part.First) users (λ user h. h.index) fit

-- What is given. --------------------------------------------------------------------------------------------------------

-- the result of a unit of one cycle, whose operands are what its users hand in
pub operated : (d : Draft) (ground : Ground) (name : List ℕ) (s w : ℕ) (users : List (Course × PortUse)) (sel a b y : Wire) → a.width ≡ w → Carries d s (HandsIn ground users part.Operation) sel → Carries d w (HandsIn ground users part.First) a
    → Carries d w (HandsIn ground users part.Second) b → Carries d a.width (Operates name a.width sel a b) y → Carries d w (GivesResult ground name w users) y
operated d ground name s w users sel a b y wide ops firsts seconds h = record {
  net = h.net;
  wide = h.wide ∙ wide;
  means = record {
    holds = λ r settled place user at only m card found computes few.
        let op : r.read sel.number ≡ part_value r ground user part.Operation = ops.means.holds r settled place user at only in
        let one = firsts.means.holds r settled place user at only in
        let other = seconds.means.holds r settled place user at only in
        h.means.holds r settled m card found (subst (Computes m card) (sym wide) computes) (subst (λ n. n < length card.ops) (sym op) few)
        ∙ (λ i. operation_value card (wide i) (op i) (one i) (other i));
  };
}

-- what reaches a port, where rows got further nets
pub part_on : (v port : ℕ) (a b : Draft) (ground : Ground) (old new : List Course) (p : Part) (select : Select) (to : Wire) → Extends a b → GoOn v old new → CanServe (users_of port old) → IsPartOf a ground old port p select to → IsPartOf b ground new port p select to
part_on v port a b ground old new p select to e h can is = record {
  carries = Carries-Extends e (meant (λ r s hands. hands_on v port ground p old new r (r.read to.number) h can hands) is.carries);
  low = shallow_on a b (depth select) to.number e is.low;
}

-- an instance that is placed between cells
pub places_between : (a b c d : Draft) (name : List ℕ) (unit : ModuleText) (nets : List Wire) → Makes a b → PlacesUnit name unit nets b c → Makes c d → PlacesUnit name unit nets a d
places_between a b c d name unit nets m h n = record {
  placed = h.placed;
  named = h.named;
  connects = h.connects;
  over = h.over;
  places = Places-trans (h.placed ∷ []) [] a c d (Places-trans [] (h.placed ∷ []) a b c (Places-Makes a b m) h.places) (Places-Makes c d n);
}

pub low_four : (a b : Draft) (deep : ℕ) (sel x z y : Wire) → Extends a b → IsShallow a deep sel.number → IsShallow a deep x.number → IsShallow a deep z.number → IsShallow a 0 y.number
    → Each (λ (w : Wire). IsShallow b deep w.number) (sel ∷ x ∷ z ∷ y ∷ [])
low_four a b deep sel x z y e p q r last = (
  shallow_on a b deep sel.number e p,
  (shallow_on a b deep x.number e q, (shallow_on a b deep z.number e r, (shallow_on a b deep y.number e (shallow_deeper a 0 deep y.number (omega arith) last), tt))),
)

-- What follows. ---------------------------------------------------------------------------------------------------------

-- three nets, an instance over them, and then its result for all users
pub from_quick : (from nets : List ℕ) (a b c d e f : Draft) (x z w y : Wire) → Yields from a b x → Yields from b c z → Yields from c d w → Yields (x.number ∷ z.number ∷ w.number ∷ []) d e y → AreFrom (y.number ∷ from) e f nets → AreFrom from a f nets
from_quick from nets a b c d e f x z w y p q r last then =
    let second = yields_later from a b c z p.reads q in
    let third = yields_later from a c d w second.reads r in
    let cd = r.reads.extends in
    let bd = Extends-trans b c d q.reads.extends cd in
    let result = Yields-after from (x.number ∷ z.number ∷ w.number ∷ []) a d e y third.reads last (IsFrom-more from a b d x.number bd p.result, (IsFrom-more from a c d z.number cd second.result, (third.result, tt))) in
    from_later from (y.number ∷ from) nets a e f (record { reads = result.reads; results = (result.result, old_from from a e from (λ n h. h)) }) then

-- What is ready. --------------------------------------------------------------------------------------------------------

-- what came, and these nets, are ready once those of the base are
pub record MakesReady (by : Dependence) (base : List ℕ) (a b : Draft) (nets : List ℕ) : Type 0 where
  pub came : CameReady by base a b
  pub nets_are : AreReadyAfter by b base nets

pub from_ready : (by : Dependence) (base from nets : List ℕ) (a b : Draft) → AreReadyAfter by a base from → AreFrom from a b nets → MakesReady by base a b nets
from_ready by base from nets a b ready h = record {
  came = λ n low high. ready_then by a b base from n h.reads.extends ready (h.reads.came by n low high);
  nets_are = each_then (IsFrom from a b) (ReadyAfter by b base) nets (λ n is. ready_then by a b base from n h.reads.extends ready (ready_from by from a b n (h.reads.came by) is)) h.results;
}

pub late_ready : (by : Dependence) (base from : List ℕ) (to : Wire) (a b : Draft) → AreReadyAfter by a base from → DrivesLate from to a b → MakesReady by base a b (to.number ∷ [])
late_ready by base from to a b ready h =
    let e = h.serves.adds.extends in
    record {
      came = λ n low high. ready_then by a b base from n e ready (h.came by n low high);
      nets_are = (ready_then by a b base from to.number e ready (h.driven by), tt);
    }

-- what a port gives, where what reaches it is ready
pub given_ready : (by : Dependence) (base wires : List ℕ) (a b : Draft) (n : ℕ) → Extends a b → ReadyAfter by a (wires ++ base) n → AreReadyAfter by b base wires → ReadyAfter by b base n
given_ready by base wires a b n e h ready =
    λ later f all. h later (Extends-trans a b later e f) (each_both (Ready by later) wires base (each_then (ReadyAfter by b base) (Ready by later) wires (λ m r. r later f all) ready) all)
