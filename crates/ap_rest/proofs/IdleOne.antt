-- One unit that no line uses.
use Rattle.std.proofs.Common.{◌≡◌, ◌≢◌, ℕ, ◌<◌, ◌≤◌, List, [], ◌∷◌, ◌++◌, length, map, refl, sym, ap, subst, ◌∙◌, arith, append-nil, inl, inr, append_assoc}
use Rattle.std.specs.Prelude.{◌⊎◌, codes, slice_get, Some}
use Rattle.std.specs.List.{AllByRecursion as Each}
use Rattle.std.proofs.lemmas.Bool.{cases_lt}
use Rattle.ap_bits.specs.declared.card.Latency.TheVariants.{One}
use Rattle.ap_desc.specs.declared.design.Unit.{Unit as Resource}
use Rattle.ap_net.specs.declared.cell.Wire.{Wire}
use Rattle.ap_net.specs.declared.net.Instance.{Instance}
use Rattle.ap_net.specs.declared.net.Port.{Port}
use Rattle.ap_net.specs.Draft.{CanFresh, Draft, Extends}
use Rattle.ap_net.specs.Late.{Reads}
use Rattle.ap_net.specs.Making.{Makes}
use Rattle.ap_net.specs.Modules.{IsModule, ModuleText}
use Rattle.ap_net.specs.Pending.{Yields}
use Rattle.ap_net.specs.Readings.{Carries}
use Rattle.ap_net.specs.Ready.{AreReady, Dependence, ReadyAfter}
use Rattle.ap_net.proofs.Among.{ports_within}
use Rattle.ap_net.proofs.Laws.{Extends-refl, Extends-trans, ReadyAfter-Extends}
use Rattle.ap_net.proofs.Lists.{All-back, All-front}
use Rattle.ap_signals.specs.NetRuns.{unit_part}
use Rattle.ap_unit.specs.Units.{in_port, ports_by}
use Rattle.ap_stage.specs.Placed.{PlacesUnit}
use Rattle.ap_bank.specs.Joins.{IsAtRest}
use Rattle.ap_bank.specs.Placed.{IsFit}
use Rattle.ap_bank.proofs.Joined.{rest_later}
use Rattle.ap_rest.specs.Idle.{AddsIdle, IsIdleInstance, PlacesIdle}

-- The ports of the module.

pub first_width : (m : ModuleText) (ps : List Port) (p : Port) (select width : ℕ) → ps ≡ m.ports → m.ports ≡ ports_by One select width → slice_get ps 0 ≡ Some p → p.width ≡ select
first_width m ps p select width same is at =
    let e : Some p ≡ Some (in_port (codes "sel") select) = sym at ∙ ap (λ (l : List Port). slice_get l 0) (same ∙ is) in
    let one : p ≡ in_port (codes "sel") select = cc in
    ap (λ (q : Port). q.width) one

pub fit_ports : (m : ModuleText) (select width : ℕ) → IsModule m → m.ports ≡ ports_by One select width → IsFit select × IsFit width
fit_ports m select width h is =
    let w : Each (λ (p : Port). (1 ≤ p.width) × (p.width ≤ 64)) (ports_by One select width) = subst (Each (λ (p : Port). (1 ≤ p.width) × (p.width ≤ 64))) is (ports_within m h.wired.widths) in
    (record { low = w.0.0; high = w.0.1 }, record { low = w.1.0.0; high = w.1.0.1 })

-- Nets that are always 0.

ready_by : (by : Dependence) (a b : Draft) (w : Wire) → Yields [] a b w → ReadyAfter by b [] w.number
ready_by by a b w h = go h.result
  where
    go : ⊥ ⊎ ((length a.nets ≤ w.number) × (w.number < length b.nets)) → ReadyAfter by b [] w.number
    go (inl none) = absurd none
    go (inr k) = h.reads.came by w.number k.0 k.1

pub rests_zero : (a b : Draft) (width : ℕ) (w : Wire) → Carries b width (λ r x. x ≡ 0) w → Yields [] a b w → IsAtRest b w
rests_zero a b width w h y = record { never = record { net = h.net; wide = refl; means = h.means }; came = λ by. ready_by by a b w y }

-- What came goes on.

pub adds_none : (d : Draft) → CanFresh d → AddsIdle [] d d
adds_none d fresh = record {
  extends = Extends-refl d;
  nexts = refl;
  instances = sym (append-nil d.instances);
  ports = refl;
  fresh = fresh;
  names = λ name other apart new. new;
  late = λ x h. h;
  came = λ by n low high. absurd (omega arith);
}

pub adds_more : (ps qs : List Instance) (a b c : Draft) → AddsIdle ps a b → AddsIdle qs b c → AddsIdle (ps ++ qs) a c
adds_more ps qs a b c p q = record {
  extends = Extends-trans a b c p.extends q.extends;
  nexts = q.nexts ∙ p.nexts;
  instances = q.instances ∙ ap (λ l. l ++ qs) p.instances ∙ append_assoc a.instances ps qs;
  ports = q.ports ∙ p.ports;
  fresh = q.fresh;
  names = λ name other apart new. q.names name other (All-back (λ (i : Instance). i.name ≢ name) ps qs apart) (p.names name other (All-front (λ (i : Instance). i.name ≢ name) ps qs apart) new);
  late = λ x h. q.late x (p.late x h);
  came = λ by n low high. either by n low high (cases_lt n (length b.nets));
}
  where
    either : (by : Dependence) (n : ℕ) → length a.nets ≤ n → n < length c.nets → (n < length b.nets) ⊎ (length b.nets ≤ n) → ReadyAfter by c [] n
    either by n low high (inl lt) = ReadyAfter-Extends by b c [] n q.extends (p.came by n low lt)
    either by n low high (inr le) = q.came by n le high

pub adds_made : (a b : Draft) → CanFresh a → Reads [] a b → Makes a b → AddsIdle [] a b
adds_made a b fresh reads makes = record {
  extends = reads.extends;
  nexts = reads.nexts;
  instances = makes.instances ∙ sym (append-nil a.instances);
  ports = makes.ports;
  fresh = makes.fresh fresh;
  names = λ name other apart new. makes.names name other new;
  late = reads.late;
  came = reads.came;
}

each_named : (name : List ℕ) (placed : List Instance) → Each (λ (i : Instance). i.name ≢ name) placed → Each (λ other. other ≢ name) (map (λ (i : Instance). i.name) placed)
each_named name [] h = tt
each_named name (i ∷ placed) h = (h.0, each_named name placed h.1)

module _ (u : Resource) (m : ModuleText) (sel operand y : Wire) (a b c d : Draft) where
  -- over two nets that are always 0
  pub places_idle : CanFresh a → AddsIdle [] a b → IsAtRest b sel → AddsIdle [] b c → IsAtRest c operand → Yields (sel.number ∷ operand.number ∷ operand.number ∷ []) c d y
      → PlacesUnit (unit_part u) m (sel ∷ operand ∷ operand ∷ y ∷ []) c d → PlacesIdle u m a d
  places_idle fresh one sel_rests two operand_rests yields places =
      let all = adds_more [] [] a b c one two in
      let reads = yields.reads in
      let of : Instance = places.placed in
      let last : AddsIdle (of ∷ []) c d = record {
        extends = reads.extends;
        nexts = reads.nexts;
        instances = places.places.instances;
        ports = places.places.ports;
        fresh = places.places.fresh all.fresh;
        names = λ name other apart new. places.places.names name other (each_named name (of ∷ []) apart) new;
        late = reads.late;
        came = λ by n low high later e each. reads.came by n low high later e (ready by later e);
      } in
      record {
        of = of;
        is = record {
          named = places.named;
          connects = places.connects;
          sel = sel;
          a = operand;
          b = operand;
          y = y;
          over = places.over;
          sel_rests = rest_later (Extends-trans b c d two.extends reads.extends) sel_rests;
          a_rests = rest_later reads.extends operand_rests;
          b_rests = rest_later reads.extends operand_rests;
        };
        adds = adds_more [] (of ∷ []) a c d all last;
      }
    where
      ready : (by : Dependence) (later : Draft) → Extends d later → AreReady by later (sel.number ∷ operand.number ∷ operand.number ∷ [])
      ready by later e =
          let from_c : Extends c later = Extends-trans c d later yields.reads.extends e in
          let x = operand_rests.came by later from_c tt in
          (sel_rests.came by later (Extends-trans b c later two.extends from_c) tt, (x, (x, tt)))

-- an instance at rest is so in each later draft
pub idle_later : (a b : Draft) (u : Resource) (m : ModuleText) (i : Instance) → Extends a b → IsIdleInstance u m a i → IsIdleInstance u m b i
idle_later a b u m i e h = record {
  named = h.named;
  connects = h.connects;
  sel = h.sel;
  a = h.a;
  b = h.b;
  y = h.y;
  over = h.over;
  sel_rests = rest_later e h.sel_rests;
  a_rests = rest_later e h.a_rests;
  b_rests = rest_later e h.b_rests;
}
