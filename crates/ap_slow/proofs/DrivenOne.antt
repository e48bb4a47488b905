-- Late wires of a unit that are driven.
use Rattle.std.proofs.Common.{◌≡◌, ◌≢◌, ℕ, zero, suc, ◌-◌, ◌<◌, ◌≤◌, ◌^◌, Bool, true, false, List, [], ◌∷◌, ◌++◌, flat_map, length, refl, sym, ap, subst, ◌∙◌, arith, inl, inr}
use Rattle.std.specs.Prelude.{◌⊎◌, not, slice_get, Some}
use Rattle.std.proofs.lemmas.Bool.{cases_lt}
use Rattle.std.specs.List.{AllByRecursion as Each}
use Rattle.ap_net.specs.declared.cell.Cell.{Cell}
use Rattle.ap_net.specs.declared.cell.Cell.TheVariants as cell
use Rattle.ap_net.specs.declared.cell.Wire.{Wire}
use Rattle.ap_net.specs.Cells.{IsNet, cell_value}
use Rattle.ap_net.specs.Draft.{CanFresh, Draft, Extends, KeepsNew, with_assign}
use Rattle.ap_net.specs.Late.{Drives, IsLate}
use Rattle.ap_net.specs.Modules.{ports_among}
use Rattle.ap_net.specs.Readings.{Always, Reading}
use Rattle.ap_net.specs.Ready.{Dependence, Ready, ReadyAfter, numbers}
use Rattle.ap_net.specs.Runs.{bit}
use Rattle.ap_net.proofs.Laws.{Carries-Extends, Extends-refl, Extends-trans, ReadyAfter-Extends, settled_before}
use Rattle.ap_net.proofs.Lists.{All-back, All-front}
use Rattle.ap_ctl.specs.declared.nets.ControlNets.{ControlNets}
use Rattle.ap_ctl.specs.Building.{Builds, Gives, IsBit, Tells, is_on}
use Rattle.ap_ctl.proofs.Bits.{bit_of}
use Rattle.ap_ctl.proofs.Built.{ready_from}
use Rattle.ap_slow.specs.Driven.{DrivesLate, IsAtRest, asking}

pub drives_cell : (to : Wire) (x : Cell) (reads from : List ℕ) (a b : Draft) → CanFresh a → b ≡ with_assign a to x → Drives reads to a b → DrivesLate (to.number ∷ []) from a b
drives_cell to x reads from a b fresh is drives = record {
  extends = drives.extends;
  nexts = drives.nexts;
  instances = ap (λ (d : Draft). d.instances) is;
  ports = ap (λ (d : Draft). ports_among d.nets) is;
  fresh = subst CanFresh (sym is) fresh;
  names = subst (KeepsNew a) (sym is) (λ name other new. new);
  late = λ w apart h. drives.late w (λ e. apart.0 (sym e)) h;
  came = λ by n low high. let same : length b.nets ≡ length a.nets = ap (λ (d : Draft). length d.nets) is in absurd (omega arith);
}

pub drives_more : (ps qs from more : List ℕ) (a b c : Draft) → DrivesLate ps from a b → DrivesLate qs more b c → ((P : ℕ → Type 0) → Each P from → Each P more) → DrivesLate (ps ++ qs) from a c
drives_more ps qs from more a b c p q among = record {
  extends = Extends-trans a b c p.extends q.extends;
  nexts = q.nexts ∙ p.nexts;
  instances = q.instances ∙ p.instances;
  ports = q.ports ∙ p.ports;
  fresh = q.fresh;
  names = λ name other new. q.names name other (p.names name other new);
  late = λ x apart h. q.late x (All-back (λ n. n ≢ x.number) ps qs apart) (p.late x (All-front (λ n. n ≢ x.number) ps qs apart) h);
  came = λ by n low high. either by n low high (cases_lt n (length b.nets));
}
  where
    either : (by : Dependence) (n : ℕ) → length a.nets ≤ n → n < length c.nets → (n < length b.nets) ⊎ (length b.nets ≤ n) → ReadyAfter by c from n
    either by n low high (inl lt) = ReadyAfter-Extends by b c from n q.extends (p.came by n low lt)
    either by n low high (inr le) = λ later e each. q.came by n le high later e (among (Ready by later) each)

pub drives_none : (from : List ℕ) (d : Draft) → CanFresh d → DrivesLate [] from d d
drives_none from d fresh = record {
  extends = Extends-refl d;
  nexts = refl;
  instances = refl;
  ports = refl;
  fresh = fresh;
  names = λ name other new. new;
  late = λ x apart h. h;
  came = λ by n low high. absurd (omega arith);
}

pub drives_from : (ps from more : List ℕ) (a b : Draft) → DrivesLate ps more a b → ((P : ℕ → Type 0) → Each P from → Each P more) → DrivesLate ps from a b
drives_from ps from more a b p among = record {
  extends = p.extends;
  nexts = p.nexts;
  instances = p.instances;
  ports = p.ports;
  fresh = p.fresh;
  names = p.names;
  late = p.late;
  came = λ by n low high later e each. p.came by n low high later e (among (Ready by later) each);
}

pub drives_built : (from : List ℕ) (a b : Draft) → Builds from a b → DrivesLate [] from a b
drives_built from a b h = record {
  extends = h.reads.extends;
  nexts = h.reads.nexts;
  instances = h.instances;
  ports = h.ports;
  fresh = h.fresh;
  names = h.names;
  late = λ x apart l. h.reads.late x l;
  came = h.reads.came;
}

pub positive : (n : ℕ) → 0 < 2 ^ n
positive zero = omega arith
positive (suc n) = let h = positive n in omega arith

pub late_net : (to : Wire) (x : Cell) (a b : Draft) → b ≡ with_assign a to x → IsLate a to → IsNet b.nets to
late_net to x a b is h = subst (λ (d : Draft). IsNet d.nets to) (sym is) h.net

pub rest_later : (a b : Draft) (to : Wire) → Extends a b → IsAtRest a to → IsAtRest b to
rest_later a b to e h = record { never = Carries-Extends e h.never; ready = λ by. ReadyAfter-Extends by a b [] to.number e (h.ready by) }

-- The nets of control that are looked at.

net_in : (P : ℕ → Type 0) (ws : List Wire) (i : ℕ) (w : Wire) → slice_get ws i ≡ Some w → Each P (numbers ws) → P w.number
net_in P [] i w at h = cc
net_in P (x ∷ ws) zero w at h = let same : x ≡ w = cc in subst (λ (y : Wire). P y.number) same h.0
net_in P (x ∷ ws) (suc i) w at h = net_in P ws i w at h.1

nets_in : (P : ℕ → Type 0) (lists : List (List Wire)) (i : ℕ) (ws : List Wire) → slice_get lists i ≡ Some ws → Each P (flat_map numbers lists) → Each P (numbers ws)
nets_in P [] i ws at h = cc
nets_in P (x ∷ lists) zero ws at h = let same : x ≡ ws = cc in subst (λ (l : List Wire). Each P (numbers l)) same (All-front P (numbers x) (flat_map numbers lists) h)
nets_in P (x ∷ lists) (suc i) ws at h = nets_in P lists i ws at (All-back P (numbers x) (flat_map numbers lists) h)

pub asked_in : (nets : ControlNets) (i : ℕ) (valid : Wire) (conditions : List Wire) → slice_get nets.valid i ≡ Some valid → slice_get nets.decoded i ≡ Some conditions → (P : ℕ → Type 0) → Each P (asking nets) → Each P (valid.number ∷ numbers conditions)
asked_in nets i valid conditions at there P h =
    (net_in P nets.valid i valid at (All-front P (numbers nets.valid) (flat_map numbers nets.decoded) h), nets_in P nets.decoded i conditions there (All-back P (numbers nets.valid) (flat_map numbers nets.decoded) h))

-- go and adv.

inverse_bit : (b : Bool) → 2 ^ 1 - 1 - bit b ≡ bit (not b)
inverse_bit true = refl
inverse_bit false = refl

pub adv_tells : (a b : Draft) (to hold : Wire) → Extends a b → to.width ≡ 1 → IsNet b.nets to → IsBit b.nets hold → Always b (λ r. r.read to.number ≡ cell_value r.read to.width (cell.Not hold)) → Tells b (λ r. not (is_on r hold)) to
adv_tells a b to hold e wide net h value = record {
  carries = record {
    net = net;
    wide = wide;
    means = record { holds = λ r s. value.holds r s ∙ ap (λ w. 2 ^ w - 1 - r.read hold.number) wide ∙ ap (λ x. 2 ^ 1 - 1 - x) (bit_of b hold r h s) ∙ inverse_bit (is_on r hold) };
  };
}

pub go_tells : (fact : Reading → Bool) (a b : Draft) (to from : Wire) → Extends a b → to.width ≡ 1 → IsNet b.nets to → Tells a fact from → Always b (λ r. r.read to.number ≡ cell_value r.read to.width (cell.Copy from)) → Tells b fact to
go_tells fact a b to from e wide net h value = record {
  carries = record { net = net; wide = wide; means = record { holds = λ r s. value.holds r s ∙ h.carries.means.holds r (settled_before e r s) } };
}

pub tells_later : (fact : Reading → Bool) (a b : Draft) (w : Wire) → Extends a b → Tells a fact w → Tells b fact w
tells_later fact a b w e h = record { carries = Carries-Extends e h.carries }

pub go_follows : (by : Dependence) (nets : ControlNets) (from : List ℕ) (a b c d : Draft) (asks go : Wire) → Gives from a b asks → ((P : ℕ → Type 0) → Each P (asking nets) → Each P from) → Extends b c → Extends c d → ReadyAfter by c (asks.number ∷ []) go.number
    → ReadyAfter by d (asking nets) go.number
go_follows by nets from a b c d asks go gives among e f copy = λ later g each.
    let after = ready_from by from a b asks.number gives.builds.reads gives.result in
    copy later (Extends-trans c d later f g) (after later (Extends-trans b d later (Extends-trans b c d e f) g) (among (Ready by later) each), tt)
