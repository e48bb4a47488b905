-- What holds of a draft in every reading goes on where the draft grows.
use Rattle.std.proofs.Common.{◌≡◌, ℕ}
use Rattle.ap_net.specs.declared.cell.Wire.{Wire}
use Rattle.ap_net.specs.Draft.{Draft, Extends, Means}
use Rattle.ap_net.specs.Making.{Makes}
use Rattle.ap_net.specs.Cells.{IsNet}
use Rattle.ap_net.specs.Readings.{Reading, IsSettled, Always, Carries}
use Rattle.ap_net.proofs.Placing.{SettlesOpen-before}
use Rattle.ap_net.proofs.Wired.{IsNet-more}

-- a reading that settles the larger draft settles the smaller one
pub settled_before : {a b : Draft} → Extends a b → (r : Reading) → IsSettled b r → IsSettled a r
settled_before {a} {b} e r s = SettlesOpen-before r.modules a b r.read r.parts e s

pub Always-Extends : {a b : Draft} {F : Reading → Type 0} → Extends a b → Always a F → Always b F
Always-Extends e h = record { holds = λ r s. h.holds r (settled_before e r s) }

pub Always-Makes : {a b : Draft} {F : Reading → Type 0} → Makes a b → Always a F → Always b F
Always-Makes m h = Always-Extends m.adds.extends h

pub Carries-Extends : {a b : Draft} {w : ℕ} {M : Reading → ℕ → Type 0} {x : Wire} → Extends a b → Carries a w M x → Carries b w M x
Carries-Extends {a} {b} {w} {M} {x} e h = record { net = rw (e.nets).1 (IsNet-more a.nets (e.nets).0 x h.net); wide = h.wide; means = Always-Extends e h.means }

pub Carries-Makes : {a b : Draft} {w : ℕ} {M : Reading → ℕ → Type 0} {x : Wire} → Makes a b → Carries a w M x → Carries b w M x
Carries-Makes m h = Carries-Extends m.adds.extends h

-- what a net means gives what else it means
pub meant : {d : Draft} {w : ℕ} {M N : Reading → ℕ → Type 0} {x : Wire} → ((r : Reading) → IsSettled d r → M r (r.read x.number) → N r (r.read x.number)) → Carries d w M x → Carries d w N x
meant f h = record { net = h.net; wide = h.wide; means = record { holds = λ r s. f r s (h.means.holds r s) } }

-- a fact of the smaller draft, in a reading of the larger one
pub held_before : {a b : Draft} {F : Reading → Type 0} → Makes a b → Always a F → (r : Reading) → IsSettled b r → F r
held_before m h r s = h.holds r (settled_before m.adds.extends r s)

-- what a net means in every reading of the draft alone is a fact
pub carried : (a b : Draft) (w : ℕ) (M : (ℕ → ℕ) → ℕ → Type 0) (x : Wire) → IsNet b.nets x → x.width ≡ w → Means a b (λ read. M read (read x.number)) → Carries b w (λ r. M r.read) x
carried a b w M x net wide h = record { net = net; wide = wide; means = record { holds = λ r s. (h r.read s.own).1 } }
