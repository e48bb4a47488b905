-- Nets by their names, and what registers take, go on where a draft grows.
use Rattle.std.proofs.Common.{◌≡◌, ℕ, List, Some, sym, subst}
use Rattle.std.specs.Prelude.{slice_get, Contains}
use Rattle.std.proofs.lemmas.List.Elements.{Contains-append_left}
use Rattle.ap_net.specs.declared.cell.Wire.{Wire}
use Rattle.ap_net.specs.declared.net.ModuleNet.{ModuleNet}
use Rattle.ap_net.specs.declared.net.Next.{Next}
use Rattle.ap_net.specs.Draft.{Draft, Extends}
use Rattle.ap_net.specs.Readings.{Reading}
use Rattle.ap_net.proofs.Laws.{Carries-Extends, meant, stays}
use Rattle.ap_flight.specs.Stages.{TakesNet}
use Rattle.ap_border.specs.Named.{IsNamed, IsRegisterNamed, IsResetNamed}

pub net_later : (a b : Draft) (n : ℕ) (net : ModuleNet) → Extends a b → slice_get a.nets n ≡ Some net → slice_get b.nets n ≡ Some net
net_later a b n net e h = stays a.nets b.nets e.nets n net h

pub IsNamed-Extends : {a b : Draft} {name : List ℕ} {w : Wire} → Extends a b → IsNamed a name w → IsNamed b name w
IsNamed-Extends {a} {b} {name} {w} e h = record { net = h.net; there = net_later a b w.number h.net e h.there; named = h.named }

pub IsResetNamed-Extends : {a b : Draft} {name : List ℕ} {value : ℕ} {w : Wire} → Extends a b → IsResetNamed a name value w → IsResetNamed b name value w
IsResetNamed-Extends {a} {b} {name} {value} {w} e h = record { net = h.net; there = net_later a b w.number h.net e h.there; named = h.named; reset = h.reset }

pub next_later : (a b : Draft) (x : Next) → Extends a b → Contains a.nexts x → Contains b.nexts x
next_later a b x e h = subst (λ (l : List Next). Contains l x) (sym e.nexts.1) (Contains-append_left a.nexts e.nexts.0 x h)

pub IsRegisterNamed-Extends : {a b : Draft} {name : List ℕ} {value : ℕ} {register from : Wire} → Extends a b → IsRegisterNamed a name value register from → IsRegisterNamed b name value register from
IsRegisterNamed-Extends {a} {b} {name} {value} {register} {from} e h = record { begins = IsResetNamed-Extends e h.begins; next = next_later a b (record { register = register; from = from }) e h.next }

pub TakesNet-Extends : {a b : Draft} {Means : Reading → ℕ → Type 0} {register : Wire} → Extends a b → TakesNet a Means register → TakesNet b Means register
TakesNet-Extends {a} {b} {Means} {register} e h = record { from = h.from; next = next_later a b (record { register = register; from = h.from }) e h.next; carries = Carries-Extends e h.carries }

-- it takes a net that means something that follows
pub TakesNet-meant : {d : Draft} {P Q : Reading → ℕ → Type 0} {register : Wire} → ((r : Reading) (x : ℕ) → P r x → Q r x) → TakesNet d P register → TakesNet d Q register
TakesNet-meant {d} {P} {Q} {register} f h = record { from = h.from; next = h.next; carries = meant (λ r s x. f r _ x) h.carries }
