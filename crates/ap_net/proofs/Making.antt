-- What pieces of circuit say of what they make, one after another.
use Rattle.std.proofs.Common.{◌≡◌, ℕ, ◌+◌, ◌<◌, ◌≤◌, List, [], ◌∷◌, ◌++◌, length, refl, sym, ap, subst, ◌∙◌, arith, ⊎_elim, append-nil, append_assoc, length-append}
use Rattle.std.specs.List.{AllByRecursion as Each}
use Rattle.std.proofs.lemmas.Bool.{cases_lt}
use Rattle.ap_net.specs.declared.cell.Wire.{Wire}
use Rattle.ap_net.specs.declared.cell.Cell.{Cell}
use Rattle.ap_net.specs.declared.net.Role.TheVariants as role
use Rattle.ap_net.specs.declared.net.ModuleNet.{ModuleNet}
use Rattle.ap_net.specs.declared.net.Assign.{Assign}
use Rattle.ap_net.specs.Cells.{operands, IsNet, AreOfOneWidth, CellFits}
use Rattle.ap_net.specs.Wiring.{IsSource, reset_of}
use Rattle.ap_net.specs.Draft.{Draft, Extends, Adds}
use Rattle.ap_net.specs.Ready.{Dependence, Ready, numbers, assign}
use Rattle.ap_net.specs.Making.{DrivesItsOwn, Closes, Makes}
use Rattle.ap_net.proofs.Lists.{All-join, All-from, All-map, get_end}
use Rattle.ap_net.proofs.Wired.{number-IsNet, operands-CellFits}
use Rattle.ap_net.proofs.Drafts.{made, Extends-trans, longer, Adds-refl, Adds-trans, IsNet-Adds, one_more_net}
use Rattle.ap_net.proofs.Growing.{ReadyAfter-Feeds}

not_register : (net : ModuleNet) → (IsSource net.role → ⊥) → net.role ≡ role.Register (reset_of net.role) → ⊥
not_register net f e = f (subst IsSource (sym e) tt)

-- an assign that drives the one net that came
pub owns : (a : Draft) (net : ModuleNet) (c : Cell) → DrivesItsOwn a (made a net c)
owns a net c = record { more = record { to = record { number = length a.nets; width = net.width }; cell = c } ∷ []; assigns = refl; above = (omega arith, tt) }

-- a made net is ready once what was there is, and is no register
pub Closes-made : (a : Draft) (net : ModuleNet) (c : Cell) → (IsSource net.role → ⊥) → CellFits a.nets net.width c → Closes a (made a net c)
Closes-made a net c wire fits =
    let last : Assign = record { to = record { number = length a.nets; width = net.width }; cell = c } in
    record {
      ready = λ by later e old n lt.
          let long : length (a.nets ++ net ∷ []) ≡ length a.nets + 1 = length-append a.nets (net ∷ []) in
          ⊎_elim
          (λ low. old n low)
          (λ high.
          let same : length a.nets ≡ n = omega arith in
          ReadyAfter-Feeds by (made a net c) n (numbers (operands c)) (assign (length a.assigns) last (get_end a.assigns last) same refl) later e
          (All-map (Ready by later) (λ (w : Wire). w.number) (operands c)
          (All-from (IsNet a.nets) (λ (w : Wire). Ready by later w.number) (λ w net. old w.number (number-IsNet a.nets w net)) (operands c) (operands-CellFits a.nets net.width c fits))))
          (cases_lt n (length a.nets));
      own = owns a net c;
      registers = λ k old n x at is.
          ⊎_elim (λ there. old n x there is) (λ new. absurd (not_register net wire (subst (λ (y : ModuleNet). y.role ≡ role.Register (reset_of y.role)) new.1 is))) (one_more_net a.nets net n x at);
    }

pub Closes-refl : (a : Draft) → Closes a a
Closes-refl a = record { ready = λ by later e old n lt. old n lt; own = record { more = []; assigns = sym (append-nil a.assigns); above = tt }; registers = λ k h. h }

pub owns-trans : (a b c : Draft) → Extends a b → DrivesItsOwn a b → DrivesItsOwn b c → DrivesItsOwn a c
owns-trans a b c e p q =
    let le : length a.nets ≤ length b.nets = longer a b e in
    record {
      more = p.more ++ q.more;
      assigns = q.assigns ∙ ap (λ l. l ++ q.more) p.assigns ∙ append_assoc a.assigns p.more q.more;
      above = All-join (λ (x : Assign). length a.nets ≤ x.to.number) p.more q.more p.above
          (All-from (λ (x : Assign). length b.nets ≤ x.to.number) (λ (x : Assign). length a.nets ≤ x.to.number) (λ x low. omega arith) q.more q.above);
    }

pub Closes-trans : (a b c : Draft) → Adds a b → Adds b c → Closes a b → Closes b c → Closes a c
Closes-trans a b c r s p q = record {
  ready = λ by later e old n lt. q.ready by later e (p.ready by later (Extends-trans b c later s.extends e) old) n lt;
  own = owns-trans a b c r.extends p.own q.own;
  registers = λ k h. q.registers k (p.registers k h);
}

pub Makes-refl : (a : Draft) → Makes a a
Makes-refl a = record { adds = Adds-refl a; instances = refl; closes = Closes-refl a; fresh = λ h. h; names = λ name other h. h; ports = refl }

pub Makes-trans : (a b c : Draft) → Makes a b → Makes b c → Makes a c
Makes-trans a b c p q = record {
  adds = Adds-trans a b c p.adds q.adds;
  instances = q.instances ∙ p.instances;
  closes = Closes-trans a b c p.adds q.adds p.closes q.closes;
  fresh = λ h. q.fresh (p.fresh h);
  names = λ name other h. q.names name other (p.names name other h);
  ports = q.ports ∙ p.ports;
}

pub IsNet-Makes : (a b : Draft) (w : Wire) → Makes a b → IsNet a.nets w → IsNet b.nets w
IsNet-Makes a b w m h = IsNet-Adds a b w m.adds h

pub AreOfOneWidth-Makes : (a b : Draft) (x y : Wire) → Makes a b → AreOfOneWidth a.nets x y → AreOfOneWidth b.nets x y
AreOfOneWidth-Makes a b x y m h = record { first = IsNet-Makes a b x m h.first; second = IsNet-Makes a b y m h.second; same = h.same }
