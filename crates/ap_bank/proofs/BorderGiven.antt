-- Registers that are declared and driven are what the border asks, and go on.
use Rattle.std.proofs.Common.{◌≡◌, ℕ, zero, suc, ◌+◌, true, false, List, [], ◌∷◌, sym, subst, ◌∙◌, arith}
use Rattle.std.specs.Prelude.{Option, Some, None, slice_get}
use Rattle.ap_desc.specs.declared.design.Design.{Design}
use Rattle.ap_desc.specs.declared.design.Reg.{Reg}
use Rattle.ap_model.specs.declared.storage.WritePort.TheVariants as port
use Rattle.ap_model.specs.Ports.{is_used}
use Rattle.ap_net.specs.declared.cell.Wire.{Wire}
use Rattle.ap_net.specs.Draft.{Draft, Extends}
use Rattle.ap_net.proofs.Laws.{stays}
use Rattle.ap_ctl.specs.Lists.{EachFrom, EachPair}
use Rattle.ap_border.specs.Named.{IsNamed}
use Rattle.ap_border.specs.Storages.{KeepsReg, WritesReg}
use Rattle.ap_bank.specs.declared.regs.RegWrite.{RegWrite}
use Rattle.ap_bank.specs.Border.{BankGoesOn, BanksRegs, IsShownWrite, RegsGiveBorder}
use Rattle.ap_bank.specs.Regs.{IsReg, RegTakes, TakeWrites}
use Rattle.ap_flight.specs.Stages.{TakesNet}
use Rattle.ap_bank.proofs.Driven.{takes_later}

pub IsNamed-later : {a b : Draft} {name : List ℕ} {w : Wire} → Extends a b → IsNamed a name w → IsNamed b name w
IsNamed-later {a} {b} {name} {w} e h = record { net = h.net; there = stays a.nets b.nets e.nets w.number h.net h.there; named = h.named }

pub IsReg-later : (a b : Draft) (r : Reg) (w : Wire) → Extends a b → IsReg a r w → IsReg b r w
IsReg-later a b r w e h =
    let n = h.begins in
    record { begins = record { net = n.net; there = stays a.nets b.nets e.nets w.number n.net n.there; named = n.named; reset = n.reset }; wide = h.wide }

regs_later : (a b : Draft) → Extends a b → (regs : List Reg) (ws : List Wire) → EachPair (IsReg a) regs ws → EachPair (IsReg b) regs ws
regs_later a b e [] [] h = tt
regs_later a b e [] (w ∷ ws) h = absurd h
regs_later a b e (r ∷ regs) [] h = absurd h
regs_later a b e (r ∷ regs) (w ∷ ws) h = (IsReg-later a b r w e h.0, regs_later a b e regs ws h.1)

shown_later : (design : Design) (a b : Draft) → Extends a b → (reg : ℕ) (writes : List (Option RegWrite)) → EachFrom (IsShownWrite design a) reg writes → EachFrom (IsShownWrite design b) reg writes
shown_later design a b e reg [] h = tt
shown_later design a b e reg (None ∷ writes) h = (h.0, shown_later design a b e (reg + 1) writes h.1)
shown_later design a b e reg (Some w ∷ writes) h = ((h.0.0, IsNamed-later e h.0.1, IsNamed-later e h.0.2), shown_later design a b e (reg + 1) writes h.1)

pub bank_later : BankGoesOn
bank_later design a b registers writes e h = record { each = regs_later a b e design.regs registers h.each; takes = takes_later a b e registers writes h.takes; shown = shown_later design a b e 0 writes h.shown }

-- one register of the list
record One (design : Design) (d : Draft) (reg : ℕ) (r : Reg) : Type 0 where
  register : Wire
  write : Option RegWrite
  is : IsReg d r register
  takes : TakesNet d (RegTakes register write) register
  shown : IsShownWrite design d reg write

find_one : (design : Design) (d : Draft) (first : ℕ) (regs : List Reg) (ws : List Wire) (writes : List (Option RegWrite)) → EachPair (IsReg d) regs ws → TakeWrites d ws writes → EachFrom (IsShownWrite design d) first writes
    → (reg : ℕ) (r : Reg) → slice_get regs reg ≡ Some r → One design d (first + reg) r
find_one design d first [] ws writes h t s reg r at = cc
find_one design d first (q ∷ regs) [] writes h t s reg r at = absurd h
find_one design d first (q ∷ regs) (w ∷ ws) [] h t s reg r at = absurd t
find_one design d first (q ∷ regs) (w ∷ ws) (v ∷ writes) h t s zero r at =
    let same : q ≡ r = cc in
    let here : first ≡ first + 0 = omega arith in
    record { register = w; write = v; is = subst (λ (x : Reg). IsReg d x w) same h.0; takes = t.0; shown = subst (λ n. IsShownWrite design d n v) here s.0 }
find_one design d first (q ∷ regs) (w ∷ ws) (v ∷ writes) h t s (suc reg) r at =
    let next : first + 1 + reg ≡ first + suc reg = omega arith in
    subst (λ n. One design d n r) next (find_one design d (first + 1) regs ws writes h.1 t.1 s.1 reg r at)

written_one : (design : Design) (d : Draft) (reg : ℕ) (r : Reg) → is_used design (port.Register reg) ≡ true → One design d reg r → WritesReg design d reg r
written_one design d reg r used o = go o.write o.takes o.shown
  where
    go : (w : Option RegWrite) → TakesNet d (RegTakes o.register w) o.register → IsShownWrite design d reg w → WritesReg design d reg r
    go None t s = absurd (let clash : true ≡ false = sym used ∙ s in cc)
    go (Some w) t s = record { enable = w.enable; enable_named = s.1; value = w.value; value_named = s.2; register = o.register; begins = o.is.begins; takes = t }

kept_one : (design : Design) (d : Draft) (reg : ℕ) (r : Reg) → is_used design (port.Register reg) ≡ false → One design d reg r → KeepsReg d r
kept_one design d reg r unused o = go o.write o.takes o.shown
  where
    go : (w : Option RegWrite) → TakesNet d (RegTakes o.register w) o.register → IsShownWrite design d reg w → KeepsReg d r
    go None t s = record { register = o.register; begins = o.is.begins; takes = t }
    go (Some w) t s = absurd (let clash : true ≡ false = sym s.0 ∙ unused in cc)

one_at : (design : Design) (d : Draft) (registers : List Wire) (writes : List (Option RegWrite)) → BanksRegs design d registers writes → (reg : ℕ) (r : Reg) → slice_get design.regs reg ≡ Some r → One design d reg r
one_at design d registers writes h reg r at =
    let here : 0 + reg ≡ reg = omega arith in
    subst (λ n. One design d n r) here (find_one design d 0 design.regs registers writes h.each h.takes h.shown reg r at)

pub regs_give_border : RegsGiveBorder
regs_give_border design d registers writes h idle = record {
  written = λ reg r at used. written_one design d reg r used (one_at design d registers writes h reg r at);
  kept = λ reg r at unused. kept_one design d reg r unused (one_at design d registers writes h reg r at);
  idle = idle;
}
