-- A register file with all that belongs to it, piece after piece.
use Rattle.std.proofs.Common.{◌≡◌, ℕ, suc, ◌<◌, ◌≤◌, List, [], ◌∷◌, ◌++◌, length, refl, sym, ap, subst, ◌∙◌, arith, inl, inr}
use Rattle.std.specs.Prelude.{◌⊎◌, IsTrue, Option, None, Some}
use Rattle.std.specs.List.{AllByRecursion as Each}
use Rattle.std.proofs.lemmas.Bool.{cases_lt}
use Rattle.ap_desc.specs.declared.design.File.{File}
use Rattle.ap_desc.specs.Designs.{index_bits, is_file_within}
use Rattle.ap_net.specs.declared.cell.Wire.{Wire}
use Rattle.ap_net.specs.Cells.{IsNet}
use Rattle.ap_net.specs.Draft.{Draft, Extends}
use Rattle.ap_net.specs.Late.{Reads}
use Rattle.ap_net.specs.Making.{Makes}
use Rattle.ap_net.specs.Modules.{ModuleText}
use Rattle.ap_net.specs.Pending.{Among}
use Rattle.ap_net.specs.Readings.{Carries}
use Rattle.ap_net.specs.Ready.{Dependence, ReadyAfter, numbers}
use Rattle.ap_net.proofs.Laws.{Carries-Extends, Extends-trans, ReadyAfter-Extends}
use Rattle.ap_net.proofs.Lists.{All-from}
use Rattle.ap_ctl.specs.Lists.{EachPair}
use Rattle.ap_store.proofs.FileShapes.{shape_of}
use Rattle.ap_bank.specs.declared.bank.FileNets.{FileNets}
use Rattle.ap_bank.specs.declared.files.FileWrite.{FileWrite}
use Rattle.ap_bank.specs.Banked.{ArePorts, BanksNew, IsGiven, IsPort}
use Rattle.ap_bank.specs.LateNets.{DeclaresLate, IsLateWide}
use Rattle.ap_bank.specs.Placed.{AreFileNets, IsFileWrite, IsFit, IsWide, NeedsAsFile, PlacesFile}

net_later : (a b : Draft) (w : Wire) → Extends a b → IsNet a.nets w → IsNet b.nets w
net_later a b w e h = (Carries-Extends e anything).net
  where
    anything : Carries a w.width (λ r x. Unit {0}) w
    anything = record { net = h; wide = refl; means = record { holds = λ r s. tt } }

-- The nets of write ports.

given_later : (bits width : ℕ) (a b : Draft) (port : Option FileWrite) (w : FileWrite) → Extends a b → IsGiven bits width a port w → IsGiven bits width b port w
given_later bits width a b None w e h = record { enable = Carries-Extends e h.enable; index = Carries-Extends e h.index; value = Carries-Extends e h.value }
given_later bits width a b (Some p) w e h = h

pub all_later : (bits width : ℕ) (a b : Draft) (ports : List (Option FileWrite)) (ws : List FileWrite) → Extends a b → EachPair (IsGiven bits width a) ports ws → EachPair (IsGiven bits width b) ports ws
all_later bits width a b [] [] e h = tt
all_later bits width a b [] (w ∷ ws) e h = absurd h
all_later bits width a b (p ∷ ports) [] e h = absurd h
all_later bits width a b (p ∷ ports) (w ∷ ws) e h = (given_later bits width a b p w e h.0, all_later bits width a b ports ws e h.1)

pub pairs_push : {X Y : Type 0} (P : X → Y → Type 0) (xs : List X) (ys : List Y) (x : X) (y : Y) → EachPair P xs ys → P x y → EachPair P (xs ++ x ∷ []) (ys ++ y ∷ [])
pairs_push P [] [] x y h p = (p, tt)
pairs_push P [] (z ∷ ys) x y h p = absurd h
pairs_push P (z ∷ xs) [] x y h p = absurd h
pairs_push P (z ∷ xs) (u ∷ ys) x y h p = (h.0, pairs_push P xs ys x y h.1 p)

pub pairs_count : {X Y : Type 0} (P : X → Y → Type 0) (xs : List X) (ys : List Y) → EachPair P xs ys → length xs ≡ length ys
pairs_count P [] [] h = refl
pairs_count P [] (y ∷ ys) h = absurd h
pairs_count P (x ∷ xs) [] h = absurd h
pairs_count P (x ∷ xs) (y ∷ ys) h = ap suc (pairs_count P xs ys h.1)

port_there : (f : File) (a b : Draft) (port : Option FileWrite) (w : FileWrite) → Extends a b → IsPort f a.nets port → IsGiven (index_bits f) f.width b port w → IsFileWrite f b.nets w
port_there f a b None w e h g = record { enable = record { net = g.enable.net; bit = g.enable.wide }; index = record { net = g.index.net; wide = g.index.wide }; value = record { net = g.value.net; wide = g.value.wide } }
port_there f a b (Some p) w e h g = subst (IsFileWrite f b.nets) (sym g) (record {
  enable = record { net = net_later a b p.enable e h.enable.net; bit = h.enable.bit };
  index = record { net = net_later a b p.index e h.index.net; wide = h.index.wide };
  value = record { net = net_later a b p.value e h.value.net; wide = h.value.wide };
})

ports_there : (f : File) (a b : Draft) (ports : List (Option FileWrite)) (ws : List FileWrite) → Extends a b → Each (IsPort f a.nets) ports → EachPair (IsGiven (index_bits f) f.width b) ports ws → Each (IsFileWrite f b.nets) ws
ports_there f a b [] [] e h g = tt
ports_there f a b [] (w ∷ ws) e h g = absurd g
ports_there f a b (p ∷ ports) [] e h g = absurd g
ports_there f a b (p ∷ ports) (w ∷ ws) e h g = (port_there f a b p w e h.0 g.0, ports_there f a b ports ws e h.1 g.1)

-- What was made over nothing is ready, now or later.
from_none : (by : Dependence) (d : Draft) (from : List ℕ) (n : ℕ) → ReadyAfter by d [] n → ReadyAfter by d from n
from_none by d from n h later e each = h later e tt

-- The whole.
module _ (f : File) (m : ModuleText) (ports : List (Option FileWrite)) (made : FileNets) (writes : List FileWrite) (a b c d : Draft) (late : DeclaresLate f.reads (index_bits f) made.indices a b)
    (given : EachPair (IsGiven (index_bits f) f.width c) ports writes) (reads : Reads [] b c) (makes : Makes b c) (are : ArePorts f a.nets ports) where
  abbrev b_to_c : Extends b c
  b_to_c = makes.adds.extends

  a_to_c : Extends a c
  a_to_c = Extends-trans a b c late.extends b_to_c

  pub file_nets : AreFileNets f c.nets made.indices writes
  file_nets = record {
    indices = All-from (IsLateWide b (index_bits f)) (IsWide c.nets (index_bits f)) (λ w h. record { net = net_later b c w b_to_c h.late.net; wide = h.wide }) made.indices late.each;
    read_count = late.many;
    written = ports_there f a c ports writes a_to_c are.each given;
    write_count = sym (pairs_count (IsGiven (index_bits f) f.width c) ports writes given) ∙ are.count;
  }

  among_shown : (by : Dependence) (xs ys : List Wire) (n : ℕ) → EachPair (λ (index value : Wire). ReadyAfter by d (index.number ∷ []) value.number) xs ys → Among (numbers ys) n → ReadyAfter by d (numbers xs) n
  among_shown by [] [] n h k = absurd k
  among_shown by [] (y ∷ ys) n h k = absurd h
  among_shown by (x ∷ xs) [] n h k = absurd h
  among_shown by (x ∷ xs) (y ∷ ys) n h (inl e) = subst (λ k. ReadyAfter by d (x.number ∷ numbers xs) k) e (λ later g each. h.0 later g (each.0, tt))
  among_shown by (x ∷ xs) (y ∷ ys) n h (inr k) = λ later g each. among_shown by xs ys n h.1 k later g each.1

  pub banks_new : PlacesFile f m made.indices writes made.shown c d → BanksNew f m ports made a d
  banks_new p = record {
    between = c;
    writes = writes;
    given = all_later (index_bits f) f.width c d ports writes p.extends given;
    placed = p;
    count = late.many;
    late_indices = All-from (IsLateWide b (index_bits f)) (IsLateWide d (index_bits f)) (λ w h. record { late = p.late w (reads.late w h.late); wide = h.wide }) made.indices late.each;
    apart = late.apart;
    extends = Extends-trans a c d a_to_c p.extends;
    nexts = p.nexts ∙ makes.adds.nexts ∙ late.nexts;
    same_ports = p.ports ∙ makes.ports ∙ late.ports;
    fresh = p.fresh;
    names = λ name other ne new. p.names name other ne (makes.names name other (late.names name other new));
    late = λ x h. p.late x (reads.late x (late.late x h));
    came = λ by needs n low high. first by needs n low high (cases_lt n (length c.nets));
    above = late.above;
    instances = p.instances ∙ ap (λ l. l ++ p.of ∷ []) (makes.instances ∙ late.instances);
  }
    where
      second : (by : Dependence) (n : ℕ) → length a.nets ≤ n → n < length c.nets → (n < length b.nets) ⊎ (length b.nets ≤ n) → Among (numbers made.indices) n ⊎ ReadyAfter by d (numbers made.indices) n
      second by n low high (inl lt) = inl (late.came n low lt)
      second by n low high (inr le) = inr (ReadyAfter-Extends by c d (numbers made.indices) n p.extends (from_none by c (numbers made.indices) n (reads.came by n le high)))

      first : (by : Dependence) → NeedsAsFile by m.name → (n : ℕ) → length a.nets ≤ n → n < length d.nets → (n < length c.nets) ⊎ (length c.nets ≤ n) → Among (numbers made.indices) n ⊎ ReadyAfter by d (numbers made.indices) n
      first by needs n low high (inl lt) = second by n low lt (cases_lt n (length b.nets))
      first by needs n low high (inr le) = inr (among_shown by made.indices made.shown n (p.ready by needs) (p.came n le high))

pub bits_fit : (n : ℕ) → 1 ≤ n → n ≤ 6 → IsFit n
bits_fit n low high = record { low = low; high = omega arith }

pub width_fits : (f : File) → IsTrue (is_file_within f) → IsFit f.width
width_fits f h = let s = shape_of f h in record { low = s.low; high = s.high }
