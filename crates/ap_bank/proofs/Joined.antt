-- Late nets that are driven by copies and constants.
use Rattle.std.proofs.Common.{◌≡◌, ◌≢◌, ℕ, zero, suc, ◌<◌, ◌^◌, List, [], ◌∷◌, ◌++◌, refl, sym, ap, subst, ◌∙◌, arith}
use Rattle.std.specs.Prelude.{Option, Some, None}
use Rattle.std.specs.List.{AllByRecursion as Each}
use Rattle.ap_net.specs.declared.cell.Wire.{Wire}
use Rattle.ap_net.specs.declared.net.ModuleNet.{ModuleNet}
use Rattle.ap_net.specs.Cells.{IsNet}
use Rattle.ap_net.specs.Draft.{Draft, Extends, with_assign}
use Rattle.ap_net.specs.Late.{Drives, IsLate}
use Rattle.ap_net.specs.Ready.{numbers}
use Rattle.ap_net.specs.Wiring.{NoneTwice}
use Rattle.ap_net.specs.declared.cell.Cell.{Cell}
use Rattle.ap_net.proofs.Laws.{Carries-Extends, Extends-refl, Extends-trans, ReadyAfter-Extends}
use Rattle.ap_net.proofs.Lists.{All-back, All-front, All-from, All-join}
use Rattle.ap_effect.specs.declared.write.WriteNets.{WriteNets}
use Rattle.ap_bank.specs.Joins.{CanJoinIndex, CanJoinNet, IsAtRest, IsCopy, IsCopyIndex, RestsNet, RestsNets, Wires, index_numbers, port_numbers}

pub wires_cell : (to : Wire) (cell : Cell) (from : List ℕ) (a b : Draft) → b ≡ with_assign a to cell → Drives from to a b → Wires (to.number ∷ []) a b
wires_cell to cell from a b is drives = record {
  extends = drives.extends;
  nets = ap (λ (d : Draft). d.nets) is;
  nexts = drives.nexts;
  instances = ap (λ (d : Draft). d.instances) is;
  late = λ x apart h. drives.late x (λ e. apart.0 (sym e)) h;
}

pub wires_none : (a : Draft) → Wires [] a a
wires_none a = record { extends = Extends-refl a; nets = refl; nexts = refl; instances = refl; late = λ x apart h. h }

pub wires_more : (xs ys : List ℕ) (a b c : Draft) → Wires xs a b → Wires ys b c → Wires (xs ++ ys) a c
wires_more xs ys a b c p q = record {
  extends = Extends-trans a b c p.extends q.extends;
  nets = q.nets ∙ p.nets;
  nexts = q.nexts ∙ p.nexts;
  instances = q.instances ∙ p.instances;
  late = λ x apart h. q.late x (All-back (λ n. n ≢ x.number) xs ys apart) (p.late x (All-front (λ n. n ≢ x.number) xs ys apart) h);
}

-- They go on.

pub copy_later : {a b : Draft} {to from : Wire} → Extends a b → IsCopy a to from → IsCopy b to from
copy_later {a} {b} {to} {from} e h = record { carries = Carries-Extends e h.carries; came = λ by. ReadyAfter-Extends by a b (from.number ∷ []) to.number e (h.came by) }

pub rest_later : {a b : Draft} {to : Wire} → Extends a b → IsAtRest a to → IsAtRest b to
rest_later {a} {b} {to} e h = record { never = Carries-Extends e h.never; came = λ by. ReadyAfter-Extends by a b [] to.number e (h.came by) }

pub copy_index_later : (a b : Draft) (to from : Option Wire) → Extends a b → IsCopyIndex a to from → IsCopyIndex b to from
copy_index_later a b None None e h = tt
copy_index_later a b None (Some f) e h = absurd h
copy_index_later a b (Some t) None e h = absurd h
copy_index_later a b (Some t) (Some f) e h = copy_later e h

net_on : (driven : List ℕ) (a b : Draft) (w : Wire) → Wires driven a b → IsNet a.nets w → IsNet b.nets w
net_on driven a b w h net = subst (λ (nets : List ModuleNet). IsNet nets w) (sym h.nets) net

-- what can be joined, once others are
pub can_later : (driven : List ℕ) (a b : Draft) (to from : Wire) → Wires driven a b → Each (λ n. n ≢ to.number) driven → CanJoinNet a to from → CanJoinNet b to from
can_later driven a b to from h apart can = record { late = h.late to apart can.late; net = net_on driven a b from h can.net; same = can.same }

pub can_index_later : (driven : List ℕ) (a b : Draft) (to from : Option Wire) → Wires driven a b → ((t : Wire) → to ≡ Some t → Each (λ n. n ≢ t.number) driven) → CanJoinIndex a to from → CanJoinIndex b to from
can_index_later driven a b None None h apart can = tt
can_index_later driven a b None (Some f) h apart can = absurd can
can_index_later driven a b (Some t) None h apart can = absurd can
can_index_later driven a b (Some t) (Some f) h apart can = can_later driven a b t f h (apart t refl) can

-- Nets at rest.

pub positive : (n : ℕ) → 0 < 2 ^ n
positive zero = omega arith
positive (suc n) = let h = positive n in omega arith

numbers_more : (nets : List Wire) (w : Wire) → numbers nets ++ w.number ∷ [] ≡ numbers (nets ++ w ∷ [])
numbers_more [] w = refl
numbers_more (n ∷ nets) w = ap (λ l. n.number ∷ l) (numbers_more nets w)

pub rests_none : (a : Draft) → RestsNets [] a a
rests_none a = record { rest = tt; wires = wires_none a }

pub rests_more : (nets : List Wire) (w : Wire) (a b c : Draft) → RestsNets nets a b → RestsNet w b c → RestsNets (nets ++ w ∷ []) a c
rests_more nets w a b c p q = record {
  rest = All-join (IsAtRest c) nets (w ∷ []) (All-from (IsAtRest b) (IsAtRest c) (λ x h. rest_later q.wires.extends h) nets p.rest) (q.rest, tt);
  wires = subst (λ l. Wires l a c) (numbers_more nets w) (wires_more (numbers nets) (w.number ∷ []) a b c p.wires q.wires);
}

pub numbers_apart : (nets : List Wire) (n : ℕ) → Each (λ (x : Wire). x.number ≢ n) nets → Each (λ m. m ≢ n) (numbers nets)
numbers_apart [] n h = tt
numbers_apart (x ∷ nets) n h = (h.0, numbers_apart nets n h.1)

pub late_on : (to : Wire) (cell : Cell) (a b : Draft) → b ≡ with_assign a to cell → IsLate a to → IsNet b.nets to
late_on to cell a b is h = subst (λ (d : Draft). IsNet d.nets to) (sym is) h.net

pub index_apart : (to : WriteNets) (t : Wire) → to.index ≡ Some t → NoneTwice (port_numbers to) → Each (λ n. n ≢ t.number) (to.enable.number ∷ to.value.number ∷ [])
index_apart to t e h =
    let apart : NoneTwice (to.enable.number ∷ to.value.number ∷ t.number ∷ []) = subst (λ i. NoneTwice (to.enable.number ∷ to.value.number ∷ index_numbers i)) e h in
    ((λ q. apart.0.1.0 (sym q)), ((λ q. apart.1.0.0 (sym q)), tt))
