-- Registers take nets.
use Rattle.std.proofs.Common.{◌≡◌, ◌≢◌, ℕ, zero, suc, ◌<◌, List, [], ◌∷◌, ◌++◌, length, map, take, get_or, Some, refl, sym, ap, subst, ◌∙◌, arith, append-nil, append_assoc}
use Rattle.std.specs.Prelude.{slice_get, zip}
use Rattle.std.specs.List.{AllByRecursion as Each}
use Rattle.std.proofs.lemmas.List.{map-append}
use Rattle.ap_net.specs.declared.cell.Wire.{Wire}
use Rattle.ap_net.specs.declared.net.ModuleNet.{ModuleNet}
use Rattle.ap_net.specs.declared.net.Next.{Next}
use Rattle.ap_net.specs.declared.net.Role.TheVariants as role
use Rattle.ap_net.specs.Cells.{IsNet, widths_of}
use Rattle.ap_net.specs.Draft.{Draft, Extends, with_next}
use Rattle.ap_net.specs.Ready.{numbers}
use Rattle.ap_net.specs.Wiring.{IsRegister, NoneTwice, Unclocked, reset_of}
use Rattle.ap_net.proofs.Laws.{stays}
use Rattle.ap_ctl.specs.Lists.{EachPair}
use Rattle.ap_ctl.specs.Nets.{next_by, with_nexts}
use Rattle.ap_flight.proofs.SlotNets.{no_wire}

pub nexts_none : (d : Draft) → d ≡ with_nexts d [] []
nexts_none d = ap (λ (l : List Next). record d { nexts = l }) (sym (append-nil d.nexts))

zip-push : {X Y : Type 0} (xs : List X) (ys : List Y) (x : X) (y : Y) → length xs ≡ length ys → zip (xs ++ x ∷ []) (ys ++ y ∷ []) ≡ zip xs ys ++ (x, y) ∷ []
zip-push [] [] x y e = refl
zip-push [] (z ∷ ys) x y e = absurd (omega arith)
zip-push (z ∷ xs) [] x y e = absurd (omega arith)
zip-push (z ∷ xs) (w ∷ ys) x y e = ap (λ l. (z, w) ∷ l) (zip-push xs ys x y (omega arith))

pub nexts_more : (d : Draft) (registers nets : List Wire) (r n : Wire) → length registers ≡ length nets → with_next (with_nexts d registers nets) r n ≡ with_nexts d (registers ++ r ∷ []) (nets ++ n ∷ [])
nexts_more d registers nets r n e =
    ap (λ (l : List Next). record d { nexts = l })
    (append_assoc d.nexts (map next_by (zip registers nets)) (record { register = r; from = n } ∷ []) ∙ ap (λ l. d.nexts ++ l) (sym (ap (map next_by) (zip-push registers nets r n e) ∙ map-append next_by (zip registers nets) ((r, n) ∷ []))))

join : {X : Type 0} (P : X → Type 0) (xs ys : List X) → Each P xs → Each P ys → Each P (xs ++ ys)
join P [] ys h g = g
join P (x ∷ xs) ys h g = (h.0, join P xs ys h.1 g)

-- a register that isn't one of these takes nothing yet
pub still_free : (d : Draft) (registers nets : List Wire) (n : ℕ) → Unclocked d.nexts n → Each (λ (w : Wire). w.number ≢ n) registers → Unclocked (with_nexts d registers nets).nexts n
still_free d registers nets n free apart = join (λ (x : Next). x.register.number ≢ n) d.nexts (map next_by (zip registers nets)) free (taken registers nets apart)
  where
    taken : (rs ns : List Wire) → Each (λ (w : Wire). w.number ≢ n) rs → Each (λ (x : Next). x.register.number ≢ n) (map next_by (zip rs ns))
    taken [] ns h = tt
    taken (r ∷ rs) [] h = tt
    taken (r ∷ rs) (m ∷ ns) h = (h.0, taken rs ns h.1)

pub one_free : (d : Draft) (register net : Wire) (n : ℕ) → Unclocked d.nexts n → register.number ≢ n → Unclocked (with_next d register net).nexts n
one_free d register net n free apart = join (λ (x : Next). x.register.number ≢ n) d.nexts (record { register = register; from = net } ∷ []) free (apart, tt)

-- those before a place are other ones
pub apart_before : (ws : List Wire) (i : ℕ) (w : Wire) → NoneTwice (numbers ws) → slice_get ws i ≡ Some w → Each (λ (x : Wire). x.number ≢ w.number) (take i ws)
apart_before [] i w h at = cc
apart_before (x ∷ ws) zero w h at = tt
apart_before (x ∷ ws) (suc i) w h at = (later ws i h.0 at, apart_before ws i w h.1 at)
  where
    later : (ws : List Wire) (i : ℕ) → Each (λ other. other ≢ x.number) (numbers ws) → slice_get ws i ≡ Some w → x.number ≢ w.number
    later [] i h at = cc
    later (y ∷ ws) zero h at = let same : y ≡ w = cc in λ e. h.0 (ap (λ (v : Wire). v.number) same ∙ sym e)
    later (y ∷ ws) (suc i) h at = later ws i h.1 at

pub taken_long : {X Y : Type 0} (n : ℕ) (xs : List X) (ys : List Y) → length xs ≡ length ys → length (take n xs) ≡ length (take n ys)
taken_long zero xs ys e = refl
taken_long (suc n) [] [] e = refl
taken_long (suc n) [] (y ∷ ys) e = absurd (omega arith)
taken_long (suc n) (x ∷ xs) [] e = absurd (omega arith)
taken_long (suc n) (x ∷ xs) (y ∷ ys) e = ap suc (taken_long n xs ys (omega arith))

pub pairs_long : {X Y : Type 0} (P : X → Y → Type 0) (xs : List X) (ys : List Y) → EachPair P xs ys → length xs ≡ length ys
pairs_long P [] [] h = refl
pairs_long P [] (y ∷ ys) h = absurd h
pairs_long P (x ∷ xs) [] h = absurd h
pairs_long P (x ∷ xs) (y ∷ ys) h = ap suc (pairs_long P xs ys h.1)

pub pair_at : (P : Wire → Wire → Type 0) (xs ys : List Wire) (i : ℕ) → EachPair P xs ys → i < length xs → P (get_or xs i no_wire) (get_or ys i no_wire)
pair_at P [] ys i h lt = absurd (omega arith)
pair_at P (x ∷ xs) [] i h lt = absurd h
pair_at P (x ∷ xs) (y ∷ ys) zero h lt = h.0
pair_at P (x ∷ xs) (y ∷ ys) (suc i) h lt = pair_at P xs ys i h.1 (omega arith)

-- Open registers while the draft grows.

net_at : (nets : List ModuleNet) (n w : ℕ) → slice_get (widths_of nets) n ≡ Some w → (net : ModuleNet) × (slice_get nets n ≡ Some net)
net_at [] n w at = cc
net_at (x ∷ nets) zero w at = (x, refl)
net_at (x ∷ nets) (suc n) w at = net_at nets n w at

some_same : {X : Type 0} {x y : X} → Some x ≡ Some y → x ≡ y
some_same e = cc

pub register_later : (a b : Draft) (w : Wire) → Extends a b → IsNet a.nets w → IsRegister a.nets w.number → IsRegister b.nets w.number
register_later a b w e is register net at =
    let old = net_at a.nets w.number w.width is.declared in
    let there = stays a.nets b.nets e.nets w.number old.0 old.1 in
    let same : old.0 ≡ net = some_same (sym there ∙ at) in
    subst (λ (x : ModuleNet). x.role ≡ role.Register (reset_of x.role)) same (register old.0 old.1)
