-- The registers of the valid bits.
use Rattle.std.proofs.Common.{◌≡◌, ◌≢◌, ℕ, zero, suc, ◌+◌, ◌^◌, ◌<◌, ◌≤◌, List, [], ◌∷◌, ◌++◌, length, map, drop, take, refl, sym, ap, subst, ◌∙◌, arith, append-nil, append_assoc, length-append}
use Rattle.std.specs.Prelude.{slice_get, Some, zip}
use Rattle.std.specs.Fmt.{decimal}
use Rattle.std.specs.List.{AllByRecursion as Each, range_with_len}
use Rattle.std.proofs.lemmas.Fmt.{decimal_digit, decimal_injective}
use Rattle.std.proofs.lemmas.List.{map-append}
use Rattle.std.proofs.lemmas.List.FromFn.{length-range_with_len}
use Rattle.ap_net.specs.declared.cell.Wire.{Wire}
use Rattle.ap_net.specs.declared.net.ModuleNet.{ModuleNet}
use Rattle.ap_net.specs.declared.net.Next.{Next}
use Rattle.ap_net.specs.declared.net.Role.TheVariants as role
use Rattle.ap_net.specs.Draft.{Draft, with_net, with_next, names_of}
use Rattle.std.proofs.lemmas.List.Elements.{filter_map-append}
use Rattle.ap_net.specs.Modules.{port_by, ports_among}
use Rattle.ap_net.specs.Names.{IsNetName, IsNew, IsNotNumbered}
use Rattle.ap_net.specs.Ready.{numbers}
use Rattle.ap_net.specs.Wiring.{NoneTwice, Unclocked}
use Rattle.ap_net.proofs.Laws.{IsNew-made, IsNotNumbered-other}
use Rattle.ap_signals.specs.NetRuns.{valid_name}
use Rattle.ap_ctl.specs.Nets.{next_by, valid_net, valid_nets, valid_wires, with_nexts, with_valid}
use Rattle.ap_ctl.proofs.Beside.{range-push}

short_name : (n : ℕ) → n < 10 → IsNetName (118 ∷ 95 ∷ (48 + n) ∷ [])
short_name zero lt = refl
short_name (suc zero) lt = refl
short_name (suc (suc zero)) lt = refl
short_name (suc (suc (suc zero))) lt = refl
short_name (suc (suc (suc (suc zero)))) lt = refl
short_name (suc (suc (suc (suc (suc zero))))) lt = refl
short_name (suc (suc (suc (suc (suc (suc zero)))))) lt = refl
short_name (suc (suc (suc (suc (suc (suc (suc zero))))))) lt = refl
short_name (suc (suc (suc (suc (suc (suc (suc (suc zero)))))))) lt = refl
short_name (suc (suc (suc (suc (suc (suc (suc (suc (suc zero))))))))) lt = refl
short_name (suc (suc (suc (suc (suc (suc (suc (suc (suc (suc n)))))))))) lt = absurd (omega arith)

pub valid_is_name : (n : ℕ) → n < 10 → IsNetName (valid_name n)
valid_is_name n lt = subst (λ ds. IsNetName (118 ∷ 95 ∷ ds)) (sym (decimal_digit n lt)) (short_name n lt)

pub valid_not_numbered : (n : ℕ) → IsNotNumbered (valid_name n)
valid_not_numbered n = IsNotNumbered-other (valid_name n) refl

-- names of different stages differ
pub valid_apart : (a b : ℕ) → a < 2 ^ 64 → b < 2 ^ 64 → a < b → valid_name a ≢ valid_name b
valid_apart a b la lb lt e =
    let same : decimal a ≡ decimal b = ap (drop 2) e in
    let equal : a ≡ b = decimal_injective a b la lb same in
    absurd (omega arith)

pub valid_none : (d : Draft) → d ≡ with_valid d 0
valid_none d = ap (λ (l : List ModuleNet). record d { nets = l }) (sym (append-nil d.nets))

-- one more register
pub valid_more : (d : Draft) (place : ℕ) → with_net (with_valid d place) (valid_name (place + 1)) 1 (role.Register 0) ≡ with_valid d (place + 1)
valid_more d place =
    let e : 1 + place ≡ place + 1 = omega arith in
    let nets : (d.nets ++ valid_nets place) ++ valid_net (place + 1) ∷ [] ≡ d.nets ++ valid_nets (place + 1) =
    append_assoc d.nets (valid_nets place) (valid_net (place + 1) ∷ []) ∙ ap (λ l. d.nets ++ l)
    (ap (λ n. valid_nets place ++ valid_net n ∷ []) (sym e) ∙ sym (map-append valid_net (range_with_len 1 place) ((1 + place) ∷ [])) ∙ sym (ap (map valid_net) (range-push 1 place))) in
    ap (λ (l : List ModuleNet). record d { nets = l }) nets

pub valid_count : (d : Draft) (place : ℕ) → length (with_valid d place).nets ≡ length d.nets + place
valid_count d place = length-append d.nets (valid_nets place) ∙ ap (λ n. length d.nets + n) (length_map valid_net (range_with_len 1 place) ∙ length-range_with_len 1 place)
  where
    length_map : {X Y : Type 0} (f : X → Y) (xs : List X) → length (map f xs) ≡ length xs
    length_map f [] = refl
    length_map f (x ∷ xs) = ap suc (length_map f xs)

pub wires_more : (first place : ℕ) (w : Wire) → w ≡ record { number = first + place; width = 1 } → valid_wires first place ++ w ∷ [] ≡ valid_wires first (place + 1)
wires_more first place w e =
    ap (λ x. valid_wires first place ++ x ∷ []) e
    ∙ sym (ap (map (λ number. record { number = number; width = 1 })) (range-push first place) ∙ map-append (λ number. record { number = number; width = 1 }) (range_with_len first place) ((first + place) ∷ []))

-- the names of later stages stay new
pub names_stay : (d : Draft) (place count : ℕ) → count < 9 → ((stage : ℕ) → place < stage → stage ≤ count → IsNew (valid_name stage) (names_of d)) → (new : Draft) → new ≡ with_net d (valid_name (place + 1)) 1 (role.Register 0)
    → (stage : ℕ) → place + 1 < stage → stage ≤ count → IsNew (valid_name stage) (names_of new)
names_stay d place count few h new is stage low high =
    subst (λ (x : Draft). IsNew (valid_name stage) (names_of x)) (sym is)
    (IsNew-made d.instances d.nets (record { name = valid_name (place + 1); width = 1; role = role.Register 0 }) (valid_name stage) (valid_apart (place + 1) stage (omega arith) (omega arith) low) (h stage (omega arith) high))

-- a name that isn't the register's stays new, and the ports are as they were
pub name_stays : (d : Draft) (place : ℕ) (name : List ℕ) → valid_name (place + 1) ≢ name → (new : Draft) → new ≡ with_net d (valid_name (place + 1)) 1 (role.Register 0) → IsNew name (names_of d) → IsNew name (names_of new)
name_stays d place name ne new is h =
    subst (λ (x : Draft). IsNew name (names_of x)) (sym is) (IsNew-made d.instances d.nets (record { name = valid_name (place + 1); width = 1; role = role.Register 0 }) name ne h)

pub ports_register : (nets : List ModuleNet) (name : List ℕ) → ports_among (nets ++ record { name = name; width = 1; role = role.Register 0 } ∷ []) ≡ ports_among nets
ports_register nets name = filter_map-append (λ (net : ModuleNet). port_by net.role net) nets (record { name = name; width = 1; role = role.Register 0 } ∷ []) ∙ append-nil (ports_among nets)

-- Registers take nets.

pub nexts_none : (d : Draft) → d ≡ with_nexts d [] []
nexts_none d = ap (λ (l : List Next). record d { nexts = l }) (sym (append-nil d.nexts))

zip-push : {X Y : Type 0} (xs : List X) (ys : List Y) (x : X) (y : Y) → length xs ≡ length ys → zip (xs ++ x ∷ []) (ys ++ y ∷ []) ≡ zip xs ys ++ (x, y) ∷ []
zip-push [] [] x y e = refl
zip-push [] (z ∷ ys) x y e = absurd (omega arith)
zip-push (z ∷ xs) [] x y e = absurd (omega arith)
zip-push (z ∷ xs) (w ∷ ys) x y e = ap (λ l. (z, w) ∷ l) (zip-push xs ys x y (omega arith))

pub nexts_more : (d : Draft) (registers nets : List Wire) (r n : Wire) → length registers ≡ length nets → with_next (with_nexts d registers nets) r n ≡ with_nexts d (registers ++ r ∷ []) (nets ++ n ∷ [])
nexts_more d registers nets r n e =
    ap (λ (l : List Next). record d { nexts = l })
    (append_assoc d.nexts (map next_by (zip registers nets)) (record { register = r; from = n } ∷ []) ∙ ap (λ l. d.nexts ++ l) (sym (ap (map next_by) (zip-push registers nets r n e) ∙ map-append next_by (zip registers nets) ((r, n) ∷ []))))

join : {X : Type 0} (P : X → Type 0) (xs ys : List X) → Each P xs → Each P ys → Each P (xs ++ ys)
join P [] ys h g = g
join P (x ∷ xs) ys h g = (h.0, join P xs ys h.1 g)

-- a register that isn't one of these takes nothing yet
pub still_free : (d : Draft) (registers nets : List Wire) (n : ℕ) → Unclocked d.nexts n → Each (λ (w : Wire). w.number ≢ n) registers → Unclocked (with_nexts d registers nets).nexts n
still_free d registers nets n free apart = join (λ (x : Next). x.register.number ≢ n) d.nexts (map next_by (zip registers nets)) free (taken registers nets apart)
  where
    taken : (rs ns : List Wire) → Each (λ (w : Wire). w.number ≢ n) rs → Each (λ (x : Next). x.register.number ≢ n) (map next_by (zip rs ns))
    taken [] ns h = tt
    taken (r ∷ rs) [] h = tt
    taken (r ∷ rs) (m ∷ ns) h = (h.0, taken rs ns h.1)

-- those before a place are other ones
pub apart_before : (ws : List Wire) (i : ℕ) (w : Wire) → NoneTwice (numbers ws) → slice_get ws i ≡ Some w → Each (λ (x : Wire). x.number ≢ w.number) (take i ws)
apart_before [] i w h at = cc
apart_before (x ∷ ws) zero w h at = tt
apart_before (x ∷ ws) (suc i) w h at = (later ws i h.0 at, apart_before ws i w h.1 at)
  where
    later : (ws : List Wire) (i : ℕ) → Each (λ other. other ≢ x.number) (numbers ws) → slice_get ws i ≡ Some w → x.number ≢ w.number
    later [] i h at = cc
    later (y ∷ ws) zero h at = let same : y ≡ w = cc in λ e. h.0 (ap (λ (v : Wire). v.number) same ∙ sym e)
    later (y ∷ ws) (suc i) h at = later ws i h.1 at

-- rising numbers differ
pub range_apart : (first count : ℕ) → NoneTwice (numbers (valid_wires first count))
range_apart first zero = tt
range_apart first (suc count) = (above first (first + 1) count (omega arith), range_apart (first + 1) count)
  where
    above : (n low count : ℕ) → n < low → Each (λ other. other ≢ n) (numbers (valid_wires low count))
    above n low zero lt = tt
    above n low (suc count) lt = ((λ e. absurd (omega arith)), above n (low + 1) count (omega arith))

pub taken_long : {X Y : Type 0} (n : ℕ) (xs : List X) (ys : List Y) → length xs ≡ length ys → length (take n xs) ≡ length (take n ys)
taken_long zero xs ys e = refl
taken_long (suc n) [] [] e = refl
taken_long (suc n) [] (y ∷ ys) e = absurd (omega arith)
taken_long (suc n) (x ∷ xs) [] e = absurd (omega arith)
taken_long (suc n) (x ∷ xs) (y ∷ ys) e = ap suc (taken_long n xs ys (omega arith))
