-- What writers offer to a selection.
use Rattle.std.proofs.Common.{◌≡◌, ℕ, zero, suc, ◌<◌, ◌==◌, true, false, List, [], ◌∷◌, length, map, filter_map, Option, Some, None, refl, sym, ap, subst, ◌∙◌, arith}
use Rattle.std.specs.Prelude.{slice_get, option_map}
use Rattle.std.specs.List.{AllByRecursion as Each, cons_option}
use Rattle.std.specs.Option.{option_map_or}
use Rattle.std.proofs.lemmas.Option.{same_Some}
use Rattle.ap_net.specs.declared.cell.Wire.{Wire}
use Rattle.ap_net.specs.declared.net.ModuleNet.{ModuleNet}
use Rattle.ap_net.specs.Readings.{Reading}
use Rattle.ap_merge.specs.Selects.{GoesOver}
use Rattle.ap_merge.specs.declared.table.Select.{Select}
use Rattle.ap_stage.specs.declared.offer.Offer.{Offer}
use Rattle.ap_stage.specs.Offers.{IsOffer, IsOver, IsSelected, nets_of}
use Rattle.ap_effect.specs.declared.write.Writer.{Writer}
use Rattle.ap_effect.specs.Writers.{HasIndex, HasValue, IsOnlyWriter, index_numbers, offer_index, offer_value, value_numbers}

-- the offers are of these nets of the writers, each under the writer's condition
abbrev pub AreOffers : (Writer → Option Wire) → List Offer → List Writer → Type 0
AreOffers f [] [] = Unit {0}
AreOffers f [] (w ∷ writers) = ⊥
AreOffers f (o ∷ offers) [] = ⊥
AreOffers f (o ∷ offers) (w ∷ writers) = (o.cond ≡ w.cond) × (f w ≡ Some o.net) × AreOffers f offers writers

abbrev pub value_of : Writer → Option Wire
value_of w = Some w.value

abbrev pub index_of : Writer → Option Wire
index_of w = w.index

-- What is written.

pub values_are : (writers : List Writer) → AreOffers value_of (map offer_value writers) writers
values_are [] = tt
values_are (w ∷ writers) = (refl, refl, values_are writers)

pub values_fit : (nets : List ModuleNet) (width : ℕ) (writers : List Writer) → Each (HasValue nets width) writers → Each (IsOffer nets width) (map offer_value writers)
values_fit nets width [] h = tt
values_fit nets width (w ∷ writers) h = (record { cond = h.0.cond.net; one_bit = h.0.cond.bit; net = h.0.value; wide = h.0.wide }, values_fit nets width writers h.1)

pub value_nets : (writers : List Writer) → nets_of (map offer_value writers) ≡ value_numbers writers
value_nets [] = refl
value_nets (w ∷ writers) = ap (λ l. w.value.number ∷ l) (value_nets writers)

-- Where it is written.

abbrev index_offer : Writer → Wire → Offer
index_offer w index = record { cond = w.cond; net = index }

pub indices_are : (nets : List ModuleNet) (bits : ℕ) (writers : List Writer) → Each (HasIndex nets bits) writers → AreOffers index_of (filter_map offer_index writers) writers
indices_are nets bits [] h = tt
indices_are nets bits (w ∷ writers) h =
    subst (λ o. AreOffers index_of (cons_option (option_map (index_offer w) o) (filter_map offer_index writers)) (w ∷ writers)) (sym h.0.is) (refl, h.0.is, indices_are nets bits writers h.1)

pub indices_fit : (nets : List ModuleNet) (bits : ℕ) (writers : List Writer) → Each (HasIndex nets bits) writers → Each (IsOffer nets bits) (filter_map offer_index writers)
indices_fit nets bits [] h = tt
indices_fit nets bits (w ∷ writers) h =
    subst (λ o. Each (IsOffer nets bits) (cons_option (option_map (index_offer w) o) (filter_map offer_index writers))) (sym h.0.is)
    (record { cond = h.0.cond.net; one_bit = h.0.cond.bit; net = h.0.net; wide = h.0.wide }, indices_fit nets bits writers h.1)

pub index_nets : (writers : List Writer) → nets_of (filter_map offer_index writers) ≡ index_numbers writers
index_nets [] = refl
index_nets (w ∷ writers) = go w.index (index_nets writers)
  where
    go : (o : Option Wire) → nets_of (filter_map offer_index writers) ≡ index_numbers writers
        → nets_of (cons_option (option_map (index_offer w) o) (filter_map offer_index writers)) ≡ cons_option (option_map (λ (index : Wire). index.number) o) (index_numbers writers)
    go None rest = rest
    go (Some index) rest = ap (λ l. index.number ∷ l) rest

-- Both.

pub as_many : (f : Writer → Option Wire) (offers : List Offer) (writers : List Writer) → AreOffers f offers writers → length offers ≡ length writers
as_many f [] [] h = refl
as_many f [] (w ∷ writers) h = absurd h
as_many f (o ∷ offers) [] h = absurd h
as_many f (o ∷ offers) (w ∷ writers) h = ap suc (as_many f offers writers h.2)

pub over_offers : (f : Writer → Option Wire) (offers : List Offer) (writers : List Writer) (choice : Select) → AreOffers f offers writers → GoesOver choice 0 (length writers) → IsOver (length offers) choice
over_offers f offers writers choice are over =
    let same = as_many f offers writers are in
    let past = over.past in
    record { joined = over.joined; within = omega arith }

get_within : {X : Type 0} (xs : List X) (i : ℕ) (x : X) → slice_get xs i ≡ Some x → i < length xs
get_within [] i x e = cc
get_within (y ∷ ys) zero x e = omega arith
get_within (y ∷ ys) (suc i) x e = let rest = get_within ys i x e in omega (arith, rest)

-- the offer of a writer, and the writer of an offer
offer_there : (f : Writer → Option Wire) (offers : List Offer) (writers : List Writer) (p : ℕ) (w : Writer) → AreOffers f offers writers → slice_get writers p ≡ Some w → (o : Offer) × (slice_get offers p ≡ Some o) × (o.cond ≡ w.cond) × (f w ≡ Some o.net)
offer_there f [] [] p w h at = cc
offer_there f [] (v ∷ writers) p w h at = absurd h
offer_there f (o ∷ offers) [] p w h at = absurd h
offer_there f (o ∷ offers) (v ∷ writers) zero w h at = let same : v ≡ w = same_Some v w at in (o, refl, subst (λ (x : Writer). o.cond ≡ x.cond) same h.0, subst (λ (x : Writer). f x ≡ Some o.net) same h.1)
offer_there f (o ∷ offers) (v ∷ writers) (suc p) w h at = offer_there f offers writers p w h.2 at

writer_there : (f : Writer → Option Wire) (offers : List Offer) (writers : List Writer) (p : ℕ) (o : Offer) → AreOffers f offers writers → slice_get offers p ≡ Some o → (w : Writer) × (slice_get writers p ≡ Some w) × (o.cond ≡ w.cond)
writer_there f [] [] p o h at = cc
writer_there f [] (v ∷ writers) p o h at = absurd h
writer_there f (q ∷ offers) [] p o h at = absurd h
writer_there f (q ∷ offers) (v ∷ writers) zero o h at = let same : q ≡ o = same_Some q o at in (v, refl, subst (λ (x : Offer). x.cond ≡ v.cond) same h.0)
writer_there f (q ∷ offers) (v ∷ writers) (suc p) o h at = writer_there f offers writers p o h.2 at

-- what is selected is what the writer offers whose condition alone is 1
pub selected_of : (f : Writer → Option Wire) (r : Reading) (offers : List Offer) (writers : List Writer) (choice : Select) (p : ℕ) (w : Writer) (x : Wire) (v : ℕ) → AreOffers f offers writers → GoesOver choice 0 (length writers) → slice_get writers p ≡ Some w → f w ≡ Some x
    → IsOnlyWriter r writers p → IsSelected offers choice r v → v ≡ r.read x.number
selected_of f r offers writers choice p w x v are over at has only h =
    let found = offer_there f offers writers p w are at in
    let o : Offer = found.0 in
    let there : slice_get offers p ≡ Some o = found.1 in
    let cond : o.cond ≡ w.cond = found.2 in
    let net : o.net ≡ x = same_Some o.net x (sym found.3 ∙ has) in
    let low = get_within writers p w at in
    let first = over.first in
    let past = over.past in
    h.selects p (record {
      low = omega arith;
      high = omega arith;
      is_on = ap (λ q. option_map_or (λ (z : Offer). r.read z.cond.number == 1) q false) there ∙ ap (λ (z : Wire). r.read z.number == 1) cond ∙ only.on w at;
      alone = λ other above under on. go other (slice_get offers other) refl on;
    })
    ∙ ap (λ q. option_map_or (λ (z : Offer). r.read z.net.number) q 0) there ∙ ap (λ (z : Wire). r.read z.number) net
  where
    go : (other : ℕ) (q : Option Offer) → slice_get offers other ≡ q → option_map_or (λ (z : Offer). r.read z.cond.number == 1) q false ≡ true → other ≡ p
    go other None e on = cc
    go other (Some z) e on =
        let back = writer_there f offers writers other z are e in
        let y : Writer = back.0 in
        only.alone other y back.1 (ap (λ (u : Wire). r.read u.number == 1) (sym back.2) ∙ on)
