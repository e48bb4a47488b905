-- Nets that are offered under conditions, and the one that a selection takes of them.
use Rattle.std.specs.Prelude.{◌≡◌, ℕ, ◌==◌, ◌≤◌, ◌++◌, Bool, false, true, List, map, slice_get}
use Rattle.std.specs.Option.{option_map_or}
use Rattle.ap_net.specs.declared.net.ModuleNet.{ModuleNet}
use Rattle.ap_net.specs.Cells.{IsNet}
use Rattle.ap_net.specs.Readings.{Reading}
use Rattle.ap_merge.specs.Selects.{IsOnlyOn, is_any_on, span_of}
use Rattle.ap_stage.specs.declared.offer.Offer.{Offer}
use Rattle.ap_merge.specs.declared.table.Select.{Select}

-- both nets are declared; the condition has one bit, and what is offered so many
pub record IsOffer (nets : List ModuleNet) (width : ℕ) (o : Offer) : Type 0 where
  pub cond : IsNet nets o.cond
  pub one_bit : o.cond.width ≡ 1
  pub net : IsNet nets o.net
  pub wide : o.net.width ≡ width

-- the numbers of the nets that are offered, and of these and their conditions
abbrev pub nets_of : List Offer → List ℕ
nets_of offers = map (λ (o : Offer). o.net.number) offers

abbrev pub numbers_of : List Offer → List ℕ
numbers_of offers = map (λ (o : Offer). o.cond.number) offers ++ nets_of offers

-- the condition of the offer at a place is 1
abbrev pub is_on : Reading → List Offer → ℕ → Bool
is_on r offers place = option_map_or (λ (o : Offer). r.read o.cond.number == 1) (slice_get offers place) false

-- what is offered at a place
abbrev pub offered_at : Reading → List Offer → ℕ → ℕ
offered_at r offers place = option_map_or (λ (o : Offer). r.read o.net.number) (slice_get offers place) 0

-- the selection goes over some of so many entries
pub record IsOver (count : ℕ) (choice : Select) : Type 0 where
  pub joined : (span_of choice).joined ≡ true
  pub within : (span_of choice).past ≤ count

-- this entry's condition alone is 1, of those that the selection goes over
abbrev pub IsOnlyAmong : (ℕ → Bool) → Select → ℕ → Type 0
IsOnlyAmong on choice place = IsOnlyOn on (span_of choice).first (span_of choice).past place

-- where the condition of one offer alone is 1, of those that the selection goes over, the value is what that one offers
pub record IsSelected (offers : List Offer) (choice : Select) (r : Reading) (value : ℕ) : Type 0 where
  pub selects : (place : ℕ) → IsOnlyAmong (is_on r offers) choice place → value ≡ offered_at r offers place

-- the value is 1 where the condition of one of these is, and else 0
pub record IsAnyOn (offers : List Offer) (choice : Select) (r : Reading) (value : ℕ) : Type 0 where
  pub says : (value == 1) ≡ is_any_on (is_on r offers) (span_of choice).first (span_of choice).past
