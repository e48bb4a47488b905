-- What a unit uses, by the kind that is found on the shelf.
use Rattle.std.proofs.Common.{◌≡◌, ℕ, ◌+◌, ◌++◌, ◌∷◌, true, false, not, List, [], Ok, Err, Option, Some, None, refl, sym, ap, ◌∙◌, subst}
use Rattle.std.specs.List.{position_from}
use Rattle.std.specs.Option.{option_map_or}
use Rattle.std.specs.Prelude.{Result}
use Rattle.std.specs.Str.{bytes_eq}
use Rattle.ap_bits.specs.Cards.{allows, latency_at}
use Rattle.ap_bits.specs.declared.card.Card.{Card}
use Rattle.ap_desc.specs.Designs.{is_width}
use Rattle.ap_desc.specs.declared.design.Unit.{Unit as Resource}
use Rattle.ap_desc.specs.declared.fault.Fault.{Fault}
use Rattle.ap_desc.specs.declared.fault.Fault.TheVariants as f
use Rattle.ap_desc.specs.declared.statement.Statement.TheVariants as s
use Rattle.ap_desc.specs.Parts.{card_named, kind_names, place_of}
use Rattle.ap_desc.specs.Reserved.{is_among}
use Rattle.ap_check.specs.Tables.{is_part, name_fault}
use Rattle.ap_check.specs.Drafts.{IsSaid, IsUnitSaid, first_width_fault}
use Rattle.ap_check.specs.Uses.{IsStoppedBy, use_of}
use Rattle.ap_check.specs.declared.draft.Draft.{Draft}
use Rattle.ap_check.specs.declared.stop.Stop.{Stop}
use Rattle.ap_check.specs.declared.declared.Declared.{Declared}
use Rattle.ap_check.specs.declared.uses.Use.TheVariants as u
use Rattle.ap_check.proofs.FirstFaults.{no_kind_first, no_name_fault, not_broken, not_kept}
use Rattle.ap_check.proofs.NameLists.{kind_from, no_kind_from}

pub unit_found : (cards : List Card) (d : Declared) (name kind text : List ℕ) (place : ℕ) → text ≡ kind → Some place ≡ position_from (λ (c : Card). bytes_eq c.name text) 0 cards → is_part d name ≡ false
    → (name_fault cards d (s.Unit name kind 0) ≡ None) × (u.Nothing ≡ use_of cards d (s.Unit name kind 0))
unit_found cards d name kind text place same found new =
    let at = kind_from text 0 cards place (sym found) in
    let there : is_among kind (kind_names cards) ≡ true = subst (λ t. is_among t (kind_names cards) ≡ true) same at.0 in
    (no_name_fault false (is_part d name) (not (is_among kind (kind_names cards))) false refl new (not_kept (is_among kind (kind_names cards)) there) refl, refl)

pub unit_missing : (cards : List Card) (d : Declared) (name kind text : List ℕ) → text ≡ kind → None ≡ position_from (λ (c : Card). bytes_eq c.name text) 0 cards → is_part d name ≡ false
    → name_fault cards d (s.Unit name kind 0) ≡ Some f.NoKind
unit_missing cards d name kind text same found new =
    let gone : is_among kind (kind_names cards) ≡ false = subst (λ t. is_among t (kind_names cards) ≡ false) same (no_kind_from text 0 cards (sym found)) in
    no_kind_first false (is_part d name) (not (is_among kind (kind_names cards))) false refl new (not_broken (is_among kind (kind_names cards)) gone)

-- a unit of the kind that is found is the unit that the statement says
pub unit_said_so : (cards : List Card) (card : Card) (old : Draft) (place : ℕ) (name kind : List ℕ) (width : ℕ) (new : Draft) (result : Result (Unit {0}) Stop)
    → card_named cards kind ≡ Some card → place ≡ place_of (kind_names cards) kind → IsUnitSaid card old place name width new result → IsSaid cards 0 old (s.Unit name kind width) new result
unit_said_so cards card old place name kind width new result found at h = by result h where
  fault : Option Card → Option Fault
  fault o = first_width_fault (not (is_width width)) false false false false false (option_map_or (λ (c : Card). not (allows c.widths width)) o false)

  unit : ℕ → Option Card → Resource
  unit p o = record { name = name; kind = p; width = width; latency = option_map_or (λ (c : Card). latency_at c width) o 0 }

  with_unit : Resource → Draft
  with_unit u = record old { design = record old.design { units = old.design.units ++ u ∷ [] } }

  same : fault (card_named cards kind) ≡ fault (Some card)
  same = ap fault found

  by : (r : Result (Unit {0}) Stop) → IsUnitSaid card old place name width new r → IsSaid cards 0 old (s.Unit name kind width) new r
  by (Ok done) (right, made) = (same ∙ right, made ∙ ap (λ p. with_unit (unit p (Some card))) at ∙ ap (λ o. with_unit (unit (place_of (kind_names cards) kind) o)) (sym found))
  by (Err why) stopped = subst (λ (o : Option Fault). IsStoppedBy o why) (sym same) stopped
