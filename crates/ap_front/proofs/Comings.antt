-- What comes to the stages, one after the other.
use Rattle.std.proofs.Common.{◌≡◌, ℕ, zero, suc, ◌+◌, List, [], ◌∷◌, ◌++◌, length, Some, refl, sym, ap, ◌∙◌, arith, length-append, inl, inr, ⊎_elim}
use Rattle.std.specs.Prelude.{◌⊎◌, slice_get, unwrap_or}
use Rattle.ap_net.specs.declared.cell.Wire.{Wire}
use Rattle.ap_signals.specs.NetSignals.{by_stage}
use Rattle.ap_flight.specs.declared.entry.Leaving.{Leaving}
use Rattle.ap_flight.specs.declared.stage.Coming.{Coming}
use Rattle.ap_flight.specs.declared.stage.StageRegisters.{StageRegisters}
use Rattle.ap_front.specs.Coming.{AreComings}
use Rattle.ap_front.specs.declared.registers.Registers.{Registers}
use Rattle.ap_front.specs.Driven.{AreChained, at_stage, no_registers}

-- what came so far
pub record ComeTo (r : Registers) (idata hold : Wire) (locals : List (List Leaving)) (n : ℕ) (comings : List Coming) : Type 0 where
  pub long : length comings ≡ n
  pub chained : AreChained idata r.pc r.stages comings
  pub held : (place : ℕ) (c : Coming) → slice_get comings place ≡ Some c → c.hold ≡ hold
  pub left : (place : ℕ) (c : Coming) → slice_get comings place ≡ Some c → slice_get locals place ≡ Some c.locals

none_there : {X : Type 0} (place : ℕ) (x : X) → slice_get [] place ≡ Some x → ⊥
none_there place x at = cc

pub none_come : (r : Registers) (idata hold : Wire) (locals : List (List Leaving)) → ComeTo r idata hold locals 0 []
none_come r idata hold locals = record { long = refl; chained = λ place c at. absurd (none_there place c at); held = λ place c at. absurd (none_there place c at); left = λ place c at. absurd (none_there place c at) }

-- an element of a list with one more
one_more : {X : Type 0} (xs : List X) (y : X) (i : ℕ) (x : X) → slice_get (xs ++ y ∷ []) i ≡ Some x → (slice_get xs i ≡ Some x) ⊎ ((i ≡ length xs) × (x ≡ y))
one_more [] y zero x at = let same : y ≡ x = cc in inr (refl, sym same)
one_more [] y (suc i) x at = cc
one_more (z ∷ xs) y zero x at = inl at
one_more (z ∷ xs) y (suc i) x at = ⊎_elim inl (λ q. inr (ap suc q.0, q.1)) (one_more xs y i x at)

pub one_comes : (r : Registers) (idata hold : Wire) (locals : List (List Leaving)) (n : ℕ) (comings : List Coming) (c : Coming) → ComeTo r idata hold locals n comings → c.hold ≡ hold → slice_get locals n ≡ Some c.locals
    → c.word ≡ by_stage idata (λ s. (at_stage no_registers r.stages s).word) n → c.place ≡ by_stage r.pc (λ s. (at_stage no_registers r.stages s).place) n → ComeTo r idata hold locals (n + 1) (comings ++ c ∷ [])
one_comes r idata hold locals n comings c h held left word at_place = record {
  long = let l = length-append comings (c ∷ []) in let e = h.long in omega arith;
  chained = λ place k at. ⊎_elim (λ old. h.chained place k old) (λ q.
      let here : n ≡ place = sym h.long ∙ sym q.0 in (
        ap (λ (x : Coming). x.word) q.1 ∙ word ∙ ap (by_stage idata (λ s. (at_stage no_registers r.stages s).word)) here,
        ap (λ (x : Coming). x.place) q.1 ∙ at_place ∙ ap (by_stage r.pc (λ s. (at_stage no_registers r.stages s).place)) here,
      )) (one_more comings c place k at);
  held = λ place k at. ⊎_elim (λ old. h.held place k old) (λ q. ap (λ (x : Coming). x.hold) q.1 ∙ held) (one_more comings c place k at);
  left = λ place k at. ⊎_elim (λ old. h.left place k old) (λ q. let here : n ≡ place = sym h.long ∙ sym q.0 in ap (slice_get locals) (sym here) ∙ left ∙ ap (λ (x : Coming). Some x.locals) (sym q.1)) (one_more comings c place k at);
}

pub all_come : (r : Registers) (idata hold : Wire) (locals : List (List Leaving)) (n : ℕ) (comings : List Coming) → n ≡ length r.stages → ComeTo r idata hold locals n comings → AreComings r idata hold locals comings
all_come r idata hold locals n comings e h = record { long = h.long ∙ e; chained = h.chained; held = h.held; left = h.left }

-- the registers of the stage that was reached
pub reached : (r : Registers) (n : ℕ) (s : StageRegisters) → slice_get r.stages n ≡ Some s → at_stage no_registers r.stages (n + 1) ≡ s
reached r n s at = let next : n + 1 ≡ suc n = omega arith in ap (at_stage no_registers r.stages) next ∙ ap (λ o. unwrap_or o no_registers) at

pub reached_word : (r : Registers) (idata : Wire) (n : ℕ) (s : StageRegisters) → slice_get r.stages n ≡ Some s → s.word ≡ by_stage idata (λ k. (at_stage no_registers r.stages k).word) (n + 1)
reached_word r idata n s at = let next : n + 1 ≡ suc n = omega arith in sym (ap (by_stage idata (λ k. (at_stage no_registers r.stages k).word)) next ∙ ap (λ o. (unwrap_or o no_registers).word) at)

pub reached_place : (r : Registers) (n : ℕ) (s : StageRegisters) → slice_get r.stages n ≡ Some s → s.place ≡ by_stage r.pc (λ k. (at_stage no_registers r.stages k).place) (n + 1)
reached_place r n s at = let next : n + 1 ≡ suc n = omega arith in sym (ap (by_stage r.pc (λ k. (at_stage no_registers r.stages k).place)) next ∙ ap (λ o. (unwrap_or o no_registers).place) at)
