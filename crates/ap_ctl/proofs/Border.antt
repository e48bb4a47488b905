-- What control means is what the border asks for.
use Rattle.std.proofs.Common.{◌≡◌, ℕ, zero, suc, ◌+◌, ◌-◌, ◌%◌, ◌^◌, ◌<◌, ◌≤◌, Bool, true, false, ◌∷◌, map, Option, Some, None, refl, sym, ap, ◌∙◌, arith}
use Rattle.std.specs.Prelude.{◌&&◌, ◌||◌, not, if◌then◌else◌, is_some, unwrap_or}
use Rattle.std.specs.List.{range_with_len}
use Rattle.ap_desc.specs.declared.design.Design.{Design}
use Rattle.ap_model.specs.Stalls.{is_held_stage}
use Rattle.ap_cycle.specs.Circuit.{EachStage}
use Rattle.ap_cycle.specs.Signals.{Signals, goes_on}
use Rattle.ap_ctl.specs.Border.{ControlGivesBorder, ShowsControl, ValidGoesOn}
use Rattle.ap_ctl.specs.Meaning.{Look, fires, is_busy, is_held, is_killable, kills, next_valid}

-- tests that agree at each number of a range give one list
map_range : {X : Type 0} (f g : ℕ → X) (low count : ℕ) → ((n : ℕ) → low ≤ n → n < low + count → f n ≡ g n) → map f (range_with_len low count) ≡ map g (range_with_len low count)
map_range f g low zero h = refl
map_range f g low (suc count) h =
    let here : f low ≡ g low = h low (omega arith) (omega arith) in
    let rest = map_range f g (low + 1) count (λ n a b. h n (omega arith) (omega arith)) in
    ap (λ x. x ∷ map f (range_with_len (low + 1) count)) here ∙ ap (λ l. g low ∷ l) rest

none_taken : (o : Option ℕ) → is_some o ≡ false → o ≡ None
none_taken None e = refl
none_taken (Some t) e = absurd cc

module _ (design : Design) (look : Look) (signals : Signals) (room : design.branch ≤ design.stages - 1) (s : ShowsControl design look signals) where
  goes : (stage : ℕ) → stage ≤ design.stages - 1 → goes_on design signals stage ≡ fires design look stage
  goes stage le =
      ap (λ b. if b || (is_some signals.taken && is_killable design stage) then false else signals.valid stage) (s.hold stage)
      ∙ ap (λ b. if is_held design look stage || (b && is_killable design stage) then false else signals.valid stage) s.taken
      ∙ ap (λ b. if is_held design look stage || (kills design look && is_killable design stage) then false else b) (s.valid stage le)

  held : (stage : ℕ) → signals.hold stage ≡ is_held_stage design (map signals.busy (range_with_len 1 (design.stages - 1))) stage
  held stage = s.hold stage ∙ ap (λ l. is_held_stage design l stage) (sym (map_range signals.busy (is_busy design look) 1 (design.stages - 1) (λ n a b. s.busy n a (omega arith))))

  -- nothing is taken where its stage is held
  not_held : signals.hold design.branch ≡ true → kills design look ≡ false
  not_held e = rw (sym (s.hold design.branch) ∙ e) (never look.taken) where
    never : (b : Bool) → (b && not true) ≡ false
    never true = refl
    never false = refl

  -- nor where nothing is there
  not_empty : (look.taken ≡ true → look.valid design.branch ≡ true) → signals.valid design.branch ≡ false → kills design look ≡ false
  not_empty there none = by look.taken refl where
    by : (b : Bool) → look.taken ≡ b → (b && not (is_held design look design.branch)) ≡ false
    by true e = let clash : true ≡ false = sym (there e) ∙ sym (s.valid design.branch room) ∙ none in absurd cc
    by false e = refl

  nexts : (next : Signals) → EachStage design (λ stage. next.valid stage ≡ next_valid design look stage) → EachStage design (ValidGoesOn design signals next)
  nexts next h stage low high = record {
    stays = λ e. h stage low high ∙ ap (λ b. if b then look.valid stage else fires design look (stage - 1)) (sym (s.hold stage) ∙ e) ∙ sym (s.valid stage high);
    passes = λ e. h stage low high ∙ ap (λ b. if b then look.valid stage else fires design look (stage - 1)) (sym (s.hold stage) ∙ e) ∙ sym (goes (stage - 1) (omega arith));
  }

  counted : (target next : ℕ) → signals.taken ≡ (if kills design look then Some target else None)
      → next ≡ (if is_held design look 0 then signals.pc else if kills design look then target else (signals.pc + 1) % 2 ^ design.address)
      → next ≡ (if signals.hold 0 then signals.pc else unwrap_or signals.taken ((signals.pc + 1) % 2 ^ design.address))
  counted target next taken is =
      is ∙ ap (λ b. if b then signals.pc else if kills design look then target else (signals.pc + 1) % 2 ^ design.address) (sym (s.hold 0))
      ∙ ap (λ n. if signals.hold 0 then signals.pc else n) (by (kills design look) refl ∙ ap (λ o. unwrap_or o ((signals.pc + 1) % 2 ^ design.address)) (sym taken))
    where
      by : (b : Bool) → kills design look ≡ b → (if b then target else (signals.pc + 1) % 2 ^ design.address) ≡ unwrap_or (if b then Some target else None) ((signals.pc + 1) % 2 ^ design.address)
      by true e = refl
      by false e = refl

pub gives_border : ControlGivesBorder
gives_border design look signals room s = record {
  hold = held design look signals room s;
  untaken = λ there none. none_taken signals.taken (s.taken ∙ not_empty design look signals room s there none);
  held = λ e. none_taken signals.taken (s.taken ∙ not_held design look signals room s e);
  goes_on = goes design look signals room s;
  next = nexts design look signals room s;
  pc = counted design look signals room s;
}
