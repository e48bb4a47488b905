-- The places of one instruction at a time: the next place follows, unless a transfer was taken as many instructions ago as there are
-- slots; then it is the transfer's target.
use Rattle.std.proofs.Common.{◌≡◌, ℕ, zero, suc, ◌+◌, ◌-◌, ◌≤◌, ◌%◌, ◌^◌, Bool, true, false, ◌⊎◌, inl, inr, refl, sym, ap, ◌∙◌, subst, arith, Option, Some, None}
use Rattle.std.proofs.lemmas.Bool.{both_ways}
use Rattle.std.proofs.Math.Nat.{add-mod-mod}
use Rattle.ap_desc.specs.declared.design.Design.{Design}
use Rattle.ap_model.specs.declared.sequence.Pending.{Pending}
use Rattle.ap_model.specs.Sequence.{pc_after, pending_after}

abbrev Turned : Type 0
Turned = ℕ × Option Pending

by_left : (design : Design) (pc : ℕ) (pending : Pending) (left : ℕ) → pending.left ≡ left
    → pc_after design pc (Some pending) ≡ (elim left as (λ _. ℕ × Option Pending) [ zero ↦ (pending.target, None) | suc l ↦ ((pc + 1) % 2 ^ design.address, Some pending) ])
by_left design pc pending left e = ap (λ (n : ℕ). elim n as (λ _. ℕ × Option Pending) [ zero ↦ (pending.target, None) | suc l ↦ ((pc + 1) % 2 ^ design.address, Some pending) ]) e

module _ (design : Design) (transfers : ℕ → Bool)
    (quiet : (place j : ℕ) → transfers place ≡ true → 1 ≤ j → j ≤ design.slots → transfers ((place + j) % 2 ^ design.address) ≡ false)
    (pc : ℕ → ℕ) (pending : ℕ → Option Pending) (target : ℕ → Option ℕ)
    (goes : (i : ℕ) → pc (suc i) ≡ (pc_after design (pc i) (pending_after design (target i) (pending i))).0)
    (waits : (i : ℕ) → pending (suc i) ≡ (pc_after design (pc i) (pending_after design (target i) (pending i))).1)
    (limit : ℕ) (transfer : (i to : ℕ) → i ≤ limit → target i ≡ Some to → transfers (pc i) ≡ true)
    (none_first : pending 0 ≡ None) where
  -- of an instruction before which a transfer is on its way
  record IsSlot (i : ℕ) (p : Pending) : Type 0 where
    t : ℕ
    d : ℕ
    some : 1 ≤ p.left
    first : 1 ≤ d
    sum : t + d ≡ i
    whole : t + suc design.slots ≡ i + p.left
    took : target t ≡ Some p.target
    at : pc i ≡ (pc t + d) % 2 ^ design.address

  one_more : (p d : ℕ) → ((p + d) % 2 ^ design.address + 1) % 2 ^ design.address ≡ (p + suc d) % 2 ^ design.address
  one_more p d =
      let turned : (p + d) % 2 ^ design.address + 1 ≡ 1 + (p + d) % 2 ^ design.address = omega arith in
      let sum : 1 + (p + d) ≡ p + suc d = omega arith in
      ap (λ x. x % 2 ^ design.address) turned ∙ add-mod-mod 1 (p + d) (2 ^ design.address) ∙ ap (λ x. x % 2 ^ design.address) sum

  -- a slot of a transfer that was taken takes none
  slot_takes_none : (i : ℕ) (p : Pending) → i ≤ limit → IsSlot i p → target i ≡ None
  slot_takes_none i p le slot = by_target (target i) refl
    where
      by_target : (o : Option ℕ) → target i ≡ o → target i ≡ None
      by_target None e = e
      by_target (Some to) e =
          let sum = slot.sum in
          let whole = slot.whole in
          let some = slot.some in
          absurd (both_ways (transfers (pc i)) (ap transfers slot.at ∙ quiet (pc slot.t) slot.d (transfer slot.t p.target (omega arith) slot.took) slot.first (omega arith)) (transfer i to le e))

  -- what comes of an instruction, by the transfer that it takes and the one that is on its way
  module _ (i : ℕ) where
    next_by : (o : Option ℕ) (q : Option Pending) → target i ≡ o → pending i ≡ q → (pc (suc i) ≡ (pc_after design (pc i) (pending_after design o q)).0) × (pending (suc i) ≡ (pc_after design (pc i) (pending_after design o q)).1)
    next_by o q e f =
        (goes i ∙ (λ x. (pc_after design (pc i) (pending_after design (e x) (f x))).0), waits i ∙ (λ x. (pc_after design (pc i) (pending_after design (e x) (f x))).1))

    turned_by : (p : Pending) (left : ℕ) → p.left ≡ left → (next : ℕ) (rest : Option Pending) → (next ≡ (pc_after design (pc i) (Some p)).0) × (rest ≡ (pc_after design (pc i) (Some p)).1)
        → ((left ≡ 0) × (next ≡ p.target) × (rest ≡ None)) ⊎ ((1 ≤ left) × (next ≡ (pc i + 1) % 2 ^ design.address) × (rest ≡ Some p))
    turned_by p zero e next rest is = inl (refl, is.0 ∙ ap (λ (x : Turned). x.0) (by_left design (pc i) p zero e), is.1 ∙ ap (λ (x : Turned). x.1) (by_left design (pc i) p zero e))
    turned_by p (suc l) e next rest is = inr (omega arith, is.0 ∙ ap (λ (x : Turned). x.0) (by_left design (pc i) p (suc l) e), is.1 ∙ ap (λ (x : Turned). x.1) (by_left design (pc i) p (suc l) e))

  some_same : (p q : Pending) → Some p ≡ Some q → p ≡ q
  some_same p q e = cc

  abbrev Stands : ℕ → Type 0
  Stands i = (p : Pending) → pending i ≡ Some p → IsSlot i p

  slots_stand : (i : ℕ) → Stands i
  slots_stand zero p e = let none : None ≡ Some p = sym none_first ∙ e in absurd cc
  slots_stand (suc i) p e = by_both (target i) (pending i) refl refl (slots_stand i)
    where
      again : (q : Pending) → pending (suc i) ≡ Some q → q ≡ p
      again q f = some_same q p (sym f ∙ e)

      -- it has just been taken
      fresh : (n : Pending) → n.left ≡ design.slots → target i ≡ Some n.target
          → ((design.slots ≡ 0) × (pc (suc i) ≡ n.target) × (pending (suc i) ≡ None)) ⊎ ((1 ≤ design.slots) × (pc (suc i) ≡ (pc i + 1) % 2 ^ design.address) × (pending (suc i) ≡ Some n)) → IsSlot (suc i) p
      fresh n left took (inl x) = let none : None ≡ Some p = sym x.2 ∙ e in absurd cc
      fresh n left took (inr x) =
          let some = x.0 in
          subst (IsSlot (suc i)) (again n x.2) (record { t = i; d = 1; some = omega arith; first = omega arith; sum = omega arith; whole = omega arith; took = took; at = x.1 })

      -- it is one nearer
      nearer : (q : Pending) → IsSlot i q → (n : Pending) → n.left ≡ q.left - 1 → n.target ≡ q.target
          → ((q.left - 1 ≡ 0) × (pc (suc i) ≡ n.target) × (pending (suc i) ≡ None)) ⊎ ((1 ≤ q.left - 1) × (pc (suc i) ≡ (pc i + 1) % 2 ^ design.address) × (pending (suc i) ≡ Some n)) → IsSlot (suc i) p
      nearer q slot n left same (inl x) = let none : None ≡ Some p = sym x.2 ∙ e in absurd cc
      nearer q slot n left same (inr x) =
          let some = x.0 in
          let sum = slot.sum in
          let whole = slot.whole in
          let first = slot.first in
          subst (IsSlot (suc i)) (again n x.2)
          (record {
            t = slot.t;
            d = suc slot.d;
            some = omega arith;
            first = omega arith;
            sum = omega arith;
            whole = omega arith;
            took = slot.took ∙ ap Some (sym same);
            at = x.1 ∙ ap (λ a. (a + 1) % 2 ^ design.address) slot.at ∙ one_more (pc slot.t) slot.d;
          })

      by_both : (o : Option ℕ) (q : Option Pending) → target i ≡ o → pending i ≡ q → Stands i → IsSlot (suc i) p
      by_both (Some to) q f g before =
          let n : Pending = record { left = design.slots; target = to } in
          fresh n refl f (turned_by i n design.slots refl (pc (suc i)) (pending (suc i)) (next_by i (Some to) q f g))
      by_both None None f g before = let none : None ≡ Some p = sym (next_by i None None f g).1 ∙ e in absurd cc
      by_both None (Some q) f g before =
          let n : Pending = record q { left = q.left - 1 } in
          nearer q (before q g) n refl refl (turned_by i n (q.left - 1) refl (pc (suc i)) (pending (suc i)) (next_by i None (Some q) f g))

  -- the next place follows, where the instruction so many slots before took no transfer
  pub goes_straight : (i : ℕ) → ((t : ℕ) → t + design.slots ≡ i → target t ≡ None) → pc (suc i) ≡ (pc i + 1) % 2 ^ design.address
  goes_straight i none = by_both (target i) (pending i) refl refl
    where
      fresh : (n : Pending) → target i ≡ Some n.target
          → ((design.slots ≡ 0) × (pc (suc i) ≡ n.target) × (pending (suc i) ≡ None)) ⊎ ((1 ≤ design.slots) × (pc (suc i) ≡ (pc i + 1) % 2 ^ design.address) × (pending (suc i) ≡ Some n)) → pc (suc i) ≡ (pc i + 1) % 2 ^ design.address
      fresh n took (inl x) = let no = x.0 in let never : None ≡ Some n.target = sym (none i (omega arith)) ∙ took in absurd cc
      fresh n took (inr x) = x.1

      nearer : (q : Pending) → IsSlot i q → (n : Pending)
          → ((q.left - 1 ≡ 0) × (pc (suc i) ≡ n.target) × (pending (suc i) ≡ None)) ⊎ ((1 ≤ q.left - 1) × (pc (suc i) ≡ (pc i + 1) % 2 ^ design.address) × (pending (suc i) ≡ Some n)) → pc (suc i) ≡ (pc i + 1) % 2 ^ design.address
      nearer q slot n (inl x) =
          let last = x.0 in
          let some = slot.some in
          let whole = slot.whole in
          let never : None ≡ Some q.target = sym (none slot.t (omega arith)) ∙ slot.took in
          absurd cc
      nearer q slot n (inr x) = x.1

      by_both : (o : Option ℕ) (q : Option Pending) → target i ≡ o → pending i ≡ q → pc (suc i) ≡ (pc i + 1) % 2 ^ design.address
      by_both (Some to) q f g =
          let n : Pending = record { left = design.slots; target = to } in
          fresh n f (turned_by i n design.slots refl (pc (suc i)) (pending (suc i)) (next_by i (Some to) q f g))
      by_both None None f g = (next_by i None None f g).0
      by_both None (Some q) f g =
          let n : Pending = record q { left = q.left - 1 } in
          nearer q (slots_stand i q g) n (turned_by i n (q.left - 1) refl (pc (suc i)) (pending (suc i)) (next_by i None (Some q) f g))

  -- after its slots a transfer that was taken happens
  module _ (t to : ℕ) (took : target t ≡ Some to) (near : t + design.slots ≤ limit) where
    -- the slot of this number comes next, or all slots are over
    data After (d : ℕ) : Type 0 where
      slot : (p : Pending) → p.target ≡ to → p.left + d ≡ suc design.slots → 1 ≤ p.left → pending (t + d) ≡ Some p → After d
      over : suc design.slots ≡ d → pc (t + d) ≡ to → After d

    first_after : After 1
    first_after =
        let n : Pending = record { left = design.slots; target = to } in
        by_case n refl refl (turned_by t n design.slots refl (pc (suc t)) (pending (suc t)) (next_by t (Some to) (pending t) took refl))
      where
        sum : suc t ≡ t + 1
        sum = omega arith

        by_case : (n : Pending) → n.target ≡ to → n.left ≡ design.slots → ((design.slots ≡ 0) × (pc (suc t) ≡ n.target) × (pending (suc t) ≡ None)) ⊎ ((1 ≤ design.slots) × (pc (suc t) ≡ (pc t + 1) % 2 ^ design.address) × (pending (suc t) ≡ Some n)) → After 1
        by_case n same left (inl x) = let no = x.0 in over (omega arith) (ap pc (sym sum) ∙ x.1 ∙ same)
        by_case n same left (inr x) = let some = x.0 in slot n same (omega arith) (omega arith) (ap pending (sym sum) ∙ x.2)

    next_after : (d : ℕ) → d ≤ design.slots → After d → After (suc d)
    next_after d few (over whole at) = absurd (omega arith)
    next_after d few (slot p same count some at) =
        let n : Pending = record p { left = p.left - 1 } in
        let none = slot_takes_none (t + d) p (omega arith) (slots_stand (t + d) p at) in
        by_case n same refl (turned_by (t + d) n (p.left - 1) refl (pc (suc (t + d))) (pending (suc (t + d))) (next_by (t + d) None (Some p) none at))
      where
        sum : suc (t + d) ≡ t + suc d
        sum = omega arith

        by_case : (n : Pending) → n.target ≡ to → n.left ≡ p.left - 1
            → ((p.left - 1 ≡ 0) × (pc (suc (t + d)) ≡ n.target) × (pending (suc (t + d)) ≡ None)) ⊎ ((1 ≤ p.left - 1) × (pc (suc (t + d)) ≡ (pc (t + d) + 1) % 2 ^ design.address) × (pending (suc (t + d)) ≡ Some n)) → After (suc d)
        by_case n is left (inl x) = let no = x.0 in over (omega arith) (ap pc (sym sum) ∙ x.1 ∙ is)
        by_case n is left (inr x) = let more = x.0 in slot n is (omega arith) (omega arith) (ap pending (sym sum) ∙ x.2)

    all_after : (d : ℕ) → d ≤ design.slots → After (suc d)
    all_after zero few = first_after
    all_after (suc d) few = next_after (suc d) few (all_after d (omega arith))

    pub goes_to_target : pc (suc (t + design.slots)) ≡ to
    goes_to_target = by_after (all_after design.slots (omega arith))
      where
        by_after : After (suc design.slots) → pc (suc (t + design.slots)) ≡ to
        by_after (slot p same count some at) = absurd (omega arith)
        by_after (over whole at) = let sum : suc (t + design.slots) ≡ t + suc design.slots = omega arith in ap pc sum ∙ at
