-- Units that are driven, one after the other.
use Rattle.std.proofs.Common.{◌≡◌, ◌≢◌, ℕ, zero, suc, ◌+◌, ◌-◌, ◌≤◌, List, [], ◌∷◌, ◌++◌, flat_map, take, refl, sym, ap, subst, ◌∙◌, arith, inl, inr}
use Rattle.std.specs.Prelude.{slice_get, Some}
use Rattle.std.specs.List.{AllByRecursion as Each}
use Rattle.ap_desc.specs.declared.design.Design.{Design}
use Rattle.ap_net.specs.declared.cell.Wire.{Wire}
use Rattle.ap_net.specs.Draft.{CanFresh, Draft, Extends}
use Rattle.ap_net.specs.Late.{IsLate}
use Rattle.ap_net.specs.Pending.{Among}
use Rattle.ap_net.specs.Ready.{numbers}
use Rattle.ap_net.specs.Wiring.{NoneTwice}
use Rattle.ap_net.proofs.Laws.{ReadyAfter-Extends}
use Rattle.ap_net.proofs.Lists.{All-from, All-join}
use Rattle.ap_ctl.specs.declared.nets.ControlNets.{ControlNets}
use Rattle.ap_ctl.specs.Building.{IsBit}
use Rattle.ap_ctl.proofs.Beside.{no_wire, take_item}
use Rattle.ap_ctl.proofs.Built.{IsBit-Extends}
use Rattle.ap_slow.specs.declared.place.SlowPlaced.{SlowPlaced}
use Rattle.ap_slow.specs.Driven.{AreConditions, AreThere, DrivesLate, DrivesUnits, IsAtRest, IsDriven, IsServed, IsServedIn, asking, driven_in, driven_of, unit_stage}
use Rattle.ap_slow.specs.Placed.{late_nets}
use Rattle.ap_slow.proofs.DrivenOne.{drives_more, drives_none, rest_later, tells_later}
use Rattle.ap_slow.proofs.Stage.{stage_uses}

abbrev pub no_placed : SlowPlaced
no_placed = record {
  unit = 0;
  inputs = record { sel = no_wire; a = no_wire; b = no_wire; go = no_wire; adv = no_wire };
  outputs = record { busy = no_wire; y = no_wire };
}

-- By the stage of the unit.

pub stage_within : (design : Design) (unit s : ℕ) → s ≡ unit_stage design unit → 1 ≤ s → s ≤ design.stages - 1
stage_within design unit zero e low = omega arith
stage_within design unit (suc s) e low = (stage_uses design unit s (sym e)).high

pub served_at_rest : (design : Design) (nets : ControlNets) (d : Draft) (x : SlowPlaced) (s : ℕ) → s ≡ unit_stage design x.unit → s ≡ 0 → Each (IsAtRest d) (late_nets x) → IsServed design nets d x
served_at_rest design nets d x s e z h = subst (λ n. IsServedIn design nets d n x) (sym z ∙ e) h

pub drives_at_rest : (design : Design) (nets : ControlNets) (a b : Draft) (x : SlowPlaced) (s : ℕ) → s ≡ unit_stage design x.unit → s ≡ 0 → DrivesLate (numbers (late_nets x)) (asking nets) a b → DrivesLate (numbers (driven_of design x)) (asking nets) a b
drives_at_rest design nets a b x s e z h = subst (λ n. DrivesLate (numbers (driven_in n x)) (asking nets) a b) (sym z ∙ e) h

pub served_used : (design : Design) (nets : ControlNets) (d : Draft) (x : SlowPlaced) (s : ℕ) → s ≡ unit_stage design x.unit → 1 ≤ s → IsDriven design nets d s x → IsServed design nets d x
served_used design nets d x zero e low h = absurd (omega arith)
served_used design nets d x (suc s) e low h = subst (λ n. IsServedIn design nets d n x) e h

pub drives_used : (design : Design) (nets : ControlNets) (a b : Draft) (x : SlowPlaced) (s : ℕ) → s ≡ unit_stage design x.unit → 1 ≤ s → DrivesLate (x.inputs.go.number ∷ x.inputs.adv.number ∷ []) (asking nets) a b
    → DrivesLate (numbers (driven_of design x)) (asking nets) a b
drives_used design nets a b x zero e low h = absurd (omega arith)
drives_used design nets a b x (suc s) e low h = subst (λ n. DrivesLate (numbers (driven_in n x)) (asking nets) a b) e h

-- What was said goes on.

pub there_later : (design : Design) (a b : Draft) (nets : ControlNets) → Extends a b → AreThere design a nets → AreThere design b nets
there_later design a b nets e h = record {
  valid = All-from (IsBit a.nets) (IsBit b.nets) (λ w k. IsBit-Extends a b w e k) nets.valid h.valid;
  valid_count = h.valid_count;
  decoded = All-from (AreConditions design a) (AreConditions design b) (λ ws k. record { count = k.count; each = All-from (IsBit a.nets) (IsBit b.nets) (λ w q. IsBit-Extends a b w e q) ws k.each }) nets.decoded h.decoded;
  decoded_count = h.decoded_count;
  hold = All-from (IsBit a.nets) (IsBit b.nets) (λ w k. IsBit-Extends a b w e k) nets.hold h.hold;
  some = h.some;
}

pub driven_later : (design : Design) (nets : ControlNets) (a b : Draft) (s : ℕ) (x : SlowPlaced) → Extends a b → IsDriven design nets a s x → IsDriven design nets b s x
driven_later design nets a b s x e h = record {
  valid = h.valid;
  valid_at = h.valid_at;
  conditions = h.conditions;
  conditions_at = h.conditions_at;
  hold = h.hold;
  hold_at = h.hold_at;
  go = tells_later _ a b x.inputs.go e h.go;
  go_ready = λ by. ReadyAfter-Extends by a b (asking nets) x.inputs.go.number e (h.go_ready by);
  adv = tells_later _ a b x.inputs.adv e h.adv;
  adv_ready = λ by. ReadyAfter-Extends by a b (h.hold.number ∷ []) x.inputs.adv.number e (h.adv_ready by);
}

pub served_later : (design : Design) (nets : ControlNets) (a b : Draft) (x : SlowPlaced) → Extends a b → IsServed design nets a x → IsServed design nets b x
served_later design nets a b x e h = go (unit_stage design x.unit) h
  where
    go : (s : ℕ) → IsServedIn design nets a s x → IsServedIn design nets b s x
    go zero k = All-from (IsAtRest a) (IsAtRest b) (λ w q. rest_later a b w e q) (late_nets x) k
    go (suc s) k = driven_later design nets a b (suc s) x e k

-- One more.

flat_numbers : (f : SlowPlaced → List Wire) (xs : List SlowPlaced) (x : SlowPlaced) → numbers (flat_map f (xs ++ x ∷ [])) ≡ numbers (flat_map f xs) ++ numbers (f x)
flat_numbers f [] x = joined (f x) [] ∙ plain (numbers (f x))
  where
    joined : (xs ys : List Wire) → numbers (xs ++ ys) ≡ numbers xs ++ numbers ys
    joined [] ys = refl
    joined (x ∷ xs) ys = ap (λ l. x.number ∷ l) (joined xs ys)

    plain : (ns : List ℕ) → ns ++ [] ≡ ns
    plain [] = refl
    plain (n ∷ ns) = ap (λ l. n ∷ l) (plain ns)
flat_numbers f (y ∷ xs) x = joined (f y) (flat_map f (xs ++ x ∷ [])) ∙ ap (λ l. numbers (f y) ++ l) (flat_numbers f xs x) ∙ sym (assoc (numbers (f y)) (numbers (flat_map f xs)) (numbers (f x))) ∙ ap (λ l. l ++ numbers (f x)) (sym (joined (f y) (flat_map f xs)))
  where
    joined : (xs ys : List Wire) → numbers (xs ++ ys) ≡ numbers xs ++ numbers ys
    joined [] ys = refl
    joined (x ∷ xs) ys = ap (λ l. x.number ∷ l) (joined xs ys)

    assoc : (xs ys zs : List ℕ) → (xs ++ ys) ++ zs ≡ xs ++ (ys ++ zs)
    assoc [] ys zs = refl
    assoc (n ∷ xs) ys zs = ap (λ l. n ∷ l) (assoc xs ys zs)

pub units_none : (design : Design) (nets : ControlNets) (d : Draft) → CanFresh d → DrivesUnits design nets [] d d
units_none design nets d fresh = record { each = tt; drives = drives_none (asking nets) d fresh }

pub units_more : (design : Design) (nets : ControlNets) (placed : List SlowPlaced) (i : ℕ) (x : SlowPlaced) (a b c : Draft) → slice_get placed i ≡ Some x → DrivesUnits design nets (take i placed) a b → IsServed design nets c x
    → DrivesLate (numbers (driven_of design x)) (asking nets) b c → DrivesUnits design nets (take (i + 1) placed) a c
units_more design nets placed i x a b c at h served drives = subst (λ l. DrivesUnits design nets l a c) (sym (take_item placed i x at)) (record {
  each = All-join (IsServed design nets c) (take i placed) (x ∷ []) (All-from (IsServed design nets b) (IsServed design nets c) (λ y k. served_later design nets b c y drives.extends k) (take i placed) h.each) (served, tt);
  drives = subst (λ l. DrivesLate l (asking nets) a c) (sym (flat_numbers (driven_of design) (take i placed) x))
      (drives_more (numbers (flat_map (driven_of design) (take i placed))) (numbers (driven_of design x)) (asking nets) (asking nets) a b c h.drives drives (λ P k. k));
})

-- The wires of the next unit are driven by none of those before.

at_among : (P : ℕ → Type 0) (xs : List ℕ) (n : ℕ) → Each P xs → Among xs n → P n
at_among P [] n h k = absurd k
at_among P (x ∷ xs) n h (inl e) = subst P e h.0
at_among P (x ∷ xs) n h (inr k) = at_among P xs n h.1 k

among_late : (before rest : List SlowPlaced) (x : SlowPlaced) (n : ℕ) → Among (numbers (late_nets x)) n → Among (numbers (flat_map late_nets (before ++ x ∷ rest))) n
among_late [] rest x n (inl e) = inl e
among_late [] rest x n (inr (inl e)) = inr (inl e)
among_late [] rest x n (inr (inr (inl e))) = inr (inr (inl e))
among_late [] rest x n (inr (inr (inr (inl e)))) = inr (inr (inr (inl e)))
among_late [] rest x n (inr (inr (inr (inr (inl e))))) = inr (inr (inr (inr (inl e))))
among_late [] rest x n (inr (inr (inr (inr (inr k))))) = absurd k
among_late (y ∷ before) rest x n h = inr (inr (inr (inr (inr (among_late before rest x n h)))))

others : (design : Design) (before rest : List SlowPlaced) (x : SlowPlaced) (n : ℕ) → NoneTwice (numbers (flat_map late_nets (before ++ x ∷ rest))) → Among (numbers (late_nets x)) n → Each (λ m. m ≢ n) (numbers (flat_map (driven_of design) before))
others design [] rest x n h k = tt
others design (y ∷ before) rest x n h k = go (others design before rest x n h.1.1.1.1.1 k) (unit_stage design y.unit)
  where
    here : (m : ℕ) → Each (λ o. o ≢ m) (numbers (flat_map late_nets (before ++ x ∷ rest))) → m ≢ n
    here m each e = at_among (λ o. o ≢ m) (numbers (flat_map late_nets (before ++ x ∷ rest))) n each (among_late before rest x n k) (sym e)

    go : Each (λ m. m ≢ n) (numbers (flat_map (driven_of design) before)) → (s : ℕ) → Each (λ m. m ≢ n) (numbers (driven_in s y ++ flat_map (driven_of design) before))
    go more zero = (here y.inputs.sel.number h.0.1.1.1.1, (here y.inputs.a.number h.1.0.1.1.1, (here y.inputs.b.number h.1.1.0.1.1, (here y.inputs.go.number h.1.1.1.0.1, (here y.inputs.adv.number h.1.1.1.1.0, more)))))
    go more (suc s) = (here y.inputs.go.number h.1.1.1.0.1, (here y.inputs.adv.number h.1.1.1.1.0, more))

split : (xs : List SlowPlaced) (i : ℕ) (x : SlowPlaced) → slice_get xs i ≡ Some x → (rest : List SlowPlaced) × (xs ≡ take i xs ++ x ∷ rest)
split [] i x at = cc
split (y ∷ xs) zero x at = let same : y ≡ x = cc in (xs, ap (λ z. z ∷ xs) same)
split (y ∷ xs) (suc i) x at = let s = split xs i x at in (s.0, ap (λ l. y ∷ l) s.1)

each_mid : (P : Wire → Type 0) (before rest : List SlowPlaced) (x : SlowPlaced) → Each P (flat_map late_nets (before ++ x ∷ rest)) → Each P (late_nets x)
each_mid P [] rest x h = (h.0, (h.1.0, (h.1.1.0, (h.1.1.1.0, (h.1.1.1.1.0, tt)))))
each_mid P (y ∷ before) rest x h = each_mid P before rest x h.1.1.1.1.1

twice_mid : (before rest : List SlowPlaced) (x : SlowPlaced) → NoneTwice (numbers (flat_map late_nets (before ++ x ∷ rest))) → NoneTwice (numbers (late_nets x))
twice_mid [] rest x h = (
  (h.0.0, (h.0.1.0, (h.0.1.1.0, (h.0.1.1.1.0, tt)))),
  ((h.1.0.0, (h.1.0.1.0, (h.1.0.1.1.0, tt))), ((h.1.1.0.0, (h.1.1.0.1.0, tt)), ((h.1.1.1.0.0, tt), (tt, tt)))),
)
twice_mid (y ∷ before) rest x h = twice_mid before rest x h.1.1.1.1.1

pub next_apart : (placed : List SlowPlaced) (i : ℕ) (x : SlowPlaced) → slice_get placed i ≡ Some x → NoneTwice (numbers (flat_map late_nets placed)) → NoneTwice (numbers (late_nets x))
next_apart placed i x at h = let s = split placed i x at in twice_mid (take i placed) s.0 x (subst (λ l. NoneTwice (numbers (flat_map late_nets l))) s.1 h)

pub next_late : (design : Design) (nets : ControlNets) (placed : List SlowPlaced) (i : ℕ) (x : SlowPlaced) (a b : Draft) → slice_get placed i ≡ Some x → Each (IsLate a) (flat_map late_nets placed) → NoneTwice (numbers (flat_map late_nets placed))
    → DrivesUnits design nets (take i placed) a b → Each (IsLate b) (late_nets x)
next_late design nets placed i x a b at late apart h =
    let s = split placed i x at in
    let l = each_mid (IsLate a) (take i placed) s.0 x (subst (λ l. Each (IsLate a) (flat_map late_nets l)) s.1 late) in
    let o = others design (take i placed) s.0 x in
    let t = subst (λ l. NoneTwice (numbers (flat_map late_nets l))) s.1 apart in
    let in_b : (w : Wire) → Among (numbers (late_nets x)) w.number → IsLate a w → IsLate b w = λ w k q. h.drives.late w (o w.number t k) q in (
      in_b x.inputs.sel (inl refl) l.0,
      (in_b x.inputs.a (inr (inl refl)) l.1.0, (in_b x.inputs.b (inr (inr (inl refl))) l.1.1.0, (in_b x.inputs.go (inr (inr (inr (inl refl)))) l.1.1.1.0, (in_b x.inputs.adv (inr (inr (inr (inr (inl refl))))) l.1.1.1.1.0, tt)))),
    )
