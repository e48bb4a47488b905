-- How a builder keeps account of the nets that are to come.
use Rattle.std.proofs.Common.{◌≡◌, ℕ, zero, suc, ◌<◌, ◌≤◌, List, [], ◌∷◌, ◌++◌, length, refl, ap, subst, inl, inr, ⊎_elim, arith}
use Rattle.std.specs.Prelude.{◌⊎◌, slice_index_or}
use Rattle.ap_net.specs.declared.cell.Wire.{Wire}
use Rattle.std.specs.List.{AllByRecursion as Each}
use Rattle.std.proofs.lemmas.Bool.{cases_lt}
use Rattle.ap_net.specs.Draft.{Draft, Extends, next_wire}
use Rattle.ap_net.specs.Cells.{IsNet}
use Rattle.ap_net.proofs.Wired.{number-IsNet}
use Rattle.ap_net.proofs.Lists.{All-from}
use Rattle.ap_net.specs.Ready.{Dependence, Ready, AreReady, ReadyAfter, numbers}
use Rattle.ap_net.specs.Late.{Reads}
use Rattle.ap_net.specs.Pending.{Among, IsFrom, Yields, Accounts}
use Rattle.ap_net.proofs.Growing.{Ready-Extends}
use Rattle.ap_net.proofs.LateSteps.{Reads-trans, Reads-refl, AreReady-Extends}
use Rattle.ap_net.proofs.Drafts.{Extends-refl, longer}

among_right : (more pending : List ℕ) (n : ℕ) → Among pending n → Among (more ++ pending) n
among_right [] pending n h = h
among_right (m ∷ more) pending n h = inr (among_right more pending n h)

among_left : (more pending : List ℕ) (n : ℕ) → Among more n → Among (more ++ pending) n
among_left [] pending n h = absurd h
among_left (m ∷ more) pending n (inl e) = inl e
among_left (m ∷ more) pending n (inr h) = inr (among_left more pending n h)

-- what holds of each of some numbers holds of one among them
each_among : (P : ℕ → Type 0) (from : List ℕ) → Each P from → (n : ℕ) → Among from n → P n
each_among P [] each n h = absurd h
each_among P (m ∷ from) each n (inl e) = subst P e each.0
each_among P (m ∷ from) each n (inr h) = each_among P from each.1 n h

is_ready : (by : Dependence) (d : Draft) (from : List ℕ) → AreReady by d from → (n : ℕ) → Among from n → Ready by d n
is_ready by d [] each n h = absurd h
is_ready by d (m ∷ from) each n (inl e) = subst (Ready by d) e each.0
is_ready by d (m ∷ from) each n (inr h) = is_ready by d from each.1 n h

pub Reads-joined : (from more : List ℕ) (a b c : Draft) → Reads from a b → Reads more b c → Each (IsFrom from a b) more → Reads from a c
Reads-joined from more a b c p q each = Reads-trans from more a b c p q
    (λ by. All-from (IsFrom from a b) (ReadyAfter by b from) (λ n. ⊎_elim (λ h later e ready. is_ready by later from ready n h) (λ h. p.came by n h.0 h.1)) more each)

-- what a net is from, where more came before and after it
pub IsFrom-more : (from : List ℕ) (a b c : Draft) (n : ℕ) → Extends b c → IsFrom from a b n → IsFrom from a c n
IsFrom-more from a b c n e (inl h) = inl h
IsFrom-more from a b c n e (inr h) =
    let le : length b.nets ≤ length c.nets = longer b c e in
    let lt : n < length b.nets = h.1 in
    inr (h.0, omega arith)

pub IsFrom-later : (from more : List ℕ) (a b c : Draft) (n : ℕ) → Extends a b → Extends b c → Each (IsFrom from a b) more → IsFrom more b c n → IsFrom from a c n
IsFrom-later from more a b c n e f each (inl h) = IsFrom-more from a b c n f (each_among (IsFrom from a b) more each n h)
IsFrom-later from more a b c n e f each (inr h) =
    let le : length a.nets ≤ length b.nets = longer a b e in
    let low : length b.nets ≤ n = h.0 in
    inr (omega arith, h.1)

-- a net that was just made
pub Yields-made : (from : List ℕ) (a b : Draft) (width : ℕ) (w : Wire) → Reads from a b → w ≡ next_wire a width → IsNet b.nets w → Yields from a b w
Yields-made from a b width w r is net =
    let e : w.number ≡ length a.nets = ap (λ (x : Wire). x.number) is in
    record { reads = r; result = inr (omega arith, number-IsNet b.nets w net) }

-- one of the operands itself
pub Yields-same : (from : List ℕ) (a : Draft) (w : Wire) → Among from w.number → Yields from a a w
Yields-same from a w h = record { reads = Reads-refl from a; result = inl h }

-- one piece after others
pub Yields-after : (from more : List ℕ) (a b c : Draft) (w : Wire) → Reads from a b → Yields more b c w → Each (IsFrom from a b) more → Yields from a c w
Yields-after from more a b c w p q each = record { reads = Reads-joined from more a b c p q.reads each; result = IsFrom-later from more a b c w.number p.extends (q.reads).extends each q.result }

taken : (by : Dependence) (d : Draft) (n m : ℕ) (pending : List ℕ) → Ready by d n → Ready by d m ⊎ Among (n ∷ pending) m → Ready by d m ⊎ Among pending m
taken by d n m pending is (inl r) = inl r
taken by d n m pending is (inr (inl e)) = inl (subst (Ready by d) e is)
taken by d n m pending is (inr (inr h)) = inr h

pub accounts : Accounts
accounts = record {
  begins = λ by d none n lt. let e : length d.nets ≡ 0 = ap length none in absurd (omega arith);
  reads = λ by from pending a b but ready r n lt.
      ⊎_elim (λ low. ⊎_elim (λ h. inl (Ready-Extends by a b n r.extends h)) inr (but n low)) (λ high. inl (r.came by n high lt b (Extends-refl b) (AreReady-Extends by a b from r.extends ready))) (cases_lt n (length a.nets));
  comes = λ by pending more a b but e new n lt.
      ⊎_elim (λ low. ⊎_elim (λ h. inl (Ready-Extends by a b n e h)) (λ h. inr (among_right more pending n h)) (but n low)) (λ high. inr (among_left more pending n (new n high lt))) (cases_lt n (length a.nets));
  becomes = λ by n pending d but is m lt. taken by d n m pending is (but m lt);
  ends = λ by d but n lt. ⊎_elim (λ r. r) (λ h. absurd h) (but n lt);
  joined = Reads-joined;
  follows = Yields-after;
}

-- an element of a slice by its index
pub at_index : (P : Wire → Type 0) (nets : List Wire) (i : ℕ) (w : Wire) → Each P nets → i < length nets → P (slice_index_or nets i w)
at_index P [] i w each lt = absurd (omega arith)
at_index P (x ∷ nets) zero w each lt = each.0
at_index P (x ∷ nets) (suc i) w each lt = at_index P nets i w each.1 (omega arith)

pub among_index : (nets : List Wire) (i : ℕ) (w : Wire) → i < length nets → Among (numbers nets) (slice_index_or nets i w).number
among_index [] i w lt = absurd (omega arith)
among_index (x ∷ nets) zero w lt = inl refl
among_index (x ∷ nets) (suc i) w lt = inr (among_index nets i w (omega arith))
