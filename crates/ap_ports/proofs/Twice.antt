-- Which ports the lines so far use.
use Rattle.std.proofs.Common.{◌≡◌, ℕ, ◌+◌, ◌<◌, ◌≤◌, Bool, true, false, List, length, get_or, set, replicate, Some, None, inl, inr, sym, subst, ap, ◌∙◌, arith}
use Rattle.std.specs.Prelude.{slice_get}
use Rattle.std.proofs.lemmas.Bool.{cases_eq, cases_lt, cases_order, both_ways}
use Rattle.std.proofs.lemmas.List.{get_or_past, get_or-replicate, get_or-set_same, get_or-set_other, length-replicate, length-set}
use Rattle.std.proofs.lemmas.Option.{same_Some, slice_get-get_or, slice_get_within}
use Rattle.ap_desc.specs.Ports.{share_port}
use Rattle.ap_desc.specs.declared.design.Micro.{Micro}
use Rattle.ap_ports.specs.Firsts.{IsFirst, IsTwice, LineAt}
use Rattle.ap_ports.specs.Numbered.{AreNumbered}
use Rattle.ap_ports.specs.Numbers.{IsNumbered, port_number}
use Rattle.ap_ports.proofs.Members.{each_get}
use Rattle.ap_ports.proofs.Numbered.{share_from, share_to}

-- none of the lines so far uses a port twice, and the ports that they use are kept
pub record IsSeen (micros : List Micro) (used : List Bool) (place : ℕ) : Type 0 where
  pub ports : length used ≡ 153
  pub none : (k : ℕ) → k < place → IsTwice micros k → ⊥
  pub kept : (n : ℕ) → get_or used n false ≡ true → (i : ℕ) × (i < place) × LineAt micros i (λ (e : Micro). port_number e.act ≡ Some n)
  pub seen : (i : ℕ) (e : Micro) (n : ℕ) → i < place → slice_get micros i ≡ Some e → port_number e.act ≡ Some n → get_or used n false ≡ true

numbered : (micros : List Micro) → AreNumbered micros → (i : ℕ) (m : Micro) → slice_get micros i ≡ Some m → IsNumbered m.act
numbered micros all i m at = each_get (λ (x : Micro). IsNumbered x.act) micros i m all at

past_ports : (used : List Bool) (n : ℕ) → length used ≤ n → get_or used n false ≡ false
past_ports used n past = get_or_past used n false past

pub seen_none : (micros : List Micro) → IsSeen micros (replicate 153 false) 0
seen_none micros = record {
  ports = length-replicate {A = Bool} 153 false;
  none = λ k low. absurd (omega arith);
  kept = λ n yes. elim (cases_lt n 153) [
    | inl low ↦ (let no : get_or (replicate 153 false) n false ≡ false = get_or-replicate 153 n false false low in absurd cc)
    | inr past ↦ (let no : get_or (replicate 153 false) n false ≡ false = past_ports (replicate 153 false) n (omega (arith, length-replicate {A = Bool} 153 false)) in absurd cc)
  ];
  seen = λ i e n low. absurd (omega arith);
}

-- the line's port isn't used by an earlier one
pub unused_line : (micros : List Micro) (used : List Bool) (place : ℕ) → AreNumbered micros → IsSeen micros used place → (m : Micro) → slice_get micros place ≡ Some m
    → ((n : ℕ) → port_number m.act ≡ Some n → get_or used n false ≡ false) → IsTwice micros place → ⊥
unused_line micros used place all s m at unused (m', at', (i, low, (e, there, share))) =
    let same : m' ≡ m = same_Some m' m (sym at' ∙ at) in
    let both : share_port e.act m.act ≡ true = ap (λ (x : Micro). share_port e.act x.act) (sym same) ∙ share in
    let (k, one, other) = share_to e.act m.act (numbered micros all i e there) (numbered micros all place m at) both in
    both_ways (get_or used k false) (unused k other) (s.seen i e k low there one)

none_further : (micros : List Micro) (place : ℕ) → ((k : ℕ) → k < place → IsTwice micros k → ⊥) → (IsTwice micros place → ⊥) → (k : ℕ) → k < place + 1 → IsTwice micros k → ⊥
none_further micros place none here k low twice = elim (cases_order k place) [
  | inl same ↦ here (subst (IsTwice micros) same twice)
  | inr (inl less) ↦ none k less twice
  | inr (inr more) ↦ absurd (omega arith)
]

-- a line that uses no port
pub seen_without : (micros : List Micro) (used : List Bool) (place : ℕ) → AreNumbered micros → IsSeen micros used place → (m : Micro) → slice_get micros place ≡ Some m → port_number m.act ≡ None → IsSeen micros used (place + 1)
seen_without micros used place all s m at no_port = record {
  ports = s.ports;
  none = none_further micros place s.none (unused_line micros used place all s m at (λ n yes. absurd cc));
  kept = λ n yes. (let (i, low, line) = s.kept n yes in (i, omega arith, line));
  seen = λ i e n low there number. elim (cases_order i place) [
    | inl same ↦ (let is : e ≡ m = same_Some e m (sym there ∙ ap (slice_get micros) same ∙ at) in let none : port_number e.act ≡ None = ap (λ (x : Micro). port_number x.act) is ∙ no_port in absurd cc)
    | inr (inl less) ↦ s.seen i e n less there number
    | inr (inr more) ↦ absurd (omega arith)
  ];
}

-- a line that uses a port that no line used so far
pub seen_with : (micros : List Micro) (used : List Bool) (place : ℕ) → AreNumbered micros → IsSeen micros used place → (m : Micro) → slice_get micros place ≡ Some m → (port : ℕ) → port_number m.act ≡ Some port → port < 153
    → get_or used port false ≡ false → IsSeen micros (set used port true) (place + 1)
seen_with micros used place all s m at port number low unused = record {
  ports = length-set used port true ∙ s.ports;
  none = none_further micros place s.none (unused_line micros used place all s m at (λ n yes. ap (λ k. get_or used k false) (sym (same_Some port n (sym number ∙ yes))) ∙ unused));
  kept = λ n yes. elim (cases_eq n port) [
    | inl same ↦ (place, omega arith, (m, at, number ∙ ap Some (sym same)))
    | inr other ↦ (let old : get_or used n false ≡ true = sym (get_or-set_other used port n true false other) ∙ yes in let (i, less, line) = s.kept n old in (i, omega arith, line))
  ];
  seen = λ i e n less there numbered_e. elim (cases_eq n port) [
    | inl same ↦ ap (λ k. get_or (set used port true) k false) same ∙ get_or-set_same used port true false (omega (arith, s.ports))
    | inr other ↦ get_or-set_other used port n true false other ∙ s.seen i e n (before i e n less there numbered_e other) there numbered_e
  ];
}
  where
    before : (i : ℕ) (e : Micro) (n : ℕ) → i < place + 1 → slice_get micros i ≡ Some e → port_number e.act ≡ Some n → (n ≡ port → ⊥) → i < place
    before i e n less there numbered_e other = elim (cases_order i place) [
      | inl same ↦ (let is : e ≡ m = same_Some e m (sym there ∙ ap (slice_get micros) same ∙ at) in absurd (other (same_Some n port (sym numbered_e ∙ ap (λ (x : Micro). port_number x.act) is ∙ number))))
      | inr (inl lower) ↦ lower
      | inr (inr more) ↦ absurd (omega arith)
    ]

-- the first line whose port an earlier line uses
pub first_seen : (micros : List Micro) (used : List Bool) (place : ℕ) → AreNumbered micros → IsSeen micros used place → (m : Micro) → slice_get micros place ≡ Some m → (port : ℕ) → port_number m.act ≡ Some port
    → get_or used port false ≡ true → IsFirst (IsTwice micros) (Some place)
first_seen micros used place all s m at port number used_before =
    let (i, low, (e, there, same)) = s.kept port used_before in (
      (m, at, (i, low, (e, there, share_from e.act m.act port (numbered micros all i e there) (numbered micros all place m at) same number))),
      λ other twice. elim (cases_lt other place) [ inl less ↦ absurd (s.none other less twice) | inr le ↦ le ],
    )

-- none of all lines
pub none_seen : (micros : List Micro) (used : List Bool) (place : ℕ) → length micros ≤ place → IsSeen micros used place → IsFirst (IsTwice micros) None
none_seen micros used place past s = λ k twice. (let low = slice_get_within micros k twice.0 twice.1 in s.none k (omega arith) twice)

-- The steps of a loop over the lines, the line at a place read by any default.

pub twice_here : (micros : List Micro) (used : List Bool) (place : ℕ) (d : Micro) → AreNumbered micros → IsSeen micros used place → place < length micros → (port : ℕ) → port_number (get_or micros place d).act ≡ Some port
    → get_or used port false ≡ true → IsFirst (IsTwice micros) (Some place)
twice_here micros used place d all s low port number before = first_seen micros used place all s (get_or micros place d) (slice_get-get_or micros place d low) port number before

pub seen_more : (micros : List Micro) (used : List Bool) (place : ℕ) (d : Micro) → AreNumbered micros → IsSeen micros used place → place < length micros → (port : ℕ) → port_number (get_or micros place d).act ≡ Some port → port < 153
    → get_or used port false ≡ false → IsSeen micros (set used port true) (place + 1)
seen_more micros used place d all s low port number few unused = seen_with micros used place all s (get_or micros place d) (slice_get-get_or micros place d low) port number few unused

pub seen_same : (micros : List Micro) (used : List Bool) (place : ℕ) (d : Micro) → AreNumbered micros → IsSeen micros used place → place < length micros → port_number (get_or micros place d).act ≡ None → IsSeen micros used (place + 1)
seen_same micros used place d all s low none = seen_without micros used place all s (get_or micros place d) (slice_get-get_or micros place d low) none
