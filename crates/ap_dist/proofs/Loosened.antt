-- Where any two indices may be equal, no gap is less.
use Rattle.std.proofs.Common.{◌≡◌, ℕ, ◌≤◌, true, false, cond, Bool, Option, Some, None, refl, ap, ◌∙◌, arith}
use Rattle.std.specs.Prelude.{◌==◌, not, slice_get, option_and_then}
use Rattle.std.proofs.lemmas.Bool.{and_from, and_parts}
use Rattle.std.proofs.lemmas.Option.{same_Some}
use Rattle.ap_desc.specs.declared.design.Design.{Design}
use Rattle.ap_desc.specs.declared.design.Instr.{Instr}
use Rattle.ap_desc.specs.declared.design.Arg.{Arg}
use Rattle.ap_desc.specs.declared.design.Act.{Act}
use Rattle.ap_desc.specs.declared.design.Act.TheVariants as act
use Rattle.ap_dist.specs.Accesses.{access_by, access_of, accesses, index_of}
use Rattle.ap_dist.specs.Distances.{are_apart, do_conflict, do_meet, gap, gap_between, greatest, places_between}
use Rattle.ap_dist.specs.declared.access.Access.{Access}
use Rattle.ap_dist.specs.declared.access.Part.{Part}
use Rattle.ap_dist.specs.declared.access.Part.TheVariants as part
use Rattle.ap_dist.proofs.Gaps.{line_of}
use Rattle.ap_dist.proofs.Greatest.{at_least_first, listed_at, most_within, within_most}

-- the access of any cell of its file
abbrev pub loose_part : Part → Part
loose_part (part.Register reg) = part.Register reg
loose_part (part.Cell file index) = part.Cell file None
loose_part (part.Memory mem) = part.Memory mem

abbrev pub loose : Access → Access
loose a = record { part = loose_part a.part; writes = a.writes; stage = a.stage }

loose_by : (index other : Arg → Option ℕ) (none : (x : Arg) → other x ≡ None) (stage : ℕ) (a : Act) (access : Access) → access_by index stage a ≡ Some access → access_by other stage a ≡ Some (loose access)
loose_by index other none stage (act.ReadReg reg) access e = ap (λ (x : Access). Some (loose x)) (same_Some _ access e)
loose_by index other none stage (act.ReadFile file port i) access e = ap (λ o. Some (record { part = part.Cell file o; writes = false; stage = stage })) (none i) ∙ ap (λ (x : Access). Some (loose x)) (same_Some _ access e)
loose_by index other none stage (act.ReadMem mem at) access e = ap (λ (x : Access). Some (loose x)) (same_Some _ access e)
loose_by index other none stage (act.WriteReg reg value guard) access e = ap (λ (x : Access). Some (loose x)) (same_Some _ access e)
loose_by index other none stage (act.WriteFile file port i value guard) access e = ap (λ o. Some (record { part = part.Cell file o; writes = true; stage = stage })) (none i) ∙ ap (λ (x : Access). Some (loose x)) (same_Some _ access e)
loose_by index other none stage (act.WriteMem mem at value guard) access e = ap (λ (x : Access). Some (loose x)) (same_Some _ access e)
loose_by index other none stage _ access e = absurd cc

no_index : (design : Design) (instr : Instr) (x : Arg) → index_of design instr None x ≡ None
no_index design instr x = refl

meet_loose : (a b : Part) → do_meet a b ≡ true → do_meet (loose_part a) (loose_part b) ≡ true
meet_loose (part.Register a) (part.Register b) e = e
meet_loose (part.Cell a i) (part.Cell b j) e = and_from (a == b) (not (are_apart None None)) (and_parts (a == b) (not (are_apart i j)) e).0 refl
meet_loose (part.Memory a) (part.Memory b) e = e
meet_loose (part.Register a) (part.Cell b j) e = absurd cc
meet_loose (part.Register a) (part.Memory b) e = absurd cc
meet_loose (part.Cell a i) (part.Register b) e = absurd cc
meet_loose (part.Cell a i) (part.Memory b) e = absurd cc
meet_loose (part.Memory a) (part.Register b) e = absurd cc
meet_loose (part.Memory a) (part.Cell b j) e = absurd cc

more_conflict : (one other : Bool) (places : ℕ) → (one ≡ true → other ≡ true) → cond one places 0 ≤ cond other places 0
more_conflict true other places up = rw (up refl) (omega arith)
more_conflict false other places up = omega arith

gap_loose : (a b : Access) → gap a b ≤ gap (loose a) (loose b)
gap_loose a b = more_conflict (do_conflict a b) (do_conflict (loose a) (loose b)) (places_between a b) (meet_loose a.part b.part)

-- the loose access stands among the loose ones
loose_in : (design : Design) (instr : Instr) (word : Option ℕ) (i : ℕ) (a : Access) → slice_get (accesses design instr word) i ≡ Some a → (j : ℕ) × (slice_get (accesses design instr None) j ≡ Some (loose a))
loose_in design instr word i a at =
    let l = line_of design instr word i a at in
    let is : access_of design instr None l.micro ≡ Some (loose a) = loose_by (index_of design instr word) (index_of design instr None) (no_index design instr) l.micro.stage l.micro.act a l.is_access in
    let there = listed_at (access_of design instr None) instr.micros l.line (loose a) (ap (option_and_then (access_of design instr None)) l.is_there ∙ is) in
    (there.place, there.is)

pub between_loose : (design : Design) (one two : Instr) (word next : Option ℕ) → gap_between (accesses design one word) (accesses design two next) ≤ gap_between (accesses design one None) (accesses design two None)
between_loose design one two word next =
    let most = gap_between (accesses design one None) (accesses design two None) in
    most_within (λ a. greatest (gap a) (accesses design two next)) 1 (gap_between (accesses design one None) (accesses design two None)) (accesses design one word)
    (at_least_first (λ a. greatest (gap a) (accesses design two None)) 1 (accesses design one None))
    (λ i a at.
    let x = loose_in design one word i a at in
    let outer : greatest (gap (loose a)) (accesses design two None) ≤ gap_between (accesses design one None) (accesses design two None) = within_most (λ z. greatest (gap z) (accesses design two None)) 1 (accesses design one None) x.0 (loose a) x.1 in
    let inner : greatest (gap a) (accesses design two next) ≤ greatest (gap (loose a)) (accesses design two None) =
    most_within (gap a) 1 (greatest (gap (loose a)) (accesses design two None)) (accesses design two next) (at_least_first (gap (loose a)) 1 (accesses design two None)) (λ j b again.
    let y = loose_in design two next j b again in
    let least : gap a b ≤ gap (loose a) (loose b) = gap_loose a b in
    let among : gap (loose a) (loose b) ≤ greatest (gap (loose a)) (accesses design two None) = within_most (gap (loose a)) 1 (accesses design two None) y.0 (loose b) y.1 in
    omega arith) in
    omega arith)
