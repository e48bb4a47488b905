-- The stage whose lines write through a port has such lines, and few.
use Rattle.std.proofs.Common.{◌≡◌, ◌≢◌, ℕ, zero, suc, ◌+◌, ◌-◌, ◌<◌, ◌≤◌, ◌==◌, ◌&&◌, ◌||◌, Bool, true, false, if◌then◌else◌, List, [], ◌∷◌, ◌++◌, flat_map, length, filter_map, Option, Some, None, refl, inl, inr, sym, ap, subst, ◌∙◌, arith}
use Rattle.std.specs.Prelude.{◌⊎◌, find, nat_le, not, option_and_then}
use Rattle.std.specs.List.{cons_option, enumerate_from, list_all, list_any}
use Rattle.std.proofs.lemmas.Bool.{and_parts, cases_lt, leb-true}
use Rattle.ap_desc.specs.Clean.{IsClean}
use Rattle.ap_desc.specs.Designs.{is_instr_within, is_mem_within}
use Rattle.ap_desc.specs.Limits.{max_address_bits, min_address_bits}
use Rattle.ap_desc.specs.Ports.{is_transfer, micros_in}
use Rattle.ap_desc.specs.declared.design.Act.{Act}
use Rattle.ap_desc.specs.declared.design.Act.TheVariants as act
use Rattle.ap_desc.specs.declared.design.Design.{Design}
use Rattle.ap_desc.specs.declared.design.Instr.{Instr}
use Rattle.ap_desc.specs.declared.design.Micro.{Micro}
use Rattle.ap_model.specs.declared.storage.WritePort.{WritePort}
use Rattle.ap_model.specs.Ports.{is_used, is_used_in, writes_in, writes_through}
use Rattle.ap_model.proofs.ListLemmas.{fewer}
use Rattle.ap_model.proofs.WritesApart.{writes_apart}
use Rattle.ap_effect.specs.declared.line.PortLine.{PortLine}
use Rattle.ap_effect.specs.Lines.{handed_by, is_line_of, line_of, transfer_lines, write_lines}
use Rattle.ap_act.specs.Outputs.{IsStageOf, StageWrites}

abbrev is_there : {X : Type 0} → Option X → Bool
is_there None = false
is_there (Some x) = true

handed : (p : WritePort) (n : ℕ) (a : Act) → writes_through p a ≡ true → is_there (handed_by n a) ≡ true
handed p n (act.WriteFile file number index v guard) e = refl
handed p n (act.WriteReg reg v guard) e = refl
handed p n (act.WriteMem mem at v guard) e = refl
handed p n (act.Branch cond target) e = refl
handed p n (act.Jump target) e = refl
handed p n _ e = cc

any_line : (p : WritePort) (stage n : ℕ) (micros : List Micro) → list_any (writes_in stage p) micros ≡ is_there (option_and_then (λ (m : Micro). handed_by n m.act) (find (is_line_of (writes_through p) stage) micros))
any_line p stage n [] = refl
any_line p stage n (m ∷ micros) = go ((m.stage == stage) && writes_through p m.act) refl (any_line p stage n micros)
  where
    go : (b : Bool) → ((m.stage == stage) && writes_through p m.act) ≡ b → list_any (writes_in stage p) micros ≡ is_there (option_and_then (λ (x : Micro). handed_by n x.act) (find (is_line_of (writes_through p) stage) micros))
        → (b || list_any (writes_in stage p) micros) ≡ is_there (option_and_then (λ (x : Micro). handed_by n x.act) (if b then Some m else find (is_line_of (writes_through p) stage) micros))
    go true e rest = sym (handed p n m.act (and_parts (m.stage == stage) (writes_through p m.act) e).1)
    go false e rest = rest

any_append : {X : Type 0} (t : X → Bool) (xs ys : List X) → list_any t (xs ++ ys) ≡ (list_any t xs || list_any t ys)
any_append t [] ys = refl
any_append t (x ∷ xs) ys = go (t x) (any_append t xs ys)
  where
    go : (b : Bool) → list_any t (xs ++ ys) ≡ (list_any t xs || list_any t ys) → (b || list_any t (xs ++ ys)) ≡ ((b || list_any t xs) || list_any t ys)
    go true e = refl
    go false e = e

none_more : {X : Type 0} (o : Option X) (xs : List X) → (is_there o || not (length xs == 0)) ≡ not (length (cons_option o xs) == 0)
none_more None xs = refl
none_more (Some x) xs = go (length xs)
  where
    go : (n : ℕ) → true ≡ not (suc n == 0)
    go n = grind arith

any_lines : (p : WritePort) (stage n : ℕ) (instrs : List Instr) → list_any (writes_in stage p) (flat_map (λ (i : Instr). i.micros) instrs) ≡ not (length (filter_map (line_of (writes_through p) stage) (enumerate_from n instrs)) == 0)
any_lines p stage n [] = refl
any_lines p stage n (i ∷ instrs) =
    any_append (writes_in stage p) i.micros (flat_map (λ (i : Instr). i.micros) instrs)
    ∙ (λ k. any_line p stage n i.micros k || any_lines p stage (n + 1) instrs k)
    ∙ none_more (line_of (writes_through p) stage (n, i)) (filter_map (line_of (writes_through p) stage) (enumerate_from (n + 1) instrs))

-- lines write through the port exactly where there are some
pub used_lines : (design : Design) (stage : ℕ) (p : WritePort) → is_used_in design stage p ≡ not (length (write_lines design stage p) == 0)
used_lines design stage p = any_lines p stage 0 design.instrs

pub some_lines : (design : Design) (stage : ℕ) (p : WritePort) → is_used_in design stage p ≡ true → 1 ≤ length (write_lines design stage p)
some_lines design stage p used = go (length (write_lines design stage p)) (sym (used_lines design stage p) ∙ used)
  where
    go : (n : ℕ) → not (n == 0) ≡ true → 1 ≤ n
    go zero e = cc
    go (suc n) e = omega arith

-- They are as few as the instructions.
few_maps : {X Y : Type 0} (f : X → Option Y) (xs : List X) → length (filter_map f xs) ≤ length xs
few_maps f [] = omega arith
few_maps {X} {Y} f (x ∷ xs) = go (f x) (few_maps f xs)
  where
    go : (o : Option Y) → length (filter_map f xs) ≤ length xs → length (cons_option o (filter_map f xs)) ≤ suc (length xs)
    go None h = omega arith
    go (Some y) h = omega arith

enumerate_long : {X : Type 0} (n : ℕ) (xs : List X) → length (enumerate_from n xs) ≡ length xs
enumerate_long n [] = refl
enumerate_long n (x ∷ xs) = ap suc (enumerate_long (n + 1) xs)

pub few_writes : (design : Design) (stage : ℕ) (p : WritePort) → length (write_lines design stage p) ≤ length design.instrs
few_writes design stage p = let h = few_maps (line_of (writes_through p) stage) (enumerate_from 0 design.instrs) in let e = enumerate_long 0 design.instrs in omega arith

pub few_transfers : (design : Design) (stage : ℕ) → length (transfer_lines design stage) ≤ length design.instrs
few_transfers design stage = let h = few_maps (line_of is_transfer stage) (enumerate_from 0 design.instrs) in let e = enumerate_long 0 design.instrs in omega arith

-- The stage.

pub used_somewhere : (design : Design) (stage : ℕ) (p : WritePort) → is_used_in design stage p ≡ true → is_used design p ≡ true
used_somewhere design stage p on = go (is_used design p) refl
  where
    go : (b : Bool) → is_used design p ≡ b → is_used design p ≡ true
    go true e = e
    go false e = let clash : true ≡ false = sym on ∙ fewer (λ (m : Micro). m.stage == stage) (λ (m : Micro). writes_through p m.act) (micros_in design) e in cc

pub stage_found : (design : Design) (p : WritePort) (stage : ℕ) → StageWrites design p stage → IsStageOf design p stage
stage_found design p zero h = let low = h.low in absurd (omega (arith, low))
stage_found design p (suc s) h = h

pub no_stage : (design : Design) (p : WritePort) → IsClean design → ((other : ℕ) → 1 ≤ other → other ≤ design.stages - 1 → is_used_in design other p ≡ false) → is_used design p ≡ false
no_stage design p clean none = go (is_used design p) refl
  where
    go : (b : Bool) → is_used design p ≡ b → is_used design p ≡ false
    go false e = e
    go true e =
        let at = (writes_apart design clean).some_stage p e in
        let clash : true ≡ false = sym at.3 ∙ none at.0 at.1 at.2 in
        cc

-- a port through which some line writes has its stage
pub stage_of_used : (design : Design) (p : WritePort) (stage : ℕ) → IsStageOf design p stage → is_used design p ≡ true → StageWrites design p stage
stage_of_used design p zero h used = let clash : true ≡ false = sym used ∙ h in cc
stage_of_used design p (suc s) h used = h

pub lines_use : (design : Design) (stage : ℕ) (p : WritePort) (lines : List PortLine) (b : Bool) → lines ≡ write_lines design stage p → (length lines == 0) ≡ b → is_used_in design stage p ≡ not b
lines_use design stage p lines b is e = used_lines design stage p ∙ ap (λ (l : List PortLine). not (length l == 0)) (sym is) ∙ ap not e

pub stage_more : (design : Design) (p : WritePort) (stage : ℕ) → ((other : ℕ) → 1 ≤ other → other < stage → is_used_in design other p ≡ false) → is_used_in design stage p ≡ false → (other : ℕ) → 1 ≤ other → other < stage + 1 → is_used_in design other p ≡ false
stage_more design p stage before here other low high = go (cases_lt other stage)
  where
    go : (other < stage) ⊎ (stage ≤ other) → is_used_in design other p ≡ false
    go (inl lt) = before other low lt
    go (inr le) = let same : stage ≡ other = omega arith in subst (λ k. is_used_in design k p ≡ false) same here

-- Limits of a clean design.

pub instrs_few : (design : Design) → IsClean design → length design.instrs ≤ 256
instrs_few design clean = leb-true (length design.instrs) 256 (and_parts (nat_le (length design.instrs) 256) (list_all (is_instr_within design.stages) design.instrs) clean.sound.within.instrs).0

pub mems_few : (design : Design) → IsClean design → length design.mems ≤ 4
mems_few design clean = leb-true (length design.mems) 4 (and_parts (nat_le (length design.mems) 4) (list_all is_mem_within design.mems) clean.sound.within.mems).0

pub branch_within : (design : Design) → IsClean design → (1 ≤ design.branch) × (design.branch ≤ design.stages - 1)
branch_within design clean =
    let parts = and_parts (nat_le 1 design.branch) (nat_le design.branch (design.stages - 1)) clean.sound.within.branch in
    (leb-true 1 design.branch parts.0, leb-true design.branch (design.stages - 1) parts.1)

pub address_within : (design : Design) → IsClean design → (1 ≤ design.address) × (design.address ≤ 64)
address_within design clean =
    let parts = and_parts (nat_le min_address_bits design.address) (nat_le design.address max_address_bits) clean.sound.within.address in
    let low : min_address_bits ≤ design.address = leb-true min_address_bits design.address parts.0 in
    let high : design.address ≤ max_address_bits = leb-true design.address max_address_bits parts.1 in
    (omega (arith, low), omega (arith, high))

pub unused_at : (design : Design) (p : WritePort) (stage : ℕ) → IsStageOf design p stage → stage ≡ 0 → is_used design p ≡ false
unused_at design p zero h e = h
unused_at design p (suc s) h e = absurd (omega (arith, e))

pub used_at : (design : Design) (p : WritePort) (stage : ℕ) → IsStageOf design p stage → stage ≢ 0 → is_used design p ≡ true
used_at design p zero h e = absurd (e refl)
used_at design p (suc s) h e = used_somewhere design (suc s) p h.used
