-- A stage in which an operand of a line is the address after the word's slots.
use Rattle.std.proofs.Common.{◌≡◌, ℕ, zero, suc, ◌==◌, Bool, true, false, ◌&&◌, ◌||◌, List, [], ◌∷◌, Some, refl, ap, ◌∙◌}
use Rattle.std.specs.Prelude.{slice_get}
use Rattle.std.specs.List.{list_any}
use Rattle.std.proofs.lemmas.Bool.{eq-eqb}
use Rattle.std.proofs.lemmas.Option.{same_Some}
use Rattle.ap_desc.specs.Chains.{operands_of}
use Rattle.ap_desc.specs.declared.design.Arg.TheVariants as arg
use Rattle.ap_desc.specs.declared.design.Design.{Design}
use Rattle.ap_desc.specs.declared.design.Instr.{Instr}
use Rattle.ap_desc.specs.declared.design.Micro.{Micro}
use Rattle.ap_course.specs.Links.{instr_links, is_link, line_links, links}

pub any_at : {X : Type 0} (p : X → Bool) (xs : List X) (i : ℕ) (x : X) → slice_get xs i ≡ Some x → p x ≡ true → list_any p xs ≡ true
any_at p [] i x at is = absurd cc
any_at p (y ∷ xs) zero x at is = ap (λ b. b || list_any p xs) (ap p (same_Some y x at) ∙ is)
any_at p (y ∷ xs) (suc i) x at is = go (p y) (any_at p xs i x at is)
  where
    go : (b : Bool) → list_any p xs ≡ true → (b || list_any p xs) ≡ true
    go true later = refl
    go false later = later

both_on : (a b : Bool) → a ≡ true → b ≡ true → (a && b) ≡ true
both_on a b one other = ap (λ x. x && b) one ∙ other

pub links_there : (design : Design) (stage k i j : ℕ) (instr : Instr) (m : Micro) → slice_get design.instrs k ≡ Some instr → slice_get instr.micros i ≡ Some m → m.stage ≡ stage → slice_get (operands_of m.act) j ≡ Some arg.Link → links design stage ≡ true
links_there design stage k i j instr m at line here operand =
    let names : line_links m.act ≡ true = any_at is_link (operands_of m.act) j arg.Link operand refl in
    any_at (instr_links stage) design.instrs k instr at
    (any_at (λ (x : Micro). (x.stage == stage) && line_links x.act) instr.micros i m line (both_on (m.stage == stage) (line_links m.act) (eq-eqb m.stage stage here) names))
