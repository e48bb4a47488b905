-- The transfer of a stage is that of its one transfer line.
use Rattle.std.proofs.Common.{◌≡◌, ℕ, ◌≤◌, ◌==◌, Bool, true, false, if◌then◌else◌, List, [], ◌∷◌, length, filter, filter_map, find, slice_get, option_and_then, Option, Some, None, refl, ap, sym, ◌∙◌, arith}
use Rattle.std.specs.List.{cons_option}
use Rattle.ap_desc.specs.Ports.{is_transfer}
use Rattle.ap_desc.specs.declared.design.Act.{Act}
use Rattle.ap_desc.specs.declared.design.Act.TheVariants as act
use Rattle.ap_desc.specs.declared.design.Arg.{Arg}
use Rattle.ap_desc.specs.declared.design.Design.{Design}
use Rattle.ap_desc.specs.declared.design.Instr.{Instr}
use Rattle.ap_desc.specs.declared.design.Micro.{Micro}
use Rattle.ap_desc.specs.Clean.{IsClean}
use Rattle.ap_model.specs.Fire.{instr_of, is_match, lines_in, target_of}
use Rattle.ap_model.specs.PortForms.{TargetsByLine}
use Rattle.ap_model.proofs.ListLemmas.{filter_swap, found_keeps, no_longer}
use Rattle.ap_model.proofs.WritesApart.{writes_apart}

no_target : (value : Arg → ℕ) (a : Act) → is_transfer a ≡ false → target_of value a ≡ None
no_target value (act.Branch c t) e = cc
no_target value (act.Jump t) e = cc
no_target value _ e = refl

module _ (t : Micro → Bool) (f : Micro → Option ℕ) (none : (m : Micro) → t m ≡ false → f m ≡ None) where
  nothing : (micros : List Micro) → length (filter t micros) ≤ 0 → filter_map f micros ≡ []
  nothing [] h = refl
  nothing (m ∷ micros) h = go (t m) refl h (nothing micros)
    where
      go : (b : Bool) → t m ≡ b → length (if b then m ∷ filter t micros else filter t micros) ≤ 0 → (length (filter t micros) ≤ 0 → filter_map f micros ≡ []) → cons_option (f m) (filter_map f micros) ≡ []
      go true e h rest = let never : ⊥ = omega (arith, h) in absurd never
      go false e h rest = ap (λ o. cons_option o (filter_map f micros)) (none m e) ∙ rest h

  first_is_one : (micros : List Micro) → length (filter t micros) ≤ 1 → slice_get (filter_map f micros) 0 ≡ option_and_then f (find t micros)
  first_is_one [] h = refl
  first_is_one (m ∷ micros) h = go (t m) refl (f m) refl h (first_is_one micros) (nothing micros)
    where
      go : (b : Bool) → t m ≡ b → (o : Option ℕ) → f m ≡ o → length (if b then m ∷ filter t micros else filter t micros) ≤ 1 → (length (filter t micros) ≤ 1 → slice_get (filter_map f micros) 0 ≡ option_and_then f (find t micros))
          → (length (filter t micros) ≤ 0 → filter_map f micros ≡ []) → slice_get (cons_option o (filter_map f micros)) 0 ≡ option_and_then f (if b then Some m else find t micros)
      go true e (Some v) p h rest alone = sym p
      go true e None p h rest alone = ap (λ l. slice_get l 0) (alone (omega (arith, h))) ∙ sym p
      go false e (Some v) p h rest alone = let never : None ≡ Some v = sym (none m e) ∙ p in absurd cc
      go false e None p h rest alone = rest h

pub targets_by_line : (design : Design) → IsClean design → TargetsByLine design
unfolding instr_of
targets_by_line design clean value stage word instr at =
    let apart = writes_apart design clean in
    let once = found_keeps (λ (i : Instr). length (filter (λ (m : Micro). is_transfer m.act) i.micros) ≤ 1) (is_match word) design.instrs instr at apart.one_transfer in
    let swapped = ap length (filter_swap (λ (m : Micro). is_transfer m.act) (λ (m : Micro). m.stage == stage) instr.micros) in
    let fewer = no_longer (λ (m : Micro). m.stage == stage) (filter (λ (m : Micro). is_transfer m.act) instr.micros) in
    first_is_one (λ (m : Micro). is_transfer m.act) (λ (m : Micro). target_of value m.act) (λ m e. no_target value m.act e) (lines_in stage instr) (omega (arith, once, swapped, fewer))
