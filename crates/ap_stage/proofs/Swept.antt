-- Rows that are gone through line by line.
use Rattle.std.proofs.Common.{◌≡◌, ◌≢◌, ℕ, ◌+◌, ◌≤◌, List, length, Option, None, Some, inl, inr, sym, ap, subst, ◌∙◌, arith, ⊎_elim}
use Rattle.std.specs.Prelude.{◌⊎◌, slice_get, slice_set}
use Rattle.std.specs.List.{AllByRecursion as Each}
use Rattle.std.proofs.lemmas.Bool.{cases_eq}
use Rattle.std.proofs.lemmas.Option.{same_Some}
use Rattle.ap_desc.specs.Chains.{operands_of}
use Rattle.ap_desc.specs.declared.design.Act.{Act}
use Rattle.ap_desc.specs.declared.design.Act.TheVariants as act
use Rattle.ap_desc.specs.declared.design.Arg.{Arg}
use Rattle.ap_desc.specs.declared.design.Arg.TheVariants as arg
use Rattle.ap_net.specs.declared.cell.Wire.{Wire}
use Rattle.ap_net.specs.Draft.{Draft}
use Rattle.ap_net.specs.Making.{Makes}
use Rattle.ap_stage.specs.declared.row.Line.{Line}
use Rattle.ap_stage.specs.declared.source.Ground.{Ground}
use Rattle.ap_stage.specs.declared.source.Scope.{Scope}
use Rattle.ap_stage.specs.Rows.{AreClosed, AreLines, AreMade, Fills, IsMade, IsOther, Keeps, MakesNone}
use Rattle.ap_stage.specs.Sources.{HasNet, IsWired}
use Rattle.ap_stage.proofs.Filled.{set_keeps, set_other}
use Rattle.ap_stage.proofs.Grown.{has_kept, made_kept, made_on}

pub keeps_trans : (a b c : List (Option Wire)) → Keeps a b → Keeps b c → Keeps a c
keeps_trans a b c p q = record { long = q.long ∙ p.long; kept = λ j w at. q.kept j w (p.kept j w at) }

-- where only this local got a net
abbrev OthersStay : List (Option Wire) → List (Option Wire) → ℕ → Type 0
OthersStay old new n = (j : ℕ) → j ≢ n → slice_get new j ≡ slice_get old j

has_back : (old new : List (Option Wire)) (n : ℕ) → OthersStay old new n → (a : Arg) → IsOther n a → HasNet new a → HasNet old a
has_back old new n stay (arg.Local i) other h = (h.0, sym (stay i other) ∙ h.1)
has_back old new n stay (arg.Field i) other h = tt
has_back old new n stay arg.Pc other h = tt
has_back old new n stay arg.Link other h = tt

wired_back : (old new : List (Option Wire)) (n : ℕ) → OthersStay old new n → (a : Act) → Each (IsOther n) (operands_of a) → IsWired new a → IsWired old a
wired_back old new n stay (act.ReadReg reg) other h = tt
wired_back old new n stay (act.ReadIn input) other h = tt
wired_back old new n stay (act.Const width value) other h = tt
wired_back old new n stay (act.Zext width a) other h = has_back old new n stay a other.0 h
wired_back old new n stay (act.Sext width a) other h = has_back old new n stay a other.0 h
wired_back old new n stay (act.Slice high low a) other h = has_back old new n stay a other.0 h
wired_back old new n stay (act.Cat a b) other h = (has_back old new n stay a other.0 h.0, has_back old new n stay b other.1.0 h.1)
wired_back old new n stay _ other h = absurd h

-- one more line
pub closed_more : (d : Draft) (ground : Ground) (scope : Scope) (lines : List Line) (old new : List (Option Wire)) (i : ℕ) (l : Line) → AreLines ground scope lines → slice_get lines i ≡ Some l → Fills d ground scope old new l → AreClosed old lines i → AreClosed new lines (i + 1)
closed_more d ground scope lines old new i l are at fills closed k m low there wired = go (cases_eq k i)
  where
    before : k ≤ i → IsWired old m.act
    before le = wired_back old new l.local fills.others m.act (are.back k i m l there at le) wired

    go : (k ≡ i) ⊎ (k ≢ i) → HasNet new (arg.Local m.local)
    go (inl e) =
        let same : l ≡ m = same_Some l m (sym at ∙ ap (slice_get lines) (sym e) ∙ there) in
        subst (λ (x : Line). HasNet new (arg.Local x.local)) same (fills.found (subst (λ (x : Line). IsWired old x.act) (sym same) (before (omega arith))))
    go (inr ne) = has_kept old new fills.keeps (arg.Local m.local) (closed k m (omega arith) there (before (omega arith)))

pub made_more : (a b : Draft) (ground : Ground) (scope : Scope) (lines : List Line) (old new : List (Option Wire)) (i : ℕ) (l : Line) → Makes a b → AreLines ground scope lines → slice_get lines i ≡ Some l → Fills b ground scope old new l
    → AreMade a ground scope old lines → AreMade b ground scope new lines
made_more a b ground scope lines old new i l makes are at fills made k m w there has = go (cases_eq k i)
  where
    kept : slice_get old m.local ≡ Some (Some w) → IsMade b ground scope new m w
    kept had = made_kept b ground scope old new m w fills.keeps (made_on a b ground scope old m w makes.adds.extends (made k m w there had))

    go : (k ≡ i) ⊎ (k ≢ i) → IsMade b ground scope new m w
    go (inl e) =
        let same : l ≡ m = same_Some l m (sym at ∙ ap (slice_get lines) (sym e) ∙ there) in
        let here : slice_get new l.local ≡ Some (Some w) = subst (λ (x : Line). slice_get new x.local ≡ Some (Some w)) (sym same) has in
        ⊎_elim (λ had. kept (subst (λ (x : Line). slice_get old x.local ≡ Some (Some w)) same had)) (λ is. subst (λ (x : Line). IsMade b ground scope new x w) same is) (fills.made w here)
    go (inr ne) = kept (sym (fills.others m.local (λ e. ne (are.apart k i m l there at e))) ∙ has)

-- all lines
pub closed_all : (row : List (Option Wire)) (lines : List Line) (i : ℕ) → length lines ≤ i → AreClosed row lines i → AreClosed row lines (length lines)
closed_all row lines i le h k l low there = h k l (omega arith) there

-- a net for a local that no line makes
pub made_set : (d : Draft) (ground : Ground) (scope : Scope) (row : List (Option Wire)) (lines : List Line) (i : ℕ) (w : Wire) → slice_get row i ≡ Some None → MakesNone lines i → AreMade d ground scope row lines → AreMade d ground scope (slice_set row i (Some w)) lines
made_set d ground scope row lines i w none apart made k l x there has =
    made_kept d ground scope row (slice_set row i (Some w)) l x (set_keeps row i w none) (made k l x there (sym (set_other row i l.local (Some w) (λ e. apart k l there (sym e))) ∙ has))
