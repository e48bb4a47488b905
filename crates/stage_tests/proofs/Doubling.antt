-- What the instructions of the tests are to a stage.
use Rattle.std.proofs.Common.{◌≡◌, ℕ, ◌+◌, ◌<◌, ◌≤◌, ◌==◌, List, [], ◌∷◌, ◌++◌, length, Option, Some, None, refl, sym, ap, subst, ◌∙◌, arith, length-append}
use Rattle.std.specs.Prelude.{IfSome, find, slice_get}
use Rattle.std.specs.List.{AllByRecursion as Each}
use Rattle.std.proofs.lemmas.Option.{slice_get_within}
use Rattle.ap_desc.specs.Designs.{IsArg, width_at}
use Rattle.ap_desc.specs.declared.design.Arg.TheVariants as arg
use Rattle.ap_desc.specs.declared.design.Field.{Field}
use Rattle.ap_net.specs.declared.cell.Wire.{Wire}
use Rattle.ap_net.specs.Cells.{IsNet}
use Rattle.ap_net.specs.Draft.{Adds, Draft}
use Rattle.ap_net.proofs.Laws.{IsNet-Adds}
use Rattle.ap_stage.specs.declared.node.Course.{Course}
use Rattle.ap_stage.specs.declared.node.PortUse.{PortUse}
use Rattle.ap_stage.specs.declared.row.Line.{Line}
use Rattle.ap_stage.specs.declared.source.Ground.{Ground}
use Rattle.ap_stage.specs.declared.source.Scope.{Scope}
use Rattle.ap_stage.specs.declared.user.Handed.TheVariants as given
use Rattle.ap_stage.specs.Courses.{AreUses, CanServe, FitsUnit, IsCourse, IsUnserved, IsUse, use_of, users_of}
use Rattle.ap_stage.specs.Rows.{AreClosed, AreLines, AreMade, MakesNone}
use Rattle.ap_stage.specs.Sources.{IsGround, IsRow, LiesIn, bits_of, source_numbers}
use Rattle.ap_stage.specs.Trees.{IsShallow}
use Rattle.ap_stage.proofs.Shallow.{shallow_on}
use Rattle.ap_stage.proofs.Users.{users_both, users_one}
use Rattle.ap_stage.specs.Wiring.{IsWiring}
use Rattle.ap_stage.proofs.Wired.{none_over}
use Rattle.stage_tests.specs.Doubling.{HasWord, IsDoubling, IsWordGround, doubled}

pub word_on : (a b : Draft) (word : Wire) → Adds a b → HasWord a word → HasWord b word
word_on a b word m h = record { net = IsNet-Adds a b word m h.net; wide = h.wide; low = shallow_on a b 0 word.number m.extends h.low }

pub ground_there : (d : Draft) (word : Wire) (ground : Ground) → HasWord d word → IsWordGround word ground → IsGround d.nets ground
ground_there d word ground h is = record {
  word = subst (IsNet d.nets) (sym is.word_is) h.net;
  place = subst (IsNet d.nets) (sym is.place) h.net;
  link = subst (IsNet d.nets) (sym is.link) h.net;
  regs = subst (Each (IsNet d.nets)) (sym is.regs) tt;
  inputs = subst (Each (IsNet d.nets)) (sym is.inputs) tt;
}

none_there : (j : ℕ) (w : Wire) → slice_get (None ∷ []) j ≡ Some (Some w) → ⊥
none_there j w at = let low = slice_get_within (None ∷ []) j (Some w) at in first j (omega arith) at
  where
    first : (k : ℕ) → k ≡ 0 → slice_get (None ∷ []) k ≡ Some (Some w) → ⊥
    first k zero_is there = let here : Some None ≡ Some (Some w) = ap (slice_get (None ∷ [])) (sym zero_is) ∙ there in absurd cc

lone : (j k : ℕ) (one other : PortUse) → slice_get (doubled ∷ []) j ≡ Some one → slice_get (doubled ∷ []) k ≡ Some other → j ≡ k
lone j k one other p q = let low = slice_get_within (doubled ∷ []) j one p in let high = slice_get_within (doubled ∷ []) k other q in omega arith

no_lines : (ground : Ground) (scope : Scope) → AreLines ground scope []
no_lines ground scope = record { each = tt; apart = λ j k one other p q same. absurd cc; back = λ k j l later p q le. absurd cc }

sources_low : (d : Draft) (word : Wire) (ground : Ground) → HasWord d word → IsWordGround word ground → Each (IsShallow d 0) (source_numbers ground [])
sources_low d word ground h is = subst (λ (g : Ground). Each (IsShallow d 0) (source_numbers g [])) (sym same) (h.low, (h.low, (h.low, tt)))
  where
    plain : Ground
    plain = record { word = word; place = word; link = word; regs = []; inputs = [] }

    same : ground ≡ plain
    same = λ i. record { word = is.word_is i; place = is.place i; link = is.link i; regs = is.regs i; inputs = is.inputs i }

uses_are : (c : Course) (cond : Wire) → IsDoubling cond c → AreUses c
uses_are c cond h = record {
  each = subst (Each (IsUse c)) (sym h.uses) (
    record {
      args = (
        subst (λ (fs : List Field). IsArg (length c.scope.widths) fs (arg.Field 0)) (sym h.fields) (omega arith),
        (subst (λ (fs : List Field). IsArg (length c.scope.widths) fs (arg.Field 0)) (sym h.fields) (omega arith), tt),
      );
      local = subst (λ (ws : List ℕ). 0 < length ws) (sym h.widths) (omega arith);
      apart = subst (λ (ls : List Line). MakesNone ls 0) (sym h.lines) (λ k l at. absurd cc);
    },
    tt,
  );
  apart = λ j k one other p q same. lone j k one other (sym (ap (λ us. slice_get us j) h.uses) ∙ p) (sym (ap (λ us. slice_get us k) h.uses) ∙ q);
}

pub doubling_course : (d : Draft) (word cond : Wire) (ground : Ground) (c : Course) → HasWord d word → IsWordGround word ground → IsNet d.nets cond → cond.width ≡ 1 → IsDoubling cond c → IsCourse d ground c
doubling_course d word cond ground c w is net one h = record {
  cond = subst (IsNet d.nets) (sym h.cond_is) net;
  one_bit = ap (λ (x : Wire). x.width) h.cond_is ∙ one;
  fields = subst (Each (LiesIn ground.word.width)) (sym h.fields) (record { some = omega arith; within = subst (λ n. 8 ≤ n) (sym (ap (λ (x : Wire). x.width) is.word_is ∙ w.wide)) (omega arith) }, tt);
  row = subst (IsRow d.nets c.scope) (sym h.row) (record { long = sym (ap length h.widths); nets_are = λ j x at. absurd (none_there j x at); wide = λ j x at. absurd (none_there j x at) });
  lines = subst (AreLines ground c.scope) (sym h.lines) (no_lines ground c.scope);
  uses = uses_are c cond h;
  made = subst (AreMade d ground c.scope c.row.items) (sym h.lines) (λ k l x there has. absurd cc);
  closed = subst (λ (ls : List Line). AreClosed c.row.items ls (length ls)) (sym h.lines) (λ k l low there wired. absurd (omega arith));
  low = subst (λ (row : List (Option Wire)). Each (IsShallow d 0) (source_numbers ground row)) (sym h.row) (sources_low d word ground w is);
}

used_there : (cond : Wire) (c : Course) → IsDoubling cond c → use_of 0 c ≡ Some doubled
used_there cond c h = ap (find (λ (u : PortUse). u.port == 0)) h.uses

pub doubling_unserved : (cond : Wire) (c : Course) → IsDoubling cond c → IsUnserved 0 c
doubling_unserved cond c h = subst (λ (o : Option PortUse). IfSome o (λ u. slice_get c.row.items u.local ≡ Some None)) (sym (used_there cond c h)) (ap (λ (row : List (Option Wire)). slice_get row 0) h.row)

doubling_users : (cond : Wire) (c : Course) → IsDoubling cond c → users_of 0 (c ∷ []) ≡ (c, doubled) ∷ []
doubling_users cond c h = users_one 0 c doubled (used_there cond c h)

pub doubling_fits : (cond : Wire) (ground : Ground) (c : Course) → IsDoubling cond c → Each (FitsUnit ground 4 8) (users_of 0 (c ∷ []))
doubling_fits cond ground c h =
    let bits : bits_of ground c.scope (arg.Field 0) ≡ 8 = ap (λ (fs : List Field). width_at (λ (f : Field). f.width) fs 0) h.fields in
    subst (Each (FitsUnit ground 4 8)) (sym (doubling_users cond c h)) (
      record {
        op = record { given = given.Number 0; is = refl; fits = (omega arith, omega arith, omega arith) };
        first = record { given = given.Operand (arg.Field 0); is = refl; fits = bits };
        second = record { given = given.Operand (arg.Field 0); is = refl; fits = bits };
        result = ap (λ (ws : List ℕ). width_at (λ (w : ℕ). w) ws 0) h.widths;
      },
      tt,
    )

pub one_more : (cond : Wire) (courses : List Course) (c : Course) (n : ℕ) → IsDoubling cond c → length (users_of 0 courses) ≡ n → length (users_of 0 (courses ++ c ∷ [])) ≡ n + 1
one_more cond courses c n h count =
    ap length (users_both 0 courses (c ∷ [])) ∙ length-append (users_of 0 courses) (users_of 0 (c ∷ [])) ∙ (λ i. count i + length (doubling_users cond c h i))

-- a constant of 8 bits
pub word_there : (a b : Draft) (word : Wire) → IsNet b.nets word → word.width ≡ 8 → IsWiring [] a b word → HasWord b word
word_there a b word net wide h = record { net = net; wide = wide; low = none_over b 0 word.number (h.shallow 0 tt) }

pub doubling_can : (cond : Wire) (c : Course) → IsDoubling cond c → CanServe (users_of 0 (c ∷ []))
doubling_can cond c h = subst CanServe (sym (doubling_users cond c h)) ((tt, (tt, tt)), tt)
