-- The nets of what lines give.
use Rattle.std.proofs.Common.{◌≡◌, ℕ, ◌+◌, ◌-◌, ◌*◌, ◌/◌, ◌%◌, ◌^◌, List, [], ◌∷◌, Option, Some, None, inl, inr, refl, sym, ap, subst, ◌∙◌}
use Rattle.std.specs.Prelude.{◌↔◌, IfNone, IsSome, option_map, slice_get}
use Rattle.std.specs.List.{AllByRecursion as Each}
use Rattle.std.specs.Option.{option_map_or}
use Rattle.std.proofs.lemmas.Bool.{false≢true}
use Rattle.ap_bits.specs.Operations.{sign_extended}
use Rattle.ap_desc.specs.declared.design.Act.{Act}
use Rattle.ap_desc.specs.declared.design.Act.TheVariants as act
use Rattle.ap_desc.specs.declared.design.Arg.{Arg}
use Rattle.ap_net.specs.declared.cell.Wire.{Wire}
use Rattle.ap_net.specs.Cells.{IsNet}
use Rattle.ap_net.specs.Draft.{Adds, Draft}
use Rattle.ap_net.specs.Making.{Makes}
use Rattle.ap_net.specs.Readings.{Carries}
use Rattle.ap_net.proofs.Laws.{Carries-Makes, IsNet-Adds, IsNet-Makes, Makes-refl, Reads-refl}
use Rattle.ap_stage.specs.declared.source.Ground.{Ground}
use Rattle.ap_stage.specs.declared.source.Scope.{Scope}
use Rattle.ap_stage.specs.Sources.{IsGround, IsLineNet, IsOperandNet, IsRow, IsWired, source_numbers, value_of}
use Rattle.ap_stage.specs.Wiring.{IsWiring, ReadsOnly}
use Rattle.ap_stage.proofs.Sourced.{among_inputs, among_regs}
use Rattle.ap_stage.proofs.Listed.{each_at}
use Rattle.ap_stage.proofs.Wired.{wiring_after, wiring_same, wiring_two}

-- nothing was made
pub only_none : (from : List ℕ) (a : Draft) → ReadsOnly from a a
only_none from a = record { reads = Reads-refl from a; makes = Makes-refl a }

-- what is said of a net that may be there, where it is and where it isn't
pub none_reads : {X : Type 0} (from : List ℕ) (a b : Draft) (o : Option X) → o ≡ None → IfNone o (b ≡ a) → ReadsOnly from a b
none_reads {X} from a b o is h =
    let same : b ≡ a = subst (λ (x : Option X). IfNone x (b ≡ a)) is h in
    subst (ReadsOnly from a) (sym same) (only_none from a)

pub found_some : {X P : Type 0} (o : Option X) (w : X) → o ≡ Some w → (P ↔ IsSome o) → P
found_some o w is h = h.1 (subst IsSome (sym is) refl)

pub found_none : {X P : Type 0} (o : Option X) → o ≡ None → (P ↔ IsSome o) → P → ⊥
found_none o is h p = false≢true (subst IsSome is (h.0 p))

-- what needs it doesn't hold then
pub found_no : {X P Q : Type 0} (Y : Type 0) (o : Option X) → o ≡ None → (P ↔ IsSome o) → (Q → P) → Q ↔ IsSome {T = Y} None
found_no Y o is h f = (λ q. absurd (found_none o is h (f q)), λ some. absurd (false≢true some))

pub ground_adds : (a b : Draft) (ground : Ground) → Adds a b → IsGround a.nets ground → IsGround b.nets ground
ground_adds a b ground m h = record { word = IsNet-Adds a b ground.word m h.word; place = IsNet-Adds a b ground.place m h.place; link = IsNet-Adds a b ground.link m h.link; regs = nets_on ground.regs h.regs; inputs = nets_on ground.inputs h.inputs }
  where
    nets_on : (nets : List Wire) → Each (IsNet a.nets) nets → Each (IsNet b.nets) nets
    nets_on [] each = tt
    nets_on (w ∷ nets) each = (IsNet-Adds a b w m each.0, nets_on nets each.1)

pub ground_on : (a b : Draft) (ground : Ground) → Makes a b → IsGround a.nets ground → IsGround b.nets ground
ground_on a b ground m h = ground_adds a b ground m.adds h

pub rows_on : (a b : Draft) (scope : Scope) (row : List (Option Wire)) → Makes a b → IsRow a.nets scope row → IsRow b.nets scope row
rows_on a b scope row m h = record { long = h.long; nets_are = λ j w at. IsNet-Makes a b w m (h.nets_are j w at); wide = h.wide }

-- a register, or an input
pub reg_line : (d : Draft) (ground : Ground) (scope : Scope) (row : List (Option Wire)) (reg : ℕ) (w : Wire) → Each (IsNet d.nets) ground.regs → slice_get ground.regs reg ≡ Some w → IsLineNet d ground scope row (act.ReadReg reg) w
reg_line d ground scope row reg w each at = record {
  net = each_at (IsNet d.nets) ground.regs reg w each at;
  wide = sym (ap (λ o. option_map_or (λ (z : Wire). z.width) o 0) at);
  means = record { holds = λ r s. ap (option_map (λ (z : Wire). r.read z.number)) at };
}

pub input_line : (d : Draft) (ground : Ground) (scope : Scope) (row : List (Option Wire)) (input : ℕ) (w : Wire) → Each (IsNet d.nets) ground.inputs → slice_get ground.inputs input ≡ Some w → IsLineNet d ground scope row (act.ReadIn input) w
input_line d ground scope row input w each at = record {
  net = each_at (IsNet d.nets) ground.inputs input w each at;
  wide = sym (ap (λ o. option_map_or (λ (z : Wire). z.width) o 0) at);
  means = record { holds = λ r s. ap (option_map (λ (z : Wire). r.read z.number)) at };
}

pub reg_wiring : (d : Draft) (ground : Ground) (row : List (Option Wire)) (reg : ℕ) (w : Wire) → slice_get ground.regs reg ≡ Some w → IsWiring (source_numbers ground row) d d w
reg_wiring d ground row reg w at = wiring_same (source_numbers ground row) d w (among_regs ground row reg w at)

pub input_wiring : (d : Draft) (ground : Ground) (row : List (Option Wire)) (input : ℕ) (w : Wire) → slice_get ground.inputs input ≡ Some w → IsWiring (source_numbers ground row) d d w
input_wiring d ground row input w at = wiring_same (source_numbers ground row) d w (among_inputs ground row input w at)

-- the net of an operand, and what is made of it
pub zext_line : (a b : Draft) (ground : Ground) (scope : Scope) (row : List (Option Wire)) (x : Arg) (width : ℕ) (w y : Wire) → Makes a b → IsOperandNet a ground scope row x w → Carries b width (λ r v. v ≡ r.read w.number) y
    → IsLineNet b ground scope row (act.Zext width x) y
zext_line a b ground scope row x width w y m first h =
    let operand = Carries-Makes m first in
    record { net = h.net; wide = h.wide; means = record { holds = λ r s. ap Some (sym (h.means.holds r s ∙ operand.means.holds r s)) } }

pub sext_line : (a b : Draft) (ground : Ground) (scope : Scope) (row : List (Option Wire)) (x : Arg) (width : ℕ) (w y : Wire) → Makes a b → IsOperandNet a ground scope row x w → Carries b width (λ r v. v ≡ sign_extended (r.read w.number) w.width width) y
    → IsLineNet b ground scope row (act.Sext width x) y
sext_line a b ground scope row x width w y m first h =
    let operand = Carries-Makes m first in
    record {
      net = h.net;
      wide = h.wide;
      means = record { holds = λ r s. ap Some (sym (h.means.holds r s ∙ ap (λ v. sign_extended v w.width width) (operand.means.holds r s) ∙ ap (λ k. sign_extended (value_of r ground scope row x) k width) operand.wide)) };
    }

pub slice_line : (a b : Draft) (ground : Ground) (scope : Scope) (row : List (Option Wire)) (x : Arg) (high low : ℕ) (w y : Wire) → Makes a b → IsOperandNet a ground scope row x w
    → Carries b (high - low + 1) (λ r v. v ≡ (r.read w.number / 2 ^ low) % 2 ^ (high - low + 1)) y → IsLineNet b ground scope row (act.Slice high low x) y
slice_line a b ground scope row x high low w y m first h =
    let operand = Carries-Makes m first in
    record { net = h.net; wide = h.wide; means = record { holds = λ r s. ap Some (sym (h.means.holds r s ∙ ap (λ v. (v / 2 ^ low) % 2 ^ (high - low + 1)) (operand.means.holds r s))) } }

pub cat_line : (a b c : Draft) (ground : Ground) (scope : Scope) (row : List (Option Wire)) (x z : Arg) (v w y : Wire) → Makes a b → Makes b c → IsOperandNet a ground scope row x v → IsOperandNet b ground scope row z w
    → Carries c (v.width + w.width) (λ r n. n ≡ r.read v.number * 2 ^ w.width + r.read w.number) y → IsLineNet c ground scope row (act.Cat x z) y
cat_line a b c ground scope row x z v w y m n first second h =
    let one = Carries-Makes n (Carries-Makes m first) in
    let other = Carries-Makes n second in
    record {
      net = h.net;
      wide = h.wide ∙ (λ i. one.wide i + other.wide i);
      means = record { holds = λ r s. ap Some (sym (h.means.holds r s ∙ (λ i. one.means.holds r s i * 2 ^ other.wide i + other.means.holds r s i))) };
    }

-- a piece over the net of an operand
pub line_wiring : (from : List ℕ) (a b c : Draft) (x y : Wire) → IsWiring from a b x → IsWiring (x.number ∷ []) b c y → IsWiring from a c y
line_wiring from a b c x y p q = wiring_after from (x.number ∷ []) a b c x y p q (inl refl, tt)

-- no other line is wired
pub not_wired : (row : List (Option Wire)) (a : Act) → ((reg : ℕ) → a ≡ act.ReadReg reg → ⊥) → ((input : ℕ) → a ≡ act.ReadIn input → ⊥) → ((width value : ℕ) → a ≡ act.Const width value → ⊥) → ((width : ℕ) (x : Arg) → a ≡ act.Zext width x → ⊥)
    → ((width : ℕ) (x : Arg) → a ≡ act.Sext width x → ⊥) → ((high low : ℕ) (x : Arg) → a ≡ act.Slice high low x → ⊥) → ((x y : Arg) → a ≡ act.Cat x y → ⊥) → IsWired row a → ⊥
not_wired row (act.ReadReg reg) p q r s t u v h = p reg refl
not_wired row (act.ReadIn input) p q r s t u v h = q input refl
not_wired row (act.Const width value) p q r s t u v h = r width value refl
not_wired row (act.Zext width x) p q r s t u v h = s width x refl
not_wired row (act.Sext width x) p q r s t u v h = t width x refl
not_wired row (act.Slice high low x) p q r s t u v h = u high low x refl
not_wired row (act.Cat x y) p q r s t u v h = v x y refl
not_wired row _ p q r s t u v h = h

-- a piece over the nets of two operands
pub cat_wiring : (from : List ℕ) (a b c d : Draft) (x y z : Wire) → IsWiring from a b x → IsWiring from b c y → IsWiring (x.number ∷ y.number ∷ []) c d z → IsWiring from a d z
cat_wiring from a b c d x y z p q last = wiring_two from (x.number ∷ y.number ∷ []) a b c d x y z p q last (inl refl, (inr (inl refl), tt))

pub none_of : {X P : Type 0} (o : Option X) → o ≡ None → IfNone o P → P
none_of {X} {P} o is h = subst (λ (x : Option X). IfNone x P) is h
