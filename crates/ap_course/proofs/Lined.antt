-- The lines that an instruction has in a stage, and the makers that they are.
use Rattle.std.proofs.Common.{◌≡◌, ℕ, ◌<◌, ◌==◌, Bool, true, false, if◌then◌else◌, Option, Some, None, refl, sym, ap, ◌∙◌, eqb-true, eq-eqb}
use Rattle.std.specs.Prelude.{◌&&◌, option_and_then, option_map, slice_get}
use Rattle.std.proofs.lemmas.Option.{same_Some}
use Rattle.ap_desc.specs.Chains.{makers}
use Rattle.ap_desc.specs.declared.design.Act.{Act}
use Rattle.ap_desc.specs.declared.design.Instr.{Instr}
use Rattle.ap_desc.specs.declared.design.Micro.{Micro}
use Rattle.ap_ports.specs.Numbers.{node_number}
use Rattle.ap_stage.specs.declared.node.PortUse.{PortUse}
use Rattle.ap_stage.specs.declared.row.Line.{Line}
use Rattle.ap_stage.specs.declared.user.Asked.{Asked}
use Rattle.ap_stage.specs.Rows.{AreApart}
use Rattle.ap_course.specs.Lines.{asks_of, is_portless, line_of, lines_of, port_use, use_of, uses_of}
use Rattle.ap_course.proofs.Numbered.{IsFrom, given_apart, given_from, given_rise}

-- a line of the stage without a port is the maker of its local
pub record IsLineOf (stage n : ℕ) (m : Micro) (l : Line) : Type 0 where
  pub number : l.local ≡ n
  pub act : l.act ≡ m.act
  pub here : m.stage ≡ stage
  pub portless : is_portless m.act ≡ true

pub line_is : (stage n : ℕ) (m : Micro) (l : Line) → line_of stage n m ≡ Some l → IsLineOf stage n m l
line_is stage n m l e = go (m.stage == stage) refl (is_portless m.act) refl e
  where
    made : Line
    made = record { act = m.act; local = n }

    go : (a : Bool) → (m.stage == stage) ≡ a → (b : Bool) → is_portless m.act ≡ b → (if a && b then Some made else None) ≡ Some l → IsLineOf stage n m l
    go true s true p e =
        let same : made ≡ l = same_Some made l e in
        record { number = sym (ap (λ (x : Line). x.local) same); act = sym (ap (λ (x : Line). x.act) same); here = eqb-true m.stage stage s; portless = p }
    go true s false p e = absurd cc
    go false s true p e = absurd cc
    go false s false p e = absurd cc

pub line_number : (stage n : ℕ) (m : Micro) (l : Line) → line_of stage n m ≡ Some l → l.local ≡ n
line_number stage n m l e = (line_is stage n m l e).number

pub line_gives : (stage n : ℕ) (m : Micro) → m.stage ≡ stage → is_portless m.act ≡ true → line_of stage n m ≡ Some (record { act = m.act; local = n })
line_gives stage n m here portless =
    ap (λ b. if b && is_portless m.act then Some (record { act = m.act; local = n }) else None) (eq-eqb m.stage stage here)
    ∙ ap (λ b. if true && b then Some (record { act = m.act; local = n }) else None) portless

-- a line that uses a port is the maker of its local
pub record IsUseOf (stage n : ℕ) (m : Micro) (u : PortUse) : Type 0 where
  pub number : u.local ≡ n
  pub port : node_number m.act ≡ Some u.port
  pub asks : asks_of m.act ≡ Some u.asked
  pub here : m.stage ≡ stage

-- what a use says of the line's port and of what it asks
pub record IsPortUse (n : ℕ) (a : Act) (u : PortUse) : Type 0 where
  pub number : u.local ≡ n
  pub port : node_number a ≡ Some u.port
  pub asks : asks_of a ≡ Some u.asked

pub port_use_is : (n : ℕ) (a : Act) (u : PortUse) → port_use n a ≡ Some u → IsPortUse n a u
port_use_is n a u e = go (node_number a) refl (asks_of a) refl e
  where
    made : ℕ → Asked → PortUse
    made port asks = record { port = port; asked = asks; local = n }

    go : (p : Option ℕ) → node_number a ≡ p → (o : Option Asked) → asks_of a ≡ o → option_and_then (λ port. option_map (made port) o) p ≡ Some u → IsPortUse n a u
    go (Some port) is (Some asks) has e =
        let same = same_Some (made port asks) u e in
        record { number = sym (ap (λ (x : PortUse). x.local) same); port = is ∙ ap (λ (x : PortUse). Some x.port) same; asks = has ∙ ap (λ (x : PortUse). Some x.asked) same }
    go None is o has e = absurd cc
    go (Some port) is None has e = absurd cc

pub use_is : (stage n : ℕ) (m : Micro) (u : PortUse) → use_of stage n m ≡ Some u → IsUseOf stage n m u
use_is stage n m u e = go (m.stage == stage) refl e
  where
    go : (a : Bool) → (m.stage == stage) ≡ a → (if a then port_use n m.act else None) ≡ Some u → IsUseOf stage n m u
    go true s e = let is = port_use_is n m.act u e in record { number = is.number; port = is.port; asks = is.asks; here = eqb-true m.stage stage s }
    go false s e = absurd cc

pub use_number : (stage n : ℕ) (m : Micro) (u : PortUse) → use_of stage n m ≡ Some u → u.local ≡ n
use_number stage n m u e = (use_is stage n m u e).number

pub use_gives : (stage n : ℕ) (m : Micro) (u : PortUse) → m.stage ≡ stage → port_use n m.act ≡ Some u → use_of stage n m ≡ Some u
use_gives stage n m u here is = ap (λ b. if b then port_use n m.act else None) (eq-eqb m.stage stage here) ∙ is

-- Lines and uses by their places.

pub line_from : (stage : ℕ) (instr : Instr) (k : ℕ) (l : Line) → slice_get (lines_of stage instr) k ≡ Some l → IsFrom (line_of stage) 0 (makers instr) l
line_from stage instr k l at = given_from (line_of stage) 0 (makers instr) k l at

pub use_from : (stage : ℕ) (instr : Instr) (k : ℕ) (u : PortUse) → slice_get (uses_of stage instr) k ≡ Some u → IsFrom (use_of stage) 0 (makers instr) u
use_from stage instr k u at = given_from (use_of stage) 0 (makers instr) k u at

pub lines_rise : (stage : ℕ) (instr : Instr) (j k : ℕ) (one other : Line) → slice_get (lines_of stage instr) j ≡ Some one → slice_get (lines_of stage instr) k ≡ Some other → j < k → one.local < other.local
lines_rise stage instr j k one other at there low = given_rise (line_of stage) (λ (l : Line). l.local) (line_number stage) 0 (makers instr) j k one other at there low

pub lines_apart : (stage : ℕ) (instr : Instr) → AreApart (lines_of stage instr)
lines_apart stage instr j k one other at there same = given_apart (line_of stage) (λ (l : Line). l.local) (line_number stage) 0 (makers instr) j k one other at there same

pub uses_apart : (stage : ℕ) (instr : Instr) (j k : ℕ) (one other : PortUse) → slice_get (uses_of stage instr) j ≡ Some one → slice_get (uses_of stage instr) k ≡ Some other → one.local ≡ other.local → j ≡ k
uses_apart stage instr j k one other at there same = given_apart (use_of stage) (λ (u : PortUse). u.local) (use_number stage) 0 (makers instr) j k one other at there same
