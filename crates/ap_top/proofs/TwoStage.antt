use Rattle.std.proofs.Common.{◌≡◌, ◌≢◌, ℕ, zero, suc, ◌<◌, List, [], ◌∷◌, ◌++◌, append-nil, Bool, true, false, Option, Some, None, refl, sym, ap, ◌∙◌, arith}
use Rattle.std.specs.Prelude.{slice_index, slice_get, ◌==◌, if◌then◌else◌, bit_and, codes, IsTrue}
use Rattle.ap_net.specs.declared.net.Role.TheVariants as role
use Rattle.ap_net.specs.declared.net.ModuleNet.{ModuleNet}
use Rattle.ap_net.specs.declared.net.Next.{Next}
use Rattle.ap_net.specs.Wiring.{IsSource, reset_of, Unclocked, IsDriven}
use Rattle.ap_net.specs.Names.{numbered}
use Rattle.ap_net.specs.Draft.{Draft, Extends, RegistersBelow, CanFresh}
use Rattle.ap_net.specs.Ready.{Dependence, Feeds, assign, Ready, AreReady, AllReady}
use Rattle.ap_net.proofs.Laws.{IsNotNumbered-other, is_other_letter, Extends-refl, Extends-trans, Ready-source, Ready-Extends, ReadyAfter-Feeds, ready_are_driven}
use Rattle.ap_top.specs.declared.form.Form.{Form}
use Rattle.ap_top.specs.Additions.{Operation}
use Rattle.ap_top.specs.Machine.{State, fire, written, sum_of}
use Rattle.ap_top.specs.Processor.{HoldsFlight}
use Rattle.ap_top.specs.Base.{base, base_nets, base_wires, Nets, IsShown, four_nexts}

-- the draft with its registers driven
abbrev pub clocked_draft : Form → Draft → Nets → Draft
clocked_draft form d nets = record d { nexts = four_nexts form nets }

pub same : {X : Type 0} {x y : X} → Some x ≡ Some y → x ≡ y
same e = cc

-- for idata the outside looks at iaddr
abbrev pub base_by : Form → Dependence
base_by form = record { looks = λ n. if n == (base_wires form).idata.number then (base_wires form).iaddr.number ∷ [] else []; needs = λ name p q. true }

-- every net of the base is ready: the registers, the inputs, and the outputs that it drives
register_ready : (form : Form) (n : ℕ) (net : ModuleNet) → slice_get (base_nets form) n ≡ Some net → IsSource net.role → AreReady (base_by form) (base form) ((base_by form).looks n) → Ready (base_by form) (base form) n
register_ready form n net at is each = Ready-source (base_by form) (base form) n net at is each

output_ready : (form : Form) (n : ℕ) (from : List ℕ) → Feeds (base_by form) (base form) n from → AreReady (base_by form) (base form) from → Ready (base_by form) (base form) n
output_ready form n from feeds each = ReadyAfter-Feeds (base_by form) (base form) n from feeds (base form) (Extends-refl (base form)) each

iaddr_ready : (form : Form) → Ready (base_by form) (base form) 4
iaddr_ready form = output_ready form 4 (0 ∷ []) (assign 0 _ refl refl refl) (register_ready form 0 _ refl tt tt, tt)

base_ready : (form : Form) (n : ℕ) → n < 9 → Ready (base_by form) (base form) n
base_ready form zero lt = register_ready form 0 _ refl tt tt
base_ready form (suc zero) lt = register_ready form 1 _ refl tt tt
base_ready form (suc (suc zero)) lt = register_ready form 2 _ refl tt tt
base_ready form (suc (suc (suc zero))) lt = register_ready form 3 _ refl tt tt
base_ready form (suc (suc (suc (suc zero)))) lt = iaddr_ready form
base_ready form (suc (suc (suc (suc (suc zero))))) lt = register_ready form 5 _ refl tt (iaddr_ready form, tt)
base_ready form (suc (suc (suc (suc (suc (suc zero)))))) lt = register_ready form 6 _ refl tt tt
base_ready form (suc (suc (suc (suc (suc (suc (suc zero))))))) lt = output_ready form 7 [] (assign 1 _ refl refl refl) tt
base_ready form (suc (suc (suc (suc (suc (suc (suc (suc zero)))))))) lt = output_ready form 8 [] (assign 2 _ refl refl refl) tt
base_ready form (suc (suc (suc (suc (suc (suc (suc (suc (suc n))))))))) lt = absurd (omega arith)

-- and every net of the processor
pub clocked_ready : (form : Form) (number select : ℕ) (d : Draft) (nets : Nets) → IsShown form number select d nets → AllReady (base_by form) (clocked_draft form d nets)
clocked_ready form number select d nets s n lt =
    let new : Draft = clocked_draft form d nets in
    let goes_on : Extends d new = record {
      name = refl;
      nets = ([], sym (append-nil d.nets));
      assigns = ([], sym (append-nil d.assigns));
      nexts = (four_nexts form nets, ap (λ l. l ++ four_nexts form nets) (sym s.adds.nexts));
      instances = ([], sym (append-nil d.instances));
    } in
    s.closes.ready (base_by form) new goes_on (λ i first. Ready-Extends (base_by form) (base form) new i (Extends-trans (base form) d new s.adds.extends goes_on) (base_ready form i first)) n lt

port : (x net : ModuleNet) → Some x ≡ Some net → (x.role ≡ role.Register (reset_of net.role) → ⊥) → net.role ≡ role.Register (reset_of net.role) → ⊥
port x net at never is = never (ap (λ (y : ModuleNet). y.role) (same at) ∙ is)

-- only the first four nets are registers
base_registers : (form : Form) → RegistersBelow (base_nets form) 4
base_registers form zero net at is = omega arith
base_registers form (suc zero) net at is = omega arith
base_registers form (suc (suc zero)) net at is = omega arith
base_registers form (suc (suc (suc zero))) net at is = omega arith
base_registers form (suc (suc (suc (suc zero)))) net at is = absurd (port _ net at (λ e. cc) is)
base_registers form (suc (suc (suc (suc (suc zero))))) net at is = absurd (port _ net at (λ e. cc) is)
base_registers form (suc (suc (suc (suc (suc (suc zero)))))) net at is = absurd (port _ net at (λ e. cc) is)
base_registers form (suc (suc (suc (suc (suc (suc (suc zero))))))) net at is = absurd (port _ net at (λ e. cc) is)
base_registers form (suc (suc (suc (suc (suc (suc (suc (suc zero)))))))) net at is = absurd (port _ net at (λ e. cc) is)
base_registers form (suc (suc (suc (suc (suc (suc (suc (suc (suc n))))))))) net at is = cc

-- the four registers have their drivers
four_clocked : (form : Form) (nets : Nets) (n : ℕ) → n < 4 → Unclocked (four_nexts form nets) n → ⊥
four_clocked form nets zero lt none = none.0 refl
four_clocked form nets (suc zero) lt none = none.1.0 refl
four_clocked form nets (suc (suc zero)) lt none = none.1.1.0 refl
four_clocked form nets (suc (suc (suc zero))) lt none = none.1.1.1.0 refl
four_clocked form nets (suc (suc (suc (suc n)))) lt none = absurd (omega arith)

-- every net of the processor has its driver
pub clocked-IsDriven : (form : Form) (number select : ℕ) (d : Draft) (nets : Nets) → IsShown form number select d nets → IsDriven d.nets d.assigns (four_nexts form nets) d.instances
clocked-IsDriven form number select d nets s = record {
  driven = ready_are_driven (base_by form) (clocked_draft form d nets) (clocked_ready form number select d nets s);
  clocked = λ n net at is none. four_clocked form nets n (s.closes.registers 4 (base_registers form) n net at is) none;
}

-- what stands in the front of a list
pub get_front : {X : Type 0} (xs ys : List X) (i : ℕ) (x : X) → slice_get xs i ≡ Some x → slice_get (xs ++ ys) i ≡ Some x
get_front [] ys i x h = cc
get_front (y ∷ xs) ys zero x h = h
get_front (y ∷ xs) ys (suc i) x h = get_front xs ys i x h

-- the valid bit and the word by their places
abbrev pub HoldsState : List ℕ → State → Type 0
HoldsState r s = (slice_index r 0 ≡ s.pc) × (slice_index r 1 ≡ s.register) × HoldsFlight (slice_index r 2) (slice_index r 3) s.stage

zero_and : (b : Bool) → bit_and 0 (if b then 1 else 0) ≡ 0
zero_and true = refl
zero_and false = refl

-- the enable is 1 exactly where the flight fires a write, and the value is what it writes
pub fires : (operation : Operation) (form : Form) (valid word register enable sum : ℕ) (stage : Option ℕ) → HoldsFlight valid word stage → enable ≡ bit_and valid (if word == form.code then 1 else 0)
    → sum ≡ sum_of operation form register → (if enable == 1 then Some sum else None) ≡ fire operation form register stage
fires operation form valid word register enable sum None h e f =
    let off : enable ≡ 0 = e ∙ ap (λ n. bit_and n (if word == form.code then 1 else 0)) h ∙ zero_and (word == form.code) in
    rw off refl
fires operation form valid word register enable sum (Some w) h e f =
    let on : enable ≡ bit_and 1 (if w == form.code then 1 else 0) = e ∙ rw (h.0, h.1) refl in
    rw (on, f) (go (w == form.code) (sum_of operation form register))
  where
    go : (b : Bool) (n : ℕ) → (if bit_and 1 (if b then 1 else 0) == 1 then Some n else None) ≡ (if b then Some n else None)
    go true n = refl
    go false n = refl

-- a choice by the enable is a write or none
pub written_by : (b : Bool) (sum register : ℕ) → (if b then sum else register) ≡ written register (if b then Some sum else None)
written_by true sum register = refl
written_by false sum register = refl

-- four drivers, one after another
pub pushed_four : (d d1 d2 d3 d4 : Draft) (a b c e : Next) → d.nexts ≡ [] → d1 ≡ record d { nexts = d.nexts ++ a ∷ [] } → d2 ≡ record d1 { nexts = d1.nexts ++ b ∷ [] }
    → d3 ≡ record d2 { nexts = d2.nexts ++ c ∷ [] } → d4 ≡ record d3 { nexts = d3.nexts ++ e ∷ [] } → d4 ≡ record d { nexts = a ∷ b ∷ c ∷ e ∷ [] }
pushed_four d d1 d2 d3 d4 a b c e none e1 e2 e3 e4 =
    let more : Next → Draft → Draft = λ n x. record x { nexts = x.nexts ++ n ∷ [] } in
    e4 ∙ ap (more e) (e3 ∙ ap (more c) (e2 ∙ ap (more b) e1)) ∙ ap (λ (ns : List Next). record d { nexts = (((ns ++ a ∷ []) ++ b ∷ []) ++ c ∷ []) ++ e ∷ [] }) none

-- further wires can be had over the base
pub base_fresh : (form : Form) → CanFresh (base form)
base_fresh form = record {
  free = λ k low high.
      let other : (name : List ℕ) → IsTrue (is_other_letter name) → name ≢ numbered k = λ name h e. IsNotNumbered-other name h k high e in (
        other (codes "clk") refl,
        (
          other (codes "rst") refl,
          (
            other (codes "pc") refl,
            (
              other (codes "r_R") refl,
              (
                other (codes "v_1") refl,
                (
                  other (codes "x_1") refl,
                  (other (codes "iaddr") refl, (other (codes "idata") refl, (other (codes "mwait") refl, (other (codes "stall") refl, (other (codes "kill") refl, tt))))),
                ),
              ),
            ),
          ),
        ),
      );
}
